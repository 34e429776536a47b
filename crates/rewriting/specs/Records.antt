-- The parts of a record, written one behind the other, are the record.
-- Serves document 01, "Graph image": a count byte, the kind, the fields.
use Rattle.std.specs.Prelude.{ℕ, ◌+◌, ◌≤◌, ◌<◌, ◌%◌, ◌≡◌, Bool, true, false, List, [], ◌∷◌, ◌++◌, length}
use Rattle.std.proofs.Common.{arith, sym, ap, ap₂, ◌∙◌, ⊎_elim, append_assoc}
use Rattle.std.proofs.Math.Path.{refl}
use Rattle.semantics.specs.declared.graph.Node.{Node}
use Rattle.semantics.specs.declared.graph.Edge.{Edge}
use Rattle.semantics.specs.Bytes.Placed.{put}
use Rattle.semantics.specs.Bytes.Written.{be, length-be, be-eight}
use Rattle.semantics.specs.Halves.{low_word, high_word}
use Rattle.semantics.specs.Image.{body_size}
use Rattle.semantics.specs.Image.Encoding.{bit, encode_node, encode_edge, kind_of}
use Rattle.semantics.specs.Image.Encoding.Laws.{node-size}
use Rattle.image.specs.Records.{KnownWidth}
use Rattle.words.specs.Writing.{Wrote, wrote, wrote_then, be-one, be-low}

-- the count byte, the kind and the file, which every record with fields begins with
abbrev pub begun : ℕ → ℕ → ℕ → List ℕ
begun count kind file = count ∷ kind ∷ be 2 file

pub known-most : {w : ℕ} → KnownWidth w → w ≤ 8
known-most {w} k = ⊎_elim (λ (e : w ≡ 4). omega arith) (λ (e : w ≡ 8). omega arith) k

pub byte-self : (x : ℕ) → x < 256 → be 1 x ≡ x ∷ []
byte-self x h = let z : x % 256 ≡ x = omega arith in be-one x ∙ ap (λ (y : ℕ). y ∷ []) z

byte-bit : (v : ℕ) (b : Bool) → v ≡ bit b → be 1 v ≡ bit b ∷ []
byte-bit v true e = let z : v < 256 = omega arith in byte-self v z ∙ ap (λ (y : ℕ). y ∷ []) e
byte-bit v false e = let z : v < 256 = omega arith in byte-self v z ∙ ap (λ (y : ℕ). y ∷ []) e

module _ (at : ℕ) (o : List ℕ) where
  -- the same part, spelt another way
  spelt : (p q : List ℕ) {x : List ℕ} → p ≡ q → x ≡ put at p o → x ≡ put at q o
  spelt p q e h = h ∙ ap (λ (l : List ℕ). put at l o) e

  pub head-written : (count kind : ℕ) {x y : List ℕ} → count < 256 → kind < 256 → at + 2 ≤ length o → x ≡ put at (be 1 count) o → y ≡ put (at + 1) (be 1 kind) x → y ≡ put at (count ∷ kind ∷ []) o
  head-written count kind a b h e f =
      let both = wrote_then (wrote at 1 (be 1 count) e (length-be 1 count)) (at + 1) 1 (be 1 kind) f refl (length-be 1 kind) (omega arith) in
      spelt (be 1 count ++ be 1 kind) (count ∷ kind ∷ []) (ap₂ (λ (p : List ℕ) (q : List ℕ). p ++ q) (byte-self count a) (byte-self kind b)) both.is

  pub begin-written : (count kind file : ℕ) {x y : List ℕ} → at + 4 ≤ length o → x ≡ put at (count ∷ kind ∷ []) o → y ≡ put (at + 2) (be 2 file) x → y ≡ put at (begun count kind file) o
  begin-written count kind file h e f = (wrote_then (wrote at 2 (count ∷ kind ∷ []) e refl) (at + 2) 2 (be 2 file) f refl (length-be 2 file) (omega arith)).is

  pub narrow-written : (w s : ℕ) {x : List ℕ} → w ≡ 4 → x ≡ put at (be 4 (low_word s)) o → x ≡ put at (be w s) o
  narrow-written w s k e = spelt (be 4 (low_word s)) (be w s) (be-low s ∙ ap (λ (i : ℕ). be i s) (sym k)) e

  pub wide-written : (w s : ℕ) {x y : List ℕ} → w ≡ 8 → at + w ≤ length o → x ≡ put at (be 4 (high_word s)) o → y ≡ put (at + 4) (be 4 (low_word s)) x → y ≡ put at (be w s) o
  wide-written w s k h e f =
      let both = wrote_then (wrote at 4 (be 4 (high_word s)) e (length-be 4 (high_word s))) (at + 4) 4 (be 4 (low_word s)) f refl (length-be 4 (low_word s)) (omega arith) in
      spelt (be 4 (high_word s) ++ be 4 (low_word s)) (be w s) (ap (λ (l : List ℕ). be 4 (high_word s) ++ l) (be-low s) ∙ sym (be-eight s) ∙ ap (λ (i : ℕ). be i s) (sym k)) both.is

  module _ (count kind file : ℕ) where
    start : {x : List ℕ} → x ≡ put at (begun count kind file) o → Wrote at 4 (begun count kind file) o x
    unfolding be
    start e = wrote at 4 (begun count kind file) e refl

    pub scope-written : (v : ℕ) (b : Bool) {x y : List ℕ} → at + 5 ≤ length o → x ≡ put at (begun count kind file) o → y ≡ put (at + 4) (be 1 v) x → v ≡ bit b → y ≡ put at (begun count kind file ++ (bit b ∷ [])) o
    scope-written v b h e f q =
        let all = wrote_then (start e) (at + 4) 1 (be 1 v) f refl (length-be 1 v) (omega arith) in
        spelt (begun count kind file ++ be 1 v) (begun count kind file ++ (bit b ∷ [])) (ap (λ (l : List ℕ). begun count kind file ++ l) (byte-bit v b q)) all.is

    module _ (w s : ℕ) where
      named : {x y : List ℕ} → at + 4 + w ≤ length o → x ≡ put at (begun count kind file) o → y ≡ put (at + 4) (be w s) x → Wrote at (4 + w) (begun count kind file ++ be w s) o y
      named h e f = wrote_then (start e) (at + 4) w (be w s) f refl (length-be w s) h

      pub named-written : (v : ℕ) (b : Bool) {x y z : List ℕ} → at + (5 + w) ≤ length o → x ≡ put at (begun count kind file) o → y ≡ put (at + 4) (be w s) x
          → z ≡ put (at + 4 + w) (be 1 v) y → v ≡ bit b → z ≡ put at (begun count kind file ++ (be w s ++ (bit b ∷ []))) o
      named-written v b h e f k q =
          let all = wrote_then (named (omega arith) e f) (at + 4 + w) 1 (be 1 v) k (omega arith) (length-be 1 v) (omega arith) in
          spelt ((begun count kind file ++ be w s) ++ be 1 v) (begun count kind file ++ (be w s ++ (bit b ∷ [])))
          (append_assoc (begun count kind file) (be w s) (be 1 v) ∙ ap (λ (l : List ℕ). begun count kind file ++ (be w s ++ l)) (byte-bit v b q)) all.is

      pub attached-written : (a v : ℕ) (b : Bool) {x y z u : List ℕ} → at + (7 + w) ≤ length o → x ≡ put at (begun count kind file) o → y ≡ put (at + 4) (be w s) x
          → z ≡ put (at + 4 + w) (be 2 a) y → u ≡ put (at + 4 + w + 2) (be 1 v) z → v ≡ bit b → u ≡ put at (begun count kind file ++ (be w s ++ (be 2 a ++ (bit b ∷ [])))) o
      attached-written a v b h e f k l q =
          let third = wrote_then (named (omega arith) e f) (at + 4 + w) 2 (be 2 a) k (omega arith) (length-be 2 a) (omega arith) in
          let all = wrote_then third (at + 4 + w + 2) 1 (be 1 v) l (omega arith) (length-be 1 v) (omega arith) in
          spelt (((begun count kind file ++ be w s) ++ be 2 a) ++ be 1 v) (begun count kind file ++ (be w s ++ (be 2 a ++ (bit b ∷ []))))
          (append_assoc (begun count kind file ++ be w s) (be 2 a) (be 1 v) ∙ append_assoc (begun count kind file) (be w s) (be 2 a ++ be 1 v)
          ∙ ap (λ (l : List ℕ). begun count kind file ++ (be w s ++ (be 2 a ++ l))) (byte-bit v b q)) all.is

    pub live_written : (t p : ℕ) {x y z : List ℕ} → at + 10 ≤ length o → x ≡ put at (begun count kind file) o → y ≡ put (at + 4) (be 2 t) x → z ≡ put (at + 6) (be 4 p) y → z ≡ put at (begun count kind file ++ (be 2 t ++ be 4 p)) o
    live_written t p h e f k =
        let second = wrote_then (start e) (at + 4) 2 (be 2 t) f refl (length-be 2 t) (omega arith) in
        let all = wrote_then second (at + 6) 4 (be 4 p) k refl (length-be 4 p) (omega arith) in
        spelt ((begun count kind file ++ be 2 t) ++ be 4 p) (begun count kind file ++ (be 2 t ++ be 4 p)) (append_assoc (begun count kind file) (be 2 t) (be 4 p)) all.is

-- there is room for the record of a node of which it is known what it is
pub node-room : (w at len : ℕ) (n m : Node) → n ≡ m → at + length (encode_node w n) ≤ len → at + (body_size w (kind_of m) + 1) ≤ len
node-room w at len n m e h = let z : length (encode_node w n) ≡ body_size w (kind_of m) + 1 = ap (λ (x : Node). length (encode_node w x)) e ∙ node-size w m in omega arith

-- and what is written is its record, and where the next one stands
pub node-written : (w at : ℕ) (o : List ℕ) (n m : Node) (r k : ℕ) {x : List ℕ} → n ≡ m → body_size w (kind_of m) + 1 ≡ k → r ≡ at + k → x ≡ put at (encode_node w m) o → (r ≡ at + length (encode_node w n)) × (x ≡ put at (encode_node w n) o)
node-written w at o n m r k e s q h =
    (q ∙ ap (λ (i : ℕ). at + i) (sym (ap (λ (y : Node). length (encode_node w y)) e ∙ node-size w m ∙ s)), h ∙ ap (λ (y : Node). put at (encode_node w y) o) (sym e))

pub edge-room : (at len : ℕ) (n m : Edge) (k : ℕ) → n ≡ m → length (encode_edge m) ≡ k → at + length (encode_edge n) ≤ len → at + k ≤ len
edge-room at len n m k e s h = let z : length (encode_edge n) ≡ k = ap (λ (x : Edge). length (encode_edge x)) e ∙ s in omega arith

pub edge-written : (at : ℕ) (o : List ℕ) (n m : Edge) (r k : ℕ) {x : List ℕ} → n ≡ m → length (encode_edge m) ≡ k → r ≡ at + k → x ≡ put at (encode_edge m) o → (r ≡ at + length (encode_edge n)) × (x ≡ put at (encode_edge n) o)
edge-written at o n m r k e s q h =
    (q ∙ ap (λ (i : ℕ). at + i) (sym (ap (λ (y : Edge). length (encode_edge y)) e ∙ s)), h ∙ ap (λ (y : Edge). put at (encode_edge y) o) (sym e))
