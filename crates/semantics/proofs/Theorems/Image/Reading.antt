-- A graph that is written as an image is read back: the check accepts the bytes and finds the same graph. For any symbol width and any list of versions.
-- Document 02, order 3: "Reading is proved for any symbol width".
use Prim.Native.Nat.{ℕ, zero, suc, ◌+◌, ◌-◌, ◌*◌, ◌≤◌, ◌<◌}
use native.Mathlib.Omega.{arith}
use Rattle.std.proofs.Common.{add-zero, zero-add, ◌∙◌, subst, ltb→lt, lt→ltb, leb→le, length-drop, drop-drop, get_or-drop}
use Rattle.std.specs.Prelude.{◌≡◌, Bool, not, leb, ltb, get_or}
use Rattle.std.proofs.Math.Path.{refl, sym, ap, ap₂}
use Rattle.std.proofs.Math.Bool.{true, false}
use Rattle.std.proofs.lemmas.Bool.{false≢true}
use mathlib.Core.List.{List, [], ◌∷◌, ◌++◌, append_assoc, append-nil}
use Rattle.std.proofs.Math.Dec.{eqb}
use Rattle.std.proofs.Math.ListN.{length, length-append, drop}
use Rattle.std.proofs.Math.Seq.{drop-append_seam}
use Rattle.semantics.specs.declared.graph.Node.{Node}
use Rattle.semantics.specs.declared.graph.Node.TheVariants as N
use Rattle.semantics.specs.declared.graph.Edge.{Edge}
use Rattle.semantics.specs.declared.graph.Edge.TheVariants as E
use Rattle.semantics.specs.declared.refusal.ImageRefusal.{ImageRefusal}
use Rattle.semantics.specs.declared.refusal.ImageRefusal.TheVariants as Image
use Rattle.semantics.specs.Lists.{pick, and}
use Rattle.semantics.specs.Lists.Laws.{T→eq, eq→T, eqb_same, eqb-true, bool_false, and-true}
use Rattle.semantics.specs.Answer.{Answer, ok, refuse, and_then}
use Rattle.semantics.specs.Bytes.{byte_at, short, long, wide, signed}
use Rattle.semantics.specs.Bytes.Laws.{wide-long}
use Rattle.semantics.specs.Bytes.Written.{be, room, unsigned, short-wide, length-be, wide-be, signed-unsigned, unsigned-room}
use Rattle.semantics.specs.Graph.{file_id, node_id, Graph, View, view_of, file_of, is_exported}
use Rattle.semantics.specs.Acceptance.{every_from, count_fits, place_fits, file_fits, exported_in, node_fits, is_live, one_file, edge_fits, accepts}
use Rattle.semantics.specs.Image.{is_cut, may_stand, body_size, fields_fit, next_place, flag_at, node_in, edge_in, node_record, edge_record, scan, nodes_from, edges_from, place_of, graph_of, node_misfit, edge_misfit, references, header, most_bytes, files_of, nodes_of, edges_of, first_record, check_with, check_image}
use Rattle.semantics.proofs.Theorems.Image.Laws.{leb-lt}
use Rattle.semantics.specs.Image.Encoding.Laws.{encoded-length, encoded-most}
use Rattle.semantics.specs.Image.Encoding.{bit, encode_node, encode_edge, encode_nodes, encode_edges, encode_records, encode_image, symbol_fits, symbols_fit, precedence_fits, precedences_fit, Writable}

-- TESTS THAT DO NOT REFUSE
under : (m n : ℕ) → m < n → ltb m n ≡ true
under m n h = T→eq (ltb m n) (lt→ltb m n h)

not-under : (m n : ℕ) → n ≤ m → ltb m n ≡ false
not-under m n h = bool_false (ltb m n) (λ q. let y = ltb→lt m n (eq→T (ltb m n) q) in omega (arith, y, h))

not-upto : (m n : ℕ) → n < m → leb m n ≡ false
not-upto m n h = bool_false (leb m n) (λ q. let y = leb→le m n (eq→T (leb m n) q) in omega (arith, y, h))

not_same : (m n : ℕ) → (m ≡ n → ⊥) → eqb m n ≡ false
not_same m n h = bool_false (eqb m n) (λ q. h (eqb-true m n q))

is-under : (m n : ℕ) → ltb m n ≡ true → m < n
is-under m n e = ltb→lt m n (eq→T (ltb m n) e)

-- BYTES THAT STAND AT A PLACE
module _ (im : List ℕ) where
  -- behind a part that stands at a place
  behind : (at n : ℕ) (p l : List ℕ) → length p ≡ n → drop at im ≡ p ++ l → drop (at + n) im ≡ l
  behind at n p l h e = sym (drop-drop n at im) ∙ ap (λ (x : List ℕ). drop n x) e ∙ ap (λ (k : ℕ). drop k (p ++ l)) (sym h) ∙ drop-append_seam p l

  whole : (at : ℕ) (p l : List ℕ) → drop at im ≡ p ++ l → length p + length l ≡ length im - at
  whole at p l e = sym (length-append p l) ∙ ap (λ (x : List ℕ). length x) (sym e) ∙ length-drop at im

  byte-is : (at x : ℕ) (l : List ℕ) → drop at im ≡ x ∷ l → byte_at im at ≡ x
  byte-is at x l e = ap (byte_at im) (sym (add-zero at)) ∙ sym (get_or-drop at im 0 0) ∙ ap (λ (y : List ℕ). byte_at y 0) e

  byte-on : (at x : ℕ) (l : List ℕ) → drop at im ≡ x ∷ l → drop (at + 1) im ≡ l
  byte-on at x l e = behind at 1 (x ∷ []) l refl e

  wide-shift : (w at : ℕ) → wide w im at ≡ wide w (drop at im) 0
  unfolding wide
  wide-shift zero at = refl
  wide-shift (suc w) at = ap₂ (λ (x : ℕ) (y : ℕ). x * 256 + y) (wide-shift w at) (sym (get_or-drop at im w 0) ∙ ap (byte_at (drop at im)) (sym (zero-add w)))

  wide_is : (w at x : ℕ) (l : List ℕ) → x < room w → drop at im ≡ be w x ++ l → wide w im at ≡ x
  wide_is w at x l h e = wide-shift w at ∙ ap (λ (y : List ℕ). wide w y 0) e ∙ wide-be w x l h

  wide-on : (w at x : ℕ) (l : List ℕ) → drop at im ≡ be w x ++ l → drop (at + w) im ≡ l
  wide-on w at x l e = behind at w (be w x) l (length-be w x) e

  short-is : (at x : ℕ) (l : List ℕ) → x < 65536 → drop at im ≡ be 2 x ++ l → short im at ≡ x
  unfolding room
  short-is at x l h e = short-wide im at ∙ wide_is 2 at x l h e

  long-is : (at x : ℕ) (l : List ℕ) → x < 4294967296 → drop at im ≡ be 4 x ++ l → long im at ≡ x
  unfolding room
  long-is at x l h e = sym (wide-long im at) ∙ wide_is 4 at x l h e

  flag_is : (at : ℕ) (x : Bool) (l : List ℕ) → drop at im ≡ bit x ∷ l → flag_at im at ≡ x
  unfolding flag_at
  flag_is at true l e = ap (λ (y : ℕ). eqb y 1) (byte-is at 1 l e)
  flag_is at false l e = ap (λ (y : ℕ). eqb y 1) (byte-is at 0 l e)

  flag-low : (at : ℕ) (x : Bool) (l : List ℕ) → drop at im ≡ bit x ∷ l → ltb (byte_at im at) 2 ≡ true
  flag-low at true l e = ap (λ (y : ℕ). ltb y 2) (byte-is at 1 l e)
  flag-low at false l e = ap (λ (y : ℕ). ltb y 2) (byte-is at 0 l e)

  uncut : (at count : ℕ) → byte_at im at ≡ count → 0 < count → at + count < length im → is_cut im at ≡ false
  unfolding is_cut
  uncut at count c p h = rw (not-upto (length im) at (omega (arith, h)), not_same (byte_at im at) 0 (λ (q : byte_at im at ≡ 0). omega (arith, q, c, p)), not-upto (length im) (at + byte_at im at) (omega (arith, h, c)))

-- ONE NODE RECORD
chain : {A R : Type 0} (a b c d e f : Bool) (q r s t u : R) (x : A) → a ≡ false → b ≡ false → c ≡ true → d ≡ true → pick e true f ≡ true
    → pick a (refuse q) (pick b (refuse r) (pick (not c) (refuse s) (pick (not d) (refuse t) (pick e (ok x) (pick f (ok x) (refuse u)))))) ≡ ok x
chain a b c d true f q r s t u x ha hb hc hd h = rw (ha, hb, hc, hd)
chain a b c d false f q r s t u x ha hb hc hd h = rw (ha, hb, hc, hd, h)

stand : (kind i : ℕ) → leb 2 i ≡ true → eqb kind 1 ≡ false → eqb kind 2 ≡ false → may_stand kind i ≡ true
unfolding may_stand
stand kind i h a b =
    let k = leb→le 2 i (eq→T (leb 2 i) h) in
    rw (not_same i 0 (λ (q : i ≡ 0). omega (arith, q, k)), not_same i 1 (λ (q : i ≡ 1). omega (arith, q, k)), a, b)

module _ (w : ℕ) (im : List ℕ) (files i at : ℕ) where
  -- what the check finds at a place
  record NodeRead (n : Node) (rest : List ℕ) : Type 0 where
    pub tested : node_record w im files i at ≡ ok (next_place im at)
    pub found : node_in w im at (byte_at im (at + 1)) ≡ n
    pub next : next_place im at ≡ at + length (encode_node w n)
    pub onward : drop (next_place im at) im ≡ rest

  module _ (count kind : ℕ) (body rest : List ℕ) (e : drop at im ≡ (count ∷ kind ∷ body) ++ rest) (size : length body + 1 ≡ count) where
    count-is : byte_at im at ≡ count
    count-is = byte-is im at count _ e

    kind-is : byte_at im (at + 1) ≡ kind
    kind-is = byte-is im (at + 1) kind _ (byte-on im at count _ e)

    fields_at : drop (at + 2) im ≡ body ++ rest
    fields_at = behind im at 2 (count ∷ kind ∷ []) (body ++ rest) refl e

    next-is : next_place im at ≡ at + (count + 1)
    next-is = omega (arith, count-is)

    next-node : (n : Node) → encode_node w n ≡ count ∷ kind ∷ body → next_place im at ≡ at + length (encode_node w n)
    next-node n q = let z : next_place im at ≡ at + length (count ∷ kind ∷ body) = omega (arith, count-is, size) in z ∙ ap (λ (x : List ℕ). at + length x) (sym q)

    after : drop (next_place im at) im ≡ rest
    after = ap (λ (k : ℕ). drop k im) next-is ∙ behind im at (count + 1) (count ∷ kind ∷ body) rest (omega (arith, size)) e

    inside : at + count < length im
    inside = omega (arith, whole im at (count ∷ kind ∷ body) rest e, size)

    passes : kind ≤ 8 → may_stand kind i ≡ true → count ≡ body_size w kind → pick (ltb kind 3) true (fields_fit im files kind at count) ≡ true → node_record w im files i at ≡ ok (next_place im at)
    unfolding node_record
    passes l s c f =
        chain (is_cut im at) (ltb 8 (byte_at im (at + 1))) (may_stand (byte_at im (at + 1)) i) (eqb (byte_at im at) (body_size w (byte_at im (at + 1)))) (ltb (byte_at im (at + 1)) 3) (fields_fit im files (byte_at im (at + 1)) at (byte_at im at))
        Image.Length (Image.Record at) (Image.Record at) Image.Length (Image.Record at) (next_place im at)
        (uncut im at count count-is (omega (arith, size)) inside)
        (not-under 8 (byte_at im (at + 1)) (omega (arith, kind-is, l)))
        (ap (λ (k : ℕ). may_stand k i) kind-is ∙ s)
        (ap₂ (λ (x : ℕ) (y : ℕ). eqb x (body_size w y)) (count-is ∙ c) kind-is ∙ eqb_same (body_size w kind))
        (ap₂ (λ (x : ℕ) (y : ℕ). pick (ltb x 3) true (fields_fit im files x at y)) kind-is count-is ∙ f)

  -- kinds 0 to 2
  bare-read : (n : Node) (kind : ℕ) (rest : List ℕ) → encode_node w n ≡ 1 ∷ kind ∷ [] → node_in w im at kind ≡ n → kind < 3 → may_stand kind i ≡ true → 1 ≡ body_size w kind → drop at im ≡ encode_node w n ++ rest → NodeRead n rest
  bare-read n kind rest q found l s c h =
      let e : drop at im ≡ (1 ∷ kind ∷ []) ++ rest = h ∙ ap (λ (x : List ℕ). x ++ rest) q in
      record {
        tested = passes 1 kind [] rest e refl (omega (arith, l)) s c (ap (λ (x : Bool). pick x true (fields_fit im files kind at 1)) (under kind 3 l));
        found = ap (node_in w im at) (kind-is 1 kind [] rest e refl) ∙ found;
        next = next-node 1 kind [] rest e refl n q;
        onward = after 1 kind [] rest e refl;
      }

  fits-flag : (kind count f : ℕ) → short im (at + 2) ≡ f → f < files → ltb (byte_at im (at + count)) 2 ≡ true → fields_fit im files kind at count ≡ true
  unfolding fields_fit
  fits-flag kind count f q l b = ap (λ (x : Bool). pick x false (pick (eqb kind 8) true (ltb (byte_at im (at + count)) 2))) (not-upto files (short im (at + 2)) (omega (arith, q, l))) ∙ on (eqb kind 8)
    where
      on : (x : Bool) → pick x true (ltb (byte_at im (at + count)) 2) ≡ true
      on true = refl
      on false = b

  pick_second : (kind : ℕ) (x : Bool) → x ≡ true → pick (ltb kind 3) true x ≡ true
  pick_second kind x h = on (ltb kind 3)
    where
      on : (y : Bool) → pick y true x ≡ true
      on true = refl
      on false = h

  -- kinds 4, 5 and 7
  symbol-read : (n : Node) (kind f s : ℕ) (b : Bool) (rest : List ℕ) → encode_node w n ≡ (4 + w) ∷ kind ∷ (be 2 f ++ (be w s ++ (bit b ∷ [])))
      → (short im (at + 2) ≡ f → wide w im (at + 4) ≡ s → flag_at im (at + 4 + w) ≡ b → node_in w im at kind ≡ n)
      → kind ≤ 8 → may_stand kind i ≡ true → 4 + w ≡ body_size w kind → f < files → files ≤ 256 → ltb s (room w) ≡ true → drop at im ≡ encode_node w n ++ rest → NodeRead n rest
  symbol-read n kind f s b rest q found l st c hf hb hs h =
      let body : List ℕ = be 2 f ++ (be w s ++ (bit b ∷ [])) in
      let size : length body + 1 ≡ 4 + w = omega (arith, length-append (be 2 f) (be w s ++ (bit b ∷ [])), length-append (be w s) (bit b ∷ []), length-be 2 f, length-be w s) in
      let e : drop at im ≡ ((4 + w) ∷ kind ∷ body) ++ rest = h ∙ ap (λ (x : List ℕ). x ++ rest) q in
      let e₁ : at + 2 + 2 ≡ at + 4 = omega arith in
      let e₂ : at + 4 + w ≡ at + (4 + w) = omega arith in
      let a : drop (at + 2) im ≡ be 2 f ++ ((be w s ++ (bit b ∷ [])) ++ rest) = fields_at (4 + w) kind body rest e size ∙ append_assoc (be 2 f) (be w s ++ (bit b ∷ [])) rest in
      let d : drop (at + 4) im ≡ be w s ++ (bit b ∷ rest) = ap (λ (k : ℕ). drop k im) (sym e₁) ∙ wide-on im 2 (at + 2) f _ a ∙ append_assoc (be w s) (bit b ∷ []) rest in
      let t : drop (at + 4 + w) im ≡ bit b ∷ rest = wide-on im w (at + 4) s (bit b ∷ rest) d in
      let file : short im (at + 2) ≡ f = short-is im (at + 2) f _ (omega (arith, hf, hb)) a in
      record {
        tested = passes (4 + w) kind body rest e size l st c (pick_second kind (fields_fit im files kind at (4 + w)) (fits-flag kind (4 + w) f file hf (ap (λ (k : ℕ). ltb (byte_at im k) 2) (sym e₂) ∙ flag-low im (at + 4 + w) b rest t)));
        found = ap (node_in w im at) (kind-is (4 + w) kind body rest e size) ∙ found file (wide_is im w (at + 4) s (bit b ∷ rest) (is-under s (room w) hs) d) (flag_is im (at + 4 + w) b rest t);
        next = next-node (4 + w) kind body rest e size n q;
        onward = after (4 + w) kind body rest e size;
      }

  -- kind 6
  scoped-read : (n : Node) (f s a : ℕ) (b : Bool) (rest : List ℕ) → encode_node w n ≡ (6 + w) ∷ 6 ∷ (be 2 f ++ (be w s ++ (be 2 a ++ (bit b ∷ []))))
      → (short im (at + 2) ≡ f → wide w im (at + 4) ≡ s → short im (at + 4 + w) ≡ a → flag_at im (at + 6 + w) ≡ b → node_in w im at 6 ≡ n)
      → may_stand 6 i ≡ true → 6 + w ≡ body_size w 6 → f < files → files ≤ 256 → ltb s (room w) ≡ true → a < 65536 → drop at im ≡ encode_node w n ++ rest → NodeRead n rest
  scoped-read n f s a b rest q found st c hf hb hs ha h =
      let tail : List ℕ = be 2 a ++ (bit b ∷ []) in
      let body : List ℕ = be 2 f ++ (be w s ++ tail) in
      let size : length body + 1 ≡ 6 + w = omega (arith, length-append (be 2 f) (be w s ++ tail), length-append (be w s) tail, length-append (be 2 a) (bit b ∷ []), length-be 2 f, length-be 2 a, length-be w s) in
      let e : drop at im ≡ ((6 + w) ∷ 6 ∷ body) ++ rest = h ∙ ap (λ (x : List ℕ). x ++ rest) q in
      let e₁ : at + 2 + 2 ≡ at + 4 = omega arith in
      let e₂ : at + 4 + w + 2 ≡ at + 6 + w = omega arith in
      let e₃ : at + 6 + w ≡ at + (6 + w) = omega arith in
      let p : drop (at + 2) im ≡ be 2 f ++ ((be w s ++ tail) ++ rest) = fields_at (6 + w) 6 body rest e size ∙ append_assoc (be 2 f) (be w s ++ tail) rest in
      let d : drop (at + 4) im ≡ be w s ++ (tail ++ rest) = ap (λ (k : ℕ). drop k im) (sym e₁) ∙ wide-on im 2 (at + 2) f _ p ∙ append_assoc (be w s) tail rest in
      let u : drop (at + 4 + w) im ≡ be 2 a ++ (bit b ∷ rest) = wide-on im w (at + 4) s (tail ++ rest) d ∙ append_assoc (be 2 a) (bit b ∷ []) rest in
      let t : drop (at + 6 + w) im ≡ bit b ∷ rest = ap (λ (k : ℕ). drop k im) (sym e₂) ∙ wide-on im 2 (at + 4 + w) a (bit b ∷ rest) u in
      let file : short im (at + 2) ≡ f = short-is im (at + 2) f _ (omega (arith, hf, hb)) p in
      record {
        tested = passes (6 + w) 6 body rest e size (omega arith) st c (pick_second 6 (fields_fit im files 6 at (6 + w)) (fits-flag 6 (6 + w) f file hf (ap (λ (k : ℕ). ltb (byte_at im k) 2) (sym e₃) ∙ flag-low im (at + 6 + w) b rest t)));
        found = ap (node_in w im at) (kind-is (6 + w) 6 body rest e size) ∙ found file (wide_is im w (at + 4) s (tail ++ rest) (is-under s (room w) hs) d) (short-is im (at + 4 + w) a (bit b ∷ rest) ha u) (flag_is im (at + 6 + w) b rest t);
        next = next-node (6 + w) 6 body rest e size n q;
        onward = after (6 + w) 6 body rest e size;
      }

  -- kind 3
  scope-read : (n : Node) (f : ℕ) (b : Bool) (rest : List ℕ) → encode_node w n ≡ 4 ∷ 3 ∷ (be 2 f ++ (bit b ∷ []))
      → (short im (at + 2) ≡ f → flag_at im (at + 4) ≡ b → node_in w im at 3 ≡ n)
      → may_stand 3 i ≡ true → 4 ≡ body_size w 3 → f < files → files ≤ 256 → drop at im ≡ encode_node w n ++ rest → NodeRead n rest
  scope-read n f b rest q found st c hf hb h =
      let body : List ℕ = be 2 f ++ (bit b ∷ []) in
      let size : length body + 1 ≡ 4 = omega (arith, length-append (be 2 f) (bit b ∷ []), length-be 2 f) in
      let e : drop at im ≡ (4 ∷ 3 ∷ body) ++ rest = h ∙ ap (λ (x : List ℕ). x ++ rest) q in
      let e₁ : at + 2 + 2 ≡ at + 4 = omega arith in
      let p : drop (at + 2) im ≡ be 2 f ++ (bit b ∷ rest) = fields_at 4 3 body rest e size ∙ append_assoc (be 2 f) (bit b ∷ []) rest in
      let t : drop (at + 4) im ≡ bit b ∷ rest = ap (λ (k : ℕ). drop k im) (sym e₁) ∙ wide-on im 2 (at + 2) f _ p in
      let file : short im (at + 2) ≡ f = short-is im (at + 2) f _ (omega (arith, hf, hb)) p in
      record {
        tested = passes 4 3 body rest e size (omega arith) st c (pick_second 3 (fields_fit im files 3 at 4) (fits-flag 3 4 f file hf (flag-low im (at + 4) b rest t)));
        found = ap (node_in w im at) (kind-is 4 3 body rest e size) ∙ found file (flag_is im (at + 4) b rest t);
        next = next-node 4 3 body rest e size n q;
        onward = after 4 3 body rest e size;
      }

  -- kind 8
  drop-read : (n : Node) (f : ℕ) (rest : List ℕ) → encode_node w n ≡ 3 ∷ 8 ∷ be 2 f → (short im (at + 2) ≡ f → node_in w im at 8 ≡ n)
      → may_stand 8 i ≡ true → 3 ≡ body_size w 8 → f < files → files ≤ 256 → drop at im ≡ encode_node w n ++ rest → NodeRead n rest
  unfolding fields_fit
  drop-read n f rest q found st c hf hb h =
      let size : length (be 2 f) + 1 ≡ 3 = omega (arith, length-be 2 f) in
      let e : drop at im ≡ (3 ∷ 8 ∷ be 2 f) ++ rest = h ∙ ap (λ (x : List ℕ). x ++ rest) q in
      let p : drop (at + 2) im ≡ be 2 f ++ rest = fields_at 3 8 (be 2 f) rest e size in
      let file : short im (at + 2) ≡ f = short-is im (at + 2) f rest (omega (arith, hf, hb)) p in
      record {
        tested = passes 3 8 (be 2 f) rest e size (omega arith) st c (ap (λ (x : Bool). pick x false true) (not-upto files (short im (at + 2)) (omega (arith, file, hf))));
        found = ap (node_in w im at) (kind-is 3 8 (be 2 f) rest e size) ∙ found file;
        next = next-node 3 8 (be 2 f) rest e size n q;
        onward = after 3 8 (be 2 f) rest e size;
      }

  only-root : (j : ℕ) → eqb j 0 ≡ true → may_stand 1 j ≡ true
  unfolding may_stand
  only-root j h = rw h

  only-jump : (j : ℕ) → eqb j 1 ≡ true → may_stand 2 j ≡ true
  unfolding may_stand
  only-jump j h = let z : j ≡ 1 = eqb-true j 1 h in rw (not_same j 0 (λ (q : j ≡ 0). omega (arith, q, z)), h)

  -- A NODE THAT IS WRITTEN AT A PLACE is read there
  node-read : (v : View) → ((j : ℕ) → is_exported (v.node j) ≡ true → j < 65536) → (n : Node) (rest : List ℕ) → files ≤ 256 → place_fits i n ≡ true → file_fits files (file_of n) ≡ true → node_fits v n ≡ true → symbol_fits w n ≡ true
      → drop at im ≡ encode_node w n ++ rest → NodeRead n rest
  unfolding encode_node node_in body_size place_fits file_fits node_fits exported_in
  node-read v low N.Removed rest hb p f x s h = bare-read N.Removed 0 rest refl refl (omega arith) (stand 0 i p refl refl) refl h
  node-read v low N.Root rest hb p f x s h = bare-read N.Root 1 rest refl refl (omega arith) (only-root i p) refl h
  node-read v low N.JumpToScope rest hb p f x s h = bare-read N.JumpToScope 2 rest refl refl (omega arith) (only-jump i p) refl h
  node-read v low (N.Scope f₀ b) rest hb p f x s h = scope-read (N.Scope f₀ b) f₀.0 b rest refl (λ e₁ e₂. λ j. N.Scope (file_id (e₁ j)) (e₂ j)) (stand 3 i p refl refl) refl (is-under f₀.0 files f) hb h
  node-read v low (N.Push f₀ y b) rest hb p f x s h = symbol-read (N.Push f₀ y b) 4 f₀.0 y b rest refl (λ e₁ e₂ e₃. λ j. N.Push (file_id (e₁ j)) (e₂ j) (e₃ j)) (omega arith) (stand 4 i p refl refl) refl (is-under f₀.0 files f) hb s h
  node-read v low (N.Pop f₀ y b) rest hb p f x s h = symbol-read (N.Pop f₀ y b) 5 f₀.0 y b rest refl (λ e₁ e₂ e₃. λ j. N.Pop (file_id (e₁ j)) (e₂ j) (e₃ j)) (omega arith) (stand 5 i p refl refl) refl (is-under f₀.0 files f) hb s h
  node-read v low (N.PushScoped f₀ y a b) rest hb p f x s h =
      scoped-read (N.PushScoped f₀ y a b) f₀.0 y a.0 b rest refl (λ e₁ e₂ e₃ e₄. λ j. N.PushScoped (file_id (e₁ j)) (e₂ j) (node_id (e₃ j)) (e₄ j)) (stand 6 i p refl refl) refl (is-under f₀.0 files f) hb s
      (low a.0 (and-true (is_exported (v.node a.0)) _ x).0) h
  node-read v low (N.PopScoped f₀ y b) rest hb p f x s h = symbol-read (N.PopScoped f₀ y b) 7 f₀.0 y b rest refl (λ e₁ e₂ e₃. λ j. N.PopScoped (file_id (e₁ j)) (e₂ j) (e₃ j)) (omega arith) (stand 7 i p refl refl) refl (is-under f₀.0 files f) hb s h
  node-read v low (N.DropScopes f₀) rest hb p f x s h = drop-read (N.DropScopes f₀) f₀.0 rest refl (λ e₁. λ j. N.DropScopes (file_id (e₁ j))) (stand 8 i p refl refl) refl (is-under f₀.0 files f) hb h

-- ONE EDGE RECORD
edge-chain : {A R : Type 0} (a b c : Bool) (q r t : R) (x : A) → a ≡ false → b ≡ false → c ≡ true → pick a (refuse q) (pick b (refuse r) (pick c (ok x) (refuse t))) ≡ ok x
edge-chain a b c q r t x ha hb hc = rw (ha, hb, hc)

module _ (im : List ℕ) (at : ℕ) where
  record EdgeRead (e : Edge) (rest : List ℕ) : Type 0 where
    pub tested : edge_record im at ≡ ok (next_place im at)
    pub found : edge_in im at (byte_at im (at + 1)) ≡ e
    pub next : next_place im at ≡ at + length (encode_edge e)
    pub onward : drop (next_place im at) im ≡ rest

  edge-passes : (count kind : ℕ) (body rest : List ℕ) → drop at im ≡ (count ∷ kind ∷ body) ++ rest → length body + 1 ≡ count → kind ≤ 1 → count ≡ kind * 8 + 1 → edge_record im at ≡ ok (next_place im at)
  unfolding edge_record
  edge-passes count kind body rest e size l c =
      let ci : byte_at im at ≡ count = byte-is im at count _ e in
      let ki : byte_at im (at + 1) ≡ kind = byte-is im (at + 1) kind _ (byte-on im at count _ e) in
      edge-chain (is_cut im at) (ltb 1 (byte_at im (at + 1))) (eqb (byte_at im at) (byte_at im (at + 1) * 8 + 1)) Image.Length (Image.Record at) Image.Length (next_place im at)
      (uncut im at count ci (omega (arith, size)) (omega (arith, whole im at (count ∷ kind ∷ body) rest e, size)))
      (not-under 1 (byte_at im (at + 1)) (omega (arith, ki, l)))
      (ap₂ (λ (x : ℕ) (y : ℕ). eqb x (y * 8 + 1)) (ci ∙ c) ki ∙ eqb_same (kind * 8 + 1))

  edge-after : (count kind : ℕ) (body rest : List ℕ) → drop at im ≡ (count ∷ kind ∷ body) ++ rest → length body + 1 ≡ count → (next_place im at ≡ at + length (count ∷ kind ∷ body)) × (drop (next_place im at) im ≡ rest)
  edge-after count kind body rest e size =
      let ci : byte_at im at ≡ count = byte-is im at count _ e in
      let n : next_place im at ≡ at + (count + 1) = omega (arith, ci) in
      let m : next_place im at ≡ at + length (count ∷ kind ∷ body) = omega (arith, ci, size) in
      (m, ap (λ (k : ℕ). drop k im) n ∙ behind im at (count + 1) (count ∷ kind ∷ body) rest (omega (arith, size)) e)

  edge-read : (v : View) → ((j : ℕ) → is_live (v.node j) ≡ true → j < 65536) → (e : Edge) (rest : List ℕ) → edge_fits v e ≡ true → precedence_fits e ≡ true → drop at im ≡ encode_edge e ++ rest → EdgeRead e rest
  unfolding encode_edge edge_in edge_fits
  edge-read v low E.Removed rest f p h =
      record {
        tested = edge-passes 1 0 [] rest h refl (omega arith) refl;
        found = ap (edge_in im at) (byte-is im (at + 1) 0 rest (byte-on im at 1 (0 ∷ rest) h));
        next = (edge-after 1 0 [] rest h refl).0;
        onward = (edge-after 1 0 [] rest h refl).1;
      }
  edge-read v low (E.Live s t q) rest f p h =
      let tail : List ℕ = be 2 t.0 ++ be 4 (unsigned q) in
      let body : List ℕ = be 2 s.0 ++ tail in
      let size : length body + 1 ≡ 9 = omega (arith, length-append (be 2 s.0) tail, length-append (be 2 t.0) (be 4 (unsigned q)), length-be 2 s.0, length-be 2 t.0, length-be 4 (unsigned q)) in
      let live = and-true (is_live (v.node s.0)) _ (and-true (one_file (file_of (v.node s.0)) (file_of (v.node t.0))) _ f).1 in
      let live₂ = and-true (is_live (v.node t.0)) _ live.1 in
      let e₁ : at + 2 + 2 ≡ at + 4 = omega arith in
      let e₂ : at + 4 + 2 ≡ at + 6 = omega arith in
      let a : drop (at + 2) im ≡ be 2 s.0 ++ (tail ++ rest) = behind im at 2 (9 ∷ 1 ∷ []) (body ++ rest) refl h ∙ append_assoc (be 2 s.0) tail rest in
      let d : drop (at + 4) im ≡ be 2 t.0 ++ (be 4 (unsigned q) ++ rest) = ap (λ (k : ℕ). drop k im) (sym e₁) ∙ wide-on im 2 (at + 2) s.0 (tail ++ rest) a ∙ append_assoc (be 2 t.0) (be 4 (unsigned q)) rest in
      let u : drop (at + 6) im ≡ be 4 (unsigned q) ++ rest = ap (λ (k : ℕ). drop k im) (sym e₂) ∙ wide-on im 2 (at + 4) t.0 (be 4 (unsigned q) ++ rest) d in
      let source : short im (at + 2) ≡ s.0 = short-is im (at + 2) s.0 (tail ++ rest) (low s.0 live.0) a in
      let target : short im (at + 4) ≡ t.0 = short-is im (at + 4) t.0 (be 4 (unsigned q) ++ rest) (low t.0 live₂.0) d in
      let precedence : signed (long im (at + 6)) ≡ q = ap signed (long-is im (at + 6) (unsigned q) rest (unsigned-room q p) u) ∙ signed-unsigned q p in
      let kind : byte_at im (at + 1) ≡ 1 = byte-is im (at + 1) 1 (body ++ rest) (byte-on im at 9 (1 ∷ (body ++ rest)) h) in
      record {
        tested = edge-passes 9 1 body rest h size (omega arith) refl;
        found = ap (edge_in im at) kind ∙ (λ j. E.Live (node_id (source j)) (node_id (target j)) (precedence j));
        next = (edge-after 9 1 body rest h size).0;
        onward = (edge-after 9 1 body rest h size).1;
      }

-- ALL RECORDS
then_is : {R A B : Type 0} (x : Answer R A) (k : A → Answer R B) (a : A) → x ≡ ok a → and_then x k ≡ k a
then_is {R = R} {A = A} x k a e = ap (λ (y : Answer R A). and_then y k) e

module _ (im : List ℕ) (g : Graph) where
  module _ (w files : ℕ) (few : files ≤ 256) (low : (j : ℕ) → is_exported ((view_of g).node j) ≡ true → j < 65536) where
    record NodesRead (ns : List Node) (i at : ℕ) (rest : List ℕ) : Type 0 where
      pub tested : scan (node_record w im files) i at (length ns) ≡ ok (place_of im at (length ns))
      pub found : nodes_from w im at (length ns) ≡ ns
      pub place : place_of im at (length ns) ≡ at + length (encode_nodes w ns)
      pub onward : drop (place_of im at (length ns)) im ≡ rest
      pub fit : (next : Answer ImageRefusal ℕ) → node_misfit im g at ns next ≡ next

    nodes-read : (ns : List Node) (i at : ℕ) (rest : List ℕ) → drop at im ≡ encode_nodes w ns ++ rest → every_from (λ j n. and (place_fits j n) (and (file_fits files (file_of n)) (node_fits (view_of g) n))) i ns ≡ true
        → symbols_fit w ns ≡ true → NodesRead ns i at rest
    unfolding scan nodes_from place_of encode_nodes node_misfit
    nodes-read [] i at rest e t s = record { tested = refl; found = refl; place = sym (add-zero at); onward = e; fit = λ next. refl }
    nodes-read (n ∷ ns) i at rest e t s =
        let a = and-true (and (place_fits i n) (and (file_fits files (file_of n)) (node_fits (view_of g) n))) _ t in
        let b = and-true (place_fits i n) _ a.0 in
        let c = and-true (file_fits files (file_of n)) (node_fits (view_of g) n) b.1 in
        let k = and-true (symbol_fits w n) (symbols_fit w ns) s in
        let r = node-read w im files i at (view_of g) low n (encode_nodes w ns ++ rest) few b.0 c.0 c.1 k.0 (e ∙ append_assoc (encode_node w n) (encode_nodes w ns) rest) in
        let ih = nodes-read ns (suc i) (next_place im at) rest r.onward a.1 k.1 in
        record {
          tested = then_is (node_record w im files i at) (λ y. scan (node_record w im files) (suc i) y (length ns)) (next_place im at) r.tested ∙ ih.tested;
          found = ap₂ (λ (x : Node) (l : List Node). x ∷ l) r.found ih.found;
          place = ih.place ∙ (let z : next_place im at + length (encode_nodes w ns) ≡ at + length (encode_node w n ++ encode_nodes w ns) = omega (arith, r.next, length-append (encode_node w n) (encode_nodes w ns)) in z);
          onward = ih.onward;
          fit = λ next. ap (λ (x : Bool). pick x (node_misfit im g (next_place im at) ns next) (refuse (Image.Reference at))) c.1 ∙ ih.fit next;
        }

  module _ (low : (j : ℕ) → is_live ((view_of g).node j) ≡ true → j < 65536) where
    record EdgesRead (es : List Edge) (i at : ℕ) (rest : List ℕ) : Type 0 where
      pub tested : scan (λ e. edge_record im) i at (length es) ≡ ok (place_of im at (length es))
      pub found : edges_from im at (length es) ≡ es
      pub place : place_of im at (length es) ≡ at + length (encode_edges es)
      pub fit : edge_misfit im g at es ≡ ok (place_of im at (length es))

    edges-read : (es : List Edge) (i at : ℕ) (rest : List ℕ) → drop at im ≡ encode_edges es ++ rest → every_from (λ j e. edge_fits (view_of g) e) i es ≡ true → precedences_fit es ≡ true → EdgesRead es i at rest
    unfolding scan edges_from place_of encode_edges edge_misfit
    edges-read [] i at rest e t s = record { tested = refl; found = refl; place = sym (add-zero at); fit = refl }
    edges-read (x ∷ es) i at rest e t s =
        let a = and-true (edge_fits (view_of g) x) _ t in
        let k = and-true (precedence_fits x) (precedences_fit es) s in
        let r = edge-read im at (view_of g) low x (encode_edges es ++ rest) a.0 k.0 (e ∙ append_assoc (encode_edge x) (encode_edges es) rest) in
        let ih = edges-read es (suc i) (next_place im at) rest r.onward a.1 k.1 in
        record {
          tested = then_is (edge_record im at) (λ y. scan (λ e. edge_record im) (suc i) y (length es)) (next_place im at) r.tested ∙ ih.tested;
          found = ap₂ (λ (y : Edge) (l : List Edge). y ∷ l) r.found ih.found;
          place = ih.place ∙ (let z : next_place im at + length (encode_edges es) ≡ at + length (encode_edge x ++ encode_edges es) = omega (arith, r.next, length-append (encode_edge x) (encode_edges es)) in z);
          fit = ap (λ (y : Bool). pick y (edge_misfit im g (next_place im at) es) (refuse (Image.Reference at))) a.0 ∙ ih.fit;
        }

-- NUMBERS THAT AN ACCEPTED GRAPH NAMES are numbers of its nodes
beyond : (l : List Node) (j : ℕ) → length l ≤ j → get_or l j N.Removed ≡ N.Removed
beyond [] j h = refl
beyond (n ∷ l) zero h = absurd (omega (arith, h))
beyond (n ∷ l) (suc j) h = beyond l j (omega (arith, h))

named : (l : List Node) (t : Node → Bool) (j : ℕ) → t N.Removed ≡ false → t (get_or l j N.Removed) ≡ true → j < length l
named l t j z h = on (leb (length l) j) refl
  where
    on : (b : Bool) → leb (length l) j ≡ b → j < length l
    on true q = absurd (false≢true (sym z ∙ sym (ap t (beyond l j (leb→le (length l) j (eq→T (leb (length l) j) q)))) ∙ h))
    on false q = leb-lt (length l) j q

-- THE HEADER
header_ok : (widths : ℕ → ℕ) (im : List ℕ) → 11 ≤ length im → length im ≤ 65536 → long im 1 + 5 ≡ length im → 0 < widths (byte_at im 0) → length im ≤ most_bytes (byte_at im 0) → files_of im ≤ 256 → 2 ≤ nodes_of im → nodes_of im ≤ 2048 → edges_of im ≤ 4096
    → header widths im ≡ ok first_record
unfolding header
header_ok widths im a b c d e f n m k =
    rw (
      not-under (length im) 11 a,
      not-under 65536 (length im) b,
      c,
      eqb_same (length im),
      not_same (widths (byte_at im 0)) 0 (λ (q : widths (byte_at im 0) ≡ 0). omega (arith, q, d)),
      not-under (most_bytes (byte_at im 0)) (length im) e,
      not-under 256 (files_of im) f,
      not-under (nodes_of im) 2 n,
      not-under 2048 (nodes_of im) m,
      not-under 4096 (edges_of im) k,
    )

pub most_bytes_lem : (v : ℕ) → most_bytes v ≤ 65536
most_bytes_lem v = on (eqb v 1)
  where
    on : (b : Bool) → pick b 63499 65536 ≤ 65536
    on true = omega arith
    on false = omega arith

-- how many records an accepted graph has
pub record Counts (g : Graph) : Type 0 where
  pub files : g.files ≤ 256
  pub some-nodes : 2 ≤ length g.nodes
  pub nodes : length g.nodes ≤ 2048
  pub edges : length g.edges ≤ 4096

pub counts : (g : Graph) → accepts g ≡ true → Counts g
unfolding accepts count_fits
counts g h =
    let a = and-true (leb g.files 256) _ (and-true (count_fits g) _ h).0 in
    let b = and-true (leb 2 (length g.nodes)) _ a.1 in
    let c = and-true (leb (length g.nodes) 2048) _ b.1 in
    record { files = leb→le _ _ (eq→T _ a.0); some-nodes = leb→le _ _ (eq→T _ b.0); nodes = leb→le _ _ (eq→T _ c.0); edges = leb→le _ _ (eq→T _ c.1) }

with_read : (w : ℕ) (widths : ℕ → ℕ) (im : List ℕ) (g : Graph) → Writable w g → header widths im ≡ ok first_record → files_of im ≡ g.files → nodes_of im ≡ length g.nodes → edges_of im ≡ length g.edges
    → drop 11 im ≡ encode_records w g → length im ≡ 11 + length (encode_records w g) → check_with w widths im ≡ ok g
unfolding check_with graph_of references encode_records
with_read w widths im g x h fs ln le e size =
    then_is (header widths im) _ 11 h
    ∙ then_is (scan (node_record w im (files_of im)) 0 11 (nodes_of im)) _ (place_of im 11 (nodes_of im)) nodes-pass
    ∙ then_is (scan (λ y. edge_record im) 0 (place_of im 11 (nodes_of im)) (edges_of im)) _ (place_of im (place_of im 11 (nodes_of im)) (edges_of im)) edges-pass
    ∙ ap (λ (b : Bool). pick b (and_then (references im (graph_of w im)) (λ y. ok (graph_of w im))) (refuse Image.Length)) (ap (λ (y : ℕ). eqb y (length im)) ends ∙ eqb_same (length im))
    ∙ then_is (references im (graph_of w im)) (λ y. ok (graph_of w im)) (place_of im (place_of im 11 (length g.nodes)) (length g.edges)) fit
    ∙ ap (λ (y : Graph). ok y) same_graph
  where
    tests : (every_from (λ j n. and (place_fits j n) (and (file_fits g.files (file_of n)) (node_fits (view_of g) n))) 0 g.nodes ≡ true) × (every_from (λ j y. edge_fits (view_of g) y) 0 g.edges ≡ true)
    tests = unfold accepts in and-true (every_from (λ j n. and (place_fits j n) (and (file_fits g.files (file_of n)) (node_fits (view_of g) n))) 0 g.nodes) _ (and-true (count_fits g) _ x.accepted).1

    c : Counts g
    c = counts g x.accepted

    low-exported : (j : ℕ) → is_exported ((view_of g).node j) ≡ true → j < 65536
    low-exported j k = let z = named g.nodes is_exported j refl (unfold view_of in k) in omega (arith, z, c.nodes)

    low-live : (j : ℕ) → is_live ((view_of g).node j) ≡ true → j < 65536
    low-live j k = let z = named g.nodes is_live j refl (unfold view_of in k) in omega (arith, z, c.nodes)

    ns : NodesRead im g w g.files c.files low-exported g.nodes 0 11 (encode_edges g.edges)
    ns = nodes-read im g w g.files c.files low-exported g.nodes 0 11 (encode_edges g.edges) e tests.0 x.symbols

    es : EdgesRead im g low-live g.edges 0 (place_of im 11 (length g.nodes)) []
    es = edges-read im g low-live g.edges 0 (place_of im 11 (length g.nodes)) [] (ns.onward ∙ sym (append-nil (encode_edges g.edges))) tests.1 x.precedences

    nodes-pass : scan (node_record w im (files_of im)) 0 11 (nodes_of im) ≡ ok (place_of im 11 (nodes_of im))
    nodes-pass = ap₂ (λ (f : ℕ) (n : ℕ). scan (node_record w im f) 0 11 n) fs ln ∙ ns.tested ∙ ap (λ (n : ℕ). ok (place_of im 11 n)) (sym ln)

    edges-pass : scan (λ y. edge_record im) 0 (place_of im 11 (nodes_of im)) (edges_of im) ≡ ok (place_of im (place_of im 11 (nodes_of im)) (edges_of im))
    edges-pass = ap₂ (λ (n : ℕ) (m : ℕ). scan (λ y. edge_record im) 0 (place_of im 11 n) m) ln le ∙ es.tested ∙ ap₂ (λ (n : ℕ) (m : ℕ). ok (place_of im (place_of im 11 n) m)) (sym ln) (sym le)

    ends : place_of im (place_of im 11 (nodes_of im)) (edges_of im) ≡ length im
    ends = ap₂ (λ (n : ℕ) (m : ℕ). place_of im (place_of im 11 n) m) ln le ∙ (let z : place_of im (place_of im 11 (length g.nodes)) (length g.edges) ≡ length im = omega (arith, es.place, ns.place, size, length-append (encode_nodes w g.nodes) (encode_edges g.edges)) in z)

    same_nodes : nodes_from w im 11 (nodes_of im) ≡ g.nodes
    same_nodes = ap (nodes_from w im 11) ln ∙ ns.found

    same_edges : edges_from im (place_of im 11 (nodes_of im)) (edges_of im) ≡ g.edges
    same_edges = ap₂ (λ (n : ℕ) (m : ℕ). edges_from im (place_of im 11 n) m) ln le ∙ es.found

    same_graph : graph_of w im ≡ g
    same_graph = unfold graph_of in λ j. record { files = fs j; nodes = same_nodes j; edges = same_edges j }

    fit : references im (graph_of w im) ≡ ok (place_of im (place_of im 11 (length g.nodes)) (length g.edges))
    fit = ap (references im) same_graph ∙ ap (λ (n : ℕ). node_misfit im g 11 g.nodes (edge_misfit im g (place_of im 11 n) g.edges)) ln ∙ ns.fit _ ∙ es.fit

-- what is written is read
pub encoded-read : (widths : ℕ → ℕ) (v w : ℕ) (g : Graph) → Writable w g → length (encode_image v w g) ≤ most_bytes v → widths v ≡ w → 0 < w → check_image widths (encode_image v w g) ≡ ok g
unfolding check_image
encoded-read widths v w g x fits versions wide-some =
    ap (λ (y : ℕ). check_with y widths (encode_image v w g)) (ap widths version ∙ versions)
    ∙ with_read w widths (encode_image v w g) g x
    (header_ok widths im (omega (arith, size)) (omega (arith, fits, most_bytes_lem v)) told (omega (arith, ap widths version, versions, wide-some)) (subst (λ (y : ℕ). length im ≤ most_bytes y) (sym version) fits)
    (omega (arith, files-are, c.files)) (omega (arith, nodes-are, c.some-nodes)) (omega (arith, nodes-are, c.nodes)) (omega (arith, edges_are, c.edges)))
    files-are nodes-are edges_are (unfold encode_image in refl) size
  where
    im : List ℕ
    im = encode_image v w g

    c : Counts g
    c = counts g x.accepted

    version : byte_at im 0 ≡ v
    version = unfold encode_image in refl

    size : length im ≡ 11 + length (encode_records w g)
    size = encoded-length v w g

    r : List ℕ
    r = encode_records w g

    told : long im 1 + 5 ≡ length im
    told =
        let z : long im 1 ≡ 6 + length r = long-is im 1 (6 + length r) (be 2 g.files ++ (be 2 (length g.nodes) ++ (be 2 (length g.edges) ++ r))) (omega (arith, size, fits, most_bytes_lem v)) (unfold encode_image in refl) in
        omega (arith, z, size)

    files-are : files_of im ≡ g.files
    files-are = short-is im 5 g.files (be 2 (length g.nodes) ++ (be 2 (length g.edges) ++ r)) (omega (arith, c.files)) (unfold encode_image in refl)

    nodes-are : nodes_of im ≡ length g.nodes
    nodes-are = short-is im 7 (length g.nodes) (be 2 (length g.edges) ++ r) (omega (arith, c.nodes)) (unfold encode_image in refl)

    edges_are : edges_of im ≡ length g.edges
    edges_are = short-is im 9 (length g.edges) r (omega (arith, c.edges)) (unfold encode_image in refl)

-- an accepted graph always fits into a version 1 image
pub back_fits : (v : ℕ) (g : Graph) → accepts g ≡ true → length (encode_image v 4 g) ≤ 63499
back_fits v g h = let c = counts g h in omega (arith, encoded-most v 4 g, c.nodes, c.edges)
