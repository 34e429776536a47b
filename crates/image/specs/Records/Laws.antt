-- Each outcome of the header and of a record's test, what the words of a record are, and the run over all records.
-- Serves document 01, "Turned back": size and length as 2, then 1, 3, the records in order.
use Rattle.std.specs.Prelude.{ℕ, zero, suc, ◌+◌, ◌*◌, ◌-◌, ◌<◌, ◌≤◌, ◌≡◌, refl, Bool, true, false, not, List, eqb, leb, ltb, length, get_or}
use native.Mathlib.Omega.{arith}
use Rattle.std.proofs.Common.{add-one, sym, ◌∙◌, subst, true≢false, inl, inr}
use Rattle.std.proofs.Math.Decide.{dec_lt, ℕ_discrete}
use Rattle.std.proofs.Math.Path.{ap}
use borrow.Author.Tests.{lt-ltb, le-ltb, le-leb, lt-leb, eq-eqb, ne_eqb, ltb-false, leb-false, eqb-false}
use Rattle.semantics.specs.declared.graph.Node.{Node}
use Rattle.semantics.specs.declared.graph.Node.TheVariants as N
use Rattle.semantics.specs.declared.graph.Edge.{Edge}
use Rattle.semantics.specs.declared.graph.Edge.TheVariants as E
use Rattle.semantics.specs.declared.refusal.ImageRefusal.{ImageRefusal}
use Rattle.semantics.specs.declared.refusal.ImageRefusal.TheVariants as Image
use Rattle.semantics.specs.Lists.{pick}
use Rattle.semantics.specs.Answer.{Answer, ok, refuse}
use Rattle.semantics.specs.Answer.Laws.{ok-inj, refuse-ok}
use Rattle.semantics.specs.Bytes.{byte_at, short, long, wide}
use Rattle.semantics.specs.Bytes.Laws.{wide-long, wide-double}
use Rattle.semantics.specs.Halves.{joined}
use Rattle.semantics.specs.Graph.{view_of}
use Rattle.semantics.specs.Image.{symbol_bytes, width_in, longest_image, most_bytes, files_of, nodes_of, edges_of, header, is_cut, may_stand, body_size, fields_fit, next_place, node_record, edge_record, scan, flag_at, node_in, edge_in, nodes_from, edges_from, place_of, first_record, first_edge, graph_of}
use Rattle.image.specs.Index.{BLOCK, Fresh, node_of, edge_of, put_node, put_edge}
use Rattle.image.specs.Filling.{upto, Filled, Held}
use Rattle.image.specs.Filling.Laws.{filled-node, filled-edge, filled-as, cleared}
use Rattle.image.specs.Records.{Headed, Fielded, node_here, edge_here, node_at, edge_at, NodePut, EdgePut, NodesPut, EdgesPut, Run, KnownWidth, Named, has_symbol, high_in, scope_in, graph_read}

-- THE HEADER
pick_no : {A : Type 0} (b : Bool) (r : ImageRefusal) (y : Answer ImageRefusal A) (a : A) → pick b (refuse r) y ≡ ok a → (b ≡ false) × (y ≡ ok a)
pick_no true r y a e = absurd (refuse-ok r a e)
pick_no false r y a e = (refl, e)

-- a version that is read
known-width : (v : ℕ) → eqb (symbol_bytes v) 0 ≡ false → KnownWidth (symbol_bytes v)
known-width v e = go (eqb v 1) (eqb v 2) e
  where
    go : (a b : Bool) → eqb (pick a 4 (pick b 8 0)) 0 ≡ false → KnownWidth (pick a 4 (pick b 8 0))
    go true b q = inl refl
    go false true q = inr refl
    go false false q = absurd (true≢false q)

pub headed : (im : List ℕ) (x : ℕ) → header symbol_bytes im ≡ ok x → Headed im × (x ≡ 11)
unfolding header
headed im x e =
    let a = pick_no (ltb (length im) 11) Image.Length _ x e in
    let b = pick_no (ltb longest_image (length im)) Image.Length _ x a.1 in
    let c = pick_no (not (eqb (long im 1 + 5) (length im))) Image.Length _ x b.1 in
    let d = pick_no (eqb (width_in im) 0) Image.Version _ x c.1 in
    let l = pick_no (ltb (most_bytes (byte_at im 0)) (length im)) Image.Length _ x d.1 in
    let f = pick_no (ltb 256 (files_of im)) Image.Counts _ x l.1 in
    let n = pick_no (ltb (nodes_of im) 2) Image.Counts _ x f.1 in
    let m = pick_no (ltb 2048 (nodes_of im)) Image.Counts _ x n.1 in
    let k = pick_no (ltb 4096 (edges_of im)) Image.Counts _ x m.1 in (
      record {
        head = omega (arith, ltb-false (length im) 11 a.0);
        small = omega (arith, ltb-false longest_image (length im) b.0);
        width = known-width (byte_at im 0) d.0;
        files = ltb-false 256 (files_of im) f.0;
        some = ltb-false (nodes_of im) 2 n.0;
        nodes = ltb-false 2048 (nodes_of im) m.0;
        edges = ltb-false 4096 (edges_of im) k.0;
      },
      sym (ok-inj 11 x k.1),
    )

-- A NODE RECORD, by the values that were read
module _ (w : ℕ) (im : List ℕ) (files n at : ℕ) {kind : ℕ} (is_kind : byte_at im (at + 1) ≡ kind) where
  pub node-cut : is_cut im at ≡ true → refuse Image.Length ≡ node_record w im files n at
  unfolding node_record
  node-cut c = simp c

  module _ (whole : is_cut im at ≡ false) where
    pub no_kind : 8 < kind → refuse (Image.Record at) ≡ node_record w im files n at
    unfolding node_record
    no_kind h = simp (whole, is_kind, lt-ltb 8 kind h)

    module _ (known : kind ≤ 8) where
      pub misplaced : may_stand kind n ≡ false → refuse (Image.Record at) ≡ node_record w im files n at
      unfolding node_record
      misplaced m = simp (whole, is_kind, le-ltb 8 kind known, m)

      module _ (stands : may_stand kind n ≡ true) where
        pub miscounted : (byte_at im at ≡ body_size w kind → ⊥) → refuse Image.Length ≡ node_record w im files n at
        unfolding node_record
        miscounted c = simp (whole, is_kind, le-ltb 8 kind known, stands, ne_eqb (byte_at im at) (body_size w kind) c)

        module _ (sized : byte_at im at ≡ body_size w kind) where
          pub bare : kind < 3 → ok (next_place im at) ≡ node_record w im files n at
          unfolding node_record
          bare b = simp (whole, is_kind, le-ltb 8 kind known, stands, eq-eqb (byte_at im at) (body_size w kind) sized, lt-ltb kind 3 b)

          pub by-fields : 3 ≤ kind → pick (fields_fit im files kind at (byte_at im at)) (ok (next_place im at)) (refuse (Image.Record at)) ≡ node_record w im files n at
          unfolding node_record
          by-fields b = simp (whole, is_kind, le-ltb 8 kind known, stands, eq-eqb (byte_at im at) (body_size w kind) sized, le-ltb kind 3 b)

-- a record that is not cut reaches its last byte
pub whole : (im : List ℕ) (at : ℕ) → is_cut im at ≡ false → (0 < byte_at im at) × (at + byte_at im at < length im)
unfolding is_cut
whole im at e = go (leb (length im) at) (eqb (byte_at im at) 0) refl e
  where
    go : (a b : Bool) → eqb (byte_at im at) 0 ≡ b → pick a true (pick b true (leb (length im) (at + byte_at im at))) ≡ false → (0 < byte_at im at) × (at + byte_at im at < length im)
    go true b p q = absurd (true≢false q)
    go false true p q = absurd (true≢false q)
    go false false p q = (some (byte_at im at) (eqb-false (byte_at im at) 0 p), leb-false (length im) (at + byte_at im at) q)
      where
        some : (k : ℕ) → (k ≡ 0 → ⊥) → 0 < k
        some zero h = absurd (h refl)
        some (suc k) h = omega arith

-- THE SIZES
pub size-least : (w kind : ℕ) → 3 ≤ kind → kind ≤ 8 → 3 ≤ body_size w kind
unfolding body_size
size-least w zero h b = absurd (omega (arith, h))
size-least w (suc zero) h b = absurd (omega (arith, h))
size-least w (suc (suc zero)) h b = absurd (omega (arith, h))
size-least w (suc (suc (suc zero))) h b = omega arith
size-least w (suc (suc (suc (suc zero)))) h b = omega arith
size-least w (suc (suc (suc (suc (suc zero))))) h b = omega arith
size-least w (suc (suc (suc (suc (suc (suc zero)))))) h b = omega arith
size-least w (suc (suc (suc (suc (suc (suc (suc zero))))))) h b = omega arith
size-least w (suc (suc (suc (suc (suc (suc (suc (suc zero)))))))) h b = omega arith
size-least w (suc (suc (suc (suc (suc (suc (suc (suc (suc k))))))))) h b = absurd (omega (arith, b))

-- the bytes of a symbol, and those of one that has not four
pub width_few : {w : ℕ} → KnownWidth w → w ≤ 8
width_few (inl e) = omega arith
width_few (inr e) = omega arith

pub wide-symbol : {w : ℕ} → KnownWidth w → (w ≡ 4 → ⊥) → w ≡ 8
wide-symbol (inl e) h = absurd (h e)
wide-symbol (inr e) h = e

-- by kind: with a symbol and without
pub size-named : (w kind : ℕ) → kind < 9 → has_symbol kind ≡ true → (kind ≡ 6 → ⊥) → 4 + w ≡ body_size w kind
unfolding body_size
size-named w zero b h d = absurd (true≢false (sym h))
size-named w (suc zero) b h d = absurd (true≢false (sym h))
size-named w (suc (suc zero)) b h d = absurd (true≢false (sym h))
size-named w (suc (suc (suc zero))) b h d = absurd (true≢false (sym h))
size-named w (suc (suc (suc (suc zero)))) b h d = refl
size-named w (suc (suc (suc (suc (suc zero))))) b h d = refl
size-named w (suc (suc (suc (suc (suc (suc zero)))))) b h d = absurd (d refl)
size-named w (suc (suc (suc (suc (suc (suc (suc zero))))))) b h d = refl
size-named w (suc (suc (suc (suc (suc (suc (suc (suc zero)))))))) b h d = absurd (true≢false (sym h))
size-named w (suc (suc (suc (suc (suc (suc (suc (suc (suc k))))))))) b h d = absurd (omega (arith, b))

pub size-bare : (w kind : ℕ) → kind < 9 → has_symbol kind ≡ false → (kind ≡ 3 → ⊥) → (kind ≡ 8 → ⊥) → 1 ≡ body_size w kind
unfolding body_size
size-bare w zero b h d e = refl
size-bare w (suc zero) b h d e = refl
size-bare w (suc (suc zero)) b h d e = refl
size-bare w (suc (suc (suc zero))) b h d e = absurd (d refl)
size-bare w (suc (suc (suc (suc zero)))) b h d e = absurd (true≢false h)
size-bare w (suc (suc (suc (suc (suc zero))))) b h d e = absurd (true≢false h)
size-bare w (suc (suc (suc (suc (suc (suc zero)))))) b h d e = absurd (true≢false h)
size-bare w (suc (suc (suc (suc (suc (suc (suc zero))))))) b h d e = absurd (true≢false h)
size-bare w (suc (suc (suc (suc (suc (suc (suc (suc zero)))))))) b h d e = absurd (e refl)
size-bare w (suc (suc (suc (suc (suc (suc (suc (suc (suc k))))))))) b h d e = absurd (omega (arith, b))

pub size-plain : (w : ℕ) {kind : ℕ} → kind ≡ 3 → body_size w kind ≡ 4
unfolding body_size
size-plain w e = rw e

pub size-drop : (w : ℕ) {kind : ℕ} → kind ≡ 8 → body_size w kind ≡ 3
unfolding body_size
size-drop w e = rw e

-- the kinds with a symbol
pub size-symbol : (w kind : ℕ) → 3 ≤ kind → kind < 8 → (kind ≡ 3 → ⊥) → 4 + w ≤ body_size w kind
unfolding body_size
size-symbol w zero h b d = absurd (omega (arith, h))
size-symbol w (suc zero) h b d = absurd (omega (arith, h))
size-symbol w (suc (suc zero)) h b d = absurd (omega (arith, h))
size-symbol w (suc (suc (suc zero))) h b d = absurd (d refl)
size-symbol w (suc (suc (suc (suc zero)))) h b d = omega arith
size-symbol w (suc (suc (suc (suc (suc zero))))) h b d = omega arith
size-symbol w (suc (suc (suc (suc (suc (suc zero)))))) h b d = omega arith
size-symbol w (suc (suc (suc (suc (suc (suc (suc zero))))))) h b d = omega arith
size-symbol w (suc (suc (suc (suc (suc (suc (suc (suc k)))))))) h b d = absurd (omega (arith, b))

pub size-scope : (w : ℕ) {kind : ℕ} → kind ≡ 6 → body_size w kind ≡ 6 + w
unfolding body_size
size-scope w e = rw e

-- THE FIELDS of the kinds 3 to 8
module _ (im : List ℕ) (files at kind count : ℕ) {file : ℕ} (next : ℕ) (is_file : file ≡ short im (at + 2)) where
  abbrev judged : Answer ImageRefusal ℕ
  judged = pick (fields_fit im files kind at count) (ok next) (refuse (Image.Record at))

  pub bad-file : files ≤ file → refuse (Image.Record at) ≡ judged
  unfolding fields_fit
  bad-file h = simp (le-leb files (short im (at + 2)) (omega arith))

  module _ (known : file < files) where
    pub drop-fits : kind ≡ 8 → ok next ≡ judged
    unfolding fields_fit
    drop-fits k = simp (lt-leb files (short im (at + 2)) (omega arith), eq-eqb kind 8 k)

    module _ (flagged : kind ≡ 8 → ⊥) where
      pub bad-flag : 1 < byte_at im (at + count) → refuse (Image.Record at) ≡ judged
      unfolding fields_fit
      bad-flag h = simp (lt-leb files (short im (at + 2)) (omega arith), ne_eqb kind 8 flagged, le-ltb (byte_at im (at + count)) 2 (omega arith))

      pub flag-fits : byte_at im (at + count) ≤ 1 → ok next ≡ judged
      unfolding fields_fit
      flag-fits h = simp (lt-leb files (short im (at + 2)) (omega arith), ne_eqb kind 8 flagged, lt-ltb (byte_at im (at + count)) 2 (omega arith))

-- PUT INTO THE INDEX
pub node-put : (n kind flag file low high scope : ℕ) {x : Node} (before : List ℕ) {after : List ℕ} → BLOCK * n < length before → kind < 9
    → node_of kind flag file (joined low high) scope ≡ x → after ≡ put_node n kind flag file low high scope before → NodePut n x before after
node-put n kind flag file low high scope before h k e q f D g d =
    subst (Filled (upto (n + 1) f N.Removed) D) (sym q) (filled-node before f D n kind flag file low high scope h k (e ∙ g) d)

pub edge-put : (e source target precedence : ℕ) {x : Edge} (before : List ℕ) {after : List ℕ} → BLOCK * e < length before → edge_of source target precedence ≡ x
    → after ≡ put_edge e source target precedence before → EdgePut e x before after
edge-put e source target precedence before h k q F f g d =
    subst (Filled F (upto (e + 1) f E.Removed)) (sym q) (filled-edge before F f e source target precedence h (k ∙ g) d)

-- ITS WORDS
pub bare-words : (w : ℕ) (im : List ℕ) (at kind : ℕ) → kind < 3 → node_of kind 0 0 0 0 ≡ node_in w im at kind
unfolding node_of node_in
bare-words w im at zero h = refl
bare-words w im at (suc zero) h = refl
bare-words w im at (suc (suc zero)) h = refl
bare-words w im at (suc (suc (suc k))) h = absurd (omega (arith, h))

pub drop-words : (w : ℕ) (im : List ℕ) (at : ℕ) → node_of 8 0 (short im (at + 2)) 0 0 ≡ node_in w im at 8
unfolding node_of node_in
drop-words w im at = refl

-- the last byte of a record with a symbol, as the kinds 4, 5 and 7 and as kind 6 have it
four : (at w : ℕ) → at + 4 + w ≡ at + (4 + w)
four at w = omega arith

six : (at w : ℕ) → at + 6 + w ≡ at + (6 + w)
six at w = omega arith

-- a symbol of four or of eight bytes, by its two words
symbol-words : {w : ℕ} → KnownWidth w → (im : List ℕ) (at : ℕ) → wide w im (at + 4) ≡ joined (long im (at + w)) (pick (eqb w 4) 0 (long im (at + 4)))
symbol-words {w} (inl e) im at = let z : long im (at + 4) ≡ joined (long im (at + 4)) 0 = omega arith in rw e (wide-long im (at + 4) ∙ z)
symbol-words {w} (inr e) im at = let z : at + 4 + 4 ≡ at + 8 = omega arith in rw (e, wide-double im (at + 4), z)

pub scope-words : (w : ℕ) (im : List ℕ) (at : ℕ) → node_of 3 (byte_at im (at + body_size w 3)) (short im (at + 2)) 0 0 ≡ node_in w im at 3
unfolding node_of node_in body_size flag_at
scope-words w im at = refl

pub full-words : (w : ℕ) → KnownWidth w → (im : List ℕ) (at kind : ℕ) → 4 ≤ kind → kind < 8
    → node_of kind (byte_at im (at + body_size w kind)) (short im (at + 2)) (joined (long im (at + w)) (high_in w im at)) (scope_in w im at kind) ≡ node_in w im at kind
unfolding node_of node_in body_size flag_at
full-words w k im at zero h b = absurd (omega (arith, h))
full-words w k im at (suc zero) h b = absurd (omega (arith, h))
full-words w k im at (suc (suc zero)) h b = absurd (omega (arith, h))
full-words w k im at (suc (suc (suc zero))) h b = absurd (omega (arith, h))
full-words w k im at (suc (suc (suc (suc zero)))) h b = rw (symbol-words k im at, four at w)
full-words w k im at (suc (suc (suc (suc (suc zero))))) h b = rw (symbol-words k im at, four at w)
full-words w k im at (suc (suc (suc (suc (suc (suc zero)))))) h b = rw (symbol-words k im at, six at w)
full-words w k im at (suc (suc (suc (suc (suc (suc (suc zero))))))) h b = rw (symbol-words k im at, four at w)
full-words w k im at (suc (suc (suc (suc (suc (suc (suc (suc k')))))))) h b = absurd (omega (arith, b))

-- the words of a record that was read are put into the index
pub bare-put : (w : ℕ) (im : List ℕ) (n at : ℕ) {kind : ℕ} (before : List ℕ) {after : List ℕ} → BLOCK * n < length before → byte_at im (at + 1) ≡ kind → kind < 3
    → after ≡ put_node n kind 0 0 0 0 0 before → NodePut n (node_here w im at) before after
bare-put w im n at {kind} before {after} h r b q = node-put n kind 0 0 0 0 0 {x = node_here w im at} before h (omega arith) (rw r (bare-words w im at kind b)) q

pub drop-put : {w : ℕ} {im : List ℕ} (n : ℕ) {at kind file : ℕ} (before : List ℕ) {after : List ℕ} → BLOCK * n < length before → Fielded w im at kind → kind ≡ 8 → file ≡ short im (at + 2)
    → after ≡ put_node n kind 0 file 0 0 0 before → NodePut n (node_here w im at) before after
drop-put {w} {im} n {at} {kind} {file} before {after} h k e f q =
    node-put n kind 0 file 0 0 0 {x = node_here w im at} before h (omega arith) (rw (k.reads, e, f) (drop-words w im at)) q

pub scope-put : {w : ℕ} {im : List ℕ} (n : ℕ) {at kind flag file : ℕ} (before : List ℕ) {after : List ℕ} → BLOCK * n < length before → Fielded w im at kind → kind ≡ 3
    → flag ≡ byte_at im (at + byte_at im at) → file ≡ short im (at + 2) → after ≡ put_node n kind flag file 0 0 0 before → NodePut n (node_here w im at) before after
scope-put {w} {im} n {at} {kind} {flag} {file} before {after} h k e d f q =
    node-put n kind flag file 0 0 0 {x = node_here w im at} before h (omega (arith, k.high)) (rw (k.reads, d, f, k.size, e) (scope-words w im at)) q

-- a record with fields but for a scope and drop-scopes has a symbol
less-than : (x m : ℕ) → x ≤ m → (x ≡ m → ⊥) → x < m
less-than x m b c = go (ℕ_discrete x m)
  where
    go : Dec (x ≡ m) → x < m
    go (yes y) = absurd (c y)
    go (no y) = omega arith

pub named : {w : ℕ} {im : List ℕ} {at kind : ℕ} → Fielded w im at kind → (kind ≡ 8 → ⊥) → (kind ≡ 3 → ⊥) → Named w im at
named {w} {im} {at} {kind} k d s =
    record { known = k.known; whole = omega (arith, k.whole, size-symbol w kind k.low (less-than kind 8 k.high d) s); small = k.small }

pub full_put : {w : ℕ} {im : List ℕ} (n : ℕ) {at kind flag file low high scope : ℕ} (before : List ℕ) {after : List ℕ} → BLOCK * n < length before → Fielded w im at kind → (kind ≡ 8 → ⊥) → (kind ≡ 3 → ⊥)
    → flag ≡ byte_at im (at + byte_at im at) → file ≡ short im (at + 2) → low ≡ long im (at + w) → high ≡ high_in w im at → scope ≡ scope_in w im at kind
    → after ≡ put_node n kind flag file low high scope before → NodePut n (node_here w im at) before after
full_put {w} {im} n {at} {kind} {flag} {file} {low} {high} {scope} before {after} h k d s e f g j i q =
    node-put n kind flag file low high scope {x = node_here w im at} before h (omega (arith, k.high))
    (rw (k.reads, e, f, g, j, i, k.size) (full-words w k.known im at kind (less-than 3 kind k.low (λ z. s (sym z))) (less-than kind 8 k.high d))) q

-- AN EDGE RECORD
module _ (im : List ℕ) (at : ℕ) {kind : ℕ} (is_kind : byte_at im (at + 1) ≡ kind) where
  pub edge-cut : is_cut im at ≡ true → refuse Image.Length ≡ edge_record im at
  unfolding edge_record
  edge-cut c = simp c

  module _ (whole : is_cut im at ≡ false) where
    pub no-edge-kind : 1 < kind → refuse (Image.Record at) ≡ edge_record im at
    unfolding edge_record
    no-edge-kind h = simp (whole, is_kind, lt-ltb 1 kind h)

    module _ (known : kind ≤ 1) where
      pub edge-miscounted : (byte_at im at ≡ kind * 8 + 1 → ⊥) → refuse Image.Length ≡ edge_record im at
      unfolding edge_record
      edge-miscounted c = simp (whole, is_kind, le-ltb 1 kind known, ne_eqb (byte_at im at) (kind * 8 + 1) c)

      pub edge-sized : byte_at im at ≡ kind * 8 + 1 → ok (next_place im at) ≡ edge_record im at
      unfolding edge_record
      edge-sized c = simp (whole, is_kind, le-ltb 1 kind known, eq-eqb (byte_at im at) (kind * 8 + 1) c)

pub removed-words : (im : List ℕ) (at : ℕ) → edge_of 0 0 0 ≡ edge_in im at 0
unfolding edge_of edge_in
removed-words im at = refl

pub live-words : (im : List ℕ) (at : ℕ) → edge_of (short im (at + 2) + 1) (short im (at + 4)) (long im (at + 6)) ≡ edge_in im at 1
unfolding edge_of edge_in
live-words im at =
    let z : short im (at + 2) + 1 - 1 ≡ short im (at + 2) = omega arith in
    rw (ne_eqb (short im (at + 2) + 1) 0 (λ e. omega arith), z)

pub removed-put : (im : List ℕ) (e at : ℕ) {kind : ℕ} (before : List ℕ) {after : List ℕ} → BLOCK * e < length before → byte_at im (at + 1) ≡ kind → kind < 1
    → after ≡ put_edge e 0 0 0 before → EdgePut e (edge_here im at) before after
removed-put im e at {kind} before {after} h r b q =
    let z : kind ≡ 0 = omega arith in
    edge-put e 0 0 0 {x = edge_here im at} before h (rw (r, z) (removed-words im at)) q

pub live-put : (im : List ℕ) (e at : ℕ) {kind source target precedence : ℕ} (before : List ℕ) {after : List ℕ} → BLOCK * e < length before → byte_at im (at + 1) ≡ kind → kind ≡ 1
    → source ≡ short im (at + 2) → target ≡ short im (at + 4) → precedence ≡ long im (at + 6)
    → after ≡ put_edge e (source + 1) target precedence before → EdgePut e (edge_here im at) before after
live-put im e at {source} {target} {precedence} before {after} h r k s t p q =
    edge-put e (source + 1) target precedence {x = edge_here im at} before h (rw (r, k, s, t, p) (live-words im at)) q

-- THE RUN OVER THE RECORDS
module _ (test : ℕ → ℕ → Answer ImageRefusal ℕ) (count i at : ℕ) where
  one_more : i < count → count - i ≡ suc (count - (i + 1))
  one_more h = omega arith

  pub scan-end : count ≤ i → scan test i at (count - i) ≡ ok at
  unfolding scan
  scan-end h = let z : count - i ≡ 0 = omega arith in rw z

  pub scan-refused : (r : ImageRefusal) → i < count → test i at ≡ refuse r → scan test i at (count - i) ≡ refuse r
  unfolding scan
  scan-refused r h e = rw (one_more h, e)

  pub scan-next : (x : ℕ) → i < count → test i at ≡ ok x → scan test i at (count - i) ≡ scan test (i + 1) x (count - (i + 1))
  unfolding scan
  scan-next x h e = rw (one_more h, e) (ap (λ (k : ℕ). scan test k x (count - (i + 1))) (sym (add-one i)))

-- PLACES
place-suc : (im : List ℕ) (at k : ℕ) → place_of im at (suc k) ≡ next_place im (place_of im at k)
unfolding place_of
place-suc im at zero = refl
place-suc im at (suc k) = place-suc im (next_place im at) k

pub place-next : (im : List ℕ) (at k : ℕ) → place_of im at (k + 1) ≡ next_place im (place_of im at k)
place-next im at k = rw add-one (place-suc im at k)

pub nodes-at : (w : ℕ) (im : List ℕ) (at k j : ℕ) → get_or (nodes_from w im at k) j N.Removed ≡ upto k (node_at w im at) N.Removed j
unfolding nodes_from place_of
nodes-at w im at zero j = rw (le-ltb j 0 (omega arith))
nodes-at w im at (suc k) zero = rw (lt-ltb 0 (suc k) (omega arith))
nodes-at w im at (suc k) (suc j) = nodes-at w im (next_place im at) k j ∙ go (dec_lt j k)
  where
    go : Dec (j < k) → upto k (node_at w im (next_place im at)) N.Removed j ≡ upto (suc k) (node_at w im at) N.Removed (suc j)
    go (yes p) = rw (lt-ltb j k p, lt-ltb (suc j) (suc k) (omega arith))
    go (no p) = rw (le-ltb j k (omega arith), le-ltb (suc j) (suc k) (omega arith))

pub edges_at : (im : List ℕ) (at k j : ℕ) → get_or (edges_from im at k) j E.Removed ≡ upto k (edge_at im at) E.Removed j
unfolding edges_from place_of
edges_at im at zero j = rw (le-ltb j 0 (omega arith))
edges_at im at (suc k) zero = rw (lt-ltb 0 (suc k) (omega arith))
edges_at im at (suc k) (suc j) = edges_at im (next_place im at) k j ∙ go (dec_lt j k)
  where
    go : Dec (j < k) → upto k (edge_at im (next_place im at)) E.Removed j ≡ upto (suc k) (edge_at im at) E.Removed (suc j)
    go (yes p) = rw (lt-ltb j k p, lt-ltb (suc j) (suc k) (omega arith))
    go (no p) = rw (le-ltb j k (omega arith), le-ltb (suc j) (suc k) (omega arith))

pub length-nodes : (w : ℕ) (im : List ℕ) (at k : ℕ) → length (nodes_from w im at k) ≡ k
unfolding nodes_from
length-nodes w im at zero = refl
length-nodes w im at (suc k) = ap suc (length-nodes w im (next_place im at) k)

pub length-edges : (im : List ℕ) (at k : ℕ) → length (edges_from im at k) ≡ k
unfolding edges_from
length-edges im at zero = refl
length-edges im at (suc k) = ap suc (length-edges im (next_place im at) k)

-- an accepted record ends where the next one starts
pub node-place : (w : ℕ) (im : List ℕ) (files n at x : ℕ) → node_record w im files n at ≡ ok x → x ≡ next_place im at
unfolding node_record
node-place w im files n at x e =
    let a = pick_no (is_cut im at) Image.Length _ x e in
    let b = pick_no (ltb 8 (byte_at im (at + 1))) (Image.Record at) _ x a.1 in
    let c = pick_no (not (may_stand (byte_at im (at + 1)) n)) (Image.Record at) _ x b.1 in
    let d = pick_no (not (eqb (byte_at im at) (body_size w (byte_at im (at + 1))))) Image.Length _ x c.1 in
    go (ltb (byte_at im (at + 1)) 3) (fields_fit im files (byte_at im (at + 1)) at (byte_at im at)) d.1
  where
    go : (a b : Bool) → pick a (ok (next_place im at)) (pick b (ok (next_place im at)) (refuse (Image.Record at))) ≡ ok x → x ≡ next_place im at
    go true b q = sym (ok-inj (next_place im at) x q)
    go false true q = sym (ok-inj (next_place im at) x q)
    go false false q = absurd (refuse-ok (Image.Record at) x q)

pub edge-place : (im : List ℕ) (at x : ℕ) → edge_record im at ≡ ok x → x ≡ next_place im at
unfolding edge_record
edge-place im at x e =
    let a = pick_no (is_cut im at) Image.Length _ x e in
    let b = pick_no (ltb 1 (byte_at im (at + 1))) (Image.Record at) _ x a.1 in
    go (eqb (byte_at im at) (byte_at im (at + 1) * 8 + 1)) b.1
  where
    go : (a : Bool) → pick a (ok (next_place im at)) (refuse Image.Length) ≡ ok x → x ≡ next_place im at
    go true q = sym (ok-inj (next_place im at) x q)
    go false q = absurd (refuse-ok Image.Length x q)

-- THE STEPS OF A RUN, for nodes and edges alike
module _ (im : List ℕ) (test : ℕ → ℕ → Answer ImageRefusal ℕ) (from count : ℕ) where
  pub run-start : Run im test from count 0 from
  unfolding place_of
  run-start = record { place = refl; same = ap (scan test 0 from) (let z : count - 0 ≡ count = omega arith in z) }

  module _ {i at : ℕ} (r : Run im test from count i at) where
    pub run-next : {x : ℕ} → i < count → test i at ≡ ok x → x ≡ next_place im at → Run im test from count (i + 1) x
    run-next {x} h e q = record {
      place = q ∙ ap (next_place im) r.place ∙ sym (place-next im from i);
      same = sym (scan-next test count i at x h e) ∙ r.same;
    }

    pub run-refused : (s : ImageRefusal) → i < count → test i at ≡ refuse s → refuse s ≡ scan test 0 from count
    run-refused s h e = sym (scan-refused test count i at s h e) ∙ r.same

    pub run_end : count ≤ i → ok at ≡ scan test 0 from count
    run_end h = sym (scan-end test count i at h) ∙ r.same

none_below : {A : Type 0} (f : ℕ → A) (d : A) (j : ℕ) → d ≡ upto 0 f d j
none_below f d j = rw (le-ltb j 0 (omega arith))

pub no-nodes-put : (w : ℕ) (im l : List ℕ) → NodesPut w im 0 l l
no-nodes-put w im l D k = filled-as l (none_below (node_at w im first_record) N.Removed) (λ e. refl) k

pub nodes-put-more : (w : ℕ) (im : List ℕ) (n : ℕ) {at : ℕ} (l before after : List ℕ) → at ≡ place_of im first_record n → NodesPut w im n l before → NodePut n (node_here w im at) before after → NodesPut w im (n + 1) l after
nodes-put-more w im n l before after p k s D f = s (node_at w im first_record) D (ap (node_here w im) p) (k D f)

pub no-edges-put : (im : List ℕ) (from : ℕ) (l : List ℕ) → EdgesPut im from 0 l l
no-edges-put im from l F k = filled-as l (λ n. refl) (none_below (edge_at im from) E.Removed) k

pub edges-put-more : (im : List ℕ) (from e : ℕ) {at : ℕ} (l before after : List ℕ) → at ≡ place_of im from e → EdgesPut im from e l before → EdgePut e (edge_here im at) before after → EdgesPut im from (e + 1) l after
edges-put-more im from e l before after p k s F f = s F (edge_at im from) (ap (edge_here im) p) (k F f)

-- all records of the image are in the index
pub all-put : (im : List ℕ) {l : List ℕ} → Filled (upto (nodes_of im) (node_at (width_in im) im first_record) N.Removed) (upto (edges_of im) (edge_at im (first_edge im)) E.Removed) l → Held (graph_read im) l
unfolding view_of graph_of
all-put im {l} k = filled-as l (λ n. sym (nodes-at (width_in im) im first_record (nodes_of im) n)) (λ e. sym (edges_at im (first_edge im) (edges_of im) e)) k

pub records-put : (im : List ℕ) {w count from m : ℕ} {l : List ℕ} (before after : List ℕ) → w ≡ width_in im → count ≡ nodes_of im → from ≡ place_of im first_record count → m ≡ edges_of im
    → Fresh l → NodesPut w im count l before → EdgesPut im from m before after → Held (graph_read im) after
records-put im {count = count} {from = from} {m = m} {l = l} before after v c f e h n' d =
    let n : NodesPut (width_in im) im count l before = subst (λ (k : ℕ). NodesPut k im count l before) v n' in
    let p : from ≡ first_edge im = f ∙ ap (place_of im first_record) c in
    all-put im (subst (λ (k : ℕ). Filled (upto (nodes_of im) (node_at (width_in im) im first_record) N.Removed) (upto k (edge_at im (first_edge im)) E.Removed) after) e
    (subst (λ (k : ℕ). Filled (upto (nodes_of im) (node_at (width_in im) im first_record) N.Removed) (upto m (edge_at im k) E.Removed) after) p
    (subst (λ (k : ℕ). Filled (upto k (node_at (width_in im) im first_record) N.Removed) (upto m (edge_at im from) E.Removed) after) c (d _ (n _ (cleared l h))))))
