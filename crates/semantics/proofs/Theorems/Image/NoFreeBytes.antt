-- An accepted image is its version and its graph, written: no byte of it is free. For any symbol width.
-- Document 02, order 3: each rewrite undoes the other byte for byte.
use Prim.Native.Nat.{ℕ, zero, suc, ◌+◌, ◌*◌, ◌≤◌, ◌<◌}
use Rattle.std.proofs.Common.{arith, zero-add, suc-add, ◌∙◌, true≢false, ltb→lt, lt→ltb, take-append-drop, drop-drop}
use Rattle.std.specs.Prelude.{◌≡◌, Bool, not, eqb, leb, take}
use Rattle.std.proofs.Math.Path.{refl, sym, ap, ap₂, subst}
use Rattle.std.proofs.Math.Bool.{true, false}
use Rattle.std.proofs.lemmas.Bool.{false≢true}
use mathlib.Core.List.{List, [], ◌∷◌, ◌++◌, append_assoc, append-nil}
use Rattle.std.proofs.Math.Dec.{ltb}
use Rattle.std.proofs.Math.ListN.{length, length-drop, drop}
use Rattle.semantics.specs.declared.graph.Node.{Node}
use Rattle.semantics.specs.declared.graph.Node.TheVariants as N
use Rattle.semantics.specs.declared.graph.Edge.TheVariants as E
use Rattle.semantics.specs.declared.refusal.ImageRefusal.TheVariants as Image
use Rattle.semantics.specs.Lists.{pick}
use Rattle.semantics.specs.Lists.Laws.{T→eq, eqb-true, eq→T, bool_false}
use Rattle.semantics.specs.Answer.{ok, refuse}
use Rattle.semantics.specs.Answer.Laws.{ok-inj, and_then-ok}
use Rattle.semantics.specs.Bytes.{byte_at, short, long, wide, signed}
use Rattle.semantics.specs.Bytes.Written.{be, room, unsigned, AllBytes, be-wide, be-short, be-long, unsigned_signed, wide_room, signed-fits}
use Rattle.semantics.specs.Graph.{node_id, file_id, Graph}
use Rattle.semantics.specs.Image.{is_cut, may_stand, body_size, fields_fit, next_place, flag_at, node_in, edge_in, node_record, edge_record, scan, nodes_from, edges_from, place_of, graph_of, references, header, most_bytes, files_of, nodes_of, edges_of, check_with, check_image}
use Rattle.semantics.proofs.Theorems.Image.Laws.{pick_no, pick_yes, not-false, ltb-le, leb-lt, and_both, node-record, length-nodes, length-edges, image-accepted}
use Rattle.semantics.specs.Image.Encoding.{bit, encode_node, encode_edge, encode_nodes, encode_edges, encode_records, encode_image, symbol_fits, symbols_fit, precedence_fits, precedences_fit, Writable}

-- BYTES FROM A PLACE ON
drop-byte : (at : ℕ) (im : List ℕ) → at < length im → drop at im ≡ byte_at im at ∷ drop (at + 1) im
drop-byte at [] h = absurd (omega (arith, h))
drop-byte zero (x ∷ im) h = ap (λ (k : ℕ). x ∷ drop k (x ∷ im)) (sym (zero-add 1))
drop-byte (suc at) (x ∷ im) h = drop-byte at im (omega (arith, h)) ∙ ap (λ (k : ℕ). byte_at im at ∷ drop k (x ∷ im)) (sym (suc-add at 1))

drop-part : (m at : ℕ) (im : List ℕ) → drop at im ≡ take m (drop at im) ++ drop (at + m) im
drop-part m at im = sym (take-append-drop m (drop at im)) ∙ ap (λ (l : List ℕ). take m (drop at im) ++ l) (drop-drop m at im)

flag-bit : (b : ℕ) → b < 2 → bit (eqb b 1) ≡ b
flag-bit zero h = refl
flag-bit (suc zero) h = refl
flag-bit (suc (suc b)) h = absurd (omega (arith, h))

-- the two bytes of a number, the w bytes of a symbol, and a flag, from a place on
module _ (im : List ℕ) (b : AllBytes im) where
  two_from : (at : ℕ) → at + 2 ≤ length im → drop at im ≡ be 2 (short im at) ++ drop (at + 2) im
  two_from at h = drop-part 2 at im ∙ ap (λ (l : List ℕ). l ++ drop (at + 2) im) (sym (be-short im at b h))

  wide_from : (w at : ℕ) → at + w ≤ length im → drop at im ≡ be w (wide w im at) ++ drop (at + w) im
  wide_from w at h = drop-part w at im ∙ ap (λ (l : List ℕ). l ++ drop (at + w) im) (sym (be-wide w im at b h))

  flag-from : (at : ℕ) → at < length im → byte_at im at < 2 → drop at im ≡ bit (flag_at im at) ∷ drop (at + 1) im
  unfolding flag_at
  flag-from at h f = drop-byte at im h ∙ ap (λ (x : ℕ). x ∷ drop (at + 1) im) (sym (flag-bit (byte_at im at) f))

  head-from : (at count kind : ℕ) → at + 1 < length im → byte_at im at ≡ count → byte_at im (at + 1) ≡ kind → drop at im ≡ count ∷ kind ∷ drop (at + 2) im
  head-from at count kind h c k =
      let e : at + 1 + 1 ≡ at + 2 = omega arith in
      drop-byte at im (omega (arith, h)) ∙ ap₂ (λ (x : ℕ) (l : List ℕ). x ∷ l) c (drop-byte (at + 1) im h ∙ ap₂ (λ (x : ℕ) (l : List ℕ). x ∷ l) k (ap (λ (i : ℕ). drop i im) e))

  -- kinds 4, 5 and 7
  symbol-from : (w at count kind : ℕ) → at + (4 + w) < length im → byte_at im at ≡ count → byte_at im (at + 1) ≡ kind → byte_at im (at + 4 + w) < 2
      → drop at im ≡ (count ∷ kind ∷ (be 2 (short im (at + 2)) ++ (be w (wide w im (at + 4)) ++ (bit (flag_at im (at + 4 + w)) ∷ [])))) ++ drop (at + (4 + w) + 1) im
  symbol-from w at count kind h c k f =
      let e₁ : at + 2 + 2 ≡ at + 4 = omega arith in
      let e₂ : at + 4 + w + 1 ≡ at + (4 + w) + 1 = omega arith in
      let rest : List ℕ = drop (at + (4 + w) + 1) im in
      let flag : List ℕ = bit (flag_at im (at + 4 + w)) ∷ [] in
      let x = be 2 (short im (at + 2)) in
      let y = be w (wide w im (at + 4)) in
      let last : drop (at + 4 + w) im ≡ flag ++ rest = flag-from (at + 4 + w) (omega (arith, h)) f ∙ ap (λ (i : ℕ). bit (flag_at im (at + 4 + w)) ∷ drop i im) e₂ in
      let sym-part : drop (at + 4) im ≡ (y ++ flag) ++ rest = wide_from w (at + 4) (omega (arith, h)) ∙ ap (λ (l : List ℕ). y ++ l) last ∙ sym (append_assoc y flag rest) in
      let body : drop (at + 2) im ≡ (x ++ (y ++ flag)) ++ rest = two_from (at + 2) (omega (arith, h)) ∙ ap (λ (i : ℕ). x ++ drop i im) e₁ ∙ ap (λ (l : List ℕ). x ++ l) sym-part ∙ sym (append_assoc x (y ++ flag) rest) in
      head-from at count kind (omega (arith, h)) c k ∙ ap (λ (l : List ℕ). count ∷ kind ∷ l) body

  -- kind 6
  scoped-from : (w at count kind : ℕ) → at + (6 + w) < length im → byte_at im at ≡ count → byte_at im (at + 1) ≡ kind → byte_at im (at + 6 + w) < 2
      → drop at im ≡ (count ∷ kind ∷ (be 2 (short im (at + 2)) ++ (be w (wide w im (at + 4)) ++ (be 2 (short im (at + 4 + w)) ++ (bit (flag_at im (at + 6 + w)) ∷ []))))) ++ drop (at + (6 + w) + 1) im
  scoped-from w at count kind h c k f =
      let e₁ : at + 2 + 2 ≡ at + 4 = omega arith in
      let e₂ : at + 4 + w + 2 ≡ at + 6 + w = omega arith in
      let e₃ : at + 6 + w + 1 ≡ at + (6 + w) + 1 = omega arith in
      let rest : List ℕ = drop (at + (6 + w) + 1) im in
      let flag : List ℕ = bit (flag_at im (at + 6 + w)) ∷ [] in
      let x = be 2 (short im (at + 2)) in
      let y = be w (wide w im (at + 4)) in
      let z = be 2 (short im (at + 4 + w)) in
      let last : drop (at + 6 + w) im ≡ flag ++ rest = flag-from (at + 6 + w) (omega (arith, h)) f ∙ ap (λ (i : ℕ). bit (flag_at im (at + 6 + w)) ∷ drop i im) e₃ in
      let scope-part : drop (at + 4 + w) im ≡ (z ++ flag) ++ rest = two_from (at + 4 + w) (omega (arith, h)) ∙ ap (λ (i : ℕ). z ++ drop i im) e₂ ∙ ap (λ (l : List ℕ). z ++ l) last ∙ sym (append_assoc z flag rest) in
      let sym-part : drop (at + 4) im ≡ (y ++ (z ++ flag)) ++ rest = wide_from w (at + 4) (omega (arith, h)) ∙ ap (λ (l : List ℕ). y ++ l) scope-part ∙ sym (append_assoc y (z ++ flag) rest) in
      let body : drop (at + 2) im ≡ (x ++ (y ++ (z ++ flag))) ++ rest = two_from (at + 2) (omega (arith, h)) ∙ ap (λ (i : ℕ). x ++ drop i im) e₁ ∙ ap (λ (l : List ℕ). x ++ l) sym-part ∙ sym (append_assoc x (y ++ (z ++ flag)) rest) in
      head-from at count kind (omega (arith, h)) c k ∙ ap (λ (l : List ℕ). count ∷ kind ∷ l) body

  -- kinds 0 to 2, 8 and 3
  bare-from : (at kind : ℕ) → at + 1 < length im → byte_at im at ≡ 1 → byte_at im (at + 1) ≡ kind → drop at im ≡ (1 ∷ kind ∷ []) ++ drop (at + 1 + 1) im
  bare-from at kind h c k = let e : at + 2 ≡ at + 1 + 1 = omega arith in head-from at 1 kind h c k ∙ ap (λ (i : ℕ). 1 ∷ kind ∷ drop i im) e

  drop-from : (at : ℕ) → at + 3 < length im → byte_at im at ≡ 3 → byte_at im (at + 1) ≡ 8 → drop at im ≡ (3 ∷ 8 ∷ be 2 (short im (at + 2))) ++ drop (at + 3 + 1) im
  drop-from at h c k = let e : at + 2 + 2 ≡ at + 3 + 1 = omega arith in head-from at 3 8 (omega (arith, h)) c k ∙ ap (λ (l : List ℕ). 3 ∷ 8 ∷ l) (two_from (at + 2) (omega (arith, h)) ∙ ap (λ (i : ℕ). be 2 (short im (at + 2)) ++ drop i im) e)

  scope-from : (at : ℕ) → at + 4 < length im → byte_at im at ≡ 4 → byte_at im (at + 1) ≡ 3 → byte_at im (at + 4) < 2 → drop at im ≡ (4 ∷ 3 ∷ (be 2 (short im (at + 2)) ++ (bit (flag_at im (at + 4)) ∷ []))) ++ drop (at + 4 + 1) im
  scope-from at h c k f =
      let e₁ : at + 2 + 2 ≡ at + 4 = omega arith in
      let x = be 2 (short im (at + 2)) in
      let flag : List ℕ = bit (flag_at im (at + 4)) ∷ [] in
      let rest : List ℕ = drop (at + 4 + 1) im in
      head-from at 4 3 (omega (arith, h)) c k ∙ ap (λ (l : List ℕ). 4 ∷ 3 ∷ l) (two_from (at + 2) (omega (arith, h)) ∙ ap (λ (i : ℕ). x ++ drop i im) e₁ ∙ ap (λ (l : List ℕ). x ++ l) (flag-from (at + 4) h f) ∙ sym (append_assoc x flag rest))

  -- A RECORD THAT IS NOT REFUSED is the encoding of the node that it holds
  by_kind : (w at kind : ℕ) → kind ≤ 8 → byte_at im (at + 1) ≡ kind → byte_at im at ≡ body_size w kind → at + body_size w kind < length im → (3 ≤ kind → kind < 8 → byte_at im (at + body_size w kind) < 2)
      → drop at im ≡ encode_node w (node_in w im at kind) ++ drop (at + body_size w kind + 1) im
  unfolding body_size node_in encode_node
  by_kind w at zero l k c h f = bare-from at 0 h c k
  by_kind w at (suc zero) l k c h f = bare-from at 1 h c k
  by_kind w at (suc (suc zero)) l k c h f = bare-from at 2 h c k
  by_kind w at (suc (suc (suc zero))) l k c h f = scope-from at h c k (f (omega arith) (omega arith))
  by_kind w at (suc (suc (suc (suc zero)))) l k c h f = symbol-from w at (4 + w) 4 h c k (subst (λ (i : ℕ). byte_at im i < 2) (omega arith) (f (omega arith) (omega arith)))
  by_kind w at (suc (suc (suc (suc (suc zero))))) l k c h f = symbol-from w at (4 + w) 5 h c k (subst (λ (i : ℕ). byte_at im i < 2) (omega arith) (f (omega arith) (omega arith)))
  by_kind w at (suc (suc (suc (suc (suc (suc zero)))))) l k c h f = scoped-from w at (6 + w) 6 h c k (subst (λ (i : ℕ). byte_at im i < 2) (omega arith) (f (omega arith) (omega arith)))
  by_kind w at (suc (suc (suc (suc (suc (suc (suc zero))))))) l k c h f = symbol-from w at (4 + w) 7 h c k (subst (λ (i : ℕ). byte_at im i < 2) (omega arith) (f (omega arith) (omega arith)))
  by_kind w at (suc (suc (suc (suc (suc (suc (suc (suc zero)))))))) l k c h f = drop-from at h c k
  by_kind w at (suc (suc (suc (suc (suc (suc (suc (suc (suc n))))))))) l k c h f = absurd (omega (arith, l))

cut-inv : (x y z : Bool) → pick x true (pick y true z) ≡ false → z ≡ false
cut-inv true y z e = absurd (true≢false e)
cut-inv false true z e = absurd (true≢false e)
cut-inv false false z e = e

fits-inv : (x y z : Bool) → y ≡ false → pick x false (pick y true z) ≡ true → z ≡ true
fits-inv true y z h e = absurd (false≢true e)
fits-inv false true z h e = absurd (true≢false h)
fits-inv false false z h e = e

-- ALL NODE RECORDS, from a place on
module _ (im : List ℕ) (b : AllBytes im) (w files : ℕ) where
  record-bytes : (n at next : ℕ) → node_record w im files n at ≡ ok next → drop at im ≡ encode_node w (node_in w im at (byte_at im (at + 1))) ++ drop (next_place im at) im
  unfolding node_record is_cut fields_fit
  record-bytes n at next e =
      let a = pick_no (is_cut im at) Image.Length _ next e in
      let x = pick_no (ltb 8 (byte_at im (at + 1))) (Image.Record at) _ next a.1 in
      let c = pick_no (not (may_stand (byte_at im (at + 1)) n)) (Image.Record at) _ next x.1 in
      let d = pick_no (not (eqb (byte_at im at) (body_size w (byte_at im (at + 1))))) Image.Length _ next c.1 in
      let s : byte_at im at ≡ body_size w (byte_at im (at + 1)) = eqb-true (byte_at im at) (body_size w (byte_at im (at + 1))) (not-false _ d.0) in
      let o : at + byte_at im at < length im = whole-cut a.0 in
      by_kind im b w at (byte_at im (at + 1)) (ltb-le 8 (byte_at im (at + 1)) x.0) refl s (omega (arith, o, s)) (flagged d.1 s)
      ∙ ap (λ (i : ℕ). encode_node w (node_in w im at (byte_at im (at + 1))) ++ drop (at + i + 1) im) (sym s)
    where
      whole-cut : is_cut im at ≡ false → at + byte_at im at < length im
      whole-cut h = leb-lt (length im) (at + byte_at im at) (cut-inv (leb (length im) at) (eqb (byte_at im at) 0) (leb (length im) (at + byte_at im at)) h)

      flagged : pick (ltb (byte_at im (at + 1)) 3) (ok (next_place im at)) (pick (fields_fit im files (byte_at im (at + 1)) at (byte_at im at)) (ok (next_place im at)) (refuse (Image.Record at))) ≡ ok next
          → byte_at im at ≡ body_size w (byte_at im (at + 1)) → 3 ≤ byte_at im (at + 1) → byte_at im (at + 1) < 8 → byte_at im (at + body_size w (byte_at im (at + 1))) < 2
      flagged h s low high = subst (λ (i : ℕ). byte_at im (at + i) < 2) s (on (ltb (byte_at im (at + 1)) 3) refl h)
        where
          not_eight : eqb (byte_at im (at + 1)) 8 ≡ false
          not_eight = bool_false (eqb (byte_at im (at + 1)) 8) (λ q. let z : byte_at im (at + 1) ≡ 8 = eqb-true (byte_at im (at + 1)) 8 q in omega (arith, z, high))

          on : (x : Bool) → ltb (byte_at im (at + 1)) 3 ≡ x → pick x (ok (next_place im at)) (pick (fields_fit im files (byte_at im (at + 1)) at (byte_at im at)) (ok (next_place im at)) (refuse (Image.Record at))) ≡ ok next → byte_at im (at + byte_at im at) < 2
          on true q j = let z = ltb→lt (byte_at im (at + 1)) 3 (eq→T _ q) in absurd (omega (arith, z, low))
          on false q j = let y = pick_yes (fields_fit im files (byte_at im (at + 1)) at (byte_at im at)) (Image.Record at) (ok (next_place im at)) next j in ltb→lt (byte_at im (at + byte_at im at)) 2 (eq→T _ (fits-inv (leb files (short im (at + 2))) (eqb (byte_at im (at + 1)) 8) (ltb (byte_at im (at + byte_at im at)) 2) not_eight (unfold fields_fit in y.0)))

  nodes-bytes : (k i at end : ℕ) → scan (node_record w im files) i at k ≡ ok end → drop at im ≡ encode_nodes w (nodes_from w im at k) ++ drop end im
  unfolding scan nodes_from encode_nodes
  nodes-bytes zero i at end h = ap (λ (x : ℕ). drop x im) (ok-inj at end h)
  nodes-bytes (suc k) i at end h =
      let a = and_then-ok (node_record w im files i at) (λ y. scan (node_record w im files) (suc i) y k) end h in
      let r = node-record w im files i at a.0 a.1 in
      let ih = nodes-bytes k (suc i) (next_place im at) end (subst (λ y. scan (node_record w im files) (suc i) y k ≡ ok end) r.1 a.2) in
      record-bytes i at a.0 a.1 ∙ ap (λ (l : List ℕ). encode_node w (node_in w im at (byte_at im (at + 1))) ++ l) ih
      ∙ sym (append_assoc (encode_node w (node_in w im at (byte_at im (at + 1)))) (encode_nodes w (nodes_from w im (next_place im at) k)) (drop end im))

-- EDGE RECORDS
module _ (im : List ℕ) (b : AllBytes im) where
  long-room : (at : ℕ) → long im at < 4294967296
  long-room at = omega (arith, b at, b (at + 1), b (at + 2), b (at + 2 + 1))

  live-from : (at : ℕ) → at + 9 < length im → byte_at im at ≡ 9 → byte_at im (at + 1) ≡ 1
      → drop at im ≡ (9 ∷ 1 ∷ (be 2 (short im (at + 2)) ++ (be 2 (short im (at + 4)) ++ be 4 (unsigned (signed (long im (at + 6))))))) ++ drop (at + 9 + 1) im
  live-from at h c k =
      let e₁ : at + 2 + 2 ≡ at + 4 = omega arith in
      let e₂ : at + 4 + 2 ≡ at + 6 = omega arith in
      let e₃ : at + 6 + 4 ≡ at + 9 + 1 = omega arith in
      let rest : List ℕ = drop (at + 9 + 1) im in
      let x = be 2 (short im (at + 2)) in
      let y = be 2 (short im (at + 4)) in
      let z = be 4 (unsigned (signed (long im (at + 6)))) in
      let last : drop (at + 6) im ≡ z ++ rest =
      drop-part 4 (at + 6) im ∙ ap₂ (λ (l : List ℕ) (i : ℕ). l ++ drop i im) (sym (be-long im (at + 6) b (omega (arith, h))) ∙ ap (be 4) (sym (unsigned_signed (long im (at + 6)) (long-room (at + 6))))) e₃ in
      let target : drop (at + 4) im ≡ (y ++ z) ++ rest = two_from im b (at + 4) (omega (arith, h)) ∙ ap (λ (i : ℕ). y ++ drop i im) e₂ ∙ ap (λ (l : List ℕ). y ++ l) last ∙ sym (append_assoc y z rest) in
      let body : drop (at + 2) im ≡ (x ++ (y ++ z)) ++ rest = two_from im b (at + 2) (omega (arith, h)) ∙ ap (λ (i : ℕ). x ++ drop i im) e₁ ∙ ap (λ (l : List ℕ). x ++ l) target ∙ sym (append_assoc x (y ++ z) rest) in
      head-from im b at 9 1 (omega (arith, h)) c k ∙ ap (λ (l : List ℕ). 9 ∷ 1 ∷ l) body

  edge-by-kind : (at kind : ℕ) → kind ≤ 1 → byte_at im (at + 1) ≡ kind → byte_at im at ≡ kind * 8 + 1 → at + (kind * 8 + 1) < length im
      → drop at im ≡ encode_edge (edge_in im at kind) ++ drop (at + (kind * 8 + 1) + 1) im
  unfolding edge_in encode_edge
  edge-by-kind at zero l k c h = bare-from im b at 0 h c k
  edge-by-kind at (suc zero) l k c h = live-from at h c k
  edge-by-kind at (suc (suc n)) l k c h = absurd (omega (arith, l))

  edge-bytes : (at next : ℕ) → edge_record im at ≡ ok next → (next ≡ next_place im at) × (drop at im ≡ encode_edge (edge_in im at (byte_at im (at + 1))) ++ drop (next_place im at) im)
  unfolding edge_record is_cut
  edge-bytes at next e =
      let a = pick_no (is_cut im at) Image.Length _ next e in
      let x = pick_no (ltb 1 (byte_at im (at + 1))) (Image.Record at) _ next a.1 in
      let c = pick_yes (eqb (byte_at im at) (byte_at im (at + 1) * 8 + 1)) Image.Length (ok (next_place im at)) next x.1 in
      let s : byte_at im at ≡ byte_at im (at + 1) * 8 + 1 = eqb-true (byte_at im at) (byte_at im (at + 1) * 8 + 1) c.0 in
      let o : at + byte_at im at < length im = leb-lt (length im) (at + byte_at im at) (cut-inv (leb (length im) at) (eqb (byte_at im at) 0) (leb (length im) (at + byte_at im at)) a.0) in (
        sym (ok-inj (next_place im at) next c.1),
        edge-by-kind at (byte_at im (at + 1)) (ltb-le 1 (byte_at im (at + 1)) x.0) refl s (omega (arith, o, s))
            ∙ ap (λ (i : ℕ). encode_edge (edge_in im at (byte_at im (at + 1))) ++ drop (at + i + 1) im) (sym s),
      )

  edges-bytes : (k i at end : ℕ) → scan (λ e. edge_record im) i at k ≡ ok end → drop at im ≡ encode_edges (edges_from im at k) ++ drop end im
  unfolding scan edges_from encode_edges
  edges-bytes zero i at end h = ap (λ (x : ℕ). drop x im) (ok-inj at end h)
  edges-bytes (suc k) i at end h =
      let a = and_then-ok (edge_record im at) (λ y. scan (λ e. edge_record im) (suc i) y k) end h in
      let r = edge-bytes at a.0 a.1 in
      let ih = edges-bytes k (suc i) (next_place im at) end (subst (λ y. scan (λ e. edge_record im) (suc i) y k ≡ ok end) r.0 a.2) in
      r.1 ∙ ap (λ (l : List ℕ). encode_edge (edge_in im at (byte_at im (at + 1))) ++ l) ih
      ∙ sym (append_assoc (encode_edge (edge_in im at (byte_at im (at + 1)))) (encode_edges (edges_from im (next_place im at) k)) (drop end im))

-- where the scan of the nodes ends, the first edge stands
scan-place : (w : ℕ) (im : List ℕ) (files k i at end : ℕ) → scan (node_record w im files) i at k ≡ ok end → end ≡ place_of im at k
unfolding scan place_of
scan-place w im files zero i at end h = sym (ok-inj at end h)
scan-place w im files (suc k) i at end h =
    let a = and_then-ok (node_record w im files i at) (λ y. scan (node_record w im files) (suc i) y k) end h in
    let r = node-record w im files i at a.0 a.1 in
    scan-place w im files k (suc i) (next_place im at) end (subst (λ y. scan (node_record w im files) (suc i) y k ≡ ok end) r.1 a.2)

-- THE HEADER
pub record Sized (widths : ℕ → ℕ) (im : List ℕ) (first : ℕ) : Type 0 where
  pub first-place : first ≡ 11
  pub enough : 11 ≤ length im
  pub told : long im 1 + 5 ≡ length im
  pub version : eqb (widths (byte_at im 0)) 0 ≡ false
  pub most : length im ≤ most_bytes (byte_at im 0)

sized : (widths : ℕ → ℕ) (im : List ℕ) (first : ℕ) → header widths im ≡ ok first → Sized widths im first
unfolding header
sized widths im first e =
    let a = pick_no (ltb (length im) 11) Image.Length _ first e in
    let b = pick_no (ltb 65536 (length im)) Image.Length _ first a.1 in
    let c = pick_no (not (eqb (long im 1 + 5) (length im))) Image.Length _ first b.1 in
    let v = pick_no (eqb (widths (byte_at im 0)) 0) Image.Version _ first c.1 in
    let d = pick_no (ltb (most_bytes (byte_at im 0)) (length im)) Image.Length _ first v.1 in
    let f = pick_no (ltb 256 (files_of im)) Image.Counts _ first d.1 in
    let n = pick_no (ltb (nodes_of im) 2) Image.Counts _ first f.1 in
    let m = pick_no (ltb 2048 (nodes_of im)) Image.Counts _ first n.1 in
    let k = pick_no (ltb 4096 (edges_of im)) Image.Counts _ first m.1 in
    record { first-place = sym (ok-inj 11 first k.1); enough = ltb-le (length im) 11 a.0; told = eqb-true (long im 1 + 5) (length im) (not-false _ c.0); version = v.0; most = ltb-le (most_bytes (byte_at im 0)) (length im) d.0 }

pub image-sized : (widths : ℕ → ℕ) (im : List ℕ) (g : Graph) → check_image widths im ≡ ok g → Sized widths im 11
unfolding check_image check_with
image-sized widths im g e = let a = and_then-ok (header widths im) _ g e in let s = sized widths im a.0 a.1 in subst (λ (k : ℕ). Sized widths im k) s.first-place s

drop_all : (im : List ℕ) → drop (length im) im ≡ []
drop_all [] = refl
drop_all (x ∷ im) = drop_all im

module _ (im : List ℕ) (b : AllBytes im) where
  header-from : 11 ≤ length im → im ≡ byte_at im 0 ∷ (be 4 (long im 1) ++ (be 2 (short im 5) ++ (be 2 (short im 7) ++ (be 2 (short im 9) ++ drop 11 im))))
  header-from h =
      drop-byte 0 im (omega (arith, h))
      ∙ ap (λ (l : List ℕ). byte_at im 0 ∷ l)
      (drop-part 4 1 im ∙ ap (λ (l : List ℕ). l ++ drop 5 im) (sym (be-long im 1 b (omega (arith, h))))
      ∙ ap (λ (l : List ℕ). be 4 (long im 1) ++ l)
      (two_from im b 5 (omega (arith, h)) ∙ ap (λ (l : List ℕ). be 2 (short im 5) ++ l)
      (two_from im b 7 (omega (arith, h)) ∙ ap (λ (l : List ℕ). be 2 (short im 7) ++ l)
      (two_from im b 9 (omega (arith, h))))))

  with-bytes : (w : ℕ) (widths : ℕ → ℕ) (g : Graph) → check_with w widths im ≡ ok g → im ≡ encode_image (byte_at im 0) w g
  unfolding check_with graph_of encode_image encode_records
  with-bytes w widths g e =
      let a = and_then-ok (header widths im) _ g e in
      let c = and_then-ok (scan (node_record w im (files_of im)) 0 a.0 (nodes_of im)) _ g a.2 in
      let d = and_then-ok (scan (λ x. edge_record im) 0 c.0 (edges_of im)) _ g c.2 in
      let f = pick_yes (eqb d.0 (length im)) Image.Length _ g d.2 in
      let r = and_then-ok (references im (graph_of w im)) (λ x. ok (graph_of w im)) g f.1 in
      let s = sized widths im a.0 a.1 in
      let q : scan (node_record w im (files_of im)) 0 11 (nodes_of im) ≡ ok c.0 = subst (λ y. scan (node_record w im (files_of im)) 0 y (nodes_of im) ≡ ok c.0) s.first-place c.1 in
      let place : c.0 ≡ place_of im 11 (nodes_of im) = scan-place w im (files_of im) (nodes_of im) 0 11 c.0 q in
      let q₂ : scan (λ x. edge_record im) 0 (place_of im 11 (nodes_of im)) (edges_of im) ≡ ok d.0 = subst (λ y. scan (λ x. edge_record im) 0 y (edges_of im) ≡ ok d.0) place d.1 in
      let ns : List ℕ = encode_nodes w (nodes_from w im 11 (nodes_of im)) in
      let es : List ℕ = encode_edges (edges_from im (place_of im 11 (nodes_of im)) (edges_of im)) in
      let ends : drop d.0 im ≡ [] = ap (λ (i : ℕ). drop i im) (eqb-true d.0 (length im) f.0) ∙ drop_all im in
      let edge-part : drop (place_of im 11 (nodes_of im)) im ≡ es = edges-bytes im b (edges_of im) 0 (place_of im 11 (nodes_of im)) d.0 q₂ ∙ ap (λ (l : List ℕ). es ++ l) ends ∙ append-nil es in
      let all : drop 11 im ≡ ns ++ es = nodes-bytes im b w (files_of im) (nodes_of im) 0 11 c.0 q ∙ ap (λ (i : ℕ). ns ++ drop i im) place ∙ ap (λ (l : List ℕ). ns ++ l) edge-part in
      let size : long im 1 ≡ 6 + length (ns ++ es) = omega (arith, ap (λ (l : List ℕ). length l) all, length-drop 11 im, s.told, s.enough) in
      let ln : nodes_of im ≡ length (nodes_from w im 11 (nodes_of im)) = sym (length-nodes w im 11 (nodes_of im)) in
      let le : edges_of im ≡ length (edges_from im (place_of im 11 (nodes_of im)) (edges_of im)) = sym (length-edges im (place_of im 11 (nodes_of im)) (edges_of im)) in
      header-from s.enough
      ∙ ap₂ (λ (x : ℕ) (l : List ℕ). byte_at im 0 ∷ (be 4 x ++ (be 2 (short im 5) ++ (be 2 (short im 7) ++ (be 2 (short im 9) ++ l))))) size all
      ∙ ap₂ (λ (x : ℕ) (y : ℕ). byte_at im 0 ∷ (be 4 (6 + length (ns ++ es)) ++ (be 2 (short im 5) ++ (be 2 x ++ (be 2 y ++ (ns ++ es)))))) ln le
      ∙ ap (λ (y : Graph). encode_image (byte_at im 0) w y) (ok-inj (graph_of w im) g r.2)

-- no byte is free
pub no-free-bytes : (widths : ℕ → ℕ) (im : List ℕ) (g : Graph) → AllBytes im → check_image widths im ≡ ok g → im ≡ encode_image (byte_at im 0) (widths (byte_at im 0)) g
unfolding check_image
no-free-bytes widths im g b e = with-bytes im b (widths (byte_at im 0)) widths g e

-- one version and one graph, one image
pub one-image : (widths : ℕ → ℕ) (im jm : List ℕ) (g : Graph) → AllBytes im → AllBytes jm → check_image widths im ≡ ok g → check_image widths jm ≡ ok g → byte_at im 0 ≡ byte_at jm 0 → im ≡ jm
one-image widths im jm g a b e f v = no-free-bytes widths im g a e ∙ ap (λ (x : ℕ). encode_image x (widths x) g) v ∙ sym (no-free-bytes widths jm g b f)

-- WHAT AN IMAGE HOLDS CAN BE WRITTEN: symbols in its width, precedences in 32 bits
fits-pick : (w : ℕ) (c : Bool) (x y : Node) → symbol_fits w x ≡ true → symbol_fits w y ≡ true → symbol_fits w (pick c x y) ≡ true
fits-pick w true x y a b = a
fits-pick w false x y a b = b

module _ (im : List ℕ) (b : AllBytes im) where
  node-fits : (w at kind : ℕ) → symbol_fits w (node_in w im at kind) ≡ true
  unfolding node_in
  node-fits w at kind =
      fits-pick w (eqb kind 1) N.Root _ refl (fits-pick w (eqb kind 2) N.JumpToScope _ refl (fits-pick w (eqb kind 3) (N.Scope (file_id (short im (at + 2))) (flag_at im (at + 4))) _ refl
      (fits-pick w (eqb kind 4) (N.Push (file_id (short im (at + 2))) (wide w im (at + 4)) (flag_at im (at + 4 + w))) _ s (fits-pick w (eqb kind 5) (N.Pop (file_id (short im (at + 2))) (wide w im (at + 4)) (flag_at im (at + 4 + w))) _ s
      (fits-pick w (eqb kind 6) (N.PushScoped (file_id (short im (at + 2))) (wide w im (at + 4)) (node_id (short im (at + 4 + w))) (flag_at im (at + 6 + w))) _ s
      (fits-pick w (eqb kind 7) (N.PopScoped (file_id (short im (at + 2))) (wide w im (at + 4)) (flag_at im (at + 4 + w))) _ s (fits-pick w (eqb kind 8) (N.DropScopes (file_id (short im (at + 2)))) N.Removed refl refl)))))))
    where
      s : ltb (wide w im (at + 4)) (room w) ≡ true
      s = T→eq _ (lt→ltb (wide w im (at + 4)) (room w) (wide_room w im (at + 4) b))

  nodes-fit : (w k at : ℕ) → symbols_fit w (nodes_from w im at k) ≡ true
  unfolding nodes_from
  nodes-fit w zero at = refl
  nodes-fit w (suc k) at = and_both (symbol_fits w (node_in w im at (byte_at im (at + 1)))) _ (node-fits w at (byte_at im (at + 1))) (nodes-fit w k (next_place im at))

  edge-fits : (at kind : ℕ) → precedence_fits (edge_in im at kind) ≡ true
  unfolding edge_in
  edge-fits at kind = on (eqb kind 1)
    where
      on : (c : Bool) → precedence_fits (pick c (E.Live (node_id (short im (at + 2))) (node_id (short im (at + 4))) (signed (long im (at + 6)))) E.Removed) ≡ true
      on true = signed-fits (long im (at + 6)) (long-room im b (at + 6))
      on false = refl

  edges_fit : (k at : ℕ) → precedences_fit (edges_from im at k) ≡ true
  unfolding edges_from
  edges_fit zero at = refl
  edges_fit (suc k) at = and_both (precedence_fits (edge_in im at (byte_at im (at + 1)))) _ (edge-fits at (byte_at im (at + 1))) (edges_fit k (next_place im at))

with-graph : (w : ℕ) (widths : ℕ → ℕ) (im : List ℕ) (g : Graph) → check_with w widths im ≡ ok g → graph_of w im ≡ g
unfolding check_with
with-graph w widths im g e =
    let a = and_then-ok (header widths im) _ g e in
    let c = and_then-ok (scan (node_record w im (files_of im)) 0 a.0 (nodes_of im)) _ g a.2 in
    let d = and_then-ok (scan (λ x. edge_record im) 0 c.0 (edges_of im)) _ g c.2 in
    let f = pick_yes (eqb d.0 (length im)) Image.Length _ g d.2 in
    let r = and_then-ok (references im (graph_of w im)) (λ x. ok (graph_of w im)) g f.1 in
    ok-inj (graph_of w im) g r.2

-- the graph of an accepted image of bytes can be written in the image's own width
pub image-writable : (widths : ℕ → ℕ) (im : List ℕ) (g : Graph) → AllBytes im → check_image widths im ≡ ok g → Writable (widths (byte_at im 0)) g
unfolding check_image graph_of
image-writable widths im g b e =
    let q = with-graph (widths (byte_at im 0)) widths im g e in
    record {
      accepted = image-accepted widths im g e;
      symbols = subst (λ (y : Graph). symbols_fit (widths (byte_at im 0)) y.nodes ≡ true) q (nodes-fit im b (widths (byte_at im 0)) (nodes_of im) 11);
      precedences = subst (λ (y : Graph). precedences_fit y.edges ≡ true) q (edges_fit im b (edges_of im) (place_of im 11 (nodes_of im)));
    }
