-- A path without a rival is shadowed by none; the words of the nodes serve while slots are marked.
-- Document 01, "Path": `shadows`.
use Rattle.std.specs.Prelude.{ℕ, suc, ◌+◌, ◌-◌, ◌*◌, ◌<◌, Bool, not, ltb, ℤ}
use Rattle.std.proofs.Common.{mul-suc, mul-le-mul_left, ◌∙◌}
use native.Mathlib.Omega.{arith}
use Rattle.std.proofs.Math.Path.{◌≡◌, refl, sym, ap, subst}
use Rattle.std.proofs.Math.Bool.{true, false, true≢false}
use mathlib.Core.List.{List, [], ◌∷◌}
use borrow.Author.Tests.{ltb-true, ltb-false, eqb-true}
use Rattle.std.proofs.Math.Dec.{eqb}
use Rattle.std.specs.Int.Signed.{lt_z}
use Rattle.std.proofs.Math.ListN.{length, get_or}
use Rattle.semantics.specs.declared.graph.NodeId.{NodeId}
use Rattle.semantics.specs.declared.graph.Edge.{Edge}
use Rattle.semantics.specs.declared.graph.Edge.TheVariants as E
use Rattle.semantics.specs.Lists.{or, and, same, pick}
use Rattle.storage.specs.Index.{edge_row}
use Rattle.std.specs.Prelude.{Some, None}
use Rattle.path.specs.Shadows.{Met, alike, meet, after, shadows_edges}
use Rattle.reply.specs.Beatable.{exceeds, AsGreat}
use Rattle.reply.specs.EdgeLists.{beaten_list}
use Rattle.reply.specs.ResultSlots.{count_of, edges_at, lists_at, AllFitting, Held}
use Rattle.reply.specs.ResultSlots.Laws.{edges-length, edges_word, length-lists, lists_at_lem, held_fits, held-edges}
use Rattle.reply.specs.Rivals.{Place, Reached, Best, Inside, Unrivalled, UnrivalledFrom, SlotUnrivalled}
use Rattle.reply.specs.Rivals.Noting.{removed-live, same_source, same-precedence, slots_apart, place_in}

-- ---- the answer for one edge and for those of a slot

module _ (index ws best : List ℕ) where
  pub unrivalled-removed : (y : ℕ) → edge_row index y ≡ E.Removed → Unrivalled index ws best y
  unrivalled-removed y e s t q f = absurd (removed-live s t q (sym e ∙ f))

  pub unrivalled-live : (y : ℕ) (s t : NodeId) (q : ℤ) → edge_row index y ≡ E.Live s t q → s.0 < length best → (0 < get_or best s.0 0 → exceeds q (edge_row index (get_or ws (get_or best s.0 0) 0)) ≡ false) → Unrivalled index ws best y
  unrivalled-live y s t q e h x a c p f =
      let u : s.0 ≡ a.0 = same_source s t a c q p (sym e ∙ f) in
      let v : q ≡ p = same-precedence s t a c q p (sym e ∙ f) in
      subst (λ (n : ℕ). (n < length best) × (0 < get_or best n 0 → exceeds p (edge_row index (get_or ws (get_or best n 0) 0)) ≡ false)) u
      (h, λ z. ap (λ (w : ℤ). exceeds w (edge_row index (get_or ws (get_or best s.0 0) 0))) (sym v) ∙ x z)

  pub unrivalled-more : (from at : ℕ) → UnrivalledFrom index ws best from at → Unrivalled index ws best (get_or ws at 0) → UnrivalledFrom index ws best from (at + 1)
  unrivalled-more from at u r p h l = on (ltb p at) refl
    where
      on : (c : Bool) → ltb p at ≡ c → Unrivalled index ws best (get_or ws p 0)
      on true e = u p h (ltb-true p at e)
      on false e = let q : at ≡ p = omega (arith, l, ltb-false p at e) in subst (λ (x : ℕ). Unrivalled index ws best (get_or ws x 0)) q r

  pub best-inside : (L bound : ℕ) → 0 < bound → Best L index ws bound best → Inside bound best
  best-inside L bound h b n = on (ltb 0 (get_or best n 0)) refl
    where
      on : (c : Bool) → ltb 0 (get_or best n 0) ≡ c → get_or best n 0 < bound
      on true e = (b.place n (ltb-true 0 (get_or best n 0) e)).1
      on false e = omega (arith, ltb-false 0 (get_or best n 0) e)

  pub best-within : (L n i : ℕ) → AllFitting L n ws → i < n → Best L index ws (L * n) best → Inside (length ws) best
  best-within L n i all h b m =
      let k : suc (n - 1) ≡ n = omega (arith, h) in
      let e : L * n ≡ L * (n - 1) + L = ap (λ (x : ℕ). L * x) (sym k) ∙ mul-suc L (n - 1) in
      let f = all (n - 1) (omega (arith, h)) in
      omega (arith, e, f.inside, best-inside L (L * n) (omega (arith, e, f.fits)) b m)

-- ---- a path without a rival

alike-no : (a b : Bool) → ◌≡◌ {A = Met} (alike a b) (Some true) → ⊥
alike-no true true e = let z : ◌≡◌ {A = ℕ} 0 1 = cc in omega arith
alike-no true false e = let z : ◌≡◌ {A = ℕ} 0 1 = cc in omega arith
alike-no false true e = let z : ◌≡◌ {A = ℕ} 0 1 = cc in omega arith
alike-no false false e = let z : ◌≡◌ {A = ℕ} 0 1 = cc in omega arith

module _ (index ws best : List ℕ) where
  -- an edge that was looked at does not beat one without a rival
  unbeatable : (x y : ℕ) (e f : Edge) → edge_row index x ≡ e → edge_row index y ≡ f → Reached index ws best x → Unrivalled index ws best y → meet e f ≡ Some true → ⊥
  unfolding meet
  unbeatable x y E.Removed f i j o u m = let z : ◌≡◌ {A = ℕ} 0 1 = cc in omega arith
  unbeatable x y (E.Live s t p) E.Removed i j o u m = let z : ◌≡◌ {A = ℕ} 0 1 = cc in omega arith
  unbeatable x y (E.Live s t p) (E.Live a b q) i j o u m = on (eqb s.0 a.0) (lt_z q p) refl refl m
    where
      on : (c d : Bool) → eqb s.0 a.0 ≡ c → lt_z q p ≡ d → pick c (pick d (Some true) (alike (eqb t.0 1) (eqb b.0 1))) (Some false) ≡ Some true → ⊥
      on true true g k n =
          let v : s.0 ≡ a.0 = eqb-true s.0 a.0 g in
          let w = u a b q j in
          let r = o s t p i (omega (arith, v, w.0)) in
          let z = subst (λ (l : ℕ). (0 < get_or best l 0) × AsGreat index (get_or ws (get_or best l 0) 0) x) v r in
          true≢false (sym k ∙ sym (ap (exceeds q) i) ∙ z.1 q (w.1 z.0))
      on true false g k n = alike-no (eqb t.0 1) (eqb b.0 1) n
      on false d g k n = let z : ◌≡◌ {A = ℕ} 0 1 = cc in omega arith

  abbrev AllReached : List ℕ → Type 0
  AllReached l = (t : ℕ) → t < length l → Reached index ws best (get_or l t 0)

  abbrev AllUnrivalled : List ℕ → Type 0
  AllUnrivalled r = (t : ℕ) → t < length r → Unrivalled index ws best (get_or r t 0)

  unshadowed : (l r : List ℕ) → AllReached l → AllUnrivalled r → shadows_edges (edge_row index) l r ≡ false
  unfolding shadows_edges
  unshadowed [] r o u = refl
  unshadowed (x ∷ l) [] o u = refl
  unshadowed (x ∷ l) (y ∷ r) o u = on (meet (edge_row index x) (edge_row index y)) refl (unshadowed l r (λ (t : ℕ) (h : t < length l). o (suc t) (omega (arith, h))) (λ (t : ℕ) (h : t < length r). u (suc t) (omega (arith, h))))
    where
      on : (m : Met) → meet (edge_row index x) (edge_row index y) ≡ m → shadows_edges (edge_row index) l r ≡ false → after m (shadows_edges (edge_row index) l r) ≡ false
      on (Some true) e i = absurd (unbeatable x y (edge_row index x) (edge_row index y) refl refl (o 0 (omega arith)) (u 0 (omega arith)) e)
      on (Some false) e i = refl
      on None e i = i

  unbeaten : (r : List ℕ) (ms : List (List ℕ)) → ((j : ℕ) → j < length ms → AllReached (get_or ms j [])) → AllUnrivalled r → beaten_list (shadows_edges (edge_row index)) r ms ≡ false
  unfolding beaten_list
  unbeaten r [] o u = refl
  unbeaten r (m ∷ ms) o u = rw (unshadowed m r (o 0 (omega arith)) u, unbeaten r ms (λ (j : ℕ) (h : j < length ms). o (suc j) (omega (arith, h))) u) (on (not (same r m)))
    where
      on : (b : Bool) → or (and b false) false ≡ false
      on true = refl
      on false = refl

-- all edges of the n slots were looked at, and those of slot i have no rival
pub never-beaten : (L : ℕ) (index ws best : List ℕ) (n i : ℕ) → AllFitting L n ws → i < n → Best L index ws (L * n) best → SlotUnrivalled L index ws best i
    → beaten_list (shadows_edges (edge_row index)) (edges_at L i ws) (lists_at L n ws) ≡ false
never-beaten L index ws best n i all h b u = unbeaten index ws best (edges_at L i ws) (lists_at L n ws) each alone
  where
    part : (j : ℕ) → j < n → (t : ℕ) → t < length (edges_at L j ws) → Reached index ws best (get_or (edges_at L j ws) t 0)
    part j l t z =
        let f = all j l in
        let s : t < count_of L (get_or ws (L * j) 0) = omega (arith, z, edges-length L j ws f) in
        subst (Reached index ws best) (sym (edges_word L j ws f t s))
        (b.great (L * j + 1 + t) (place_in L ws j (L * j + 1 + t) f (omega arith) (omega (arith, s))) (omega (arith, s, slots_apart L j n l, f.fits)))

    each : (j : ℕ) → j < length (lists_at L n ws) → (t : ℕ) → t < length (get_or (lists_at L n ws) j []) → Reached index ws best (get_or (get_or (lists_at L n ws) j []) t 0)
    each j l =
        let m : j < n = omega (arith, l, length-lists L n ws) in
        subst (λ (x : List ℕ). (t : ℕ) → t < length x → Reached index ws best (get_or x t 0)) (sym (lists_at_lem L n j ws m)) (part j m)

    alone : (t : ℕ) → t < length (edges_at L i ws) → Unrivalled index ws best (get_or (edges_at L i ws) t 0)
    alone t z =
        let f = all i h in
        let s : t < count_of L (get_or ws (L * i) 0) = omega (arith, z, edges-length L i ws f) in
        subst (Unrivalled index ws best) (sym (edges_word L i ws f t s)) (u (L * i + 1 + t) (omega arith) (omega (arith, s)))

-- ---- the words of the nodes serve for the same lists with other marks

module _ (L n : ℕ) (mark mark' : ℕ → Bool) (ls : List (List ℕ)) (ws ws' : List ℕ) (e : length ls ≡ n) (k : Held L mark ls ws) (k' : Held L mark' ls ws') where
  listed : (p : ℕ) (j : Place L ws p) → p < L * n → j.slot < length ls
  listed p j h = on (ltb j.slot n) refl
    where
      on : (b : Bool) → ltb j.slot n ≡ b → j.slot < length ls
      on true f = omega (arith, e, ltb-true j.slot n f)
      on false f = absurd (omega (arith, h, mul-le-mul_left L (ltb-false j.slot n f), j.here))

  count_same : (i : ℕ) → i < length ls → count_of L (get_or ws (L * i) 0) ≡ count_of L (get_or ws' (L * i) 0)
  count_same i h =
      sym (edges-length L i ws (held_fits L mark ls ws k i h))
      ∙ ap length (held-edges L mark ls ws k i h ∙ sym (held-edges L mark' ls ws' k' i h))
      ∙ edges-length L i ws' (held_fits L mark' ls ws' k' i h)

  place_same : (p : ℕ) → Place L ws p → p < L * n → Place L ws' p
  place_same p j h =
      let l = listed p j h in
      record { slot = j.slot; at = j.at; fitting = held_fits L mark' ls ws' k' j.slot l; among = subst (λ (x : ℕ). j.at < x) (count_same j.slot l) j.among; here = j.here }

  edge_same : (p : ℕ) → Place L ws p → p < L * n → get_or ws p 0 ≡ get_or ws' p 0
  unfolding place_same
  edge_same p j h =
      let l = listed p j h in
      let i = j.slot in
      ap (λ (x : ℕ). get_or ws x 0) j.here
      ∙ sym (edges_word L i ws (held_fits L mark ls ws k i l) j.at j.among)
      ∙ ap (λ (x : List ℕ). get_or x j.at 0) (held-edges L mark ls ws k i l ∙ sym (held-edges L mark' ls ws' k' i l))
      ∙ edges_word L i ws' (held_fits L mark' ls ws' k' i l) j.at (place_same p j h).among
      ∙ ap (λ (x : ℕ). get_or ws' x 0) (sym j.here)

module _ (L : ℕ) (index best : List ℕ) (n : ℕ) (mark mark' : ℕ → Bool) (ls : List (List ℕ)) (ws ws' : List ℕ) (e : length ls ≡ n) (k : Held L mark ls ws) (k' : Held L mark' ls ws')
    (b : Best L index ws (L * n) best) where
  pub best-same : Best L index ws' (L * n) best
  best-same = record { place = λ m h. (place_same L n mark mark' ls ws ws' e k k' (get_or best m 0) (b.place m h).0 (b.place m h).1, (b.place m h).1); great = great }
    where
      great : (p : ℕ) → Place L ws' p → p < L * n → Reached index ws' best (get_or ws' p 0)
      great p j h s t q f l =
          let was = place_same L n mark' mark ls ws' ws e k' k p j h in
          let same = edge_same L n mark mark' ls ws ws' e k k' in
          let r = b.great p was h s t q (ap (edge_row index) (same p was h) ∙ f) l in
          let w = b.place s.0 r.0 in
          (r.0, subst (λ (x : ℕ). AsGreat index x (get_or ws' p 0)) (same (get_or best s.0 0) w.0 w.1) (subst (AsGreat index (get_or ws (get_or best s.0 0) 0)) (same p was h) r.1))
