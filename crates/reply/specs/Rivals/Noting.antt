-- The words of the nodes are filled edge by edge, slot by slot.
-- Document 01, "Path": "Left precedence greater: yes."
use Rattle.std.specs.Prelude.{ℕ, zero, suc, ◌+◌, ◌-◌, ◌*◌, ◌≤◌, ◌<◌, ◌≡◌, refl, Bool, true, false, List, eqb, ltb, ℤ, length, get_or, set, replicate}
use Rattle.std.proofs.Common.{not-suc-le-zero, mul-suc, mul-le-mul_left, arith, sym, ap, ◌∙◌, subst, inl, inr, ⊎_elim, ltb-true, ltb-false, eqb-true, length-set, get_or-set_same, get_or-set_other}
use Rattle.std.proofs.lemmas.Bool.{eqb-false}
use Rattle.semantics.specs.declared.graph.NodeId.{NodeId}
use Rattle.semantics.specs.declared.graph.Edge.{Edge}
use Rattle.semantics.specs.declared.graph.Edge.TheVariants as E
use Rattle.storage.specs.Index.{edge_row}
use Rattle.reply.specs.Beatable.{exceeds, AsGreat}
use Rattle.reply.specs.Beatable.Laws.{removed-below, exceeding-above, unexceeded-above}
use Rattle.reply.specs.ResultSlots.{count_of, Fitting}
use Rattle.reply.specs.Rivals.{Place, Reached, Best, Greater}

-- ---- the greater edge of two places

module _ (index ws : List ℕ) (known at : ℕ) where
  pub greater-first : known < 1 → Greater index ws known at at
  greater-first h = record { one = inl refl; new = λ p f. f; old = λ (k : 0 < known). absurd (omega (arith, h, k)) }

  pub greater-removed : edge_row index (get_or ws known 0) ≡ E.Removed → Greater index ws known at at
  greater-removed e = record { one = inl refl; new = λ p f. f; old = λ k. removed-below index (get_or ws at 0) (get_or ws known 0) e }

  module _ (s t : NodeId) (q : ℤ) (e : edge_row index (get_or ws known 0) ≡ E.Live s t q) where
    pub greater-new : exceeds q (edge_row index (get_or ws at 0)) ≡ true → Greater index ws known at at
    greater-new h = record { one = inl refl; new = λ p f. f; old = λ k. exceeding-above index (get_or ws known 0) (get_or ws at 0) s t q e h }

    pub greater-old : 0 < known → exceeds q (edge_row index (get_or ws at 0)) ≡ false → Greater index ws known at known
    greater-old k h = record { one = inr (refl, k); new = unexceeded-above index (get_or ws known 0) (get_or ws at 0) s t q e h; old = λ j p f. f }

-- ---- an edge is looked at

pub removed-live : (s t : NodeId) (q : ℤ) → E.Removed ≡ E.Live s t q → ⊥
removed-live s t q e = let z : ◌≡◌ {A = ℕ} 0 1 = cc in omega arith

pub same_source : (s t a b : NodeId) (q r : ℤ) → E.Live s t q ≡ E.Live a b r → s.0 ≡ a.0
same_source s t a b q r e = cc

pub same-precedence : (s t a b : NodeId) (q r : ℤ) → E.Live s t q ≡ E.Live a b r → q ≡ r
same-precedence s t a b q r e = cc

module _ (L : ℕ) (index ws best : List ℕ) (at : ℕ) (k : Place L ws at) (b : Best L index ws at best) where
  abbrev edge : Edge
  edge = edge_row index (get_or ws at 0)

  note-kept : Reached index ws best (get_or ws at 0) → Best L index ws (at + 1) best
  note-kept r = record { place = λ n h. ((b.place n h).0, omega (arith, (b.place n h).1)); great = λ p j h. on p j (ltb p at) refl h }
    where
      on : (p : ℕ) → Place L ws p → (c : Bool) → ltb p at ≡ c → p < at + 1 → Reached index ws best (get_or ws p 0)
      on p j true e h = b.great p j (ltb-true p at e)
      on p j false e h = let q : at ≡ p = omega (arith, h, ltb-false p at e) in subst (λ (x : ℕ). Reached index ws best (get_or ws x 0)) q r

  pub note-removed : edge ≡ E.Removed → Best L index ws (at + 1) best
  note-removed e = note-kept (λ s t q f l. absurd (removed-live s t q (sym e ∙ f)))

  module _ (s t : NodeId) (q : ℤ) (e : edge ≡ E.Live s t q) where
    pub note-wordless : length best ≤ s.0 → Best L index ws (at + 1) best
    note-wordless h = note-kept (λ (a c : NodeId) (r : ℤ) (f : edge ≡ E.Live a c r) (l : a.0 < length best). absurd (omega (arith, h, l, same_source s t a c q r (sym e ∙ f))))

    module _ (r : ℕ) (h : s.0 < length best) (g : Greater index ws (get_or best s.0 0) at r) where
      abbrev more : List ℕ
      more = set best s.0 r

      abbrev known : ℕ
      known = get_or best s.0 0

      own : get_or more s.0 0 ≡ r
      own = get_or-set_same best s.0 r 0 h

      other : (n : ℕ) → eqb n s.0 ≡ false → get_or more n 0 ≡ get_or best n 0
      other n f = get_or-set_other best s.0 n r 0 (eqb-false n s.0 f)

      found : Place L ws r × (r < at + 1)
      found = ⊎_elim (λ (u : r ≡ at). (subst (Place L ws) (sym u) k, omega arith)) old g.one
        where
          old : (r ≡ known) × (0 < known) → Place L ws r × (r < at + 1)
          old u = (subst (Place L ws) (sym u.0) (b.place s.0 u.1).0, omega (arith, u.0, (b.place s.0 u.1).1))

      some : 0 < r
      some = omega (arith, found.0.here)

      place-more : (n : ℕ) (c : Bool) → eqb n s.0 ≡ c → 0 < get_or more n 0 → Place L ws (get_or more n 0) × (get_or more n 0 < at + 1)
      place-more n true f = rw (eqb-true n s.0 f, own) (λ (z : 0 < r). found)
      place-more n false f = rw (other n f) (λ (z : 0 < get_or best n 0). ((b.place n z).0, omega (arith, (b.place n z).1)))

      -- an edge that was reached still is
      still : (x : ℕ) → Reached index ws best x → Reached index ws more x
      still x o a c p f l = on (eqb a.0 s.0) refl
        where
          was : (0 < get_or best a.0 0) × AsGreat index (get_or ws (get_or best a.0 0) 0) x
          was = o a c p f (subst (λ (n : ℕ). a.0 < n) (length-set best s.0 r) l)

          on : (d : Bool) → eqb a.0 s.0 ≡ d → (0 < get_or more a.0 0) × AsGreat index (get_or ws (get_or more a.0 0) 0) x
          on true z =
              let u : a.0 ≡ s.0 = eqb-true a.0 s.0 z in
              let v = subst (λ (n : ℕ). (0 < get_or best n 0) × AsGreat index (get_or ws (get_or best n 0) 0) x) u was in
              rw (u, own) (some, λ y w. v.1 y (g.old v.0 y w))
          on false z = rw (other a.0 z) was

      reached : Reached index ws more (get_or ws at 0)
      reached a c p f l = let u : a.0 ≡ s.0 = same_source a c s t p q (sym f ∙ e) in rw (u, own) (some, g.new)

      pub note-word : Best L index ws (at + 1) more
      note-word = record { place = λ n. place-more n (eqb n s.0) refl; great = λ p j l. on p j (ltb p at) refl l }
        where
          on : (p : ℕ) → Place L ws p → (c : Bool) → ltb p at ≡ c → p < at + 1 → Reached index ws more (get_or ws p 0)
          on p j true z l = still (get_or ws p 0) (b.great p j (ltb-true p at z))
          on p j false z l = let u : at ≡ p = omega (arith, l, ltb-false p at z) in subst (λ (x : ℕ). Reached index ws more (get_or ws x 0)) u reached

-- ---- the edges of a slot are looked at

-- slots before slot i end where it starts
pub slots_apart : (L j i : ℕ) → j < i → L * j + L ≤ L * i
slots_apart L j i h = omega (arith, mul-suc L j, mul-le-mul_left L h)

pub place_in : (L : ℕ) (ws : List ℕ) (i at : ℕ) → Fitting L i ws → L * i + 1 ≤ at → at < L * i + 1 + count_of L (get_or ws (L * i) 0) → Place L ws at
place_in L ws i at f h l = record { slot = i; at = at - (L * i + 1); fitting = f; among = omega arith; here = omega arith }

-- nothing was looked at
pub best_none : (L : ℕ) (index ws : List ℕ) (n : ℕ) → Best L index ws 0 (replicate n 0)
best_none L index ws n = record { place = λ (k : ℕ) (h : 0 < get_or (replicate n 0) k 0). absurd (omega (arith, h, blank n k)); great = λ p j h. absurd (not-suc-le-zero h) }
  where
    blank : (n k : ℕ) → get_or (replicate {A = ℕ} n 0) k 0 ≡ 0
    blank zero k = refl
    blank (suc n) zero = refl
    blank (suc n) (suc k) = blank n k

module _ (L : ℕ) (index ws best : List ℕ) where
  -- a count is no edge
  pub slot-start : (i : ℕ) → Best L index ws (L * i) best → Best L index ws (L * i + 1) best
  slot-start i b = record {
    place = λ n h. ((b.place n h).0, omega (arith, (b.place n h).1));
    great = λ p j h. on p j (ltb j.slot i) refl h;
  }
    where
      on : (p : ℕ) (j : Place L ws p) (c : Bool) → ltb j.slot i ≡ c → p < L * i + 1 → Reached index ws best (get_or ws p 0)
      on p j true e h = b.great p j (omega (arith, slots_apart L j.slot i (ltb-true j.slot i e), j.here, j.among, j.fitting.fits))
      on p j false e h = absurd (omega (arith, h, mul-le-mul_left L (ltb-false j.slot i e), j.here))

  -- behind the last edge of a slot there is none in it
  pub slot-end : (i at : ℕ) → L * i + 1 + count_of L (get_or ws (L * i) 0) ≤ at → at ≤ L * i + L → Best L index ws at best → Best L index ws (L * i + L) best
  slot-end i at h l b = record { place = λ n z. ((b.place n z).0, omega (arith, l, (b.place n z).1)); great = λ p j z. on p j (eqb j.slot i) refl z }
    where
      on : (p : ℕ) (j : Place L ws p) (c : Bool) → eqb j.slot i ≡ c → p < L * i + L → Reached index ws best (get_or ws p 0)
      on p j true e z =
          let u : j.slot ≡ i = eqb-true j.slot i e in
          let w : L * j.slot ≡ L * i = ap (λ (n : ℕ). L * n) u in
          let v : j.at < count_of L (get_or ws (L * i) 0) = subst (λ (n : ℕ). j.at < count_of L (get_or ws (L * n) 0)) u j.among in
          b.great p j (omega (arith, h, w, v, j.here))
      on p j false e z = b.great p j (omega (arith, h, slots_apart L j.slot i (less (ltb j.slot i) refl), j.here, j.among, j.fitting.fits))
        where
          less : (d : Bool) → ltb j.slot i ≡ d → j.slot < i
          less true f = ltb-true j.slot i f
          less false f = absurd (eqb-false j.slot i e (later (ltb i j.slot) refl))
            where
              later : (d : Bool) → ltb i j.slot ≡ d → j.slot ≡ i
              later true g = absurd (omega (arith, slots_apart L i j.slot (ltb-true i j.slot g), z, j.here))
              later false g = omega (arith, ltb-false j.slot i f, ltb-false i j.slot g)
