-- What a database holds in which files and the alias set were replaced, without limits and unrefused.
-- Document 01, "Partial paths", last paragraph: the premise of demand 3 on databases; document 02, order 5.
use Rattle.std.specs.Prelude.{ℕ, ◌<◌, ◌≡◌, ◌⊎◌, Bool, None}
use Rattle.std.proofs.Math.Path.{refl, ap}
use Rattle.std.proofs.Common.{sym, ◌∙◌, subst, inl, inr, true≢false}
use Rattle.std.proofs.Math.Logic.{⊎_elim}
use Rattle.std.proofs.Math.Bool.{true, false}
use mathlib.Core.List.Memᴰ
use mathlib.Core.List.{List, ◌∷◌, ◌++◌, map, Memᴰ}
use Rattle.std.proofs.Math.Dec.{eqb}
use Rattle.semantics.specs.Lists.Laws.{eqb-true, eqb_same, map-mem, mem-map}
use Rattle.semantics.specs.Limits.{Bounds, nobody}
use Rattle.semantics.specs.Graph.{Graph, view_of}
use Rattle.semantics.specs.Enumeration.{State}
use Rattle.semantics.specs.PartialPaths.{Route, Slot, slot, clear, slot_of, replaced}
use Rattle.semantics.proofs.Theorems.PartialPaths.Laws.{clear-from, clear-keeps, same_mem, same_back}
use Rattle.semantics.specs.Demand.{file_owners, all_owners, Partial, Built, given, after, closed, NoAliases, Holds}
use Rattle.semantics.proofs.Theorems.Demand.Aliases.{file-to-all, all-to-file, computed-known, computed-sound, computed-whole}
use Rattle.semantics.specs.Acceptance.{accepts}
use Rattle.semantics.specs.Hidden.{sees_owner}
use Rattle.semantics.proofs.Theorems.Hidden.Holds.{HoldsVisible, file-visible}

-- a slot of the alias set that stands after a replacement of a file stood before it
pub kept-aliases : (f s t : ℕ) (es : List ℕ) (db : List Slot) (u : State Route) → (nobody ≡ f → ⊥) → Memᴰ (slot nobody s t es) (replaced f db u) → Memᴰ (slot nobody s t es) db
unfolding replaced
kept-aliases f s t es db u n m = ⊎_elim (λ i. (clear-from f nobody s t es db i).0) is-new (Memᴰ.append_cases (clear f db) m)
  where
    is-new : Memᴰ (slot nobody s t es) (map (slot_of f) u.kept) → Memᴰ (slot nobody s t es) db
    is-new i =
        let x = mem-map (slot_of f) (slot nobody s t es) u.kept i in
        let e : slot nobody s t es ≡ slot f x.0.start x.0.current x.0.edges = x.2 in
        absurd (n (owner-is nobody f s x.0.start t x.0.current es x.0.edges e))
      where
        owner-is : (a b s s' t t' : ℕ) (es es' : List ℕ) → slot a s t es ≡ slot b s' t' es' → a ≡ b
        owner-is a b s s' t t' es es' e = cc

module _ (bd : Bounds) (g : Graph) (good : accepts g ≡ true) where
  abbrev Found-in : ℕ → ℕ → ℕ → List ℕ → Type 0
  Found-in f s t es = Partial bd None (view_of g) (all_owners g) f (record { start = s; current = t; edges = es })

  -- every slot names a file of the graph or nobody, and one of an owner that was replaced is a partial path of it
  built-only : {db : List Slot} {done : List ℕ} → Built bd g db done → (f s t : ℕ) (es : List ℕ) → Memᴰ (slot f s t es) db → (all_owners g).Known f × (Memᴰ f done → Found-in f s t es)
  unfolding replaced
  built-only (given h) f s t es m = (h f s t es m, λ i. absurd (Memᴰ.not-nil i))
  built-only (after {db = db} {done = done} f' u b h) f s t es m = ⊎_elim (older (λ i. built-only b f s t es i)) is-new (Memᴰ.append_cases (clear f' db) m)
    where
      older : (Memᴰ (slot f s t es) db → (all_owners g).Known f × (Memᴰ f done → Found-in f s t es)) → Memᴰ (slot f s t es) (clear f' db) → (all_owners g).Known f × (Memᴰ f (f' ∷ done) → Found-in f s t es)
      older ih i =
          let r = clear-from f' f s t es db i in
          let y = ih r.0 in
          (y.0, λ j. ⊎_elim (λ (q : f ≡ f'). absurd (true≢false (sym (eqb_same f) ∙ ap (eqb f) q ∙ r.1))) (λ q. y.1 q) (Memᴰ.cases_cons j))

      is-new : Memᴰ (slot f s t es) (map (slot_of f') u.kept) → (all_owners g).Known f × (Memᴰ f (f' ∷ done) → Found-in f s t es)
      is-new i =
          let x = mem-map (slot_of f') (slot f s t es) u.kept i in
          let e : slot f s t es ≡ slot f' x.0.start x.0.current x.0.edges = x.2 in
          let p = computed-sound g good bd h x.0 x.1 in
          let ff : f ≡ f' = cc in
          let ss : s ≡ x.0.start = cc in
          let t₁ : t ≡ x.0.current = cc in
          let ee : es ≡ x.0.edges = cc in
          let r : record { start = s; current = t; edges = es } ≡ x.0 = λ j. record { start = ss j; current = t₁ j; edges = ee j } in
          (subst (all_owners g).Known (sym ff) (computed-known g good bd h), λ j. rw (ff, r) p)
  built-only (closed b e) f s t es m = built-only b f s t es (same_back e f s t es m)

  built-every : {db : List Slot} {done : List ℕ} → Built bd g db done → (f : ℕ) (r : Route) → Memᴰ f done → Partial bd None (view_of g) (all_owners g) f r → Memᴰ (slot f r.start r.current r.edges) db
  unfolding replaced
  built-every (given h) f r m p = absurd (Memᴰ.not-nil m)
  built-every (after {db = db} {done = done} f' u b h) f r m p = by-owner (eqb f f') refl (λ i. built-every b f r i p)
    where
      by-owner : (x : Bool) → eqb f f' ≡ x → (Memᴰ f done → Memᴰ (slot f r.start r.current r.edges) db) → Memᴰ (slot f r.start r.current r.edges) (clear f' db ++ map (slot_of f') u.kept)
      by-owner true e ih =
          let z = eqb-true f f' e in
          Memᴰ.append_right (clear f' db) (rw z (map-mem (slot_of f') r u.kept (computed-whole g good bd h r (rw z at p))))
      by-owner false e ih = Memᴰ.append_left (map (slot_of f') u.kept) (clear-keeps f' f r.start r.current r.edges db e (ih (older (Memᴰ.cases_cons m))))
        where
          older : (f ≡ f') ⊎ Memᴰ f done → Memᴰ f done
          older (inl q) = absurd (true≢false (sym (eqb_same f) ∙ ap (eqb f) q ∙ e))
          older (inr q) = q
  built-every (closed b e) f r m p = same_mem e f r.start r.current r.edges (built-every b f r m p)

  module _ (db : List Slot) (done : List ℕ) (b : Built bd g db done) (all : (f : ℕ) → f < g.files → Memᴰ f done) where
    -- every file was replaced, and no slot is of the alias set
    pub built-holds : NoAliases db → Holds (file_owners g) bd (view_of g) db
    built-holds none = record {
      every = λ f r l p. built-every b f r (all f l) (file-to-all g good bd None f r l p);
      only = λ f s t es m. let y = built-only b f s t es m in ⊎_elim (λ (l : f < g.files). (l, all-to-file g good bd None f (record { start = s; current = t; edges = es }) l (y.1 (all f l))))
          (λ (z : f ≡ nobody). absurd (none s t es (subst (λ x. Memᴰ (slot x s t es) db) z m))) y.0;
    }

    -- every file and the alias set were replaced
    pub built-holds-all : Memᴰ nobody done → Holds (all_owners g) bd (view_of g) db
    built-holds-all set = record { every = λ f r l p. built-every b f r (owner f l) p; only = λ f s t es m. let y = built-only b f s t es m in (y.0, y.1 (owner f y.0)) }
      where
        owner : (f : ℕ) → (all_owners g).Known f → Memᴰ f done
        owner f (inl l) = all f l
        owner f (inr z) = subst (λ x. Memᴰ x done) (sym z) set

  -- with only some files visible: every visible one was replaced, and the slots of hidden files may hold anything
  module _ (see : ℕ → Bool) (db : List Slot) (done : List ℕ) (b : Built bd g db done) (all : (f : ℕ) → f < g.files → see f ≡ true → Memᴰ f done) where
    pub built-visible : NoAliases db → HoldsVisible see g (file_owners g) bd db
    built-visible none = record {
      every = λ f r l visible p. built-every b f r (all f l (file-visible see g good f l visible)) (file-to-all g good bd None f r l p);
      only = λ f s t es visible m. let y = built-only b f s t es m in ⊎_elim (λ (l : f < g.files). (l, all-to-file g good bd None f (record { start = s; current = t; edges = es }) l (y.1 (all f l (file-visible see g good f l visible)))))
          (λ (z : f ≡ nobody). absurd (none s t es (subst (λ x. Memᴰ (slot x s t es) db) z m))) y.0;
    }

    pub built-visible-all : Memᴰ nobody done → HoldsVisible see g (all_owners g) bd db
    built-visible-all set = record {
      every = λ f r l visible p. built-every b f r (owner f l visible) p;
      only = λ f s t es visible m. let y = built-only b f s t es m in (y.0, y.1 (owner f y.0 visible));
    }
      where
        owner : (f : ℕ) → (all_owners g).Known f → sees_owner see f ≡ true → Memᴰ f done
        owner f (inl l) visible = all f l (file-visible see g good f l visible)
        owner f (inr z) visible = subst (λ x. Memᴰ x done) (sym z) set
