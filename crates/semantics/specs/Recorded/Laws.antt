-- Copies dropped: every path's list is left, nothing is new, and no list stands twice.
-- Serves demand 3: "a recorded set is the edge lists in the used result slots, none twice".
use Rattle.std.specs.Prelude.{ℕ, suc, ◌+◌, ◌≤◌, ◌≡◌, refl, ◌⊎◌, Bool, true, false, length}
use Rattle.std.proofs.Common.{arith, sym, ◌∙◌, ap, inl, inr, ⊎_elim, true≢false, length-append}
use Rattle.std.proofs.lemmas.Bool.{false≢true}
use mathlib.Core.List.Memᴰ
use mathlib.Core.List.{List, [], ◌∷◌, ◌++◌, Memᴰ}
use Rattle.semantics.specs.Lists.{or, same}
use Rattle.semantics.specs.Lists.Laws.{or-false, same-eq, same_refl}
use Rattle.semantics.specs.Path.{Path, shadows}
use Rattle.semantics.specs.Enumeration.{State}
use Rattle.semantics.specs.Recorded.{edge_lists, has_path, add_unless, distinct, beaten, cons_unless, unbeaten, recorded, returned}
use Rattle.semantics.specs.Demand.{Once}

has-list : (p : Path) (ps : List Path) → has_path p ps ≡ true → Memᴰ p.edges (edge_lists ps)
unfolding has_path
has-list p [] e = absurd (false≢true e)
has-list p (q ∷ qs) e = on1 (same p.edges q.edges) refl e (λ k. has-list p qs k)
  where
    on1 : (b : Bool) → same p.edges q.edges ≡ b → or b (has_path p qs) ≡ true → (has_path p qs ≡ true → Memᴰ p.edges (edge_lists qs)) → Memᴰ p.edges (edge_lists (q ∷ qs))
    on1 true f k ih = Memᴰ.head (same-eq p.edges q.edges f)
    on1 false f k ih = Memᴰ.tail (ih k)

has-not : (p : Path) (ps : List Path) → has_path p ps ≡ false → Memᴰ p.edges (edge_lists ps) → ⊥
unfolding has_path
has-not p [] e m = Memᴰ.not-nil m
has-not p (q ∷ qs) e m =
    let k = or-false (same p.edges q.edges) (has_path p qs) e in
    ⊎_elim (λ (f : p.edges ≡ q.edges). true≢false (sym (same_refl p.edges) ∙ ap (same p.edges) f ∙ k.0)) (λ n. has-not p qs k.1 n) (Memᴰ.cases_cons m)

lists-snoc : (ps : List Path) (p : Path) → edge_lists (ps ++ (p ∷ [])) ≡ edge_lists ps ++ (p.edges ∷ [])
lists-snoc [] p = refl
lists-snoc (q ∷ ps) p = ap (λ (y : List (List ℕ)). q.edges ∷ y) (lists-snoc ps p)

once-snoc : (ls : List (List ℕ)) (l : List ℕ) → Once ls → (Memᴰ l ls → ⊥) → Once (ls ++ (l ∷ []))
once-snoc [] l o n = (Memᴰ.not-nil, tt)
once-snoc (x ∷ ls) l o n = (
  (λ m. ⊎_elim o.0 (λ k. ⊎_elim (λ (e : x ≡ l). n (Memᴰ.head (sym e))) Memᴰ.not-nil (Memᴰ.cases_cons k)) (Memᴰ.append_cases ls m)),
  once-snoc ls l o.1 (λ m. n (Memᴰ.tail m)),
)

pub record Deduped (seen ps out : List Path) : Type 0 where
  pub old : (p : Path) → Memᴰ p out → Memᴰ p seen ⊎ Memᴰ p ps
  pub keeps : (l : List ℕ) → Memᴰ l (edge_lists seen) → Memᴰ l (edge_lists out)
  pub all : (p : Path) → Memᴰ p ps → Memᴰ p.edges (edge_lists out)
  pub once : Once (edge_lists seen) → Once (edge_lists out)

pub distinct-is : (ps seen : List Path) → Deduped seen ps (distinct seen ps)
unfolding distinct
distinct-is [] seen = record { old = λ p m. inl m; keeps = λ l m. m; all = λ p m. absurd (Memᴰ.not-nil m); once = λ o. o }
distinct-is (p ∷ ps) seen = on1 (has_path p seen) refl (λ s. distinct-is ps s)
  where
    on1 : (b : Bool) → has_path p seen ≡ b → ((s : List Path) → Deduped s ps (distinct s ps)) → Deduped seen (p ∷ ps) (distinct (add_unless b seen p) ps)
    on1 true e ih = let d = ih seen in record {
      old = λ q m. ⊎_elim inl (λ n. inr (Memᴰ.tail n)) (d.old q m);
      keeps = d.keeps;
      all = λ q m. ⊎_elim (λ (f : q ≡ p). d.keeps q.edges (rw f (has-list p seen e))) (λ n. d.all q n) (Memᴰ.cases_cons m);
      once = d.once;
    }
    on1 false e ih = let d = ih (seen ++ (p ∷ [])) in record {
      old = λ q m. ⊎_elim (λ n. ⊎_elim inl (λ k. inr (⊎_elim Memᴰ.head (λ x. absurd (Memᴰ.not-nil x)) (Memᴰ.cases_cons k))) (Memᴰ.append_cases seen n)) (λ n. inr (Memᴰ.tail n)) (d.old q m);
      keeps = λ l m. d.keeps l (rw (lists-snoc seen p) (Memᴰ.append_left (p.edges ∷ []) m));
      all = λ q m. ⊎_elim (λ (f : q ≡ p). d.keeps q.edges (rw (lists-snoc seen p) (Memᴰ.append_right (edge_lists seen) (Memᴰ.head (ap (λ (x : Path). x.edges) f))))) (λ n. d.all q n) (Memᴰ.cases_cons m);
      once = λ o. d.once (rw (lists-snoc seen p) (once-snoc (edge_lists seen) p.edges o (has-not p seen e)));
    }

pub mem-lists : (l : List ℕ) (ps : List Path) → Memᴰ l (edge_lists ps) → (p : Path) × Memᴰ p ps × (l ≡ p.edges)
mem-lists l [] m = absurd (Memᴰ.not-nil m)
mem-lists l (p ∷ ps) m = ⊎_elim (λ e. (p, Memᴰ.head refl, e)) (λ k. let h = mem-lists l ps k in (h.0, Memᴰ.tail h.1, h.2)) (Memᴰ.cases_cons m)

-- no more are left than there were
pub distinct-shorter : (ps seen : List Path) → length (distinct seen ps) ≤ length seen + length ps
unfolding distinct
distinct-shorter [] seen = omega arith
distinct-shorter (p ∷ ps) seen = on (has_path p seen) (λ s. distinct-shorter ps s)
  where
    on : (b : Bool) → ((s : List Path) → length (distinct s ps) ≤ length s + length ps) → length (distinct (add_unless b seen p) ps) ≤ length seen + suc (length ps)
    on true ih = omega (arith, ih seen)
    on false ih = omega (arith, ih (seen ++ (p ∷ [])), length-append seen (p ∷ []))

unbeaten-shorter : (beats : Path → Path → Bool) (all ps : List Path) → length (unbeaten beats all ps) ≤ length ps
unfolding unbeaten cons_unless
unbeaten-shorter beats all [] = omega arith
unbeaten-shorter beats all (p ∷ ps) = on (beaten beats p all) (unbeaten-shorter beats all ps)
  where
    on : (b : Bool) → length (unbeaten beats all ps) ≤ length ps → length (cons_unless b p (unbeaten beats all ps)) ≤ suc (length ps)
    on true h = omega (arith, h)
    on false h = omega (arith, h)

pub recorded-shorter : (u : State Path) → length (recorded u) ≤ length u.kept
unfolding recorded
recorded-shorter u = omega (arith, distinct-shorter u.kept [])

pub returned-shorter : (u : State Path) → length (returned u) ≤ length u.kept
unfolding returned
returned-shorter u = omega (arith, unbeaten-shorter shadows (recorded u) (recorded u), recorded-shorter u)
