-- Path rules with no bound on the number of edges: where a direct search is not refused and set no path-count flag, they take the same lists.
-- Demand 3 says the same whether "path rules" there include 30 or not.
use Rattle.std.specs.Prelude.{ℕ, suc, ◌≡◌, Bool, length}
use Rattle.std.proofs.Common.{arith, sym, ◌∙◌, subst}
use Rattle.std.proofs.Math.Path.{refl, ap}
use Rattle.std.proofs.Math.Bool.{true, false}
use mathlib.Core.List.{List, [], ◌∷◌, ◌++◌, append_assoc, Memᴰ}
use Rattle.std.proofs.Math.Dec.{ltb}
use Rattle.std.proofs.Math.ListN.{length-append}
use Rattle.semantics.specs.declared.refusal.PathRefusal.{PathRefusal}
use Rattle.semantics.specs.declared.refusal.SearchRefusal.{SearchRefusal}
use Rattle.semantics.specs.declared.refusal.SearchRefusal.TheVariants as Search
use Rattle.semantics.specs.Lists.{has, Distinct}
use Rattle.semantics.specs.Lists.Laws.{distinct-split, map-mem}
use Rattle.semantics.specs.Limits.{Bounds, within, Limit}
use Rattle.semantics.proofs.Theorems.Limits.Laws.{within-le}
use Rattle.semantics.specs.Answer.{Answer, ok, and_then}
use Rattle.semantics.specs.Answer.Laws.{ok-inj, and_then-ok}
use Rattle.semantics.specs.Graph.{View, Lawful}
use Rattle.semantics.specs.Path.{Path, append, append_under, append_all, replay, is_complete, from_reference}
use Rattle.semantics.proofs.Theorems.Path.Laws.{append-ok, append_under-is, begun, replay-of}
use Rattle.semantics.specs.Enumeration.{stop, go, Setting, State, tested}
use Rattle.semantics.specs.Enumeration.Laws.{Reach, itself, reach-then, enumerate-stopless}
use Rattle.semantics.specs.Direct.{judge, tries, direct}
use Rattle.semantics.proofs.Theorems.Direct.Laws.{judge-passed, direct-ok}

-- the edges appended in order, with no bound
unfoldable pub append_each : View → Path → List ℕ → Answer PathRefusal Path
append_each g p [] = ok p
append_each g p (e ∷ es) = and_then (append g p e) (λ q. append_each g q es)

module _ (bd : Bounds) (lim : Limit) (c : Setting SearchRefusal) (g : View) (lawful : Lawful g) (r : ℕ) (u : State Path) (h : direct bd lim c g r ≡ ok u) (n : u.stats.count_limited ≡ false) where
  judge-stop : (p : Path) (e : ℕ) → has e p.edges ≡ false → within (suc (length p.edges)) lim ≡ true → ltb (length p.edges) bd.edges ≡ false → judge Search.TooLong bd lim g p e ≡ stop Search.TooLong
  unfolding judge tested
  judge-stop p e f w l = rw (f, w, l)

  bounded : (p₀ : Path) → from_reference g r ≡ ok p₀ → (es : List ℕ) (p q : Path) → Reach (tries Search.TooLong bd lim g) p₀ p → append_each g p es ≡ ok q → Distinct (p.edges ++ es) → within (length (p.edges ++ es)) lim ≡ true → append_all bd g p es ≡ ok q
  unfolding append_each append_all tries
  bounded p₀ f [] p q l a d w = ap ok (ok-inj p q a)
  bounded p₀ f (e ∷ es) p q l a d w =
      let k = and_then-ok (append g p e) (λ x. append_each g x es) q a in
      let x = append-ok g p k.0 e k.1 in
      let i : Memᴰ e (g.out p.end) = lawful.lists p.end e x.source x.target x.precedence x.found x.leaves in
      let s : within (suc (length p.edges)) lim ≡ true = within-le lim (suc (length p.edges)) (length (p.edges ++ (e ∷ es))) (omega (arith, length-append p.edges (e ∷ es))) w in
      let t : has e p.edges ≡ false = distinct-split p.edges e es d in
      let j : p.edges ++ (e ∷ []) ++ es ≡ p.edges ++ (e ∷ es) = append_assoc p.edges (e ∷ []) es in
      let y : k.0.edges ++ es ≡ p.edges ++ (e ∷ es) = ap (λ z. z ++ es) x.added.edges ∙ j in
      by-room (ltb (length p.edges) bd.edges) refl k.0 k.1 i s t (λ m. bounded p₀ f es k.0 q (reach-then (tries Search.TooLong bd lim g) p₀ p k.0 (is_complete g k.0) l m) k.2 (subst Distinct (sym y) d) (subst (λ z. within (length z) lim ≡ true) (sym y) w))
    where
      by-room : (b : Bool) → ltb (length p.edges) bd.edges ≡ b → (x : Path) → append g p e ≡ ok x → Memᴰ e (g.out p.end) → within (suc (length p.edges)) lim ≡ true → has e p.edges ≡ false
          → (Memᴰ (go (is_complete g x) x) (tries Search.TooLong bd lim g p) → append_all bd g x es ≡ ok q) → and_then (append_under bd g p e) (λ z. append_all bd g z es) ≡ ok q
      by-room true m x ax i s t ih = rw (append_under-is bd g p e m, ax) (ih (subst (λ z. Memᴰ z (tries Search.TooLong bd lim g p)) (judge-passed Search.TooLong bd lim g p x e t s m ax) (map-mem (judge Search.TooLong bd lim g p) e (g.out p.end) i)))
      by-room false m x ax i s t ih =
          let o = direct-ok bd lim c g r u h in
          absurd (enumerate-stopless c (tries Search.TooLong bd lim g) bd.expansions (o.0 ∷ []) u o.2 n p₀ p Search.TooLong (mathlib.Core.List.Memᴰ.head (ok-inj p₀ o.0 (sym f ∙ o.1))) l (subst (λ z. Memᴰ z (tries Search.TooLong bd lim g p)) (judge-stop p e t s m) (map-mem (judge Search.TooLong bd lim g p) e (g.out p.end) i)))

  -- a list that the rules without a bound take is taken under the bound
  pub unbounded : (l : List ℕ) (q : Path) → and_then (from_reference g r) (λ p. append_each g p l) ≡ ok q → Distinct l → within (length l) lim ≡ true → replay bd g r l ≡ ok q
  unbounded l q a d w =
      let k = and_then-ok (from_reference g r) (λ p. append_each g p l) q a in
      let b = begun g r k.0 k.1 in
      let y : k.0.edges ++ l ≡ l = ap (λ z. z ++ l) b.edges in
      replay-of bd g r l k.0 q k.1 (bounded k.0 k.1 l k.0 q (itself refl) k.2 (subst Distinct (sym y) d) (subst (λ z. within (length z) lim ≡ true) (sym y) w))
