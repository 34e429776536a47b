-- The enumeration that keeps every complete item, followed round by round beside one that keeps fewer: what it keeps in a round is as much as the other
-- one counts there. Serves document 02, order 9, where no path is kept.
use Rattle.std.specs.Prelude.{ℕ, ◌+◌, ◌≡◌, Bool, true, false, List, ◌++◌, length, None, Some}
use Rattle.std.proofs.Common.{arith, sym, ◌∙◌, ap, subst, ⊎_elim, true≢false, length-append}
use Rattle.std.proofs.Math.Path.{refl}
use Rattle.semantics.specs.declared.search.SearchOrder.{SearchOrder}
use Rattle.semantics.specs.declared.search.SearchOrder.TheVariants.{BreadthFirst, DepthFirst}
use Rattle.semantics.specs.declared.search.SearchStats.{SearchStats}
use Rattle.semantics.specs.Answer.{Answer, ok, refuse}
use Rattle.semantics.specs.Enumeration.{Try, unlimited, Setting, State, Turn, over, expand, each, merge, turn, run}
use Rattle.semantics.specs.Enumeration.Laws.{news, TurnIs, turn_is, Over, empty, limited}
use Rattle.semantics.specs.Enumeration.Completes.{each_counts, TurnKeeps, turn-keeps}
use Rattle.semantics.specs.Enumeration.Alike.{bare, counting, Full, Beside, bare_turn, turn-beside, merge-bare, each-beside, run-beside, ok-beside, refuse-beside, unlimited-never, none_never}

-- the setting that keeps every complete item
abbrev pub keeping : {R : Type 0} → Setting R → Setting R
keeping c = record { order = c.order; max_count = c.max_count; max_complete = None; waiting = c.waiting; results = unlimited; too_many = c.too_many }

-- a state that has kept every complete item, beside one that has counted them alike
pub record Keeping {W : Type 0} (s t : State W) : Type 0 where
  pub alike : bare s ≡ bare t
  pub unflagged : s.stats.complete_limited ≡ false
  pub counted : s.stats.complete ≡ length s.kept

-- both at the top of the next round
module _ {W : Type 0} (s : State W) where
  merged-stats : (o : SearchOrder) → (merge o s).stats ≡ s.stats
  unfolding merge
  merged-stats BreadthFirst = refl
  merged-stats DepthFirst = refl

  merged-kept : (o : SearchOrder) → (merge o s).kept ≡ s.kept
  unfolding merge
  merged-kept BreadthFirst = refl
  merged-kept DepthFirst = refl

module _ {R W : Type 0} (d : Setting R) (s t : State W) (k : Keeping s t) where
  abbrev mine : Turn W
  mine = turn (keeping d) (merge d.order s)

  abbrev other : Turn W
  other = turn d (merge d.order t)

  merged-alike : bare (merge d.order s) ≡ bare (merge d.order t)
  merged-alike = sym (merge-bare d.order s) ∙ ap (merge d.order) k.alike ∙ merge-bare d.order t

  opened-alike : bare_turn mine ≡ bare_turn other
  opened-alike = sym (turn-beside (keeping d) (merge d.order s)) ∙ ap (turn (counting d)) merged-alike ∙ turn-beside d (merge d.order t)

  -- both are over
  pub over-kept : (y : State W) → other ≡ over y → (x : State W) × (mine ≡ over x) × (x.kept ≡ s.kept)
  over-kept y e = on mine refl (turn_is (keeping d) (merge d.order s))
    where
      kept-over : (x : State W) → Over (merge d.order s) x → x.kept ≡ (merge d.order s).kept
      kept-over x (empty a q) = ap (λ (y : State W). y.kept) (sym q)
      kept-over x (limited a q) = q

      on : (z : Turn W) → mine ≡ z → TurnIs (merge d.order s) z → (x : State W) × (mine ≡ over x) × (x.kept ≡ s.kept)
      on (over x) h i = (x, h, kept-over x i ∙ merged-kept s d.order)
      on (expand w x) h i = absurd (let q : expand w (bare x) ≡ over (bare y) = sym (ap bare_turn h) ∙ opened-alike ∙ ap bare_turn e in let z : ◌≡◌ {A = Bool} true false = cc in true≢false z)

  -- both expand the same item
  opened : (w : W) (y : State W) → other ≡ expand w y → (x : State W) × (mine ≡ expand w x) × Keeping x y × (x.kept ≡ s.kept) × (x.stats.complete ≡ s.stats.complete)
  opened w y e = on mine refl (turn_is (keeping d) (merge d.order s)) (turn-keeps (keeping d) (merge d.order s))
    where
      on : (z : Turn W) → mine ≡ z → TurnIs (merge d.order s) z → TurnKeeps (keeping d) (merge d.order s) z → (x : State W) × (mine ≡ expand w x) × Keeping x y × (x.kept ≡ s.kept) × (x.stats.complete ≡ s.stats.complete)
      on (over x) h i c = absurd (let q : over (bare x) ≡ expand w (bare y) = sym (ap bare_turn h) ∙ opened-alike ∙ ap bare_turn e in let z : ◌≡◌ {A = Bool} true false = cc in true≢false z)
      on (expand v x) h i c =
          let q : expand v (bare x) ≡ expand w (bare y) = sym (ap bare_turn h) ∙ opened-alike ∙ ap bare_turn e in
          let same : v ≡ w = cc in
          let kept : x.kept ≡ s.kept = i.kept ∙ merged-kept s d.order in
          let flag : x.stats.complete_limited ≡ false = i.flag ∙ ap (λ (y : SearchStats). y.complete_limited) (merged-stats s d.order) ∙ k.unflagged in
          let many = c.1 (λ f. ap (λ (y : SearchStats). y.complete) (merged-stats s d.order) ∙ k.counted ∙ ap length (sym (merged-kept s d.order))) flag in
          (x, h ∙ ap (λ (z : W). expand z x) same, record { alike = cc; unflagged = flag; counted = many }, kept, many ∙ ap length kept ∙ sym k.counted)

  -- A ROUND of both: what this one keeps more is what the other one counts more
  pub record Rounded (tries : W → List (Try R W)) (w : W) (y z : State W) : Type 0 where
    pub begun : State W
    pub turns : mine ≡ expand w begun
    pub state : State W
    pub tried : each (keeping d) begun (tries w) ≡ ok state
    pub keeps : Keeping state z
    pub kept : state.kept ≡ s.kept ++ news (tries w)
    pub more : z.stats.complete ≡ y.stats.complete + length (news (tries w))

  pub round-kept : (tries : W → List (Try R W)) (w : W) (y z : State W) → other ≡ expand w y → each d y (tries w) ≡ ok z → Rounded tries w y z
  round-kept tries w y z e f =
      let o = opened w y e in
      let x = o.0 in
      let b = ok-beside d (keeping d) (unlimited-never (keeping d) refl) z (each (keeping d) x (tries w)) (each (counting d) (bare y) (tries w))
      (subst (λ (a : Answer R (State W)). Beside d a (each (counting d) (bare y) (tries w))) f (each-beside d y (tries w)))
      (subst (λ (a : State W). Beside (keeping d) (each (keeping d) x (tries w)) (each (counting d) a (tries w))) o.2.alike (each-beside (keeping d) x (tries w))) in
      let u = b.0 in
      let c = each_counts (keeping d) x u (tries w) refl b.1 o.2.unflagged o.2.counted in
      let kept : u.kept ≡ s.kept ++ news (tries w) = c.1 ∙ ap (λ (l : List W). l ++ news (tries w)) o.3 in
      let same : u.stats.complete ≡ z.stats.complete = ap (λ (a : State W). a.stats.complete) b.2 in
      let was : x.stats.complete ≡ y.stats.complete = ap (λ (a : State W). a.stats.complete) o.2.alike in
      let n = ap length kept in
      let l = length-append s.kept (news (tries w)) in
      record {
        begun = x;
        turns = o.1;
        state = u;
        tried = b.1;
        keeps = record { alike = b.2; unflagged = c.0; counted = c.2 };
        kept = kept;
        more = omega (arith, same, was, c.2, n, l, o.4, k.counted);
      }

  -- THE REST of both: refused alike, where the other one has no result area that could be full
  pub rest-refused : d.max_complete ≡ Some 0 → (tries : W → List (Try R W)) (n : ℕ) (x : R) → run d tries n (merge d.order t) ≡ refuse x → run (keeping d) tries n (merge d.order s) ≡ refuse x
  rest-refused none tries n x e =
      ⊎_elim (λ q. q) (λ (f : Full d x). absurd (none_never d none x f))
      (refuse-beside d (keeping d) (unlimited-never (keeping d) refl) x (run (keeping d) tries n (merge d.order s)) (run (counting d) tries n (bare (merge d.order t)))
      (subst (λ (a : Answer R (State W)). Beside d a (run (counting d) tries n (bare (merge d.order t)))) e (run-beside d tries n (merge d.order t)))
      (subst (λ (a : State W). Beside (keeping d) (run (keeping d) tries n (merge d.order s)) (run (counting d) tries n a)) merged-alike (run-beside (keeping d) tries n (merge d.order s))))
