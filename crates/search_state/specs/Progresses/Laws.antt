-- A search that goes on in its frame is the search that its progress stands for there.
-- Serves document 01, "Answer" and "Budget and frontier".
use Rattle.std.specs.Prelude.{Ok, Err, ℕ, ◌≡◌, refl, Bool, true, false, List, leb, Option, Some, None}
use Rattle.std.proofs.Common.{sym, ap, subst, ◌∙◌}
use Rattle.semantics.specs.Limits.{max_expansions}
use Rattle.semantics.specs.declared.refusal.SearchRefusal.{SearchRefusal}
use Rattle.semantics.specs.declared.refusal.SearchRefusal.TheVariants as Search
use Rattle.semantics.specs.Lists.{pick}
use Rattle.semantics.specs.Answer.{Answer, ok, refuse}
use Rattle.semantics.specs.Graph.{View}
use Rattle.semantics.specs.Path.{Path}
use Rattle.semantics.specs.Enumeration.{State}
use Rattle.path_budget.specs.Budget.{expansion}
use Rattle.path_budget.specs.Budget.Laws.{expansion-limits}
use Rattle.path_frontier.specs.declared.frontier.Frontier.{Frontier}
use Rattle.path_frontier.specs.Frontier.Laws.{pop-frame}
use Rattle.search_state.specs.declared.dead_ends.DeadEnds.{DeadEnds}
use Rattle.search_state.specs.declared.search.Search as S
use Rattle.search_state.specs.declared.search.Round.TheVariants.{Expand}
use Rattle.search_state.specs.declared.progress.Frame.{Frame}
use Rattle.search_state.specs.declared.progress.Progress.{Progress}
use Rattle.search_state.specs.States.{with_budget}
use Rattle.search_state.specs.Searches.{Going, Taken, taken_of, over_by, Takeable, Taking}
use Rattle.search_state.specs.Passes.{passed_by}
use Rattle.search_state.specs.Reps.{Tells}
use Rattle.search_state.specs.Extensions.{Extendable, ExtendsTo}
use Rattle.search_state.specs.Progresses.{Course, Next, frame_of, progress_of, at, course_of, course_at, next_of, next_at, counted_on, progress_by}

pub at_own : {f : Frame} (s : S.Search) → frame_of s ≡ f → at f (progress_of s) ≡ s
at_own s e = subst (λ (x : Frame). at x (progress_of s) ≡ s) e refl

pub at-is : {f : Frame} {p : Progress} (s : S.Search) → f ≡ frame_of s → p ≡ progress_of s → at f p ≡ s
at-is {p} s e q = ap (λ (x : Frame). at x p) e ∙ ap (at (frame_of s)) q

pub at-passed : (f : Frame) (d : DeadEnds) (p : Progress) → at f (progress_by d p) ≡ passed_by d (at f p)
at-passed f d p = on d.overlong refl
  where
    on : (b : Bool) → d.overlong ≡ b → at f (progress_by d p) ≡ passed_by d (at f p)
    on true e = rw e
    on false e = rw e

pub flag_is : (d : DeadEnds) (p : Progress) {b : Bool} → d.overlong ≡ b → counted_on (pick b true p.length_limited) d p ≡ progress_by d p
flag_is d p e = ap (λ (x : Bool). counted_on (pick x true p.length_limited) d p) (sym e)

-- ---- an extension

tells-course : (g : View) (r : ℕ) (f : Frame) (a : Going) (ws rs : List ℕ) (t : Answer SearchRefusal (State Path)) → Tells g r f a ws rs t → Tells g r f (course_at f (course_of a)) ws rs t
tells-course g r f (Ok s) ws rs (ok m) h = subst (λ (z : S.Search). Tells g r f (Ok z) ws rs (ok m)) (sym (at_own s h.0)) h
tells-course g r f (Ok s) ws rs (refuse y) h = absurd h
tells-course g r f (Err x) ws rs t h = h

module _ (f : Frame) (p : Progress) {s : S.Search} (is : s ≡ at f p) (c : Bool) (ws rs item : List ℕ) where
  pub extend-given : Extendable (at f p) ws rs item → Extendable s ws rs item
  extend-given x = subst (λ (z : S.Search). Extendable z ws rs item) (sym is) x

  pub extends-course : (a : Going) (ws' rs' : List ℕ) → ExtendsTo s c ws rs item a ws' rs' → {z : Course} → z ≡ course_of a → ExtendsTo (at f p) c ws rs item (course_at f z) ws' rs'
  extends-course a ws' rs' x k = subst (λ (y : Course). ExtendsTo (at f p) c ws rs item (course_at f y) ws' rs') (sym k) own
    where
      own : ExtendsTo (at f p) c ws rs item (course_at f (course_of a)) ws' rs'
      own g r m q n rep few looked good e = tells-course g r f a ws' rs' _ (subst (λ (y : S.Search). ExtendsTo y c ws rs item a ws' rs') is x g r m q n rep few looked good e)

-- ---- the top of a round

module _ {s : S.Search} {ws : List ℕ} {a : Taken} {item ws' : List ℕ} (x : Taking s ws a item ws') where
  next-is : (n : S.Search) → frame_of n ≡ frame_of s → next_at (frame_of s) (next_of (Ok (Expand n))) ≡ Ok (Expand n)
  next-is n e = ap (λ (z : S.Search). Ok (Expand z)) (at_own n e)

  abbrev opened : Frontier → S.Search
  opened f = record { frontier = f; state = with_budget (expansion s.state.budget).budget s.state }

  same-frame : (f : Frontier) → x.popped ≡ Some f → frame_of (opened f) ≡ frame_of s
  same-frame f e =
      let k = (pop-frame s.frontier ws x.popped x.pops.words ws' x.pops.pops f e).0.kept in
      λ i. record { order = k.order i; limits = expansion-limits s.state.budget i; waiting = k.capacity i; results = s.state.results }

  same : (p : Option Frontier) → x.popped ≡ p → next_at (frame_of s) (next_of (taken_of s p)) ≡ taken_of s p
  same None e = refl
  same (Some f) e = by (expansion s.state.budget).allowed (leb max_expansions s.state.budget.expanded)
    where
      by : (b d : Bool) → next_at (frame_of s) (next_of (pick b (pick d (Err Search.TooManyExpansions) (Ok (Expand (opened f)))) (Ok (over_by s.frontier (opened f).state)))) ≡ pick b (pick d (Err Search.TooManyExpansions) (Ok (Expand (opened f)))) (Ok (over_by s.frontier (opened f).state))
      by false d = refl
      by true true = refl
      by true false = next-is (opened f) (same-frame f e)

  pub taking-next : Taking s ws (next_at (frame_of s) (next_of a)) item ws'
  taking-next = record { popped = x.popped; pops = x.pops; is = ap (λ (t : Taken). next_at (frame_of s) (next_of t)) x.is ∙ same x.popped refl }

module _ (f : Frame) (p : Progress) {s : S.Search} (is : s ≡ at f p) {ws : List ℕ} where
  pub take-given : {item : List ℕ} → Takeable (at f p) ws item → Takeable s ws item
  take-given {item} x = subst (λ (z : S.Search). Takeable z ws item) (sym is) x

  pub takes-next : {a : Taken} {item ws' : List ℕ} → Taking s ws a item ws' → {n : Next} → n ≡ next_of a → Taking (at f p) ws (next_at f n) item ws'
  takes-next {a} {item} {ws'} x q = subst (λ (z : Next). Taking (at f p) ws (next_at f z) item ws') (sym q) (taking-next (subst (λ (z : S.Search). Taking z ws a item ws') is x))
