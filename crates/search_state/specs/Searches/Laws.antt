-- Outcomes of a push and of the top of a round.
-- Serves document 01, "Budget and frontier".
use Rattle.std.specs.Prelude.{Ok, Err, ◌<◌, ◌≤◌, ◌≡◌, Bool, true, false, Option, Some}
use Rattle.std.proofs.Common.{sym, ap, ◌∙◌, le-leb}
use Rattle.std.proofs.lemmas.Bool.{lt-leb}
use Rattle.semantics.specs.declared.refusal.SearchRefusal.TheVariants as Search
use Rattle.semantics.specs.Limits.{max_expansions}
use Rattle.path_budget.specs.declared.budget.Admitted.{Admitted}
use Rattle.path_frontier.specs.declared.frontier.Frontier.{Frontier}
use Rattle.path_budget.specs.Budget.{expansion}
use Rattle.search_state.specs.declared.state.SearchState.{SearchState}
use Rattle.search_state.specs.declared.search.Search as S
use Rattle.search_state.specs.declared.search.Round.TheVariants.{Expand}
use Rattle.search_state.specs.declared.search.Round.{Round}
use Rattle.search_state.specs.States.{with_budget}
use Rattle.search_state.specs.Searches.{taken_of, over_by}

module _ (s : S.Search) {p : Option Frontier} (f : Frontier) (item : p ≡ Some f) {a : Admitted} (is : a ≡ expansion s.state.budget) {n : SearchState} (made : n ≡ with_budget a.budget s.state) where
  answers : {b : Bool} → a.allowed ≡ b → (expansion s.state.budget).allowed ≡ b
  answers e = ap (λ (x : Admitted). x.allowed) (sym is) ∙ e

  next-is : n ≡ with_budget (expansion s.state.budget).budget s.state
  next-is = made ∙ ap (λ (x : Admitted). with_budget x.budget s.state) is

  pub take-many : a.allowed ≡ true → max_expansions ≤ s.state.budget.expanded → Err Search.TooManyExpansions ≡ taken_of s p
  take-many e h = rw (item, answers e, le-leb max_expansions s.state.budget.expanded h)

  pub take-expand : a.allowed ≡ true → s.state.budget.expanded < max_expansions → Ok (Expand (record { frontier = f; state = n })) ≡ taken_of s p
  take-expand e h = rw (item, answers e, lt-leb max_expansions s.state.budget.expanded h) (ap (λ (x : SearchState). Ok (Expand (record { frontier = f; state = x }))) next-is)

  pub take-over : a.allowed ≡ false → {t : Round S.Search} → t ≡ over_by s.frontier n → Ok t ≡ taken_of s p
  take-over e k = rw (item, answers e) (ap (λ (r : Round S.Search). Ok r) (k ∙ ap (over_by s.frontier) next-is))
