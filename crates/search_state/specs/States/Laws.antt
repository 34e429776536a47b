-- Outcomes of recording a complete path.
-- Serves document 01, "Answer".
use Rattle.std.specs.Prelude.{ℕ, ◌+◌, ◌<◌, ◌≤◌, ◌≡◌, refl, Bool, true, false, List, Some, None}
use Rattle.std.proofs.Common.{sym, ap, ◌∙◌}
use borrow.Author.Tests.{lt-ltb, le-ltb}
use Rattle.semantics.specs.Limits.{slot_length}
use Rattle.words.specs.Slots.{put_slot}
use Rattle.path_budget.specs.declared.budget.Budget.{Budget}
use Rattle.path_budget.specs.declared.budget.Admitted.{Admitted}
use Rattle.semantics.specs.declared.search.SearchLimits.{SearchLimits}
use Rattle.path_budget.specs.Budget.{fresh, with_max_length, with_max_paths, with_max_complete, completion}
use Rattle.path_budget.specs.Budget.Laws.{limits-chained}
use Rattle.search_state.specs.declared.state.SearchState.{SearchState}
use Rattle.search_state.specs.States.{new_state, with_budget, asked, recorded_by, result_after}

module _ (s : SearchState) {a : Admitted} (is : a ≡ completion s.kept s.budget) {n : SearchState} (made : n ≡ with_budget a.budget s) (item ws : List ℕ) where
  next-is : n ≡ asked s
  next-is = made ∙ ap (λ (x : Admitted). with_budget x.budget s) is

  answers : {b : Bool} → a.allowed ≡ b → (completion s.kept s.budget).allowed ≡ b
  answers e = ap (λ (x : Admitted). x.allowed) (sym is) ∙ e

  pub record-kept : {ws' : List ℕ} → a.allowed ≡ true → s.kept < s.results → ws' ≡ put_slot slot_length s.kept item ws
      → (Some (record { budget = n.budget; cycles = n.cycles; rejected = n.rejected; kept = s.kept + 1; results = n.results }) ≡ recorded_by s) × (ws' ≡ result_after s item ws)
  unfolding recorded_by result_after
  record-kept e h p = rw (answers e, lt-ltb s.kept s.results h) (ap (λ (x : SearchState). Some (record { budget = x.budget; cycles = x.cycles; rejected = x.rejected; kept = s.kept + 1; results = x.results })) next-is, p)

  pub record-full : a.allowed ≡ true → s.results ≤ s.kept → (None ≡ recorded_by s) × (ws ≡ result_after s item ws)
  unfolding recorded_by result_after
  record-full e h = rw (answers e, le-ltb s.kept s.results h) (refl, refl)

  pub record-not : a.allowed ≡ false → (Some n ≡ recorded_by s) × (ws ≡ result_after s item ws)
  unfolding recorded_by result_after
  record-not e = rw (answers e) (ap (λ (x : SearchState). Some x) next-is, refl)

-- the limits set one after another on a fresh budget
pub new_is : (l : SearchLimits) (results : ℕ) {a b c d : Budget} → a ≡ fresh → b ≡ with_max_length l.length a → c ≡ with_max_paths l.expansions b → d ≡ with_max_complete l.complete c
    → ◌≡◌ {A = SearchState} (record { budget = d; cycles = 0; rejected = 0; kept = 0; results = results }) (new_state l results)
new_is l results {a} {b} {c} {d} p q r s =
    ap (λ (x : Budget). record { budget = x; cycles = 0; rejected = 0; kept = 0; results = results }) (limits-chained l a b c d p q r s)
