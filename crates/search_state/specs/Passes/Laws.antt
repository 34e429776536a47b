-- One edge more that leads nowhere is one more in the sum.
-- Serves document 01, "Answer".
use Rattle.std.specs.Prelude.{ℕ, ◌+◌, ◌≡◌, Bool}
use Rattle.std.proofs.Common.{arith, ap}
use Rattle.std.proofs.Math.Bool.{true, false}
use Rattle.semantics.specs.Limits.{within}
use Rattle.path_budget.specs.declared.budget.Budget.{Budget}
use Rattle.path_budget.specs.Budget.{refused_length, lengthening}
use Rattle.search_state.specs.declared.search.Search as S
use Rattle.search_state.specs.declared.dead_ends.DeadEnds.{DeadEnds}
use Rattle.search_state.specs.States.{cut_one, rejected_one, overlong_by}
use Rattle.search_state.specs.Searches.{with_state}
use Rattle.search_state.specs.Passes.{nothing_passed, passed_cut, passed_rejection, passed_length, flagged_if, passed_by}

pub nothing-passed : (s : S.Search) → passed_by nothing_passed s ≡ s
nothing-passed s =
    let a : s.state.cycles + 0 ≡ s.state.cycles = omega arith in
    let b : s.state.rejected + 0 ≡ s.state.rejected = omega arith in
    λ i. record { frontier = s.frontier; state = record { budget = s.state.budget; cycles = a i; rejected = b i; kept = s.state.kept; results = s.state.results } }

module _ (p : DeadEnds) (s : S.Search) where
  pub one-cut : with_state (cut_one (passed_by p s).state) (passed_by p s) ≡ passed_by (passed_cut p) s
  one-cut =
      let a : s.state.cycles + p.cycles + 1 ≡ s.state.cycles + (p.cycles + 1) = omega arith in
      λ i. record { frontier = s.frontier; state = record { budget = flagged_if p.overlong s.state.budget; cycles = a i; rejected = s.state.rejected + p.rejected; kept = s.state.kept; results = s.state.results } }

  pub one-rejection : with_state (rejected_one (passed_by p s).state) (passed_by p s) ≡ passed_by (passed_rejection p) s
  one-rejection =
      let a : s.state.rejected + p.rejected + 1 ≡ s.state.rejected + (p.rejected + 1) = omega arith in
      λ i. record { frontier = s.frontier; state = record { budget = flagged_if p.overlong s.state.budget; cycles = s.state.cycles + p.cycles; rejected = a i; kept = s.state.kept; results = s.state.results } }

  refused-again : (b : Bool) (u : Budget) (n : ℕ) → within n (flagged_if b u).max_length ≡ false → (lengthening n (flagged_if b u)).budget ≡ refused_length u
  unfolding lengthening
  refused-again true u n h = rw h
  refused-again false u n h = rw h

  pub one-length : (n : ℕ) → within n (passed_by p s).state.budget.max_length ≡ false → with_state (overlong_by n (passed_by p s).state) (passed_by p s) ≡ passed_by (passed_length p) s
  one-length n h =
      ap (λ (u : Budget). record { frontier = s.frontier; state = record { budget = u; cycles = s.state.cycles + p.cycles; rejected = s.state.rejected + p.rejected; kept = s.state.kept; results = s.state.results } })
      (refused-again p.overlong s.state.budget n h)
