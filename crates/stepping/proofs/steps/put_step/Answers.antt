-- `stepping::steps::put_step`: a store for each word.
use Prim.Native.Nat.{ℕ, ◌+◌, ◌*◌}
use mathlib.Core.List.{List}
use lib.ListN.{set, length-set}
use Rattle.semantics.specs.Limits.{step_length}
use Rattle.semantics.specs.declared.replayed.Step.{Step}
use borrow.Author.Rules.{rules}
use Rattle.stepping.proofs.steps.put_step.Goals as goal

abbrev written : List ℕ → ℕ → Step → ℕ → ℕ → List ℕ
written l k s low high =
    set (set (set (set (set (set (set (set (set l (step_length * k) s.edge) (step_length * k + 1) s.end) (step_length * k + 2) s.symbols) (step_length * k + 3) s.scopes)
    (step_length * k + 4) low) (step_length * k + 5) high) (step_length * k + 6) s.attached) (step_length * k + 7) s.below) (step_length * k + 8) s.scope

pub bounds-steps-at-2 : goal.bounds-steps-at-2
bounds-steps-at-2 c = simp length-set (search rules)

pub bounds-steps-at-3 : goal.bounds-steps-at-3
bounds-steps-at-3 c = simp length-set (search rules)

pub bounds-steps-at-4 : goal.bounds-steps-at-4
bounds-steps-at-4 c = simp length-set (search rules)

pub bounds-steps-at-5 : goal.bounds-steps-at-5
bounds-steps-at-5 c = simp length-set (search rules)

pub bounds-steps-at-6 : goal.bounds-steps-at-6
bounds-steps-at-6 c = simp length-set (search rules)

pub bounds-steps-at-7 : goal.bounds-steps-at-7
bounds-steps-at-7 c = simp length-set (search rules)

pub bounds-steps-at-8 : goal.bounds-steps-at-8
bounds-steps-at-8 c = simp length-set (search rules)

pub bounds-steps-at-9 : goal.bounds-steps-at-9
bounds-steps-at-9 c = simp length-set (search rules)

pub returns : goal.returns
returns c =
    let a = c.args in
    λ i. written a.steps.now a.k a.s (c.low-low.ensures i) (c.high-high.ensures i)
