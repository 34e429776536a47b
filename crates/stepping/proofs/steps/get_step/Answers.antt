-- `stepping::steps::get_step`: each word, and the symbol of its two.
use Prim.Native.Nat.{ℕ}
use mathlib.Core.Path.{ap}
use Rattle.semantics.specs.ReplayedPaths.{step_at}
use Rattle.semantics.specs.declared.replayed.Step.{Step}
use Rattle.stepping.proofs.steps.get_step.Goals as goal

abbrev with_symbol : Step → ℕ → Step
with_symbol s x = record { edge = s.edge; end = s.end; symbols = s.symbols; scopes = s.scopes; symbol = x; attached = s.attached; below = s.below; scope = s.scope }

pub returns : goal.returns
returns c =
    let a = c.args in
    ap (with_symbol (step_at a.steps.now a.k)) c.join.ensures
