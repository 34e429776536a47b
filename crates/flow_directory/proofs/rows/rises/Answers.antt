-- `flow_directory::rows::rises`: the first row has none before it.
use mathlib.Core.Path.{◌∙◌}
use Rattle.flow_directory.specs.Keys.Laws.{rises-first, rises-above}
use Rattle.flow_directory.specs.Keys.{number_of}
use Rattle.flow_directory.proofs.rows.rises.Goals as goal

pub returns-then-i-gt0 : goal.returns-then-i-gt0
returns-then-i-gt0 c = let a = c.args in c.is_below.ensures ∙ rises-above a.rows.now a.i (number_of c.key_at.result) (number_of c.key_at-then-i-gt0.result) c.if-i-gt0.true c.key_at.ensures.0 c.key_at-then-i-gt0.ensures.0

pub returns : goal.returns
returns c = let a = c.args in rises-first a.rows.now a.i c.if-i-gt0.false
