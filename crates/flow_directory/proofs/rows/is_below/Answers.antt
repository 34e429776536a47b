-- `flow_directory::rows::is_below`: the high halves, then the low ones.
use Rattle.flow_directory.specs.Keys.Laws.{high-below, high-above, high_same}
use Rattle.flow_directory.proofs.rows.is_below.Goals as goal

pub returns-then-left-right : goal.returns-then-left-right
returns-then-left-right c = let a = c.args in high-below 18446744073709551616 a.left.high a.left.low a.right.high a.right.low c.requires.0 c.if-left-right.true

pub returns-then-right-left : goal.returns-then-right-left
returns-then-right-left c = let a = c.args in high-above 18446744073709551616 a.left.high a.left.low a.right.high a.right.low c.requires.1 c.if-right-left.true

pub returns : goal.returns
returns c = let a = c.args in high_same 18446744073709551616 a.left.high a.left.low a.right.high a.right.low c.if-right-left.false c.if-left-right.false
