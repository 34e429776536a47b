-- `hiding::hiding::hide_edge`: an edge goes with either end.
use native.Mathlib.Omega.{arith}
use Rattle.image.specs.Index.{cell, put}
use Rattle.hiding.specs.Hiding.Laws.{none_stays, both-stay, source_goes, target-goes}
use Rattle.hiding.proofs.hiding.hide_edge.Goals as goal

pub returns-then-word-lt1 : goal.returns-then-word-lt1
unfolding cell put
returns-then-word-lt1 c = let a = c.args in λ F f d. source_goes a.index.now a.e F f d c.requires.e_bound.1 c.if-source-gt0.true (omega (arith, c.word.ensures, c.if-word-lt1.true))

pub returns-then-word-lt1-2 : goal.returns-then-word-lt1-2
unfolding cell put
returns-then-word-lt1-2 c = let a = c.args in λ F f d. target-goes a.index.now a.e F f d c.requires.e_bound.1 c.if-source-gt0.true (omega (arith, c.word-then-source-gt0.ensures, c.if-word-lt1-2.true))

pub returns-else-word-lt1-2 : goal.returns-else-word-lt1-2
unfolding cell put
returns-else-word-lt1-2 c = let a = c.args in λ F f d. both-stay a.index.now a.e F f d c.if-source-gt0.true (omega (arith, c.word.ensures, c.if-word-lt1.false)) (omega (arith, c.word-then-source-gt0.ensures, c.if-word-lt1-2.false))

pub returns-else-source-gt0 : goal.returns-else-source-gt0
unfolding cell put
returns-else-source-gt0 c = let a = c.args in λ F f d. none_stays a.index.now a.e F f d (omega (arith, c.if-source-gt0.false))
