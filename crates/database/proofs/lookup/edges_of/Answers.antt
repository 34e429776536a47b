-- `lookup::edges_of`: behind the count of a live record, nothing of a dead one.
use mathlib.Core.Path.{sym}
use native.Mathlib.Omega.{arith}
use Rattle.semantics.specs.Limits.{base}
use Rattle.database.specs.Parts.Laws.{edges-dead, edges-live}
use Rattle.database.proofs.lookup.edges_of.Goals as goal

pub returns-then-owner-gt0 : goal.returns-then-owner-gt0
returns-then-owner-gt0 c =
    let a = c.args in
    sym (edges-live base a.i a.words.now c.count.result (omega (arith, c.owner.ensures, c.if-owner-gt0.true)) c.count.ensures)

pub returns : goal.returns
returns c =
    let a = c.args in
    sym (edges-dead base a.i a.words.now (omega (arith, c.owner.ensures, c.if-owner-gt0.false)))
