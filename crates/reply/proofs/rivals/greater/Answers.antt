-- `greater` meets its contract, by the kind of the known edge and the precedences of both.
use mathlib.Core.Path.{◌≡◌, sym, ap, ◌∙◌}
use native.Mathlib.Omega.{arith}
use lib.IntN.{ℤ}
use lib.ListN.{get_or}
use mir.Syntax.{w32}
use mir.Val.{to_z, of_z}
use mir.ValLaws.{to_z-of_z}
use Rattle.storage.specs.Index.{edge_row}
use Rattle.reply.specs.Beatable.{exceeds}
use Rattle.reply.specs.Rivals.Noting.{greater-first, greater-removed, greater-new, greater-old}
use borrow.Author.Rules.{rules}
use Rattle.reply.proofs.rivals.greater.Goals as goal

pub returns-then-known-lt1 : goal.returns-then-known-lt1
returns-then-known-lt1 c =
    let a = c.args in
    greater-first a.index.now a.res.now a.known a.at c.if-known-lt1.true

pub returns-in-Removed : goal.returns-in-Removed
returns-in-Removed c =
    let a = c.args in
    greater-removed a.index.now a.res.now a.known a.at (sym c.edge.ensures ∙ c.in-Removed.is)

pub returns-then-exceeds : goal.returns-then-exceeds
returns-then-exceeds c =
    let a = c.args in
    let ix = a.index.now in
    let ws = a.res.now in
    let q = c.in-Live.precedence in
    let x : to_z w32 (of_z w32 q) ≡ q = to_z-of_z w32 q (search rules) in
    let live = sym c.edge.ensures ∙ c.in-Live.is in
    let hit = ap (λ (z : ℤ). exceeds z (edge_row ix (get_or ws a.at 0))) (sym x) ∙ sym c.exceeds.ensures ∙ c.if-exceeds.true in
    greater-new ix ws a.known a.at c.in-Live.source c.in-Live.target q live hit

pub returns-else-exceeds : goal.returns-else-exceeds
returns-else-exceeds c =
    let a = c.args in
    let ix = a.index.now in
    let ws = a.res.now in
    let q = c.in-Live.precedence in
    let x : to_z w32 (of_z w32 q) ≡ q = to_z-of_z w32 q (search rules) in
    let live = sym c.edge.ensures ∙ c.in-Live.is in
    let miss = ap (λ (z : ℤ). exceeds z (edge_row ix (get_or ws a.at 0))) (sym x) ∙ sym c.exceeds.ensures ∙ c.if-exceeds.false in
    greater-old ix ws a.known a.at c.in-Live.source c.in-Live.target q live (omega (arith, c.if-known-lt1.false)) miss
