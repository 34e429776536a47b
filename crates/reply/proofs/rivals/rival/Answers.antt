-- `rival` meets its contract, by the kind of the edge and the word of its source.
use mathlib.Core.Path.{◌≡◌, sym, ap, ◌∙◌}
use Prim.Native.Nat.{ℕ, ◌<◌}
use native.Mathlib.Omega.{arith}
use lib.IntN.{ℤ}
use lib.ListN.{length, get_or}
use mir.Syntax.{w32}
use mir.Val.{to_z, of_z}
use mir.ValLaws.{to_z-of_z}
use Rattle.storage.specs.Index.{edge_row}
use Rattle.reply.specs.Beatable.{exceeds}
use Rattle.reply.specs.Rivals.Laws.{unrivalled-removed, unrivalled-live}
use borrow.Author.Rules.{rules}
use Rattle.reply.proofs.rivals.rival.Goals as goal

pub returns-then-best-s : goal.returns-then-best-s
returns-then-best-s c =
    let a = c.args in
    (λ (z : a.at ≡ 0). absurd (omega (arith, z, c.requires.at_nonzero.0)), λ m i l. l)

pub offset_bounds-res-place : goal.offset_bounds-res-place
offset_bounds-res-place c =
    let a = c.args in
    let n = c.in-Live.source.0 in
    let h : get_or a.best.now n 0 < length a.res.now = c.requires.at_nonzero.2 n in
    search rules

pub bounds-res-place : goal.bounds-res-place
bounds-res-place c =
    c.requires.at_nonzero.2 c.in-Live.source.0

pub returns-in-Removed : goal.returns-in-Removed
returns-in-Removed c =
    let a = c.args in
    (λ z. unrivalled-removed a.index.now a.res.now a.best.now (get_or a.res.now a.at 0) (sym c.edge.ensures ∙ c.in-Removed.is), λ (m : ℕ) i (l : a.at < m). omega (arith, l))

pub returns-then-exceeds : goal.returns-then-exceeds
returns-then-exceeds c =
    let a = c.args in
    let ix = a.index.now in
    let ws = a.res.now in
    let live = sym c.edge.ensures ∙ c.in-Live.is in
    (λ (z : get_or a.best.now c.in-Live.source.0 0 ≡ 0). unrivalled-live ix ws a.best.now (get_or ws a.at 0) c.in-Live.source c.in-Live.target c.in-Live.precedence live c.if-best-s.false (λ (h : 0 < get_or a.best.now c.in-Live.source.0 0). absurd (omega (arith, z, h))), λ m i l. i c.in-Live.source.0)

pub returns-else-exceeds : goal.returns-else-exceeds
returns-else-exceeds c =
    let a = c.args in
    let ix = a.index.now in
    let ws = a.res.now in
    let q = c.in-Live.precedence in
    let x : to_z w32 (of_z w32 q) ≡ q = to_z-of_z w32 q (search rules) in
    let live = sym c.edge.ensures ∙ c.in-Live.is in
    let miss = ap (λ (z : ℤ). exceeds z (edge_row ix (get_or ws (get_or a.best.now c.in-Live.source.0 0) 0))) (sym x) ∙ sym c.exceeds.ensures ∙ c.if-exceeds.false in
    (λ z. unrivalled-live ix ws a.best.now (get_or ws a.at 0) c.in-Live.source c.in-Live.target q live c.if-best-s.false (λ h. miss), λ (m : ℕ) i (l : a.at < m). omega (arith, l))
