-- `count_live`: so many of the first i records are live.
use mathlib.Core.Path.{◌≡◌, sym, ◌∙◌, subst}
use Prim.Native.Nat.{ℕ, ◌+◌, ◌≤◌}
use native.Mathlib.Omega.{arith}
use Rattle.semantics.specs.Limits.{base}
use Rattle.semantics.specs.Database.{used_in}
use Rattle.semantics.specs.Database.Compaction.{is_live}
use Rattle.compaction.specs.Moves.Laws.{counted_none, counted-more, count-all, pick-most}
use Rattle.database.specs.Records.{record_at}
use Rattle.compaction.proofs.compact.count_live.Goals as goal

pub loop-i-init : goal.loop-i-init
loop-i-init c = let a = c.args in (omega arith, omega arith, c.number-used.ensures.0, counted_none base a.words.now)

pub loop-i-preserved : goal.loop-i-preserved
loop-i-preserved c =
    let a = c.args in
    let l = c.loop-i in
    let m : c.one_more-n.result ≤ l.i + 1 = subst (λ (r : ℕ). r ≤ l.i + 1) (sym c.one_more-n.ensures) (pick-most (is_live (record_at base l.i a.words.now)) l.n l.i l.invariant.1) in
    (omega arith, m, l.invariant.2, counted-more base l.i l.n c.one_more-n.result a.words.now l.invariant.3 c.one_more-n.ensures)

pub returns : goal.returns
returns c =
    let a = c.args in
    let l = c.loop-i in
    let e : l.i ≡ used_in a.words.now = omega (arith, l.invariant.0, l.invariant.2, c.loop-i-test.false) in
    (l.invariant.3 ∙ count-all base a.words.now l.i e, omega (arith, e, l.invariant.1), omega (arith, l.invariant.0, l.invariant.1, c.number-used.ensures.1))
