-- what is left of the chain is still to be written
use Prim.Native.Nat.{◌+◌, ◌-◌}
use native.Mathlib.Omega.{arith}
use mathlib.Core.Path.{ap}
use Rattle.semantics.specs.ReplayedPaths.{step_at, attached_of, symbols_from, symbols_of}
use Rattle.semantics.specs.PathWords.{symbol_word, symbol_words}
use Rattle.path_words.specs.PathWords.Laws.{left-start, left-more, left_end, symbols-none, symbols-out, symbols-turn}
use borrow.Author.Rules.{rules}
use Rattle.path_words.proofs.stacks.write_symbols.Goals as goal

pub loop-init : goal.loop-init
loop-init c = let a = c.args in (search rules, left-start a.area.now a.from (ap (λ n. symbol_words (symbols_from (step_at a.steps.now) n a.top)) (omega arith)))

pub returns-then-cell-lt1 : goal.returns-then-cell-lt1
returns-then-cell-lt1 c =
    let a = c.args in
    let f = step_at a.steps.now in
    let l = c.loop in
    let all = symbol_words (symbols_of f a.top) in
    left_end a.area.now l.area c.put.new.area a.from l.at c.put.result all
    (symbols-none f (a.top - l.counter) l.cell c.if-cell-lt1.true) l.invariant.1 c.put.ensures

pub loop-preserved : goal.loop-preserved
loop-preserved c =
    let a = c.args in
    let f = step_at a.steps.now in
    let l = c.loop in
    let d = c.part-cell.result in
    let k = l.cell - 1 in
    let all = symbol_words (symbols_of f a.top) in
    let top = symbol_word (f k).symbol (attached_of f (f k).attached) in
    let rest = symbol_words (symbols_from f (a.top - l.counter) l.cell) in
    let next = symbol_words (symbols_from f (a.top - (l.counter + 1)) d) in
    let turn = symbols-turn f (a.top - l.counter) (a.top - (l.counter + 1)) l.cell (omega (arith, c.loop-test.true)) c.if-cell-lt1.false c.part-cell.ensures in
    (search rules, left-more a.area.now l.area c.write_symbol-at.new.area a.from l.at c.write_symbol-at.result all top next turn l.invariant.1 c.write_symbol-at.ensures)

pub returns : goal.returns
returns c =
    let a = c.args in
    let f = step_at a.steps.now in
    let l = c.loop in
    let all = symbol_words (symbols_of f a.top) in
    let rest = symbol_words (symbols_from f (a.top - l.counter) l.cell) in
    left_end a.area.now l.area c.put-2.new.area a.from l.at c.put-2.result all (symbols-out f (a.top - l.counter) l.cell (omega (arith, c.loop-test.false))) l.invariant.1 c.put-2.ensures
