-- `storage::refs::ends_fit`: each outcome of the test, by the words of both ends.
use mathlib.Core.Path.{sym, ap₂, ◌∙◌}
use Prim.Native.Nat.{ℕ}
use lib.Dec.{eqb}
use Rattle.storage.specs.Index.{KIND, FILE, cell}
use Rattle.storage.specs.References.Laws.{ends_at, from-jump, dead-source, dead-target, shared-source, shared-target, in-files}
use Rattle.storage.proofs.refs.ends_fit.Goals as goal

pub returns-then-s-eq-JUMP : goal.returns-then-s-eq-JUMP
returns-then-s-eq-JUMP c =
    let a = c.args in let l = a.index.now in
    λ g p k. from-jump a.s (cell l KIND a.s) (cell l FILE a.s) (cell l KIND a.t) (cell l FILE a.t) c.if-s-eq-JUMP.true ∙ ends_at g l k a.s a.t p

pub returns-then-source-eq-REMOVED : goal.returns-then-source-eq-REMOVED
returns-then-source-eq-REMOVED c =
    let a = c.args in let l = a.index.now in
    λ g p k. dead-source a.s (cell l KIND a.s) (cell l FILE a.s) (cell l KIND a.t) (cell l FILE a.t) (sym c.word-source.ensures ∙ c.if-source-eq-REMOVED.true) ∙ ends_at g l k a.s a.t p

pub returns-then-target-eq-REMOVED : goal.returns-then-target-eq-REMOVED
returns-then-target-eq-REMOVED c =
    let a = c.args in let l = a.index.now in
    λ g p k. dead-target a.s (cell l KIND a.s) (cell l FILE a.s) (cell l KIND a.t) (cell l FILE a.t) (sym c.word-target.ensures ∙ c.if-target-eq-REMOVED.true) ∙ ends_at g l k a.s a.t p

pub returns-then-source-lt-SCOPE : goal.returns-then-source-lt-SCOPE
returns-then-source-lt-SCOPE c =
    let a = c.args in
    let l = a.index.now in
    let x = c.word-source.ensures in
    let y = c.word-target.ensures in
    λ g p k.
    shared-source a.s (cell l KIND a.s) (cell l FILE a.s) (cell l KIND a.t) (cell l FILE a.t)
    c.if-s-eq-JUMP.false (λ e. c.if-source-eq-REMOVED.false (x ∙ e)) (λ e. c.if-target-eq-REMOVED.false (y ∙ e))
    (rw x at c.if-source-lt-SCOPE.true)
    ∙ ends_at g l k a.s a.t p

pub returns-then-target-lt-SCOPE : goal.returns-then-target-lt-SCOPE
returns-then-target-lt-SCOPE c =
    let a = c.args in
    let l = a.index.now in
    let x = c.word-source.ensures in
    let y = c.word-target.ensures in
    λ g p k.
    shared-target a.s (cell l KIND a.s) (cell l FILE a.s) (cell l KIND a.t) (cell l FILE a.t)
    c.if-s-eq-JUMP.false (λ e. c.if-source-eq-REMOVED.false (x ∙ e))
    (λ e. c.if-target-eq-REMOVED.false (y ∙ e)) (rw x at c.if-source-lt-SCOPE.false) (rw y at c.if-target-lt-SCOPE.true)
    ∙ ends_at g l k a.s a.t p

pub returns : goal.returns
returns c =
    let word = c.word-source in
    let if1 = c.if-s-eq-JUMP in
    let a = c.args in
    let l = a.index.now in
    let x = word.ensures in
    let y = c.word-target.ensures in
    λ g p k.
    ap₂ (λ (f h : ℕ). eqb f h) c.word.ensures c.word-2.ensures
    ∙ in-files a.s (cell l KIND a.s) (cell l FILE a.s) (cell l KIND a.t) (cell l FILE a.t) if1.false
    (λ e. c.if-source-eq-REMOVED.false (x ∙ e)) (λ e. c.if-target-eq-REMOVED.false (y ∙ e))
    (rw x at c.if-source-lt-SCOPE.false) (rw y at c.if-target-lt-SCOPE.false)
    ∙ ends_at g l k a.s a.t p
