-- `finding::name::try_reference`: the search has ended, and its kept paths are looked through, or it was refused.
use Rattle.std.specs.Prelude.{Err, ◌≡◌}
use borrow.Author.Rules.{rules}
use native.Mathlib.Omega.{arith}
use lib.ListN.{length}
use Rattle.finding.specs.Names.Laws.{tried-refused, over-fitting, over-slots, tried-without, tried-found}
use Rattle.finding.proofs.name.try_reference.Goals as goal

pub first_to-requires : goal.first_to-requires
first_to-requires c =
    let driven = c.search_kept-driven in
    let a = c.args in
    let p = c.requires.0 in (
      p.loaded.long,
      over-fitting a.index.now p.graph p.loaded a.limit (length a.work.now) (length a.res.now) a.node
          a.reference driven.result driven.new.res (driven.ensures p.graph p.loaded) c.in_ok-finished.finished
          c.in_ok-finished.was,
    )

pub keep_only-requires : goal.keep_only-requires
keep_only-requires c =
    let driven = c.search_kept-driven in
    let a = c.args in
    let p = c.requires.0 in (
      over-slots a.index.now p.graph p.loaded a.limit (length a.work.now) (length a.res.now) a.node a.reference
          driven.result driven.new.res (driven.ensures p.graph p.loaded) c.in_ok-finished.finished
          c.in_ok-finished.was,
      c.first_to.ensures.kept c.in-Some.at c.in-Some.is,
    )

pub returns : goal.returns
returns c =
    let keep-only = c.keep_only in
    let driven = c.search_kept-driven in
    let a = c.args in
    λ g l.
    tried-found a.index.now g l a.limit (length a.work.now) (length a.res.now) a.node a.reference driven.result
    driven.new.res (driven.ensures g l) c.in_ok-finished.finished c.in_ok-finished.was c.in-Some.at
    (rw c.in-Some.is at c.first_to.ensures.first)
    (c.first_to.ensures.kept c.in-Some.at c.in-Some.is) keep-only.new.res keep-only.auto.res keep-only.ensures

pub clear-requires : goal.clear-requires
clear-requires c =
    let driven = c.search_kept-driven in
    let a = c.args in
    let p = c.requires.0 in (
      omega (
        arith,
        over-slots a.index.now p.graph p.loaded a.limit (length a.work.now) (length a.res.now) a.node
            a.reference driven.result driven.new.res (driven.ensures p.graph p.loaded) c.in_ok-finished.finished
            c.in_ok-finished.was,
      ),
      omega arith,
    )

pub returns-in_default : goal.returns-in_default
returns-in_default c =
    let clear = c.clear in
    let driven = c.search_kept-driven in
    let a = c.args in
    λ g l.
    tried-without a.index.now g l a.limit (length a.work.now) (length a.res.now) a.node a.reference driven.result
    driven.new.res (driven.ensures g l) c.in_ok-finished.finished c.in_ok-finished.was c.in_ok-finished.finished.state.kept
    (rw c.in_default.is at c.first_to.ensures.first)
    (omega arith) clear.new.res clear.auto.res clear.ensures

pub returns-in_err-finished : goal.returns-in_err-finished
returns-in_err-finished c =
    let driven = c.search_kept-driven in
    let a = c.args in
    let y = c.in_err-finished.field-0.0 in
    let e : c.from_residual.result ≡ Err y = search rules in
    λ g l.
    rw e (tried-refused a.index.now g l a.limit (length a.work.now) (length a.res.now) a.node a.reference driven.result
    driven.new.res (driven.ensures g l) y c.in_err-finished.was
    driven.new.res)
