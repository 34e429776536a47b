-- `finding::name::walk`: what is left decides.
use native.Mathlib.Omega.{arith}
use Rattle.std.specs.Prelude.{Some, None, Ok, Err, ◌≡◌, ℕ}
use Rattle.std.specs.declared.option.Option as Std
use borrow.Author.Rules.{rules}
use mathlib.Core.Path.{refl, ap, ◌∙◌}
use lib.ListN.{length}
use Rattle.semantics.specs.Graph.{view_of, is_reference}
use Rattle.finding.specs.Names.{tried_of}
use Rattle.finding.specs.Names.Laws.{told_here, tells-cleared, walk-again, walk-found, walk_refused, walk_end}
use Rattle.finding.proofs.name.walk.Goals as goal

pub loop-n-init : goal.loop-n-init
loop-n-init c = (refl, refl, c.requires.1, λ g l e. refl)

pub try_node-requires : goal.try_node-requires
try_node-requires c = let p = c.requires.0 in (p.holds, c.loop-n.invariant.2)

pub returns-in-Some : goal.returns-in-Some
returns-in-Some c =
    let try-node = c.try_node in
    let loop-test = c.loop-n-test in
    let k = c.loop-n in
    let a = c.args in
    λ g l e.
    walk-found g a.limit (length a.work.now) (length a.res.now) a.node k.n (k.invariant.3 g l e) (omega (arith, loop-test.true, e))
    try-node.new.res c.in-Some.reference (told_here g a.limit (length k.work) (length a.work.now) (length k.res)
    (length a.res.now) a.node k.n (is_reference ((view_of g).node k.n)) try-node.new.res k.invariant.0 k.invariant.1
    try-node.result (Ok (Some c.in-Some.reference)) (c.in_ok-reference.was ∙ ap (λ (o : Std.Option ℕ). Ok o) c.in-Some.is) (try-node.ensures g l))

pub returns-in_err-reference : goal.returns-in_err-reference
returns-in_err-reference c =
    let try-node = c.try_node in
    let loop-test = c.loop-n-test in
    let k = c.loop-n in
    let a = c.args in
    let y = c.in_err-reference.field-0.0 in
    let e : c.from_residual.result ≡ Err y = search rules in
    λ g l long.
    rw e (walk_refused g a.limit (length a.work.now) (length a.res.now) a.node k.n (k.invariant.3 g l long) (omega (arith, loop-test.true, long))
    try-node.new.res y (told_here g a.limit (length k.work) (length a.work.now) (length k.res)
    (length a.res.now) a.node k.n (is_reference ((view_of g).node k.n)) try-node.new.res k.invariant.0 k.invariant.1
    try-node.result (Err y) c.in_err-reference.was (try-node.ensures g l)))

pub loop-n-preserved : goal.loop-n-preserved
loop-n-preserved c =
    let try-node = c.try_node in
    let loop-test = c.loop-n-test in
    let k = c.loop-n in
    let a = c.args in
    let p = c.requires.0 in (
      try-node.auto.work ∙ k.invariant.0,
      try-node.auto.res ∙ k.invariant.1,
      tells-cleared try-node.new.res
          (tried_of p.holds.graph a.limit (length a.work.now) (length a.res.now) a.node k.n (is_reference ((view_of p.holds.graph).node k.n)))
          (told_here p.holds.graph a.limit (length k.work) (length a.work.now) (length k.res) (length a.res.now) a.node k.n
          (is_reference ((view_of p.holds.graph).node k.n)) try-node.new.res k.invariant.0 k.invariant.1 try-node.result (Ok None)
          (c.in_ok-reference.was ∙ ap (λ (o : Std.Option ℕ). Ok o) c.in_default.is) (try-node.ensures p.holds.graph p.holds.loaded)),
      λ g l e. walk-again g a.limit (length a.work.now) (length
          a.res.now) a.node k.n (k.invariant.3 g l e) (omega (arith, loop-test.true, e)) try-node.new.res (told_here g a.limit
          (length k.work) (length a.work.now) (length k.res) (length a.res.now) a.node k.n (is_reference ((view_of g).node k.n))
          try-node.new.res k.invariant.0 k.invariant.1 try-node.result (Ok None) (c.in_ok-reference.was ∙ ap (λ (o : Std.Option ℕ). Ok o) c.in_default.is) (try-node.ensures g l)),
    )

pub returns : goal.returns
returns c =
    let k = c.loop-n in
    let a = c.args in
    λ g l e.
    walk_end g a.limit (length a.work.now) (length a.res.now) a.node k.n (k.invariant.3 g l e) (omega (arith, c.loop-n-test.false, e))
    k.res k.invariant.2
