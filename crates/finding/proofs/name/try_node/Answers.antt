-- `finding::name::try_node`: a reference, or not.
use mathlib.Core.Path.{◌≡◌, sym, ap, ◌∙◌, subst}
use mathlib.Core.Bool.{Bool, true}
use lib.ListN.{length}
use Rattle.semantics.specs.Graph.{view_of, is_reference}
use Rattle.finding.specs.Names.{Tells, tried_of}
use Rattle.finding.specs.Names.Laws.{passed_over}
use Rattle.finding.proofs.name.try_node.Goals as goal

pub returns-then-is_reference : goal.returns-then-is_reference
returns-then-is_reference c =
    let try-reference = c.try_reference in
    let if1 = c.if-is_reference in
    let is-reference = c.is_reference in
    let a = c.args in
    λ g l.
    let e : is_reference ((view_of g).node a.n) ≡ true = ap is_reference (sym (l.node a.n)) ∙ sym is-reference.ensures ∙ if1.true in
    subst (λ (b : Bool). Tells try-reference.result try-reference.new.res
    (tried_of g a.limit (length a.work.now) (length a.res.now) a.node a.n b)) (sym e) (try-reference.ensures g l)

pub returns : goal.returns
returns c =
    let a = c.args in
    let p = c.requires in
    λ g l.
    passed_over g a.limit (length a.work.now) (length a.res.now) a.node a.n (is_reference ((view_of g).node a.n))
    (ap is_reference (sym (l.node a.n)) ∙ sym c.is_reference.ensures ∙ c.if-is_reference.false) a.res.now p.1
