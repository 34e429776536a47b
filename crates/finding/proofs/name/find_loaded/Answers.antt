-- `finding::name::find_loaded`: a definition, or 10 or 37.
use Prim.Native.Nat.{ℕ}
use mathlib.Core.Path.{sym, ap, subst, ◌∙◌}
use lib.ListN.{length}
use Rattle.semantics.specs.Entries.{name_request_of}
use Rattle.semantics.specs.Graph.{is_definition}
use Rattle.semantics.specs.Words.{zeros}
use Rattle.finding.specs.Names.{Tells, walked_of, turned_back}
use Rattle.finding.specs.Names.Laws.{definition-does, other-does}
use Rattle.finding.proofs.name.find_loaded.Goals as goal

pub walk-tried-requires : goal.walk-tried-requires
walk-tried-requires c =
    let zero = c.zero in
    let p = c.requires in
    (p, zero.ensures ∙ ap zeros (sym zero.auto.area))

pub returns-then-is_definition : goal.returns-then-is_definition
returns-then-is_definition c =
    let conclude = c.conclude in
    let walk = c.walk-tried in
    let zero = c.zero in
    let if1 = c.if-is_definition in
    let is-definition = c.is_definition in
    let a = c.args in
    λ g l e.
    definition-does g (name_request_of a.limit a.work.now a.res.now a.node) is-definition.result
    (is-definition.ensures ∙ ap is_definition (l.node a.node)) if1.true walk.result walk.new.res
    (walk.auto.res ∙ zero.auto.area) (subst (λ (m : ℕ). Tells walk.result walk.new.res
    (walked_of g a.limit (length a.work.now) m a.node)) zero.auto.area (walk.ensures g l e)) conclude.result conclude.new.work
    conclude.new.res conclude.ensures.0 (conclude.ensures.1 ∙ ap zeros walk.auto.work) conclude.ensures.2

pub returns : goal.returns
returns c =
    let zero3 = c.zero-3 in
    let zero2 = c.zero-2 in
    let if1 = c.if-is_definition in
    let is-definition = c.is_definition in
    let a = c.args in
    λ g l e.
    other-does g (name_request_of a.limit a.work.now a.res.now a.node) is-definition.result
    (is-definition.ensures ∙ ap is_definition (l.node a.node)) if1.false c.turn_back.result zero2.new.area zero3.new.area
    (c.turn_back.ensures ∙ ap (turned_back a.node) (l.node a.node)) zero2.ensures zero3.ensures
