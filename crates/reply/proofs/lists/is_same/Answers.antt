-- `is_same` meets its contract: what is left of both lists decides.
use mathlib.Core.Path.{sym, ◌∙◌}
use Rattle.std.proofs.Math.Logic.{⊎_elim}
use Rattle.reply.specs.EdgeLists.Laws.{same-lengths, same-long, same-on, same_not, same_none}
use Rattle.reply.proofs.lists.is_same.Goals as goal

pub returns-then-left-right : goal.returns-then-left-right
returns-then-left-right c =
    sym (same-lengths c.args.left.now c.args.right.now c.if-left-right.true)

pub returns-then-starts_apart : goal.returns-then-starts_apart
returns-then-starts_apart c =
    sym (c.starts_apart.ensures c.if-starts_apart.true)

pub returns-then-x-y : goal.returns-then-x-y
returns-then-x-y c =
    let l = c.loop-x.invariant in
    let z = c.in-Some.ensures.steps in
    same_not c.next.new.self.a.iter.rest.now c.next.new.self.b.iter.rest.now c.in-Some.x.now c.in-Some.y.now z.0 z.1 l.0 c.if-x-y.true ∙ l.1

pub loop-x-preserved : goal.loop-x-preserved
loop-x-preserved c =
    let l = c.loop-x.invariant in
    let z = c.in-Some.ensures.steps in (
      same-long c.next.new.self.a.iter.rest.now c.next.new.self.b.iter.rest.now c.in-Some.x.now c.in-Some.y.now z.0 z.1 l.0,
      same-on c.next.new.self.a.iter.rest.now c.next.new.self.b.iter.rest.now c.in-Some.x.now c.in-Some.y.now z.0 z.1 l.0 c.if-x-y.false ∙ l.1,
    )

pub returns : goal.returns
returns c =
    let l = c.loop-x.invariant in
    let a = c.loop-x.x-iterator.a.iter.rest.now in
    let b = c.loop-x.x-iterator.b.iter.rest.now in
    ⊎_elim (λ x. same_none a b l.0 x.1.0 ∙ l.1) (λ x. same_none a b l.0 (l.0 ∙ x.1.0) ∙ l.1) c.in-None.ensures.steps
