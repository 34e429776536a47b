use mathlib.Core.Path.{sym, ap, subst}
use mathlib.Core.Bool.{Bool}
use Rattle.partial_state.specs.Extractions.{at, going_at}
use Rattle.partial_state.specs.Reps.{ExtendsTo}
use Rattle.partial_state.specs.Reps.Laws.{extend-only, extend-found, extend-push}
use Rattle.partial_state.proofs.extraction.Extraction.extend.Goals as goal

pub push-requires : goal.push-requires
push-requires c =
    let a = c.args in
    let p = c.requires in
    extend-push p (ap (at a.frame) c.count.ensures)

pub returns-then-endpoint : goal.returns-then-endpoint
returns-then-endpoint c =
    let push = c.push in
    let file-route = c.file_route in
    let if1 = c.if-endpoint in
    let a = c.args in
    subst (λ (b : Bool).
    ExtendsTo (at a.frame a.self) b a.ends a.filing a.item.now a.work.now a.words.now (going_at a.frame push.result)
    push.new.work file-route.new.words) (sym if1.true) (extend-found (at a.frame a.self) a.ends a.filing a.words.now
    file-route.ensures (ap (at a.frame) c.count.ensures) push.ensures)

pub push-requires-2 : goal.push-requires-2
push-requires-2 c = let p = c.requires in (p.framed, p.slot)

pub returns : goal.returns
returns c =
    let push2 = c.push-2 in
    let a = c.args in
    subst (λ (b : Bool).
    ExtendsTo (at a.frame a.self) b a.ends a.filing a.item.now a.work.now a.words.now (going_at a.frame push2.result)
    push2.new.work a.words.now) (sym c.if-endpoint.false)
    (extend-only a.ends a.filing a.words.now push2.ensures)
