-- `path::judgement::shadows_in`: the refusal of the image, or the comparison on the graph that it holds.
use borrow.Author.Rules.{rules}
use Rattle.std.specs.Prelude.{Err}
use mathlib.Core.Path.{ap, ◌∙◌, ◌≡◌, sym, subst}
use Rattle.semantics.specs.Entries.{graph_in}
use Rattle.semantics.specs.Image.{symbol_bytes}
use Rattle.semantics.specs.Told.{told_judgement}
use Rattle.storage.specs.Index.Use.{answer-refused, answer-accepted}
use Rattle.path.specs.Replays.Calls.{accepted-jump, shadows-image, shadows-answers}
use Rattle.semantics.specs.declared.answer.TurnedBack.{TurnedBack}
use Rattle.semantics.proofs.Theorems.PublicAnswers.{made, let_through}
use Rattle.path.proofs.judgement.shadows_in.Goals as goal

pub returns-in_err-map_err : goal.returns-in_err-map_err
returns-in_err-map_err c =
    let a = c.args in
    let t : c.from_residual.result ≡ Err c.in_err-map_err.field-0.0 = search rules in
    let m = made TurnedBack.Image c.load_fresh.result c.map_err.result c.in_err-map_err.field-0.0 c.map_err.ensures.cases c.in_err-map_err.was in
    let e = answer-refused (graph_in a.image.now) m.error c.load_fresh.ensures.value
    m.was in
    ap told_judgement (t ∙ ap Err m.is ∙ shadows-image m.error e a.left a.left_edges.now a.right a.right_edges.now)

pub returns : goal.returns
returns c =
    let Load-fresh = c.load_fresh in
    let a = c.args in
    let z = answer-accepted (graph_in a.image.now) c.in_ok-map_err.field-0
    Load-fresh.ensures.value (let_through TurnedBack.Image c.load_fresh.result c.map_err.result c.in_ok-map_err.field-0 c.map_err.ensures.cases c.in_ok-map_err.was) in
    let g = z.graph in
    let l = Load-fresh.ensures.loaded g z.is in
    let j = accepted-jump symbol_bytes a.image.now g z.is in
    ap told_judgement (c.shadows_loaded.ensures g l j ∙ shadows-answers g z.is a.left a.left_edges.now a.right a.right_edges.now)
