-- `path::judgement::is_complete_in`: the refusal of the image, or what is judged of the path on the graph that it holds.
use borrow.Author.Rules.{rules}
use Rattle.std.specs.Prelude.{Err}
use mathlib.Core.Path.{ap, ◌∙◌, ◌≡◌, sym, subst}
use Rattle.semantics.specs.Entries.{graph_in}
use Rattle.semantics.specs.Image.{symbol_bytes}
use Rattle.semantics.specs.Told.{told_judgement}
use Rattle.semantics.specs.Graph.{view_of}
use Rattle.storage.specs.Index.{node_row}
use Rattle.storage.specs.Index.Use.{answer-refused, answer-accepted}
use Rattle.stepping.specs.Judged.{complete_step}
use Rattle.path.specs.Replays.{judged_as}
use Rattle.path.specs.Replays.Calls.{accepted-jump, room, complete-image, complete-answers}
use Rattle.semantics.specs.declared.answer.TurnedBack.{TurnedBack}
use Rattle.semantics.proofs.Theorems.PublicAnswers.{made, let_through}
use Rattle.path.proofs.judgement.is_complete_in.Goals as goal

pub get_step-last-requires : goal.get_step-last-requires
get_step-last-requires c =
    let replay-loaded = c.replay_loaded-replayed in
    let Load-fresh = c.load_fresh in
    let a = c.args in
    let z = answer-accepted (graph_in a.image.now) c.in_ok-map_err.field-0
    Load-fresh.ensures.value (let_through TurnedBack.Image c.load_fresh.result c.map_err.result c.in_ok-map_err.field-0 c.map_err.ensures.cases c.in_ok-map_err.was) in
    let g = z.graph in
    let l = Load-fresh.ensures.loaded g z.is in
    let j = accepted-jump symbol_bytes a.image.now g z.is in
    room (view_of g) a.reference a.edges.now replay-loaded.result (replay-loaded.ensures.answers g l j)

pub is_complete-requires : goal.is_complete-requires
is_complete-requires c =
    let Load-fresh = c.load_fresh in
    let a = c.args in
    let z = answer-accepted (graph_in a.image.now) c.in_ok-map_err.field-0
    Load-fresh.ensures.value (let_through TurnedBack.Image c.load_fresh.result c.map_err.result c.in_ok-map_err.field-0 c.map_err.ensures.cases c.in_ok-map_err.was) in
    let g = z.graph in
    let l = Load-fresh.ensures.loaded g z.is in
    l.long

pub returns-in_err-map_err : goal.returns-in_err-map_err
returns-in_err-map_err c =
    let a = c.args in
    let t : c.from_residual.result ≡ Err c.in_err-map_err.field-0.0 = search rules in
    let m = made TurnedBack.Image c.load_fresh.result c.map_err.result c.in_err-map_err.field-0.0 c.map_err.ensures.cases c.in_err-map_err.was in
    let e = answer-refused (graph_in a.image.now) m.error c.load_fresh.ensures.value
    m.was in
    ap told_judgement (t ∙ ap Err m.is ∙ complete-image m.error e a.reference a.edges.now)

pub returns : goal.returns
returns c =
    let replay-loaded = c.replay_loaded-replayed in
    let Load-fresh = c.load_fresh in
    let a = c.args in
    let z = answer-accepted (graph_in a.image.now) c.in_ok-map_err.field-0
    Load-fresh.ensures.value (let_through TurnedBack.Image c.load_fresh.result c.map_err.result c.in_ok-map_err.field-0 c.map_err.ensures.cases c.in_ok-map_err.was) in
    let g = z.graph in
    let l = Load-fresh.ensures.loaded g z.is in
    let j = accepted-jump symbol_bytes a.image.now g z.is in
    ap told_judgement (c.judged.ensures
    ∙ ap (judged_as replay-loaded.result.answer)
    (c.is_complete.ensures ∙ ap (complete_step (node_row Load-fresh.new.index)) c.get_step-last.ensures)
    ∙ complete-answers z.is l a.reference a.edges.now replay-loaded.result (replay-loaded.ensures.answers g l j))
