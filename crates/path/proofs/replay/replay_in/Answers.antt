-- `path::replay::replay_in`: the refusal of the image, or the answer of the replay on the graph that it holds.
use Rattle.semantics.specs.Entries.{graph_in}
use Rattle.semantics.specs.Image.{symbol_bytes}
use Rattle.storage.specs.Index.Use.{answer-refused, answer-accepted}
use Rattle.path.specs.Replays.Calls.{accepted-jump, replay-image, replay-answers}
use Rattle.path.proofs.replay.replay_in.Goals as goal

pub returns-in-Err : goal.returns-in-Err
returns-in-Err c =
    let Load-fresh = c.load_fresh in
    let a = c.args in
    let e = answer-refused (graph_in a.image.now) c.in-Err.r Load-fresh.ensures.value c.in-Err.is in
    let k = replay-image c.in-Err.r e a.reference a.edges.now c.empty.ensures in
    record { answer_value = k.0; path_value = k.1; value = k.2 }

pub returns-in-Ok : goal.returns-in-Ok
returns-in-Ok c =
    let Load-fresh = c.load_fresh in
    let a = c.args in
    let z = answer-accepted (graph_in a.image.now) c.in-Ok.field-0
    Load-fresh.ensures.value c.in-Ok.is in
    let g = z.graph in
    let l = Load-fresh.ensures.loaded g z.is in
    let j = accepted-jump symbol_bytes a.image.now g z.is in
    let k = replay-answers z.is l a.reference a.edges.now c.replay_loaded.ensures.value (c.replay_loaded.ensures.answers g l j) in
    record { answer_value = k.0; path_value = k.1; value = k.2 }
