-- `path::replay::replay_loaded`: what the value says.
use Rattle.path.specs.Replays.Laws.{loaded-says}
use Rattle.path.proofs.replay.replay_loaded.Goals as goal

pub returns : goal.returns
returns c =
    let a = c.args in
    let e = c.replay_onto-answer.ensures in
    record { value = e; answers = loaded-says a.index.now a.reference a.edges.now _ e }
