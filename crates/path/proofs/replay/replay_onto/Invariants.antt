-- `path::replay::replay_onto`: the value from here on is the value from the start.
use Rattle.path.specs.Replays.Laws.{Going}
use Rattle.path.proofs.replay.replay_onto.Given as goal

abbrev pub invariant-loop-edge : goal.invariant-loop-edge
invariant-loop-edge l = Going l.index l.reference l.edges l.path l.edge-index
