use mathlib.Core.Path.{ap, ◌∙◌}
use Rattle.semantics.specs.Limits.{base}
use Rattle.semantics.specs.Path.{replay}
use Rattle.semantics.specs.Graph.{view_of}
use Rattle.path.specs.Replays.{judged_as}
use Rattle.path.specs.Replays.Calls.{left-stops, right-judged}
use Rattle.path.proofs.judgement.shadows_loaded.Goals as goal

pub returns-in_default : goal.returns-in_default
returns-in_default c =
    let replay-loaded = c.replay_loaded-first in
    λ g l j.
    let a = c.args in
    c.judged.ensures
    ∙ left-stops replay-loaded.result (replay base (view_of g) a.left a.left_edges.now)
    (replay base (view_of g) a.right a.right_edges.now) (replay-loaded.ensures.answers g l j)
    (c.in_default.not-Ok tt)

pub returns : goal.returns
returns c =
    let replay-loaded2 = c.replay_loaded-second in
    let replay-loaded = c.replay_loaded-first in
    let a' = c.args in
    λ g l j.
    c.judged-2.ensures
    ∙ ap (judged_as replay-loaded2.result.answer) c.shadows.ensures
    ∙ right-judged l j a'.left a'.right a'.left_edges.now a'.right_edges.now replay-loaded.result replay-loaded2.result
    (replay-loaded.ensures.answers g l j) c.in-Ok.is (replay-loaded2.ensures.answers g l j)
