-- `path::replay::outcome`: by what became of the start or the edge.
use mathlib.Core.Path.{sym, ap, ◌∙◌}
use Rattle.semantics.specs.declared.refusal.ReplayRefusal.TheVariants as ReplayRefusal
use Rattle.std.specs.Prelude.{Err}
use Rattle.path.specs.Replays.{left_by}
use Rattle.path.proofs.replay.outcome.Goals as goal
use Rattle.semantics.specs.declared.answer.TurnedBack.{TurnedBack}

pub returns-in-Ok : goal.returns-in-Ok
returns-in-Ok c = ap (λ e. left_by e c.args.path.now) (sym c.in-Ok.is)

pub returns-in-Err : goal.returns-in-Err
returns-in-Err c =
    let a = c.args in
    ◌∙◌ {b = left_by (Err c.in-Err.r) a.path.now}
    (λ i. record { answer = Err (TurnedBack.Refused (ReplayRefusal.Path c.in-Err.r)); path = c.empty.ensures i })
    (ap (λ e. left_by e a.path.now) (sym c.in-Err.is))
