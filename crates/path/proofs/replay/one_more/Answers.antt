-- `path::replay::one_more`: 30 in front of the edge, or what the edge leaves.
use native.Mathlib.Omega.{arith}
use mathlib.Core.Path.{ap, ◌∙◌}
use borrow.Author.Rules.{rules}
use Rattle.semantics.specs.declared.refusal.ReplayRefusal.TheVariants as ReplayRefusal
use Rattle.storage.specs.Index.{node_row, edge_row}
use Rattle.path.specs.Replays.{outcome_of}
use Rattle.path.specs.Replays.Laws.{may-grow, more-long, more-short}
use Rattle.path.proofs.replay.one_more.Goals as goal
use Rattle.std.specs.Prelude.{Err}
use Rattle.semantics.specs.declared.answer.TurnedBack.{TurnedBack}

pub returns-then-path-ge-MAX_EDGES : goal.returns-then-path-ge-MAX_EDGES
returns-then-path-ge-MAX_EDGES c =
    let a = c.args in
    (λ i. record { answer = Err (TurnedBack.Refused ReplayRefusal.TooLong); path = c.empty.ensures i }) ∙ more-long (node_row a.index.now) (edge_row a.index.now) a.path.now a.edge (omega (arith, c.if-path-ge-MAX_EDGES.true))

pub append-effect-requires : goal.append-effect-requires
append-effect-requires c = (search rules, may-grow c.args.path.now c.requires.1 (omega (arith, c.if-path-ge-MAX_EDGES.false)))

pub returns : goal.returns
returns c =
    let a = c.args in
    c.outcome.ensures ∙ ap outcome_of c.append-effect.ensures ∙ more-short (node_row a.index.now) (edge_row a.index.now) a.path.now a.edge (omega (arith, c.if-path-ge-MAX_EDGES.false))
