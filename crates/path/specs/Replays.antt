-- What a replay answers, by value, beside what the definitions answer.
-- Document 01, "Path": "answers the path (end, steps, both stacks) or the first refusal".
use Rattle.std.specs.Prelude.{ℕ, ◌≡◌, Bool, List, [], ◌∷◌, ltb, Err, Ok}
use Rattle.semantics.specs.declared.graph.Node.{Node}
use Rattle.semantics.specs.declared.graph.Edge.{Edge}
use Rattle.semantics.specs.declared.refusal.ImageRefusal.{ImageRefusal}
use Rattle.semantics.specs.declared.refusal.ReplayRefusal.{ReplayRefusal}
use Rattle.semantics.specs.declared.refusal.ReplayRefusal.TheVariants as Replay
use Rattle.semantics.specs.PublicAnswers as A
use Rattle.semantics.specs.Lists.{pick}
use Rattle.semantics.specs.Limits.{base}
use Rattle.semantics.specs.Answer.{Answer, ok, refuse}
use Rattle.semantics.specs.Graph.{Graph, view_of}
use Rattle.semantics.specs.Path as Model
use Rattle.stepping.specs.Steps.{Effect}
use Rattle.std.specs.Prelude.{Ok, Err}
use Rattle.stepping.specs.Judged.{begun_of, judged_of}
use Rattle.semantics.specs.declared.replayed.Path.{Path}
use Rattle.path.specs.declared.replay.ReplayOutcome as R
use Rattle.path.specs.Values.{empty_path, is_jump_edge, Grown, started_by, appended_by, Shows}
use Rattle.semantics.specs.PublicAnswers.{Judgement}
use Rattle.semantics.specs.declared.answer.TurnedBack.{TurnedBack}
pub mod Laws
pub mod Calls

-- THE VALUE, WHOLE
abbrev pub replayed : A.Replayed → Path → R.ReplayOutcome
replayed a p = record { answer = a; path = p }

-- what the start or an edge leaves: the path, or no path beside the refusal
abbrev pub left_by : Effect → Path → R.ReplayOutcome
left_by (Ok s) p = record { answer = Ok tt; path = p }
left_by (Err r) p = record { answer = Err (TurnedBack.Refused (Replay.Path r)); path = empty_path }

abbrev pub outcome_of : Grown → R.ReplayOutcome
outcome_of x = left_by x.effect x.path

abbrev pub too_long : R.ReplayOutcome
too_long = record { answer = Err (TurnedBack.Refused Replay.TooLong); path = empty_path }

-- go on with the path, or hand the refusal on
abbrev pub onward : A.Replayed → R.ReplayOutcome → (Path → R.ReplayOutcome) → R.ReplayOutcome
onward (Ok tt) x next = next x.path
onward (Err (TurnedBack.Image r)) x next = x
onward (Err (TurnedBack.Refused r)) x next = x

-- one edge more: the bound is tested, then the edge is appended
unfoldable pub one_more : (ℕ → Node) → (ℕ → Edge) → Path → ℕ → R.ReplayOutcome
one_more nodes edges p e = pick (ltb p.count base.edges) (outcome_of (appended_by p e (is_jump_edge (edges e)) (judged_of nodes p.steps p.count e (edges e)))) too_long

unfoldable pub value_along : (ℕ → Node) → (ℕ → Edge) → Path → List ℕ → R.ReplayOutcome
unfolding one_more
value_along nodes edges p [] = record { answer = Ok tt; path = p }
value_along nodes edges p (e ∷ es) = onward (one_more nodes edges p e).answer (one_more nodes edges p e) (λ q. value_along nodes edges q es)

abbrev pub value_from : (ℕ → Node) → ℕ → R.ReplayOutcome
value_from nodes r = outcome_of (started_by r (begun_of nodes r))

unfoldable pub value_of : (ℕ → Node) → (ℕ → Edge) → ℕ → List ℕ → R.ReplayOutcome
unfolding value_along
value_of nodes edges r es = onward (value_from nodes r).answer (value_from nodes r) (λ p. value_along nodes edges p es)

-- the answer of `replay` with every number of the path by value: the edges behind the last one, their jumps and the steps behind the last are zero
unfoldable pub replay_value : Answer ImageRefusal Graph → ℕ → List ℕ → R.ReplayOutcome
unfolding value_of view_of
replay_value (ok g) r es = value_of (view_of g).node (view_of g).edge r es
replay_value (refuse x) r es = record { answer = Err (TurnedBack.Image x); path = empty_path }

-- WHAT IT SAYS

-- the value says what the definitions say
abbrev pub Answers : R.ReplayOutcome → Answer ReplayRefusal Model.Path → Type 0
Answers x (ok p) = (x.answer ≡ Ok tt) × Shows x.path p
Answers x (refuse r) = (x.answer ≡ Err (TurnedBack.Refused r)) × (x.path ≡ empty_path)

-- what is judged of a replayed path, or the refusal of its replay
abbrev pub judged_as : A.Replayed → Bool → Judgement
judged_as (Ok tt) holds = Ok holds
judged_as (Err (TurnedBack.Image r)) holds = Err (TurnedBack.Image r)
judged_as (Err (TurnedBack.Refused r)) holds = Err (TurnedBack.Refused r)
