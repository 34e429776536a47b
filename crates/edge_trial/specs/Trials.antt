-- What becomes of an edge, from what is read of the path and the index.
-- Document 01, "Answer": per edge cycle, length, the bound on edges, append, completeness; document 02, order 4.
use Rattle.std.specs.Prelude.{ℕ, Bool, Err, Ok}
use Rattle.semantics.specs.declared.graph.Node.{Node}
use Rattle.semantics.specs.Lists.{pick}
use Rattle.stepping.specs.Steps.{Effect}
use Rattle.std.specs.Prelude.{Ok, Err}
use Rattle.stepping.specs.Judged.{complete_step}
use Rattle.edge_trial.specs.declared.trial.EdgeTrial.{EdgeTrial}
use Rattle.edge_trial.specs.declared.trial.EdgeTrial.TheVariants.{Cut, Overlong, Rejected, TooLong, Extended}
use Rattle.semantics.specs.PublicAnswers.{EdgeJudgement}
pub mod Laws

-- the refusal, or none and then whether the extension is complete
abbrev pub judgement_by : (ℕ → Node) → Effect → EdgeJudgement
judgement_by nodes (Ok s) = Ok (complete_step nodes s)
judgement_by nodes (Err r) = Err r

-- a search counts what is rejected, whatever it is refused with
abbrev pub tried_by : EdgeJudgement → EdgeTrial
tried_by (Ok complete) = Extended complete
tried_by (Err r) = Rejected

-- a cycle cut, else too long for the limit, else too long for the bound, else as it is judged
abbrev pub trial_by : (ℕ → Node) → Bool → Bool → Bool → Effect → EdgeTrial
trial_by nodes cycle short room x = pick cycle Cut (pick short (pick room (tried_by (judgement_by nodes x)) TooLong) Overlong)
