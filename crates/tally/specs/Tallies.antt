-- What a tally leaves: the answer, the numbers, and the words of the work area.
-- Document 02, order 9.
use Rattle.std.specs.Prelude.{ℕ, ◌≡◌, List}
use Rattle.semantics.specs.Limits.{base}
use Rattle.semantics.specs.Graph.{Graph}
use Rattle.semantics.specs.Tally.{TallyOutcome, tally_outcome}
use Rattle.semantics.specs.Entries.{tally_request_of}
use Rattle.direct_search.specs.Counting.{tallied_on}
use Rattle.tally.specs.declared.lengths.TallyOutcome as T
pub mod Laws

-- on a loaded graph
abbrev pub outcome_on : Graph → List ℕ → ℕ → TallyOutcome
outcome_on g ws n = tally_outcome base (tally_request_of ws n) (tallied_on g ws n)

-- the answer, every number, and every word of the work area
abbrev pub Does : TallyOutcome → T.TallyOutcome → List ℕ → Type 0
Does o r ws = (r.answer ≡ o.answer) × (r.numbers ≡ o.numbers) × (ws ≡ o.work)
