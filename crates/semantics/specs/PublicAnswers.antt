-- What the public calls answer: a value, or why the call was turned back; src/answer.rt has the parts.
-- Document 01, "Turned back", and the answers of document 02's orders 3, 6, 7 and 9 to 11.
use Rattle.std.specs.Prelude.{ℕ, ℤ, Bool, ⊤, Ok}
use Rattle.std.specs.declared.option.Option.{Option}
use Rattle.std.specs.declared.result.Result.{Result}
use Rattle.semantics.specs.declared.graph.EdgeId.{EdgeId}
use Rattle.semantics.specs.declared.graph.Node.{Node}
use Rattle.semantics.specs.declared.graph.NodeId.{NodeId}
use Rattle.semantics.specs.declared.refusal.ImageRefusal.{ImageRefusal}
use Rattle.semantics.specs.declared.refusal.LinearRefusal.{LinearRefusal}
use Rattle.semantics.specs.declared.refusal.PathRefusal.{PathRefusal}
use Rattle.semantics.specs.declared.refusal.ReplayRefusal.{ReplayRefusal}
use Rattle.semantics.specs.declared.refusal.SearchRefusal.{SearchRefusal}
use Rattle.semantics.specs.declared.search.PartialPathStats.{PartialPathStats}
use Rattle.semantics.specs.declared.search.SearchStats.{SearchStats}
use Rattle.semantics.specs.declared.answer.TurnedBack.{TurnedBack}
use Rattle.semantics.specs.declared.answer.Counts.{Counts}
use Rattle.semantics.specs.declared.answer.Resolved.{Resolved}
use Rattle.semantics.specs.declared.answer.ResolutionRefusal.{ResolutionRefusal}
use Rattle.semantics.specs.declared.answer.CreationRefusal.{CreationRefusal}
use Rattle.semantics.specs.declared.answer.ReplacementRefusal.{ReplacementRefusal}
use Rattle.semantics.specs.declared.answer.FindingRefusal.{FindingRefusal}
use Rattle.semantics.specs.declared.answer.RewritingRefusal.{RewritingRefusal}
use Rattle.semantics.specs.declared.answer.ConversionRefusal.{ConversionRefusal}
use Rattle.semantics.specs.declared.answer.CompactionRefusal.{CompactionRefusal}
use Rattle.semantics.specs.declared.answer.EntryRefusal.{EntryRefusal}
use Rattle.semantics.specs.declared.answer.Definitions.{Definitions}
use Rattle.semantics.specs.declared.answer.Flowed.{Flowed}
use Rattle.semantics.specs.declared.answer.FlowRefusal.{FlowRefusal}
use Rattle.semantics.specs.declared.answer.ReadingRefusal.{ReadingRefusal}
use Rattle.semantics.specs.declared.answer.LiveEdge.{LiveEdge}
use Rattle.semantics.specs.declared.answer.ListingRefusal.{ListingRefusal}

abbrev pub Checked : Type 0
Checked = Result Counts ImageRefusal

abbrev pub Replayed : Type 0
Replayed = Result ⊤ (TurnedBack ReplayRefusal)

abbrev pub Judgement : Type 0
Judgement = Result Bool (TurnedBack ReplayRefusal)

abbrev pub Resolution : Type 0
Resolution = Result Resolved ResolutionRefusal

abbrev pub LinearResolution : Type 0
LinearResolution = Result Resolved (TurnedBack LinearRefusal)

abbrev pub Creation : Type 0
Creation = Result ⊤ CreationRefusal

abbrev pub Replacement : Type 0
Replacement = Result PartialPathStats ReplacementRefusal

abbrev pub Finding : Type 0
Finding = Result (Option NodeId) FindingRefusal

abbrev pub Tallying : Type 0
Tallying = Result ⊤ (TurnedBack SearchRefusal)

abbrev pub Rewriting : Type 0
Rewriting = Result ℕ RewritingRefusal

abbrev pub Conversion : Type 0
Conversion = Result ⊤ ConversionRefusal

abbrev pub Compaction : Type 0
Compaction = Result ℕ CompactionRefusal

abbrev pub Entered : Type 0
Entered = Result ⊤ EntryRefusal

abbrev pub Flow : Type 0
Flow = Result Flowed FlowRefusal

abbrev pub NodeReading : Type 0
NodeReading = Result Node (ReadingRefusal NodeId)

abbrev pub EdgeReading : Type 0
EdgeReading = Result LiveEdge (ReadingRefusal EdgeId)

abbrev pub Listing : Type 0
Listing = Result ℕ ListingRefusal

-- the judgement of an edge: whether the extension is complete, or the refusal that appending it gives
abbrev pub EdgeJudgement : Type 0
EdgeJudgement = Result Bool PathRefusal

-- THE VALUES OF SEVERAL PARTS

-- the counts of an accepted graph
abbrev pub accepted : ℕ → ℕ → ℕ → Checked
accepted f n e = Ok (record { files = f; nodes = n; edges = e })

-- what a search tells that has ended
abbrev pub resolved : {E : Type 0} → ℕ → SearchStats → Result Resolved E
resolved n s = Ok (record { paths = n; stats = s })

abbrev pub flowed : Definitions → ℕ → SearchStats → Flow
flowed d n s = Ok (record { definitions = d; paths = n; stats = s })

abbrev pub edge_answer : NodeId → NodeId → ℤ → EdgeReading
edge_answer s t p = Ok (record { source = s; target = t; precedence = p })
