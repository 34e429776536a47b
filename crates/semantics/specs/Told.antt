-- What each case of an answer is in document 01: its number, then the values that are returned with it.
-- Document 01, "Turned back"; a call that is not refused has the number 0 here. Told/Laws shows that nothing is lost: answers told alike are the same.
use Rattle.std.specs.Prelude.{ℕ, ◌-◌, Bool, true, false, List, [], ◌∷◌, Err, None, Ok, Some}
use Rattle.semantics.specs.Database.{Part}
use Rattle.semantics.specs.declared.search.SearchStats.{SearchStats}
use Rattle.semantics.specs.declared.search.PartialPathStats.{PartialPathStats}
use Rattle.semantics.specs.declared.refusal.ImageRefusal.{ImageRefusal}
use Rattle.semantics.specs.declared.refusal.ImageRefusal.TheVariants as Image
use Rattle.semantics.specs.declared.refusal.PathRefusal.{PathRefusal}
use Rattle.semantics.specs.declared.refusal.PathRefusal.TheVariants as Path
use Rattle.semantics.specs.declared.refusal.ReplayRefusal.{ReplayRefusal}
use Rattle.semantics.specs.declared.refusal.ReplayRefusal.TheVariants as Replay
use Rattle.semantics.specs.declared.refusal.SearchRefusal.{SearchRefusal}
use Rattle.semantics.specs.declared.refusal.SearchRefusal.TheVariants as Search
use Rattle.semantics.specs.declared.refusal.LinearRefusal.{LinearRefusal}
use Rattle.semantics.specs.declared.refusal.LinearRefusal.TheVariants as Linear
use Rattle.semantics.specs.declared.refusal.PartialPathRefusal.{PartialPathRefusal}
use Rattle.semantics.specs.declared.refusal.PartialPathRefusal.TheVariants as Partial
use Rattle.semantics.specs.declared.refusal.DatabaseRefusal.{DatabaseRefusal}
use Rattle.semantics.specs.declared.refusal.DatabaseRefusal.TheVariants as Database
use Rattle.semantics.specs.declared.answer.Trend.{Trend}
use Rattle.semantics.specs.declared.answer.Definitions.{Definitions}
use Rattle.semantics.specs.declared.graph.Node.{Node}
use Rattle.semantics.specs.declared.graph.Node.TheVariants as N
use Rattle.semantics.specs.Bytes.Written.{unsigned}
use Rattle.semantics.specs.PublicAnswers.{Checked, Compaction, Conversion, Creation, EdgeReading, Entered, Finding, Flow, Judgement, LinearResolution, Listing, NodeReading, Replacement, Replayed, Resolution, Rewriting, Tallying}
use Rattle.semantics.specs.declared.answer.CompactionRefusal.{CompactionRefusal}
use Rattle.semantics.specs.declared.answer.ConversionRefusal.{ConversionRefusal}
use Rattle.semantics.specs.declared.answer.CreationRefusal.{CreationRefusal}
use Rattle.semantics.specs.declared.answer.EntryRefusal.{EntryRefusal}
use Rattle.semantics.specs.declared.answer.FindingRefusal.{FindingRefusal}
use Rattle.semantics.specs.declared.answer.FlowRefusal.{FlowRefusal}
use Rattle.semantics.specs.declared.answer.ListingRefusal.{ListingRefusal}
use Rattle.semantics.specs.declared.answer.ReadingRefusal.{ReadingRefusal}
use Rattle.semantics.specs.declared.answer.ReplacementRefusal.{ReplacementRefusal}
use Rattle.semantics.specs.declared.answer.ResolutionRefusal.{ResolutionRefusal}
use Rattle.semantics.specs.declared.answer.RewritingRefusal.{RewritingRefusal}
use Rattle.semantics.specs.declared.answer.TurnedBack.{TurnedBack}

-- THE REFUSALS, row by row of document 01's table
abbrev pub told_image : ImageRefusal → List ℕ
told_image Image.Version = 1 ∷ []
told_image Image.Length = 2 ∷ []
told_image Image.Counts = 3 ∷ []
told_image (Image.Record place) = 4 ∷ place ∷ []
told_image (Image.Reference place) = 5 ∷ place ∷ []

abbrev pub told_path : PathRefusal → List ℕ
told_path (Path.UnknownNode n) = 10 ∷ n.0 ∷ []
told_path (Path.NotReference n) = 11 ∷ n.0 ∷ []
told_path (Path.UnknownEdge e) = 12 ∷ e.0 ∷ []
told_path (Path.IncorrectSource expected actual) = 13 ∷ expected.0 ∷ actual.0 ∷ []
told_path (Path.EmptySymbolStack n) = 14 ∷ n.0 ∷ []
told_path (Path.IncorrectPoppedSymbol n) = 15 ∷ n.0 ∷ []
told_path (Path.UnexpectedAttachedScopes n) = 16 ∷ n.0 ∷ []
told_path (Path.MissingAttachedScopes n) = 17 ∷ n.0 ∷ []
told_path (Path.EmptyScopeStack n) = 18 ∷ n.0 ∷ []
told_path (Path.UnknownAttachedScope n) = 19 ∷ n.0 ∷ []

abbrev pub told_replay_refusal : ReplayRefusal → List ℕ
told_replay_refusal (Replay.Path r) = told_path r
told_replay_refusal Replay.TooLong = 30 ∷ []

abbrev pub told_search : SearchRefusal → List ℕ
told_search (Search.Path r) = told_path r
told_search Search.TooLong = 30 ∷ []
told_search Search.NoWaitingSlot = 31 ∷ []
told_search Search.NoResultSlot = 32 ∷ []
told_search Search.TooManyExpansions = 36 ∷ []

abbrev pub told_linear : LinearRefusal → List ℕ
told_linear (Linear.Path r) = told_path r
told_linear (Linear.MultipleEdges n) = 20 ∷ n.0 ∷ []
told_linear Linear.TooLong = 30 ∷ []
told_linear Linear.NoResultSlot = 32 ∷ []
told_linear Linear.TooManyExpansions = 36 ∷ []

abbrev pub told_partial : PartialPathRefusal → List ℕ
told_partial (Partial.UnknownFile f) = 21 ∷ f.0 ∷ []
told_partial Partial.TooLong = 30 ∷ []
told_partial Partial.NoWaitingSlot = 31 ∷ []
told_partial Partial.TooManyExpansions = 36 ∷ []

abbrev pub told_database : DatabaseRefusal → List ℕ
told_database Database.Outgrown = 34 ∷ []
told_database Database.Malformed = 35 ∷ []

-- STATISTICS: the four counts, then the flags of the limits on length, on the path count and on complete paths, then the waiting figure
abbrev pub told_flag : Bool → ℕ
told_flag true = 1
told_flag false = 0

abbrev pub told_stats : SearchStats → List ℕ
told_stats s = s.expanded ∷ s.complete ∷ s.rejected ∷ s.cycles ∷ told_flag s.length_limited ∷ told_flag s.count_limited ∷ told_flag s.complete_limited ∷ s.waited ∷ []

abbrev pub told_partial_stats : PartialPathStats → List ℕ
told_partial_stats s = s.expanded ∷ s.found ∷ s.cycles ∷ told_flag s.length_limited ∷ told_flag s.count_limited ∷ s.waited ∷ []

-- THE ANSWERS OF THE CALLS
abbrev pub told_checked : Checked → List ℕ
told_checked (Ok counts) = 0 ∷ counts.files ∷ counts.nodes ∷ counts.edges ∷ []
told_checked (Err r) = told_image r

abbrev pub told_replayed : Replayed → List ℕ
told_replayed (Ok tt) = 0 ∷ []
told_replayed (Err (TurnedBack.Image r)) = told_image r
told_replayed (Err (TurnedBack.Refused r)) = told_replay_refusal r

abbrev pub told_judgement : Judgement → List ℕ
told_judgement (Ok holds) = 0 ∷ told_flag holds ∷ []
told_judgement (Err (TurnedBack.Image r)) = told_image r
told_judgement (Err (TurnedBack.Refused r)) = told_replay_refusal r

abbrev pub told_resolution : Resolution → List ℕ
told_resolution (Ok found) = 0 ∷ found.paths ∷ told_stats found.stats
told_resolution (Err (ResolutionRefusal.Image r)) = told_image r
told_resolution (Err (ResolutionRefusal.Database r)) = told_database r
told_resolution (Err (ResolutionRefusal.Refused r)) = told_search r

abbrev pub told_linear_resolution : LinearResolution → List ℕ
told_linear_resolution (Ok found) = 0 ∷ found.paths ∷ told_stats found.stats
told_linear_resolution (Err (TurnedBack.Image r)) = told_image r
told_linear_resolution (Err (TurnedBack.Refused r)) = told_linear r

abbrev pub told_creation : Creation → List ℕ
told_creation (Ok tt) = 0 ∷ []
told_creation (Err (CreationRefusal.Image r)) = told_image r
told_creation (Err CreationRefusal.Malformed) = 35 ∷ []

abbrev pub told_replacement : Replacement → List ℕ
told_replacement (Ok stats) = 0 ∷ told_partial_stats stats
told_replacement (Err (ReplacementRefusal.Image r)) = told_image r
told_replacement (Err (ReplacementRefusal.Database r)) = told_database r
told_replacement (Err (ReplacementRefusal.Refused r)) = told_partial r
told_replacement (Err ReplacementRefusal.Full) = 33 ∷ []

-- 0, then 1 and the reference, or 0; document 02's 37 with the node
abbrev pub told_finding : Finding → List ℕ
told_finding (Ok (Some n)) = 0 ∷ 1 ∷ n.0 ∷ []
told_finding (Ok None) = 0 ∷ 0 ∷ []
told_finding (Err (FindingRefusal.Image r)) = told_image r
told_finding (Err (FindingRefusal.NotDefinition n)) = 37 ∷ n.0 ∷ []
told_finding (Err (FindingRefusal.Refused r)) = told_search r

-- document 02, order 9; the numbers stand beside it
abbrev pub told_tallying : Tallying → List ℕ
told_tallying (Ok tt) = 0 ∷ []
told_tallying (Err (TurnedBack.Image r)) = told_image r
told_tallying (Err (TurnedBack.Refused r)) = told_search r

-- the same as it is exported: the numbers by ascending length behind the 0
abbrev pub told_tally : Tallying → List ℕ → List ℕ
told_tally (Ok tt) numbers = 0 ∷ numbers
told_tally (Err (TurnedBack.Image r)) numbers = told_image r
told_tally (Err (TurnedBack.Refused r)) numbers = told_search r

-- where a part begins, and how many words it has
abbrev pub told_part : Part → List ℕ
told_part p = p.from ∷ (p.up_to - p.from) ∷ []

-- order 3 of document 02
abbrev pub told_rewriting : Rewriting → List ℕ
told_rewriting (Ok length) = 0 ∷ length ∷ []
told_rewriting (Err (RewritingRefusal.Image r)) = told_image r
told_rewriting (Err (RewritingRefusal.WideSymbol place)) = 38 ∷ place ∷ []
told_rewriting (Err RewritingRefusal.NoRoom) = 32 ∷ []

-- document 02, order 6
abbrev pub told_conversion : Conversion → List ℕ
told_conversion (Ok tt) = 0 ∷ []
told_conversion (Err ConversionRefusal.Malformed) = 35 ∷ []
told_conversion (Err ConversionRefusal.Full) = 33 ∷ []
told_conversion (Err ConversionRefusal.TooLong) = 39 ∷ []

-- document 02, order 7: the number of live slots
abbrev pub told_compaction : Compaction → List ℕ
told_compaction (Ok live) = 0 ∷ live ∷ []
told_compaction (Err CompactionRefusal.Malformed) = 35 ∷ []
told_compaction (Err CompactionRefusal.ListTooShort) = 32 ∷ []

-- document 02, order 10: 40 with nothing; a report is never refused, so it has no number in front
abbrev pub told_entered : Entered → List ℕ
told_entered (Ok tt) = 0 ∷ []
told_entered (Err EntryRefusal.TooGreat) = 40 ∷ []

abbrev pub told_trend : Trend → List ℕ
told_trend t = t.sum ∷ t.greatest ∷ []

-- document 02, order 11: 0 for none, 1 for one and 2 for several; then the one, or 0
abbrev pub many_definitions : Definitions → ℕ
many_definitions Definitions.Nothing = 0
many_definitions (Definitions.One n) = 1
many_definitions Definitions.Several = 2

abbrev pub one_definition : Definitions → ℕ
one_definition Definitions.Nothing = 0
one_definition (Definitions.One n) = n.0
one_definition Definitions.Several = 0

-- both stand behind what the search tells; 41, 42 and 43 with nothing
abbrev pub told_flow : Flow → List ℕ
told_flow (Ok found) =
    0 ∷ found.paths ∷ found.stats.expanded ∷ found.stats.complete ∷ found.stats.rejected ∷ found.stats.cycles ∷ told_flag found.stats.length_limited ∷ told_flag found.stats.count_limited ∷ told_flag found.stats.complete_limited ∷ found.stats.waited ∷ many_definitions found.definitions ∷ one_definition found.definitions ∷ []
told_flow (Err (FlowRefusal.Image r)) = told_image r
told_flow (Err FlowRefusal.MalformedIsin) = 41 ∷ []
told_flow (Err FlowRefusal.Disordered) = 42 ∷ []
told_flow (Err FlowRefusal.UnknownKey) = 43 ∷ []
told_flow (Err (FlowRefusal.Refused r)) = told_search r

-- A GRAPH READ BY NUMBER

-- the kind as in an image, file, symbol, attached scope and flag; 0 where the kind has none
abbrev pub told_node : Node → List ℕ
told_node N.Removed = 0 ∷ 0 ∷ 0 ∷ 0 ∷ 0 ∷ []
told_node N.Root = 1 ∷ 0 ∷ 0 ∷ 0 ∷ 0 ∷ []
told_node N.JumpToScope = 2 ∷ 0 ∷ 0 ∷ 0 ∷ 0 ∷ []
told_node (N.Scope f exported) = 3 ∷ f.0 ∷ 0 ∷ 0 ∷ told_flag exported ∷ []
told_node (N.Push f symbol reference) = 4 ∷ f.0 ∷ symbol ∷ 0 ∷ told_flag reference ∷ []
told_node (N.Pop f symbol definition) = 5 ∷ f.0 ∷ symbol ∷ 0 ∷ told_flag definition ∷ []
told_node (N.PushScoped f symbol scope reference) = 6 ∷ f.0 ∷ symbol ∷ scope.0 ∷ told_flag reference ∷ []
told_node (N.PopScoped f symbol definition) = 7 ∷ f.0 ∷ symbol ∷ 0 ∷ told_flag definition ∷ []
told_node (N.DropScopes f) = 8 ∷ f.0 ∷ 0 ∷ 0 ∷ 0 ∷ []

abbrev pub told_node_reading : NodeReading → List ℕ
told_node_reading (Ok x) = 0 ∷ told_node x
told_node_reading (Err (ReadingRefusal.Image r)) = told_image r
told_node_reading (Err (ReadingRefusal.Unknown n)) = told_path (Path.UnknownNode n)

-- source, target, and the precedence as 32 bits in two's complement
abbrev pub told_edge_reading : EdgeReading → List ℕ
told_edge_reading (Ok edge) = 0 ∷ edge.source.0 ∷ edge.target.0 ∷ unsigned edge.precedence ∷ []
told_edge_reading (Err (ReadingRefusal.Image r)) = told_image r
told_edge_reading (Err (ReadingRefusal.Unknown e)) = told_path (Path.UnknownEdge e)

-- how many numbers stand in the area
abbrev pub told_listing : Listing → List ℕ
told_listing (Ok count) = 0 ∷ count ∷ []
told_listing (Err (ListingRefusal.Image r)) = told_image r
told_listing (Err (ListingRefusal.Unknown n)) = told_path (Path.UnknownNode n)
told_listing (Err ListingRefusal.NoRoom) = 32 ∷ []
