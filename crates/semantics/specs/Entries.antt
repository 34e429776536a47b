-- THE PUBLIC ENTRIES: for each, from the bytes, words and numbers that it is lent to its whole outcome: the answer and every word it leaves.
-- Contracts say of an entry that it does this; Calls has the same over an image that is decoded, and for every bound.
use Rattle.std.specs.Prelude.{ℕ, ◌≡◌, List, length}
use Rattle.semantics.specs.declared.search.SearchOrder.{SearchOrder}
use Rattle.semantics.specs.declared.search.SearchLimits.{SearchLimits}
use Rattle.semantics.specs.declared.refusal.ImageRefusal.{ImageRefusal}
use Rattle.semantics.specs.declared.answer.Trend.{Trend}
use Rattle.semantics.specs.Limits.{base, former, window_entries, Limit}
use Rattle.semantics.specs.Answer.{Answer}
use Rattle.semantics.specs.Graph.{Graph}
use Rattle.semantics.specs.Image.{symbol_bytes, check_image}
use Rattle.semantics.specs.Hidden.{sees, seen_image}
use Rattle.semantics.specs.Database.{Part, known_owners, lookup_part}
use Rattle.semantics.specs.Database.Conversion.{Converted, convert_call}
use Rattle.semantics.specs.Database.Compaction.{Compacted, compact_call}
use Rattle.semantics.specs.Calls.{ReplayOutcome, Request, LinearRequest, FileRequest, Outcome, Change, Reply, check_call, replay_call, complete_call, shadows_call, direct_call, linear_call, stitched_call, alias_request, fresh_call, replace_call, alias_call}
use Rattle.semantics.specs.Finding.{FindRequest, find_call}
use Rattle.semantics.specs.Tally.{TallyRequest, TallyOutcome, tally_call}
use Rattle.semantics.specs.Directory.{FlowKey, FlowRequest, flow_call}
use Rattle.semantics.specs.Reading.{Listed, node_call, edge_call, references_call, outgoing_call}
use Rattle.semantics.specs.Rewriting.{Rewritten, widen, narrow}
use Rattle.semantics.specs.Window.{Entering, begin_words, enter_call, trend_in}
use Rattle.semantics.specs.Asked.{order_asked, length_asked, expansions_asked, limits_asked}
use Rattle.semantics.specs.PublicAnswers.{Checked, Creation, EdgeReading, Finding, Flow, Judgement, LinearResolution, NodeReading, Replacement, Resolution}

-- what a call reads of its image: an accepted graph or 1 to 5
abbrev pub graph_in : List ℕ → Answer ImageRefusal Graph
graph_in im = check_image symbol_bytes im

-- what a search reads of it where only the files in a lent set are visible
abbrev pub seen_in : List ℕ → List ℕ → Answer ImageRefusal Graph
seen_in im visible = seen_image (sees visible) (graph_in im)

-- WHAT IS ASKED: areas count by their lengths

abbrev pub request_of : SearchOrder → SearchLimits → List ℕ → List ℕ → ℕ → Request
request_of order limits ws rs node = record { order = order; limits = limits; work = length ws; result = length rs; node = node }

abbrev pub linear_request_of : SearchLimits → List ℕ → ℕ → LinearRequest
linear_request_of limits rs node = record { limits = limits; result = length rs; node = node }

abbrev pub file_request_of : SearchOrder → Limit → Limit → List ℕ → ℕ → FileRequest
file_request_of order most expansions ws file = record { order = order; length = most; expansions = expansions; work = length ws; file = file }

abbrev pub alias_request_of : SearchOrder → Limit → Limit → List ℕ → FileRequest
alias_request_of order most expansions ws = alias_request order most expansions (length ws)

abbrev pub name_request_of : Limit → List ℕ → List ℕ → ℕ → FindRequest
name_request_of most ws rs node = record { length = most; work = length ws; result = length rs; node = node }

abbrev pub tally_request_of : List ℕ → ℕ → TallyRequest
tally_request_of ws node = record { work = length ws; node = node }

abbrev pub key_of : List ℕ → ℕ → ℕ → FlowKey
key_of isin tranche leg = record { isin = isin; tranche = tranche; leg = leg }

abbrev pub flow_request_of : FlowKey → SearchOrder → SearchLimits → List ℕ → List ℕ → FlowRequest
flow_request_of key order limits ws rs = record { order = order; limits = limits; work = length ws; result = length rs; key = key }

-- THE ENTRIES

abbrev pub check_of : List ℕ → Checked
check_of im = check_call (graph_in im)

abbrev pub replay_of : List ℕ → ℕ → List ℕ → ReplayOutcome
replay_of im r es = replay_call base (graph_in im) r es

abbrev pub complete_of : List ℕ → ℕ → List ℕ → Judgement
complete_of im r es = complete_call base (graph_in im) r es

abbrev pub shadows_of : List ℕ → ℕ → List ℕ → ℕ → List ℕ → Judgement
shadows_of im l ls r rs = shadows_call base (graph_in im) l ls r rs

-- direct search from a node: the image, the visible files, the node, what is asked, the work and the result area
abbrev pub direct_search : Reply → List ℕ → List ℕ → ℕ → SearchOrder → SearchLimits → List ℕ → List ℕ → Outcome Resolution
direct_search reply im visible r order limits ws rs = direct_call base reply (seen_in im visible) (request_of order limits ws rs r)

abbrev pub linear_search : Reply → List ℕ → List ℕ → ℕ → SearchLimits → List ℕ → Outcome LinearResolution
linear_search reply im visible r limits rs = linear_call base reply (seen_in im visible) (linear_request_of limits rs r)

-- the same with the words of a database, which are only read
abbrev pub stitched_search : Reply → List ℕ → List ℕ → List ℕ → ℕ → SearchOrder → SearchLimits → List ℕ → List ℕ → Outcome Resolution
stitched_search reply im visible words r order limits ws rs = stitched_call base reply known_owners (sees visible) (seen_in im visible) words (request_of order limits ws rs r)

-- a name for a definition: the image, the visible files, the node, the limit on length, the work and the result area
abbrev pub find_name : List ℕ → List ℕ → ℕ → Limit → List ℕ → List ℕ → Outcome Finding
find_name im visible n most ws rs = find_call base (seen_in im visible) (name_request_of most ws rs n)

-- a tally by length: the image, the visible files, the reference, and the work area, of which only the length counts
abbrev pub tally_lengths : List ℕ → List ℕ → ℕ → List ℕ → TallyOutcome
tally_lengths im visible r ws = tally_call base (tally_request_of ws r) (seen_in im visible)

-- a cash flow of a directory resolved: the image, the visible files, the rows, the key, what is asked, the work and the result area
abbrev pub resolve_flow : List ℕ → List ℕ → List ℕ → FlowKey → SearchOrder → SearchLimits → List ℕ → List ℕ → Outcome Flow
resolve_flow im visible rows key order limits ws rs = flow_call base (seen_in im visible) rows (flow_request_of key order limits ws rs)

-- a graph read by number: the image, the visible files, the number, and the lent area, of which only the length counts
abbrev pub node_of : List ℕ → List ℕ → ℕ → NodeReading
node_of im visible n = node_call (seen_in im visible) n

abbrev pub edge_of : List ℕ → List ℕ → ℕ → EdgeReading
edge_of im visible e = edge_call (seen_in im visible) e

abbrev pub references_of : List ℕ → List ℕ → List ℕ → Listed
references_of im visible rs = references_call (seen_in im visible) (length rs)

abbrev pub outgoing_of : List ℕ → List ℕ → ℕ → List ℕ → Listed
outgoing_of im visible n rs = outgoing_call (seen_in im visible) n (length rs)

-- an image rewritten in the other version: the image, and the lent bytes
abbrev pub widen_image : List ℕ → List ℕ → Rewritten
widen_image im area = widen im (length area)

abbrev pub narrow_image : List ℕ → List ℕ → Rewritten
narrow_image im area = narrow im (length area)

abbrev pub fresh_database : List ℕ → List ℕ → Change Creation
fresh_database im words = fresh_call (graph_in im) words

-- a file replaced: the limits on length and on expansions, the work area, the words of the database
abbrev pub replace_file : List ℕ → ℕ → SearchOrder → Limit → Limit → List ℕ → List ℕ → Change Replacement
replace_file im f order most expansions ws words = replace_call base known_owners (graph_in im) (file_request_of order most expansions ws f) words

-- a database of the former bound rewritten for the present one in a lent area, of which only the length counts
abbrev pub convert_database : List ℕ → List ℕ → Converted
convert_database old new = convert_call former base known_owners old (length new)

-- the dead slots of a database dropped: its words, and the lent list, of which only the length counts
abbrev pub compact_database : List ℕ → List ℕ → Compacted
compact_database words list = compact_call base known_owners words (length list)

-- the alias set replaced, lent the same
abbrev pub replace_aliases : List ℕ → SearchOrder → Limit → Limit → List ℕ → List ℕ → Change Replacement
replace_aliases im order most expansions ws words = alias_call base known_owners (graph_in im) (alias_request_of order most expansions ws) words

abbrev pub lookup_of : ℕ → List ℕ → Part
lookup_of i words = lookup_part base known_owners i words

-- the window over the last searches, in lent words: begun, a count entered, and what it reports
abbrev pub begin_window : List ℕ → List ℕ
begin_window words = begin_words window_entries words

abbrev pub enter_window : List ℕ → ℕ → Entering
enter_window words count = enter_call base window_entries words count

abbrev pub report_window : List ℕ → Trend
report_window words = trend_in window_entries words

-- THE SAME WHERE THE NUMBERS OF Asked SAY WHAT IS ASKED: the exported calls

abbrev pub direct_asked : Reply → List ℕ → List ℕ → ℕ → List ℕ → List ℕ → List ℕ → Outcome Resolution
direct_asked reply im visible r asked ws rs = direct_search reply im visible r (order_asked asked) (limits_asked asked) ws rs

abbrev pub linear_asked : Reply → List ℕ → List ℕ → ℕ → List ℕ → List ℕ → Outcome LinearResolution
linear_asked reply im visible r asked rs = linear_search reply im visible r (limits_asked asked) rs

abbrev pub stitched_asked : Reply → List ℕ → List ℕ → List ℕ → ℕ → List ℕ → List ℕ → List ℕ → Outcome Resolution
stitched_asked reply im visible words r asked ws rs = stitched_search reply im visible words r (order_asked asked) (limits_asked asked) ws rs

abbrev pub flow_asked : List ℕ → List ℕ → List ℕ → FlowKey → List ℕ → List ℕ → List ℕ → Outcome Flow
flow_asked im visible rows key asked ws rs = resolve_flow im visible rows key (order_asked asked) (limits_asked asked) ws rs

-- of the numbers only those of the limit on length are read
abbrev pub name_asked : List ℕ → List ℕ → ℕ → List ℕ → List ℕ → List ℕ → Outcome Finding
name_asked im visible n asked ws rs = find_name im visible n (length_asked asked) ws rs

abbrev pub replace_asked : List ℕ → ℕ → List ℕ → List ℕ → List ℕ → Change Replacement
replace_asked im f asked ws words = replace_file im f (order_asked asked) (length_asked asked) (expansions_asked asked) ws words

abbrev pub aliases_asked : List ℕ → List ℕ → List ℕ → List ℕ → Change Replacement
aliases_asked im asked ws words = replace_aliases im (order_asked asked) (length_asked asked) (expansions_asked asked) ws words

-- WHAT IS LEFT, in one line for the functions below an entry

-- the answer, and every word of the work area and of the result area
abbrev pub Does : {A : Type 0} → Outcome A → A → List ℕ → List ℕ → Type 0
Does o a ws rs = (a ≡ o.answer) × (ws ≡ o.work) × (rs ≡ o.result)

-- a linear search has no work area
abbrev pub DoesLinear : Outcome LinearResolution → LinearResolution → List ℕ → Type 0
DoesLinear o a rs = (a ≡ o.answer) × (rs ≡ o.result)

-- the answer, and every word of the work area and of the database
abbrev pub Changes : {A : Type 0} → Change A → A → List ℕ → List ℕ → Type 0
Changes o a ws db = (a ≡ o.answer) × (ws ≡ o.work) × (db ≡ o.database)

-- a fresh database, and a replacement before its work area is zeroed
abbrev pub Leaves : {A : Type 0} → Change A → A → List ℕ → Type 0
Leaves o a db = (a ≡ o.answer) × (db ≡ o.database)
