-- What the computed cases ask: each public call from the bytes of an image, with its answer as document 01's numbers and every list or word that it leaves.
-- Document 01, "Turned back" and "Small graphs".
use Rattle.std.specs.Prelude.{ℕ, ◌+◌, ◌-◌, ◌*◌, List, [], ◌∷◌, ◌++◌, map, ltb, length, take, drop, None}
use Rattle.semantics.specs.declared.search.SearchOrder.{SearchOrder}
use Rattle.semantics.specs.declared.search.SearchOrder.TheVariants.{BreadthFirst}
use Rattle.semantics.specs.Lists.{pick}
use Rattle.semantics.specs.Limits.{Bounds, base, slot_words, record_words, Limit}
use Rattle.semantics.specs.Told.{told_checked, told_replayed, told_judgement, told_resolution, told_linear_resolution, told_creation, told_replacement, told_finding, told_compaction}
use Rattle.semantics.specs.Path.{Path}
use Rattle.semantics.specs.Enumeration.{State}
use Rattle.semantics.specs.PartialPaths.{Slot, dead, slot}
use Rattle.semantics.specs.Recorded.{recorded, returned}
use Rattle.semantics.specs.Image.{symbol_bytes, check_image}
use Rattle.semantics.specs.Words.{zeros, lists_in}
use Rattle.semantics.specs.Database.{slots_in, known_owners, lookup_part, words_of}
use Rattle.semantics.specs.Database.Compaction.{Compacted, compact_call}
use Rattle.semantics.specs.Calls.{Request, LinearRequest, FileRequest, Outcome, Change, ReplayedPath, check_call, replay_call, complete_call, shadows_call, direct_call, stitched_call, linear_call, fresh_call, replace_call, alias_request, alias_call}
use Rattle.semantics.specs.Hidden.{every_file}
use Rattle.semantics.specs.Finding.{FindRequest, find_call}
use Rattle.semantics.specs.Cases.Graphs.{joined}
use Rattle.semantics.specs.PublicAnswers.{Creation, Finding, LinearResolution, Replacement, Resolution}

-- bounds other than the base's, so that few edges or expansions reach them
abbrev pub bounded : ℕ → ℕ → Bounds
bounded edges expansions = record { edges = edges; expansions = expansions }

-- THE IMAGE AND THE PATHS
unfoldable pub checking : List ℕ → List ℕ
unfolding check_call check_image
checking im = told_checked (check_call (check_image symbol_bytes im))

unfoldable pub replaying : List ℕ → ℕ → List ℕ → List ℕ
unfolding replay_call check_image
replaying im node edges = told_replayed (replay_call base (check_image symbol_bytes im) node edges).answer

-- the path beside that answer
unfoldable pub replayed : List ℕ → ℕ → List ℕ → ReplayedPath
unfolding replay_call check_image
replayed im node edges = (replay_call base (check_image symbol_bytes im) node edges).path

unfoldable pub completing : List ℕ → ℕ → List ℕ → List ℕ
unfolding complete_call check_image
completing im node edges = told_judgement (complete_call base (check_image symbol_bytes im) node edges)

unfoldable pub shadowing : List ℕ → ℕ → List ℕ → ℕ → List ℕ → List ℕ
unfolding shadows_call check_image
shadowing im left left_edges right right_edges = told_judgement (shadows_call base (check_image symbol_bytes im) left left_edges right right_edges)

-- THE SEARCHES

-- document 01's numbers of an unrefused search and of an unrefused replacement: all but the waiting figure, which document 02 has put behind them
abbrev pub search_numbers : ℕ
search_numbers = 9

abbrev pub replacement_numbers : ℕ
replacement_numbers = 6

-- from a node, with so many whole slots in the areas
abbrev pub request_from : ℕ → Bounds → SearchOrder → Limit → Limit → Limit → ℕ → ℕ → Request
request_from node bd order length count complete waiting results =
    record { order = order; limits = record { length = length; expansions = count; complete = complete }; work = slot_words bd * waiting; result = slot_words bd * results; node = node }

abbrev pub request : Bounds → SearchOrder → Limit → Limit → Limit → ℕ → ℕ → Request
request = request_from 2

-- with so many words in the areas
abbrev pub request_in : ℕ → ℕ → Request
request_in work result = record { order = BreadthFirst; limits = record { length = None; expansions = None; complete = None }; work = work; result = result; node = 2 }

-- an answer's number and values as document 01 has them, then the lists in the used result slots
unfoldable pub shown : Bounds → Outcome Resolution → List (List ℕ)
unfolding lists_in
shown bd o = take search_numbers (told_resolution o.answer) ∷ lists_in (slot_words bd) o.result

-- every number of an answer, and every word of both areas
abbrev pub shown_whole : Outcome Resolution → List (List ℕ)
shown_whole o = told_resolution o.answer ∷ o.work ∷ o.result ∷ []

unfoldable pub direct : (State Path → List Path) → Bounds → Request → List ℕ → Outcome Resolution
unfolding direct_call check_image
direct reply bd q im = direct_call bd reply (check_image symbol_bytes im) q

unfoldable pub returned_by : Bounds → Request → List ℕ → List (List ℕ)
unfolding shown direct returned
returned_by bd q im = shown bd (direct returned bd q im)

unfoldable pub recorded_by : Bounds → Request → List ℕ → List (List ℕ)
unfolding shown direct recorded
recorded_by bd q im = shown bd (direct recorded bd q im)

unfoldable pub areas_after : Request → List ℕ → List (List ℕ)
unfolding direct returned
areas_after q im = shown_whole (direct returned base q im)

-- from reference 2, with 128 waiting and 128 result slots
unfoldable pub directly : SearchOrder → Limit → Limit → Limit → List ℕ → List (List ℕ)
unfolding returned_by
directly order length count complete im = returned_by base (request base order length count complete 128 128) im

-- with 8 of each, which costs less to compute
unfoldable pub searching : SearchOrder → Limit → Limit → Limit → List ℕ → List (List ℕ)
unfolding returned_by
searching order length count complete im = returned_by base (request base order length count complete 8 8) im

-- the same with the recorded paths
unfoldable pub recording : SearchOrder → Limit → Limit → Limit → List ℕ → List (List ℕ)
unfolding recorded_by
recording order length count complete im = recorded_by base (request base order length count complete 8 8) im

unfoldable pub stitch : (State Path → List Path) → Bounds → Request → List ℕ → List ℕ → Outcome Resolution
unfolding stitched_call check_image
stitch reply bd q im words = stitched_call bd reply known_owners every_file (check_image symbol_bytes im) words q

unfoldable pub stitched_returned : Bounds → Request → List ℕ → List ℕ → List (List ℕ)
unfolding shown stitch returned
stitched_returned bd q im words = shown bd (stitch returned bd q im words)

unfoldable pub stitched_recorded : Bounds → Request → List ℕ → List ℕ → List (List ℕ)
unfolding shown stitch recorded
stitched_recorded bd q im words = shown bd (stitch recorded bd q im words)

unfoldable pub stitched_areas : Request → List ℕ → List ℕ → List (List ℕ)
unfolding stitch returned
stitched_areas q im words = shown_whole (stitch returned base q im words)

unfoldable pub stitching : SearchOrder → Limit → Limit → Limit → List ℕ → List ℕ → List (List ℕ)
unfolding stitched_returned
stitching order length count complete im words = stitched_returned base (request base order length count complete 128 128) im words

abbrev pub linear_request : ℕ → Limit → Limit → Limit → ℕ → LinearRequest
linear_request node length count complete result = record { limits = record { length = length; expansions = count; complete = complete }; result = result; node = node }

unfoldable pub linear : Bounds → LinearRequest → List ℕ → Outcome LinearResolution
unfolding linear_call check_image returned
linear bd q im = linear_call bd returned (check_image symbol_bytes im) q

unfoldable pub shown_linear : Bounds → Outcome LinearResolution → List (List ℕ)
unfolding lists_in
shown_linear bd o = take search_numbers (told_linear_resolution o.answer) ∷ lists_in (slot_words bd) o.result

-- with so many whole result slots
unfoldable pub linear_in : Bounds → ℕ → Limit → Limit → Limit → ℕ → List ℕ → List (List ℕ)
unfolding shown_linear linear
linear_in bd node length count complete results im = shown_linear bd (linear bd (linear_request node length count complete (slot_words bd * results)) im)

unfoldable pub linear_areas : LinearRequest → List ℕ → List (List ℕ)
unfolding linear
linear_areas q im = told_linear_resolution (linear base q im).answer ∷ (linear base q im).work ∷ (linear base q im).result ∷ []

unfoldable pub linearly : Limit → Limit → Limit → List ℕ → List (List ℕ)
unfolding linear_in
linearly length count complete im = linear_in base 2 length count complete 128 im

-- A NAME

-- for a node, with so many words in the areas
abbrev pub name_request : Limit → ℕ → ℕ → ℕ → FindRequest
name_request length work result node = record { length = length; work = work; result = result; node = node }

unfoldable pub naming : Bounds → FindRequest → List ℕ → Outcome Finding
unfolding find_call check_image
naming bd q im = find_call bd (check_image symbol_bytes im) q

-- with so many whole slots: the answer's number and values, then the lists in the used result slots
unfoldable pub naming_in : Bounds → Limit → ℕ → ℕ → List ℕ → ℕ → List (List ℕ)
unfolding naming lists_in
naming_in bd length waiting results im node =
    let o = naming bd (name_request length (slot_words bd * waiting) (slot_words bd * results) node) im in
    told_finding o.answer ∷ lists_in (slot_words bd) o.result

-- with 8 of each, and no limit
unfoldable pub naming_of : List ℕ → ℕ → List (List ℕ)
unfolding naming_in
naming_of im node = naming_in base None 8 8 im node

-- every word of both areas
unfoldable pub naming_areas : FindRequest → List ℕ → List (List ℕ)
unfolding naming
naming_areas q im = told_finding (naming base q im).answer ∷ (naming base q im).work ∷ (naming base q im).result ∷ []

-- THE DATABASE

-- the words of a database: slots used, N, F, then its records
abbrev pub database_of : ℕ → ℕ → ℕ → List (List ℕ) → List ℕ
database_of used nodes files records = used ∷ nodes ∷ files ∷ joined records

-- a record with room for so many edges: owner + 1, start, end, edge count, the edges, zeros behind the last
abbrev pub held_in : ℕ → ℕ → ℕ → ℕ → List ℕ → List ℕ
held_in room owner start end edges = owner ∷ start ∷ end ∷ length edges ∷ (edges ++ zeros (room - length edges))

abbrev pub held : ℕ → ℕ → ℕ → List ℕ → List ℕ
held = held_in base.edges

-- words for a database of so many slots
abbrev pub words_for : Bounds → ℕ → List ℕ
words_for bd slots = zeros (record_words bd * slots + 3)

unfoldable pub creating : List ℕ → List ℕ → Change Creation
unfolding fresh_call check_image
creating im words = fresh_call (check_image symbol_bytes im) words

abbrev pub file_request : Bounds → SearchOrder → Limit → Limit → ℕ → ℕ → FileRequest
file_request bd order length count waiting file = record { order = order; length = length; expansions = count; work = slot_words bd * waiting; file = file }

unfoldable pub filing : Bounds → FileRequest → List ℕ → List ℕ → Change Replacement
unfolding replace_call check_image
filing bd q im words = replace_call bd known_owners (check_image symbol_bytes im) q words

-- the alias set, with so many whole waiting slots
abbrev pub aliases_with : Bounds → SearchOrder → Limit → Limit → ℕ → FileRequest
aliases_with bd order length count waiting = alias_request order length count (slot_words bd * waiting)

unfoldable pub aliasing : Bounds → FileRequest → List ℕ → List ℕ → Change Replacement
unfolding alias_call check_image
aliasing bd q im words = alias_call bd known_owners (check_image symbol_bytes im) q words

-- every word that a fresh database and a replacement leave
abbrev pub created_words : Change Creation → List (List ℕ)
created_words c = told_creation c.answer ∷ c.work ∷ c.database ∷ []

abbrev pub changed_words : Change Replacement → List (List ℕ)
changed_words c = told_replacement c.answer ∷ c.work ∷ c.database ∷ []

-- a database of 8 slots, and file f replaced in it
unfoldable pub freshly : List ℕ → List ℕ
unfolding creating
freshly im = (creating im (words_for base 8)).database

unfoldable pub replacing : List ℕ → ℕ → List ℕ → Change Replacement
unfolding filing
replacing im f words = filing base (file_request base BreadthFirst None None 128 f) im words

unfoldable pub first_filed : List ℕ → List ℕ
unfolding replacing freshly
first_filed im = (replacing im 0 (freshly im)).database

-- a live slot's start, then its edges
unfoldable pub slot_row : Slot → List ℕ
slot_row dead = []
slot_row (slot owner start end edges) = start ∷ edges

unfoldable pub slot_rows : Bounds → List ℕ → List (List ℕ)
unfolding slots_in slot_row
slot_rows bd words = map slot_row (slots_in bd words)

unfoldable pub shown_slots : Bounds → Change Replacement → List (List ℕ)
unfolding slot_rows
shown_slots bd c = take replacement_numbers (told_replacement c.answer) ∷ slot_rows bd c.database

-- the partial paths of a file in a fresh database of so many slots
unfoldable pub partials_in : Bounds → SearchOrder → Limit → Limit → ℕ → ℕ → ℕ → List ℕ → List (List ℕ)
unfolding shown_slots filing creating
partials_in bd order length count waiting slots f im = shown_slots bd (filing bd (file_request bd order length count waiting f) im (creating im (words_for bd slots)).database)

-- the alias set in a fresh database of so many slots
unfoldable pub aliases_in : Bounds → SearchOrder → Limit → Limit → ℕ → ℕ → List ℕ → List (List ℕ)
unfolding shown_slots aliasing creating
aliases_in bd order length count waiting slots im = shown_slots bd (aliasing bd (aliases_with bd order length count waiting) im (creating im (words_for bd slots)).database)

-- the words after the alias set was replaced in them
unfoldable pub aliases_beside : List ℕ → List ℕ → List ℕ
unfolding aliasing
aliases_beside im words = (aliasing base (aliases_with base BreadthFirst None None 128) im words).database

-- a slot's owner, start and end, then its edges; nothing for a dead one
unfoldable pub slot_whole : Slot → List ℕ
slot_whole dead = []
slot_whole (slot owner start end edges) = owner ∷ start ∷ end ∷ edges

unfoldable pub slots_held : List ℕ → List (List ℕ)
unfolding slots_in slot_whole
slots_held words = map slot_whole (slots_in base words)

-- the place of a partial path's edges among the words, and the words there
unfoldable pub looking_up : ℕ → List ℕ → List (List ℕ)
unfolding lookup_part
looking_up i words = ((lookup_part base known_owners i words).from ∷ (lookup_part base known_owners i words).up_to ∷ []) ∷ words_of (lookup_part base known_owners i words) words ∷ []

-- every word that a compaction leaves: the database, and the list of so many words
abbrev pub compacted_words : Compacted → List (List ℕ)
compacted_words c = told_compaction c.answer ∷ c.database ∷ c.list ∷ []

unfoldable pub compacting : Bounds → List ℕ → ℕ → List (List ℕ)
unfolding compact_call
compacting bd words len = compacted_words (compact_call bd known_owners words len)

-- THE WAITING FIGURE

-- what stands behind n numbers of an answer; a refusal, which has no more than n, stays as it is
unfoldable pub behind : ℕ → List ℕ → List ℕ
behind n told = pick (ltb n (length told)) (drop n told) told

-- from reference 2, under a limit on the path count, with so many waiting slots
unfoldable pub waits_in : (State Path → List Path) → SearchOrder → Limit → ℕ → List ℕ → List ℕ
unfolding behind direct
waits_in reply order count waiting im = behind search_numbers (told_resolution (direct reply base (request base order None count None waiting 8) im).answer)

unfoldable pub waits_stitched : (State Path → List Path) → SearchOrder → ℕ → List ℕ → List ℕ → List ℕ
unfolding behind stitch
waits_stitched reply order waiting im words = behind search_numbers (told_resolution (stitch reply base (request base order None None None waiting 8) im words).answer)

unfoldable pub waits_linear : List ℕ → List ℕ
unfolding behind linear
waits_linear im = behind search_numbers (told_linear_resolution (linear base (linear_request 2 None None None (slot_words base)) im).answer)

-- the partial paths of file f in a database of 8 slots
unfoldable pub waits_filing : SearchOrder → Limit → ℕ → ℕ → List ℕ → List ℕ
unfolding behind filing freshly
waits_filing order count waiting f im = behind replacement_numbers (told_replacement (filing base (file_request base order None count waiting f) im (freshly im)).answer)

-- the alias set in a database of 8 slots
unfoldable pub waits_aliasing : SearchOrder → Limit → ℕ → List ℕ → List ℕ
unfolding behind aliasing freshly
waits_aliasing order count waiting im = behind replacement_numbers (told_replacement (aliasing base (aliases_with base order None count waiting) im (freshly im)).answer)
