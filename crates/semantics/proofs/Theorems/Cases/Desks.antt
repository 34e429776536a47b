-- Two desks over one graph and one database: what each search tells a desk that sees some of the files, and what it does not.
-- Document 02, order 8.
use Rattle.std.specs.Prelude.{ℕ, ◌+◌, ◌-◌, ◌*◌, refl, List, [], ◌∷◌, ◌++◌, map, get_or, take, replicate, None, Some}
use Rattle.semantics.specs.declared.search.SearchLimits.{SearchLimits}
use Rattle.semantics.specs.declared.search.SearchOrder.TheVariants.{BreadthFirst, DepthFirst}
use Rattle.semantics.specs.Limits.{Bounds, base, max_edges, slot_length, Limit}
use Rattle.semantics.specs.Told.{told_finding}
use Rattle.semantics.specs.Recorded.{recorded, returned as unshadowed}
use Rattle.semantics.specs.Image.{symbol_bytes, check_image}
use Rattle.semantics.specs.Words.{zeros, lists_in}
use Rattle.semantics.specs.Database.{known_owners}
use Rattle.semantics.specs.Calls.{Reply, direct_call, linear_call, stitched_call}
use Rattle.semantics.specs.Finding.{find_call}
use Rattle.semantics.specs.Hidden.{sees, seen_image}
use Rattle.semantics.specs.Entries.{direct_search, linear_search, stitched_search, find_name}
use Rattle.semantics.specs.Cases.Rows.{Row, ◌gives◌, Agreed, refused, returned◌expanded◌complete◌rejected◌cycles◌flags◌paths◌, no_flag, length_flag}
use Rattle.semantics.specs.Cases.Graphs.{image_d, image_of, removed_node, scope, exported, push, reference, pop, definition, push_scoped, scoped_reference, pop_scoped, scoped_definition, drop_scopes, removed_edge, ◌⟶◌, hopping}
use Rattle.semantics.specs.Cases.Asked.{bounded, request, shown, shown_whole, shown_linear, database_of, held, held_in}

-- WHO ASKS: file 0 is that of rates, file 1 that of credit
abbrev pub rates : List ℕ
rates = 1 ∷ 0 ∷ []

abbrev credit : List ℕ
credit = 0 ∷ 1 ∷ []

abbrev both : List ℕ
both = 1 ∷ 1 ∷ []

-- reference 2 and definition 3 of rates; definition 4, scope 5 with a loop, reference 6 and definition 8, which pops another symbol, of credit; node 7 is
-- removed. Each file reaches root: edges 0 and 2 of rates, 1, 4, 5, 7 and 8 of credit, 3 from root to root; edge 6 is removed
abbrev pub tables : List ℕ
tables = image_of 2 (reference 0 7 ∷ definition 0 7 ∷ definition 1 7 ∷ scope 1 ∷ reference 1 7 ∷ removed_node ∷ definition 1 8 ∷ []) (2 ⟶ 0 ∷ 0 ⟶ 4 ∷ 0 ⟶ 3 ∷ 0 ⟶ 0 ∷ 0 ⟶ 5 ∷ 6 ⟶ 0 ∷ removed_edge ∷ 0 ⟶ 8 ∷ 5 ⟶ 5 ∷ [])

-- reference 2 of rates goes to root and from there to definition 3 of credit alone
abbrev across : List ℕ
across = image_of 2 (reference 0 7 ∷ definition 1 7 ∷ []) (2 ⟶ 0 ∷ 0 ⟶ 3 ∷ [])

-- from root to definition 3 of rates and to definition 4 of credit
abbrev fork : List ℕ
fork = image_of 2 (reference 0 7 ∷ definition 0 7 ∷ definition 1 7 ∷ []) (2 ⟶ 0 ∷ 0 ⟶ 3 ∷ 0 ⟶ 4 ∷ [])

-- each kind of node in file 1
abbrev kinds : List ℕ
kinds = image_of 2 (scope 1 ∷ exported 1 ∷ push 1 7 ∷ reference 1 7 ∷ pop 1 7 ∷ definition 1 7 ∷ push_scoped 1 7 3 ∷ scoped_reference 1 7 3 ∷ pop_scoped 1 7 ∷ scoped_definition 1 7 ∷ drop_scopes 1 ∷ []) []

-- WHAT IS ASKED, in areas of so many whole slots
abbrev limited : Limit → SearchLimits
limited most = record { length = most; expansions = None; complete = None }

abbrev pub unhindered : SearchLimits
unhindered = limited None

abbrev room : ℕ → List ℕ
room n = zeros (n * slot_length)

-- the recorded paths of a direct search; the returned ones, depth-first
seen : List ℕ → List ℕ → ℕ → List (List ℕ)
unfolding shown direct_call seen_image check_image recorded
seen visible im node = shown base (direct_search recorded im visible node BreadthFirst unhindered (room 8) (room 8))

seen_returned : List ℕ → List ℕ → ℕ → List (List ℕ)
unfolding shown direct_call seen_image check_image unshadowed
seen_returned visible im node = shown base (direct_search unshadowed im visible node DepthFirst unhindered (room 8) (room 8))

-- with a limit on length, and with so many slots
seen_with : Limit → ℕ → ℕ → List ℕ → List ℕ → List (List ℕ)
unfolding shown direct_call seen_image check_image recorded
seen_with most waiting results visible im = shown base (direct_search recorded im visible 2 BreadthFirst (limited most) (room waiting) (room results))

seen_under : Bounds → List ℕ → List ℕ → List (List ℕ)
unfolding shown direct_call seen_image check_image recorded
seen_under bd visible im = shown bd (direct_call bd recorded (seen_image (sees visible) (check_image symbol_bytes im)) (request bd BreadthFirst None None None 8 8))

line : Reply → List ℕ → List ℕ → ℕ → List (List ℕ)
unfolding shown_linear linear_call seen_image check_image
line reply visible im node = shown_linear base (linear_search reply im visible node unhindered (room 8))

stitch : Reply → Limit → List ℕ → List ℕ → List ℕ → ℕ → List (List ℕ)
unfolding shown stitched_call seen_image check_image
stitch reply most visible im words node = shown base (stitched_search reply im visible words node BreadthFirst (limited most) (room 8) (room 8))

stitch_under : Bounds → List ℕ → List ℕ → List ℕ → List (List ℕ)
unfolding shown stitched_call seen_image check_image recorded
stitch_under bd visible im words = shown bd (stitched_call bd recorded known_owners (sees visible) (seen_image (sees visible) (check_image symbol_bytes im)) words (request bd BreadthFirst None None None 8 8))

name : ℕ → List ℕ → List ℕ → ℕ → List (List ℕ)
unfolding lists_in find_call seen_image check_image
name waiting visible im node = let o = find_name im visible node None (room waiting) (room 8) in told_finding o.answer ∷ lists_in slot_length o.result

infix 5 ◌by◌
abbrev ◌by◌ : ℕ → List ℕ → List (List ℕ)
◌by◌ from edges = (0 ∷ 1 ∷ from ∷ []) ∷ edges ∷ []

abbrev nameless : List (List ℕ)
nameless = (0 ∷ 0 ∷ []) ∷ []

-- what rates is told of its reference in `tables`, and what it would be told of everything
abbrev of_rates : List (List ℕ)
of_rates = returned 2 expanded 5 complete 2 rejected 0 cycles 1 flags no_flag paths (0 ∷ 2 ∷ []) ∷ (0 ∷ 3 ∷ 2 ∷ []) ∷ []

abbrev of_both : List (List ℕ)
of_both = returned 4 expanded 11 complete 4 rejected 2 cycles 3 flags no_flag paths (0 ∷ 1 ∷ []) ∷ (0 ∷ 2 ∷ []) ∷ (0 ∷ 3 ∷ 1 ∷ []) ∷ (0 ∷ 3 ∷ 2 ∷ []) ∷ []

-- THE NODE
pub nodes : List (Row (List (List ℕ)))
unfolding seen seen_returned line name recorded unshadowed
nodes =
    -- a reference, a scope and a definition of a hidden file are 10; where the file is visible the latter two are 11
    (seen rates tables 6 gives refused (10 ∷ 6 ∷ []))
    ∷ (seen rates tables 5 gives refused (10 ∷ 5 ∷ []))
    ∷ (seen rates tables 4 gives refused (10 ∷ 4 ∷ []))
    ∷ (seen credit tables 5 gives refused (11 ∷ 5 ∷ []))
    ∷ (seen credit tables 4 gives refused (11 ∷ 4 ∷ []))
    ∷ (seen credit tables 2 gives refused (10 ∷ 2 ∷ []))
    ∷ (seen credit tables 3 gives refused (10 ∷ 3 ∷ []))
    ∷ (seen rates tables 3 gives refused (11 ∷ 3 ∷ []))
    -- a removed node and one behind the last are 10 to all; root and jump, which have no file, 11 to all
    ∷ (seen both tables 7 gives refused (10 ∷ 7 ∷ []))
    ∷ (seen rates tables 7 gives refused (10 ∷ 7 ∷ []))
    ∷ (seen both tables 9 gives refused (10 ∷ 9 ∷ []))
    ∷ (seen both tables 0 gives refused (11 ∷ 0 ∷ []))
    ∷ (seen [] tables 0 gives refused (11 ∷ 0 ∷ []))
    ∷ (seen [] tables 1 gives refused (11 ∷ 1 ∷ []))
    -- the same of the returned paths, of linear search and of its recorded paths
    ∷ (seen_returned rates tables 6 gives refused (10 ∷ 6 ∷ []))
    ∷ (seen_returned rates tables 5 gives refused (10 ∷ 5 ∷ []))
    ∷ (line unshadowed rates tables 6 gives refused (10 ∷ 6 ∷ []))
    ∷ (line recorded rates tables 5 gives refused (10 ∷ 5 ∷ []))
    ∷ (line recorded rates tables 3 gives refused (11 ∷ 3 ∷ []))
    ∷ (line recorded [] tables 1 gives refused (11 ∷ 1 ∷ []))
    -- the definition whose name is sought: 10 before 37
    ∷ (name 8 rates tables 4 gives refused (10 ∷ 4 ∷ []))
    ∷ (name 8 rates tables 5 gives refused (10 ∷ 5 ∷ []))
    ∷ (name 8 rates tables 6 gives refused (10 ∷ 6 ∷ []))
    ∷ (name 8 rates tables 7 gives refused (10 ∷ 7 ∷ []))
    ∷ (name 8 rates tables 2 gives refused (37 ∷ 2 ∷ []))
    ∷ (name 8 both tables 5 gives refused (37 ∷ 5 ∷ []))
    ∷ (name 8 [] tables 3 gives refused (10 ∷ 3 ∷ []))
    ∷ (name 8 [] tables 0 gives refused (37 ∷ 0 ∷ []))
    ∷ (name 8 [] tables 1 gives refused (37 ∷ 1 ∷ []))
    -- and whatever is asked, the image first
    ∷ (seen rates (take 60 tables) 6 gives refused (2 ∷ []))
    ∷ (name 8 rates (take 60 tables) 6 gives refused (2 ∷ []))
    ∷ []

pub node-cases : Agreed nodes
unfolding nodes
node-cases = refl

-- WHATEVER ITS KIND: the number that each node of `kinds` is answered
abbrev every_kind : List ℕ
every_kind = 2 ∷ 3 ∷ 4 ∷ 5 ∷ 6 ∷ 7 ∷ 8 ∷ 9 ∷ 10 ∷ 11 ∷ 12 ∷ []

abbrev first_of : List (List ℕ) → ℕ
first_of [] = 0
first_of (told ∷ rest) = get_or told 0 0

pub each_kind : List (Row (List ℕ))
unfolding seen name
each_kind =
    (map (λ n. first_of (seen rates kinds n)) every_kind gives replicate 11 10)
    ∷ (map (λ n. first_of (seen credit kinds n)) every_kind gives 11 ∷ 11 ∷ 11 ∷ 0 ∷ 11 ∷ 11 ∷ 11 ∷ 0 ∷ 11 ∷ 11 ∷ 11 ∷ [])
    ∷ (map (λ n. first_of (name 8 rates kinds n)) every_kind gives replicate 11 10)
    ∷ (map (λ n. first_of (name 8 credit kinds n)) every_kind gives 37 ∷ 37 ∷ 37 ∷ 37 ∷ 37 ∷ 0 ∷ 37 ∷ 37 ∷ 37 ∷ 0 ∷ 37 ∷ [])
    ∷ []

pub kind-cases : Agreed each_kind
unfolding each_kind
kind-cases = refl

-- THE SET: a byte that is there and not 0
pub sets : List (Row (List (List ℕ)))
unfolding seen
sets =
    -- rates alone, by a set that is shorter than F, as long, longer, and by any byte but 0
    (seen rates tables 2 gives of_rates)
    ∷ (seen (1 ∷ []) tables 2 gives of_rates)
    ∷ (seen (2 ∷ 0 ∷ []) tables 2 gives of_rates)
    ∷ (seen (255 ∷ []) tables 2 gives of_rates)
    ∷ (seen (1 ∷ 0 ∷ 1 ∷ 1 ∷ 255 ∷ []) tables 2 gives of_rates)
    -- everything
    ∷ (seen both tables 2 gives of_both)
    ∷ (seen (1 ∷ 2 ∷ []) tables 2 gives of_both)
    ∷ (seen (255 ∷ 255 ∷ 0 ∷ []) tables 2 gives of_both)
    ∷ (seen (replicate 300 1) tables 2 gives of_both)
    -- nothing
    ∷ (seen [] tables 2 gives refused (10 ∷ 2 ∷ []))
    ∷ (seen (0 ∷ []) tables 2 gives refused (10 ∷ 2 ∷ []))
    ∷ (seen (0 ∷ 0 ∷ 1 ∷ 1 ∷ []) tables 2 gives refused (10 ∷ 2 ∷ []))
    -- credit
    ∷ (seen credit tables 6 gives returned 2 expanded 9 complete 2 rejected 2 cycles 3 flags no_flag paths (5 ∷ 1 ∷ []) ∷ (5 ∷ 3 ∷ 1 ∷ []) ∷ [])
    ∷ []

pub set_cases : Agreed sets
unfolding sets
set_cases = refl

-- HIDDEN EDGES are passed over without being counted: neither rejected, cut, over the limit or the bound, nor waiting or kept, nor a second way
pub edges : List (Row (List (List ℕ)))
unfolding seen seen_returned seen_with seen_under line recorded unshadowed
edges =
    (seen_with (Some 1) 8 8 both across gives returned 0 expanded 2 complete 0 rejected 0 cycles 0 flags length_flag paths [])
    ∷ (seen_with (Some 1) 8 8 rates across gives returned 0 expanded 2 complete 0 rejected 0 cycles 0 flags no_flag paths [])
    ∷ (seen_under (bounded 1 9) both across gives refused (30 ∷ []))
    ∷ (seen_under (bounded 1 9) rates across gives returned 0 expanded 2 complete 0 rejected 0 cycles 0 flags no_flag paths [])
    ∷ (seen_under (bounded max_edges 2) both across gives refused (36 ∷ []))
    ∷ (seen_under (bounded max_edges 2) rates across gives returned 0 expanded 2 complete 0 rejected 0 cycles 0 flags no_flag paths [])
    ∷ (seen_with None 1 8 both fork gives refused (31 ∷ []))
    ∷ (seen_with None 1 8 rates fork gives returned 1 expanded 3 complete 1 rejected 0 cycles 0 flags no_flag paths (0 ∷ 1 ∷ []) ∷ [])
    ∷ (seen_with None 8 1 both fork gives refused (32 ∷ []))
    ∷ (seen_with None 8 1 rates fork gives returned 1 expanded 3 complete 1 rejected 0 cycles 0 flags no_flag paths (0 ∷ 1 ∷ []) ∷ [])
    ∷ (line unshadowed both fork 2 gives refused (20 ∷ 0 ∷ []))
    ∷ (line unshadowed rates fork 2 gives returned 1 expanded 3 complete 1 rejected 0 cycles 0 flags no_flag paths (0 ∷ 1 ∷ []) ∷ [])
    ∷ (line recorded rates fork 2 gives returned 1 expanded 3 complete 1 rejected 0 cycles 0 flags no_flag paths (0 ∷ 1 ∷ []) ∷ [])
    ∷ (line recorded rates across 2 gives returned 0 expanded 2 complete 0 rejected 0 cycles 0 flags no_flag paths [])
    -- returned, depth-first
    ∷ (seen_returned rates tables 2 gives returned 2 expanded 5 complete 2 rejected 0 cycles 1 flags no_flag paths (0 ∷ 2 ∷ []) ∷ (0 ∷ 3 ∷ 2 ∷ []) ∷ [])
    -- through another file and by jump back, unless that file is hidden; a jump within what is visible
    ∷ (seen both image_d 2 gives returned 1 expanded 6 complete 1 rejected 0 cycles 0 flags no_flag paths (0 ∷ 1 ∷ 2 ∷ 3 ∷ 4 ∷ []) ∷ [])
    ∷ (seen rates image_d 2 gives returned 0 expanded 3 complete 0 rejected 0 cycles 0 flags no_flag paths [])
    ∷ (seen rates hopping 2 gives returned 1 expanded 6 complete 1 rejected 0 cycles 0 flags no_flag paths (0 ∷ 1 ∷ 2 ∷ 3 ∷ 4 ∷ []) ∷ [])
    ∷ []

pub edge-cases : Agreed edges
unfolding edges
edge-cases = refl

-- SLOTS

-- reference and root of rates, root of credit, the alias set, and the reference of credit
abbrev pub filed : List ℕ
filed = database_of 5 9 2 (held 1 2 0 (0 ∷ []) ∷ held 2 0 4 (1 ∷ []) ∷ held 1 0 3 (2 ∷ []) ∷ held 65535 0 0 (3 ∷ []) ∷ held 2 6 0 (5 ∷ []) ∷ [])

-- one slot, and one that leads to root before it
abbrev alone : List ℕ → List ℕ
alone s = database_of 1 9 2 (s ∷ [])

abbrev behind : List ℕ → List ℕ
behind s = database_of 2 9 2 (held 1 2 0 (0 ∷ []) ∷ s ∷ [])

-- nothing was found in so many expansions
abbrev found-none-in : ℕ → List (List ℕ)
found-none-in n = returned 0 expanded n complete 0 rejected 0 cycles 0 flags no_flag paths []

pub slots : List (Row (List (List ℕ)))
unfolding stitch stitch_under recorded unshadowed
slots =
    -- THOSE OF HIDDEN FILES are passed over, those of nobody by none
    (stitch recorded None both tables filed 2 gives returned 4 expanded 7 complete 4 rejected 0 cycles 1 flags no_flag paths (0 ∷ 1 ∷ []) ∷ (0 ∷ 2 ∷ []) ∷ (0 ∷ 3 ∷ 1 ∷ []) ∷ (0 ∷ 3 ∷ 2 ∷ []) ∷ [])
    ∷ (stitch recorded None rates tables filed 2 gives of_rates)
    ∷ (stitch recorded None (255 ∷ 0 ∷ 1 ∷ []) tables filed 2 gives of_rates)
    ∷ (stitch unshadowed None rates tables filed 2 gives of_rates)
    ∷ (stitch recorded None credit tables filed 6 gives returned 2 expanded 5 complete 2 rejected 0 cycles 1 flags no_flag paths (5 ∷ 1 ∷ []) ∷ (5 ∷ 3 ∷ 1 ∷ []) ∷ [])
    -- by the owner: not by the start's file, nor by that of the edges
    ∷ (stitch recorded None rates tables (alone (held 2 2 0 (0 ∷ 2 ∷ []))) 2 gives found-none-in 1)
    ∷ (stitch recorded None both tables (alone (held 2 2 0 (0 ∷ 2 ∷ []))) 2 gives returned 1 expanded 2 complete 1 rejected 0 cycles 0 flags no_flag paths (0 ∷ 2 ∷ []) ∷ [])
    ∷ (stitch recorded None rates tables (behind (held 1 0 3 (2 ∷ []))) 2 gives returned 1 expanded 3 complete 1 rejected 0 cycles 0 flags no_flag paths (0 ∷ 2 ∷ []) ∷ [])
    ∷ (stitch recorded None rates tables (behind (held 2 0 3 (2 ∷ []))) 2 gives found-none-in 2)
    ∷ (stitch recorded None credit tables (alone (held 1 6 0 (5 ∷ []))) 6 gives found-none-in 1)
    -- uncounted: not cut, rejected, over the limit or the bound, and what they name does not matter
    ∷ (stitch recorded None both tables (behind (held 2 0 0 (0 ∷ []))) 2 gives returned 0 expanded 2 complete 0 rejected 0 cycles 1 flags no_flag paths [])
    ∷ (stitch recorded None rates tables (behind (held 2 0 0 (0 ∷ []))) 2 gives found-none-in 2)
    ∷ (stitch recorded None both tables (alone (held 2 2 3 (2 ∷ []))) 2 gives returned 0 expanded 1 complete 0 rejected 1 cycles 0 flags no_flag paths [])
    ∷ (stitch recorded None rates tables (alone (held 2 2 3 (2 ∷ []))) 2 gives found-none-in 1)
    ∷ (stitch recorded (Some 1) both tables (alone (held 2 2 3 (0 ∷ 2 ∷ []))) 2 gives returned 0 expanded 1 complete 0 rejected 0 cycles 0 flags length_flag paths [])
    ∷ (stitch recorded (Some 1) rates tables (alone (held 2 2 3 (0 ∷ 2 ∷ []))) 2 gives found-none-in 1)
    ∷ (stitch_under (bounded 1 9) both tables (database_of 2 9 2 (held_in 1 1 2 0 (0 ∷ []) ∷ held_in 1 2 0 3 (2 ∷ []) ∷ [])) gives refused (30 ∷ []))
    ∷ (stitch_under (bounded 1 9) rates tables (database_of 2 9 2 (held_in 1 1 2 0 (0 ∷ []) ∷ held_in 1 2 0 3 (2 ∷ []) ∷ [])) gives found-none-in 2)
    ∷ (stitch recorded None rates tables (alone (held 2 2 4 (0 ∷ 1 ∷ []))) 2 gives found-none-in 1)
    ∷ (stitch recorded None rates tables (alone (held 2 2 4 (9 ∷ []))) 2 gives found-none-in 1)
    -- A VISIBLE ONE THAT NAMES A HIDDEN EDGE: 12, hidden by its target or by its source
    ∷ (stitch recorded None both tables (alone (held 1 2 4 (0 ∷ 1 ∷ []))) 2 gives returned 1 expanded 2 complete 1 rejected 0 cycles 0 flags no_flag paths (0 ∷ 1 ∷ []) ∷ [])
    ∷ (stitch recorded None rates tables (alone (held 1 2 4 (0 ∷ 1 ∷ []))) 2 gives refused (12 ∷ 1 ∷ []))
    ∷ (stitch unshadowed None rates tables (alone (held 1 2 4 (0 ∷ 1 ∷ []))) 2 gives refused (12 ∷ 1 ∷ []))
    ∷ (stitch recorded None both tables (alone (held 1 2 0 (0 ∷ 5 ∷ []))) 2 gives returned 0 expanded 1 complete 0 rejected 1 cycles 0 flags no_flag paths [])
    ∷ (stitch recorded None rates tables (alone (held 1 2 0 (0 ∷ 5 ∷ []))) 2 gives refused (12 ∷ 5 ∷ []))
    -- as for a removed and an unknown one
    ∷ (stitch recorded None rates tables (alone (held 1 2 4 (0 ∷ 6 ∷ []))) 2 gives refused (12 ∷ 6 ∷ []))
    ∷ (stitch recorded None rates tables (alone (held 1 2 4 (0 ∷ 9 ∷ []))) 2 gives refused (12 ∷ 9 ∷ []))
    -- before 13 of the same edge, behind what earlier edges meet
    ∷ (stitch recorded None both tables (alone (held 1 2 4 (1 ∷ []))) 2 gives returned 0 expanded 1 complete 0 rejected 1 cycles 0 flags no_flag paths [])
    ∷ (stitch recorded None rates tables (alone (held 1 2 4 (1 ∷ []))) 2 gives refused (12 ∷ 1 ∷ []))
    ∷ (stitch recorded None rates tables (alone (held 1 2 4 (3 ∷ 1 ∷ []))) 2 gives returned 0 expanded 1 complete 0 rejected 1 cycles 0 flags no_flag paths [])
    ∷ (stitch recorded None rates tables (alone (held 1 2 4 (0 ∷ 9 ∷ 1 ∷ []))) 2 gives refused (12 ∷ 9 ∷ []))
    ∷ (stitch recorded None rates tables (alone (held 1 2 4 (0 ∷ 1 ∷ 9 ∷ []))) 2 gives refused (12 ∷ 1 ∷ []))
    -- and behind cycle, length and bound
    ∷ (stitch recorded None rates tables (behind (held 1 0 4 (0 ∷ 1 ∷ []))) 2 gives returned 0 expanded 2 complete 0 rejected 0 cycles 1 flags no_flag paths [])
    ∷ (stitch recorded (Some 1) rates tables (alone (held 1 2 4 (0 ∷ 1 ∷ []))) 2 gives returned 0 expanded 1 complete 0 rejected 0 cycles 0 flags length_flag paths [])
    ∷ (stitch_under (bounded 2 9) rates tables (database_of 2 9 2 (held_in 2 1 2 0 (0 ∷ []) ∷ held_in 2 1 0 4 (1 ∷ 1 ∷ []) ∷ [])) gives refused (30 ∷ []))
    -- NOBODY'S are visible to all, and 12 where they name a hidden edge
    ∷ (stitch recorded None rates tables (alone (held 65535 2 0 (0 ∷ []))) 2 gives found-none-in 2)
    ∷ (stitch recorded None credit tables (alone (held 65535 6 0 (5 ∷ []))) 6 gives found-none-in 2)
    ∷ (stitch recorded None rates tables (alone (held 65535 2 4 (0 ∷ 1 ∷ []))) 2 gives refused (12 ∷ 1 ∷ []))
    ∷ (stitch recorded None credit tables (alone (held 65535 6 3 (5 ∷ 2 ∷ []))) 6 gives refused (12 ∷ 2 ∷ []))
    -- THE ORDER: the image, 35 and 34, which look at hidden slots too, then 10 and 11
    ∷ (stitch recorded None rates tables filed 6 gives refused (10 ∷ 6 ∷ []))
    ∷ (stitch recorded None rates tables filed 5 gives refused (10 ∷ 5 ∷ []))
    ∷ (stitch recorded None rates tables filed 3 gives refused (11 ∷ 3 ∷ []))
    ∷ (stitch recorded None [] tables filed 0 gives refused (11 ∷ 0 ∷ []))
    ∷ (stitch recorded None rates tables (alone (held 2 2 0 [])) 2 gives refused (35 ∷ []))
    ∷ (stitch recorded None rates tables (alone (held 2 2 0 [])) 6 gives refused (35 ∷ []))
    ∷ (stitch recorded None rates tables (alone (held 2 9 0 (0 ∷ []))) 6 gives refused (35 ∷ []))
    ∷ (stitch recorded None rates tables (alone (held 3 2 0 (0 ∷ []))) 6 gives refused (35 ∷ []))
    ∷ (stitch recorded None rates tables (database_of 1 10 2 (held 2 2 0 (0 ∷ []) ∷ [])) 6 gives refused (34 ∷ []))
    ∷ (stitch recorded None rates tables (database_of 1 9 3 (held 3 2 0 (0 ∷ []) ∷ [])) 6 gives refused (34 ∷ []))
    ∷ (stitch recorded None rates (take 60 tables) [] 6 gives refused (2 ∷ []))
    ∷ []

pub slot_cases : Agreed slots
unfolding slots
slot_cases = refl

-- NAMES: a hidden reference is passed over, also where it is the lowest, has a path, or its search would be refused
abbrev narrow : List ℕ
narrow = image_of 2 (reference 1 7 ∷ reference 0 7 ∷ definition 0 7 ∷ scope 1 ∷ []) (2 ⟶ 5 ∷ 2 ⟶ 5 ∷ 3 ⟶ 4 ∷ [])

pub names : List (Row (List (List ℕ)))
unfolding name
names =
    (name 8 both tables 4 gives 2 by (0 ∷ 1 ∷ []))
    ∷ (name 8 credit tables 4 gives 6 by (5 ∷ 1 ∷ []))
    ∷ (name 8 rates tables 3 gives 2 by (0 ∷ 2 ∷ []))
    ∷ (name 8 both tables 3 gives 2 by (0 ∷ 2 ∷ []))
    ∷ (name 8 both across 3 gives 2 by (0 ∷ 1 ∷ []))
    ∷ (name 8 credit across 3 gives nameless)
    ∷ (name 0 credit across 3 gives nameless)
    ∷ (name 1 both narrow 4 gives refused (31 ∷ []))
    ∷ (name 1 rates narrow 4 gives 3 by (2 ∷ []))
    ∷ []

pub name-cases : Agreed names
unfolding names
name-cases = refl

-- EVERY WORD: the whole answer with its figure, the work area and the result area, of areas that were lent with other words in them
wholly : List ℕ → ℕ → List (List ℕ)
unfolding direct_call seen_image check_image recorded
wholly visible node = shown_whole (direct_search recorded tables visible node BreadthFirst unhindered (replicate (2 * slot_length + 3) 9) (replicate (2 * slot_length + 3) 9))

wholly_stitched : List ℕ → List ℕ → ℕ → List (List ℕ)
unfolding stitched_call seen_image check_image recorded
wholly_stitched visible words node = shown_whole (stitched_search recorded tables visible words node BreadthFirst unhindered (replicate (2 * slot_length + 3) 9) (replicate (2 * slot_length + 3) 9))

pub areas : List (Row (List (List ℕ)))
unfolding wholly wholly_stitched lists_in linear_call find_call seen_image check_image recorded
areas =
    (wholly rates 2 gives (0 ∷ 2 ∷ 5 ∷ 2 ∷ 0 ∷ 1 ∷ 0 ∷ 0 ∷ 0 ∷ 2 ∷ []) ∷ zeros (2 * slot_length + 3) ∷ (2 ∷ 0 ∷ 2 ∷ zeros (max_edges - 2) ++ (3 ∷ 0 ∷ 3 ∷ 2 ∷ zeros max_edges)) ∷ [])
    ∷ (wholly both 2 gives (31 ∷ []) ∷ zeros (2 * slot_length + 3) ∷ zeros (2 * slot_length + 3) ∷ [])
    ∷ (wholly rates 6 gives (10 ∷ 6 ∷ []) ∷ zeros (2 * slot_length + 3) ∷ zeros (2 * slot_length + 3) ∷ [])
    ∷ (wholly_stitched rates filed 2 gives (0 ∷ 2 ∷ 5 ∷ 2 ∷ 0 ∷ 1 ∷ 0 ∷ 0 ∷ 0 ∷ 2 ∷ []) ∷ zeros (2 * slot_length + 3) ∷ (2 ∷ 0 ∷ 2 ∷ zeros (max_edges - 2) ++ (3 ∷ 0 ∷ 3 ∷ 2 ∷ zeros max_edges)) ∷ [])
    ∷ (wholly_stitched rates (alone (held 1 2 4 (0 ∷ 1 ∷ []))) 2 gives (12 ∷ 1 ∷ []) ∷ zeros (2 * slot_length + 3) ∷ zeros (2 * slot_length + 3) ∷ [])
    ∷ []

pub area-cases : Agreed areas
unfolding areas
area-cases = refl
