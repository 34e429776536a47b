-- What callers exchange with the entries: the numbers that ask, the areas that are written, a replayed path as words, and each entry's arguments in
-- their places. Document 01, "Path", "Answer", "Partial paths"; the form of the numbers is this library's own.
use Rattle.std.specs.Prelude.{ℕ, ◌+◌, ◌*◌, refl, true, false, List, [], ◌∷◌, ◌++◌, map, replicate, None, Some}
use Rattle.std.proofs.Math.Option.{none, some}
use Rattle.semantics.specs.declared.search.SearchLimits.{SearchLimits}
use Rattle.semantics.specs.declared.search.SearchOrder.{SearchOrder}
use Rattle.semantics.specs.declared.search.SearchOrder.TheVariants.{BreadthFirst, DepthFirst}
use Rattle.semantics.specs.declared.replayed.Path.{Path}
use Rattle.semantics.specs.Limits.{max_edges, slot_length, record_length, Limit}
use Rattle.semantics.specs.Words.{zeros}
use Rattle.semantics.specs.Recorded.{returned, recorded}
use Rattle.semantics.specs.Image.{check_image}
use Rattle.semantics.specs.Told.{told_checked, told_replayed, told_judgement, told_resolution, told_linear_resolution, told_creation, told_replacement, told_finding, told_rewriting, told_part}
use Rattle.semantics.specs.Database.{lookup_part}
use Rattle.semantics.specs.Calls.{edge, jump, no_path, check_call, replay_call, complete_call, shadows_call, direct_call, linear_call, stitched_call, fresh_call, replace_call, alias_call}
use Rattle.semantics.specs.Finding.{find_call}
use Rattle.semantics.specs.Hidden.{seen_image}
use Rattle.semantics.specs.Rewriting.{rewrite_call}
use Rattle.semantics.specs.Asked.{order_asked, limits_asked, length_asked, expansions_asked}
use Rattle.semantics.specs.Written.{written}
use Rattle.semantics.specs.Path.{Symbol}
use Rattle.semantics.specs.PathWords.{symbol_words, path_words}
use Rattle.semantics.specs.ReplayedPaths.{scopes_from, symbols_from, passages_to, read_path}
use Rattle.semantics.specs.Entries.{check_of, replay_of, complete_of, shadows_of, lookup_of, widen_image, narrow_image, fresh_database, direct_asked, linear_asked, stitched_asked, name_asked, replace_asked, aliases_asked}
use Rattle.semantics.specs.Cases.Rows.{Row, ◌gives◌, Agreed}
use Rattle.semantics.specs.Cases.Graphs.{image_a, image_b, aliases_all}
use Rattle.semantics.specs.Cases.Asked.{first_filed}
use Rattle.semantics.proofs.Theorems.Cases.Versions.{image_high}

abbrev order_told : SearchOrder → ℕ
order_told BreadthFirst = 0
order_told DepthFirst = 1

abbrev limit_told : Limit → List ℕ
limit_told None = []
limit_told (Some n) = n ∷ []

abbrev limits_told : SearchLimits → List (List ℕ)
limits_told l = limit_told l.length ∷ limit_told l.expansions ∷ limit_told l.complete ∷ []

-- THE NUMBERS THAT ASK: the order, then for each limit whether there is one, and its value
pub asking : List (Row (List (List ℕ)))
asking =
    -- none are given: breadth-first, no limits
    (((order_told (order_asked []) ∷ []) ∷ limits_told (limits_asked [])) gives (0 ∷ []) ∷ [] ∷ [] ∷ [] ∷ [])
    -- 0 is breadth-first, any other number depth-first; a value without its mark is no limit
    ∷ (((order_told (order_asked (0 ∷ 0 ∷ 4 ∷ 0 ∷ 5 ∷ 0 ∷ 6 ∷ [])) ∷ []) ∷ limits_told (limits_asked (0 ∷ 0 ∷ 4 ∷ 0 ∷ 5 ∷ 0 ∷ 6 ∷ []))) gives (0 ∷ []) ∷ [] ∷ [] ∷ [] ∷ [])
    ∷ (((order_told (order_asked (1 ∷ 1 ∷ 4 ∷ 0 ∷ 5 ∷ 0 ∷ 6 ∷ [])) ∷ []) ∷ limits_told (limits_asked (1 ∷ 1 ∷ 4 ∷ 0 ∷ 5 ∷ 0 ∷ 6 ∷ []))) gives (1 ∷ []) ∷ (4 ∷ []) ∷ [] ∷ [] ∷ [])
    ∷ (((order_told (order_asked (9 ∷ 0 ∷ 4 ∷ 2 ∷ 5 ∷ 0 ∷ 6 ∷ [])) ∷ []) ∷ limits_told (limits_asked (9 ∷ 0 ∷ 4 ∷ 2 ∷ 5 ∷ 0 ∷ 6 ∷ []))) gives (1 ∷ []) ∷ [] ∷ (5 ∷ []) ∷ [] ∷ [])
    ∷ (((order_told (order_asked (0 ∷ 0 ∷ 4 ∷ 0 ∷ 5 ∷ 3 ∷ 6 ∷ 7 ∷ [])) ∷ []) ∷ limits_told (limits_asked (0 ∷ 0 ∷ 4 ∷ 0 ∷ 5 ∷ 3 ∷ 6 ∷ 7 ∷ []))) gives (0 ∷ []) ∷ [] ∷ [] ∷ (6 ∷ []) ∷ [])
    -- a mark without its value is the limit 0
    ∷ (((order_told (order_asked (0 ∷ 1 ∷ [])) ∷ []) ∷ limits_told (limits_asked (0 ∷ 1 ∷ []))) gives (0 ∷ []) ∷ (0 ∷ []) ∷ [] ∷ [] ∷ [])
    -- a replacement reads the first two
    ∷ ((limit_told (length_asked (1 ∷ 1 ∷ 4 ∷ 1 ∷ 5 ∷ [])) ∷ limit_told (expansions_asked (1 ∷ 1 ∷ 4 ∷ 1 ∷ 5 ∷ [])) ∷ []) gives (4 ∷ []) ∷ (5 ∷ []) ∷ [])
    ∷ []

pub asking-cases : Agreed asking
unfolding asking
asking-cases = refl

-- A path by value of two edges: step 0 pushed 7; step 1, of edge 5, pushed 3 * 2^32 + 8 with scope 9 attached; edge 6 led to jump, and the path went on at 11
abbrev walked : Path
walked =
    record {
      start = 2;
      end = 11;
      count = 2;
      edges = 5 ∷ 6 ∷ replicate max_edges 0;
      jumps = false ∷ true ∷ replicate max_edges false;
      steps = 0 ∷ 2 ∷ 1 ∷ 0 ∷ 7 ∷ 0 ∷ 0 ∷ 0 ∷ 0 ∷ 5 ∷ 3 ∷ 2 ∷ 0 ∷ 8 ∷ 3 ∷ 2 ∷ 1 ∷ 9 ∷ 6 ∷ 11 ∷ 2 ∷ 2 ∷ 0 ∷ 0 ∷ 0 ∷ 0 ∷ 0 ∷ [];
    }

abbrev plain_symbol : ℕ → Symbol
plain_symbol x = record { symbol = x; scopes = none }

-- THE WORDS THAT ARE WRITTEN
pub writing : List (Row (List ℕ))
unfolding written path_words symbol_words
writing =
    -- as many as fit, and zeros behind
    (written 0 (7 ∷ []) gives [])
    ∷ (written 2 (7 ∷ 8 ∷ 9 ∷ []) gives 7 ∷ 8 ∷ [])
    ∷ (written 3 (7 ∷ 8 ∷ 9 ∷ []) gives 7 ∷ 8 ∷ 9 ∷ [])
    ∷ (written 5 (7 ∷ 8 ∷ 9 ∷ []) gives 7 ∷ 8 ∷ 9 ∷ 0 ∷ 0 ∷ [])
    -- a part: where it begins and how long it is
    ∷ (told_part (record { from = 7; up_to = 9 }) gives 7 ∷ 2 ∷ [])
    -- a path: its end; 1 and an edge, 2 and a scope that was jumped to; 1 and a symbol in two words, 2 and one with its scopes; 1 and a scope; a 0 behind each list
    ∷ (path_words (record { end = 9; steps = edge 3 ∷ jump 4 ∷ []; symbols = record { symbol = 7; scopes = none } ∷ record { symbol = 12884901896; scopes = some (5 ∷ 6 ∷ []) } ∷ []; scopes = 2 ∷ [] }) gives 9 ∷ 1 ∷ 3 ∷ 2 ∷ 4 ∷ 0 ∷ 1 ∷ 0 ∷ 7 ∷ 2 ∷ 3 ∷ 8 ∷ 1 ∷ 5 ∷ 1 ∷ 6 ∷ 0 ∷ 0 ∷ 1 ∷ 2 ∷ 0 ∷ [])
    -- the symbols 2^32 - 1, 2^32 and 2^64 - 1
    ∷ (symbol_words (map plain_symbol (4294967295 ∷ 4294967296 ∷ 18446744073709551615 ∷ [])) gives 1 ∷ 0 ∷ 4294967295 ∷ 1 ∷ 1 ∷ 0 ∷ 1 ∷ 4294967295 ∷ 4294967295 ∷ [])
    ∷ (path_words no_path gives 0 ∷ 0 ∷ 0 ∷ 0 ∷ [])
    -- a path by value, as it is read
    ∷ (path_words (read_path walked) gives 11 ∷ 1 ∷ 5 ∷ 1 ∷ 6 ∷ 2 ∷ 11 ∷ 0 ∷ 2 ∷ 3 ∷ 8 ∷ 1 ∷ 9 ∷ 0 ∷ 1 ∷ 0 ∷ 7 ∷ 0 ∷ 1 ∷ 9 ∷ 0 ∷ [])
    ∷ []

pub writing-cases : Agreed writing
unfolding writing scopes_from symbols_from passages_to
writing-cases = refl

-- EACH ENTRY: its arguments in their places, every number of what is asked another one
pub entered : List (Row (List ℕ))
unfolding check_call replay_call complete_call shadows_call direct_call linear_call stitched_call find_call seen_image rewrite_call fresh_call replace_call alias_call lookup_part check_image first_filed returned recorded
entered =
    (told_checked (check_of image_a) gives 0 ∷ 1 ∷ 6 ∷ 3 ∷ [])
    ∷ (told_replayed (replay_of image_a 2 (0 ∷ 2 ∷ [])).answer gives 15 ∷ 5 ∷ [])
    ∷ (told_judgement (complete_of image_a 2 (0 ∷ 1 ∷ [])) gives 0 ∷ 1 ∷ [])
    ∷ (told_judgement (complete_of image_a 2 (0 ∷ [])) gives 0 ∷ 0 ∷ [])
    ∷ (told_judgement (shadows_of image_b 2 (1 ∷ 3 ∷ []) 2 (0 ∷ 2 ∷ [])) gives 0 ∷ 1 ∷ [])
    ∷ (told_judgement (shadows_of image_b 2 (0 ∷ 2 ∷ []) 2 (1 ∷ 3 ∷ [])) gives 0 ∷ 0 ∷ [])
    -- direct search: depth-first with an expansion limit of 3, then breadth-first with a length limit; returned and recorded
    ∷ (told_resolution (direct_asked returned image_b (1 ∷ []) 2 (1 ∷ 0 ∷ 0 ∷ 1 ∷ 3 ∷ []) (zeros (8 * slot_length)) (zeros (8 * slot_length))).answer gives 0 ∷ 1 ∷ 3 ∷ 2 ∷ 0 ∷ 0 ∷ 0 ∷ 1 ∷ 0 ∷ 3 ∷ [])
    ∷ (told_resolution (direct_asked returned image_a (1 ∷ []) 2 (0 ∷ 1 ∷ 1 ∷ []) (zeros (8 * slot_length)) (zeros (8 * slot_length))).answer gives 0 ∷ 0 ∷ 2 ∷ 0 ∷ 0 ∷ 0 ∷ 1 ∷ 0 ∷ 0 ∷ 1 ∷ [])
    ∷ (told_resolution (direct_asked recorded image_b (1 ∷ []) 2 [] (zeros (8 * slot_length)) (zeros (8 * slot_length))).answer gives 0 ∷ 4 ∷ 7 ∷ 4 ∷ 0 ∷ 0 ∷ 0 ∷ 0 ∷ 0 ∷ 4 ∷ [])
    -- the work area is the one that waits, the result area the one that keeps
    ∷ (told_resolution (direct_asked returned image_b (1 ∷ []) 2 [] (zeros slot_length) (zeros (8 * slot_length))).answer gives 31 ∷ [])
    ∷ (told_resolution (direct_asked returned image_b (1 ∷ []) 2 [] (zeros (8 * slot_length)) (zeros slot_length)).answer gives 32 ∷ [])
    ∷ (told_linear_resolution (linear_asked returned image_a (1 ∷ []) 2 (9 ∷ 1 ∷ 1 ∷ []) (zeros slot_length)).answer gives 0 ∷ 0 ∷ 2 ∷ 0 ∷ 0 ∷ 0 ∷ 1 ∷ 0 ∷ 0 ∷ 0 ∷ [])
    ∷ (told_resolution (stitched_asked returned image_a (1 ∷ []) (first_filed image_a) 2 [] (zeros (8 * slot_length)) (zeros (8 * slot_length))).answer gives 0 ∷ 1 ∷ 4 ∷ 2 ∷ 2 ∷ 0 ∷ 0 ∷ 0 ∷ 0 ∷ 2 ∷ [])
    ∷ (told_resolution (stitched_asked returned image_a (1 ∷ []) (9 ∷ 8 ∷ 1 ∷ 0 ∷ []) 2 [] (zeros 3) (zeros 5)).answer gives 35 ∷ [])
    -- a name: of what is asked the limit on length alone; the node, then the area that waits and the one that keeps
    ∷ (told_finding (name_asked image_a (1 ∷ []) 4 (9 ∷ 1 ∷ 2 ∷ 1 ∷ 0 ∷ 1 ∷ 0 ∷ []) (zeros (8 * slot_length)) (zeros (8 * slot_length))).answer gives 0 ∷ 1 ∷ 2 ∷ [])
    ∷ (told_finding (name_asked image_a (1 ∷ []) 4 (0 ∷ 1 ∷ 1 ∷ []) (zeros (8 * slot_length)) (zeros (8 * slot_length))).answer gives 0 ∷ 0 ∷ [])
    ∷ (told_finding (name_asked image_a (1 ∷ []) 3 [] (zeros slot_length) (zeros slot_length)).answer gives 37 ∷ 3 ∷ [])
    ∷ (told_finding (name_asked image_b (1 ∷ []) 4 [] (zeros slot_length) (zeros (8 * slot_length))).answer gives 31 ∷ [])
    ∷ (told_finding (name_asked image_b (1 ∷ []) 4 [] (zeros (8 * slot_length)) (zeros slot_length)).answer gives 32 ∷ [])
    -- the set of visible files stands behind the image: with none in it each node of A is hidden
    ∷ (told_resolution (direct_asked returned image_a [] 2 [] (zeros slot_length) (zeros slot_length)).answer gives 10 ∷ 2 ∷ [])
    ∷ (told_linear_resolution (linear_asked recorded image_a [] 2 [] (zeros slot_length)).answer gives 10 ∷ 2 ∷ [])
    ∷ (told_resolution (stitched_asked recorded image_a [] (first_filed image_a) 2 [] (zeros slot_length) (zeros slot_length)).answer gives 10 ∷ 2 ∷ [])
    ∷ (told_finding (name_asked image_a [] 4 [] (zeros slot_length) (zeros slot_length)).answer gives 10 ∷ 4 ∷ [])
    -- a rewrite: the image, then the lent bytes, of which the number alone is read; each call its own direction
    ∷ (told_rewriting (widen_image image_a (9 ∷ zeros 88)).answer gives 0 ∷ 89 ∷ [])
    ∷ (told_rewriting (widen_image image_a (zeros 88)).answer gives 32 ∷ [])
    ∷ ((widen_image image_a (9 ∷ 9 ∷ [])).bytes gives 0 ∷ 0 ∷ [])
    ∷ (told_rewriting (narrow_image image_a (zeros 89)).answer gives 1 ∷ [])
    ∷ (told_rewriting (narrow_image image_high (zeros 77)).answer gives 38 ∷ 15 ∷ [])
    ∷ ((narrow_image image_high (9 ∷ 9 ∷ [])).bytes gives 0 ∷ 0 ∷ [])
    ∷ ((fresh_database image_a (9 ∷ 9 ∷ 9 ∷ 9 ∷ [])).database gives 0 ∷ 6 ∷ 1 ∷ 0 ∷ [])
    ∷ (told_creation (fresh_database image_a (9 ∷ 9 ∷ [])).answer gives 35 ∷ [])
    -- a replacement of file 0: unlimited, with a length limit of 1, with an expansion limit of 2; of a file that is none
    ∷ (told_replacement (replace_asked image_a 0 [] (zeros (8 * slot_length)) (first_filed image_a ++ zeros (8 * record_length))).answer gives 0 ∷ 8 ∷ 5 ∷ 0 ∷ 0 ∷ 0 ∷ 4 ∷ [])
    ∷ (told_replacement (replace_asked image_a 0 (0 ∷ 1 ∷ 1 ∷ []) (zeros (8 * slot_length)) (first_filed image_a ++ zeros (8 * record_length))).answer gives 0 ∷ 6 ∷ 3 ∷ 0 ∷ 1 ∷ 0 ∷ 3 ∷ [])
    ∷ (told_replacement (replace_asked image_a 0 (0 ∷ 0 ∷ 0 ∷ 1 ∷ 2 ∷ []) (zeros (8 * slot_length)) (first_filed image_a ++ zeros (8 * record_length))).answer gives 0 ∷ 2 ∷ 1 ∷ 0 ∷ 0 ∷ 1 ∷ 3 ∷ [])
    ∷ (told_replacement (replace_asked image_a 7 [] (zeros 3) (first_filed image_a)).answer gives 21 ∷ 7 ∷ [])
    -- the alias set: unlimited, depth-first with an expansion limit of 4, with a length limit of 1; the work area and the database each in their place
    ∷ (told_replacement (aliases_asked aliases_all [] (zeros (8 * slot_length)) (fresh_database aliases_all (zeros (3 + 9 * record_length))).database).answer gives 0 ∷ 10 ∷ 9 ∷ 6 ∷ 0 ∷ 0 ∷ 4 ∷ [])
    ∷ (told_replacement (aliases_asked aliases_all (1 ∷ 0 ∷ 0 ∷ 1 ∷ 4 ∷ []) (zeros (8 * slot_length)) (fresh_database aliases_all (zeros (3 + 9 * record_length))).database).answer gives 0 ∷ 4 ∷ 6 ∷ 3 ∷ 0 ∷ 1 ∷ 4 ∷ [])
    ∷ (told_replacement (aliases_asked aliases_all (0 ∷ 1 ∷ 1 ∷ []) (zeros (8 * slot_length)) (fresh_database aliases_all (zeros (3 + 9 * record_length))).database).answer gives 0 ∷ 4 ∷ 3 ∷ 2 ∷ 1 ∷ 0 ∷ 3 ∷ [])
    ∷ (told_replacement (aliases_asked aliases_all [] (zeros (3 * slot_length)) (fresh_database aliases_all (zeros (3 + 9 * record_length))).database).answer gives 31 ∷ [])
    ∷ (told_replacement (aliases_asked aliases_all [] (zeros (8 * slot_length)) (fresh_database aliases_all (zeros (3 + 8 * record_length))).database).answer gives 33 ∷ [])
    ∷ ((aliases_asked image_a [] (9 ∷ replicate slot_length 9) (0 ∷ 4 ∷ 0 ∷ 7 ∷ [])).work gives zeros (1 + slot_length))
    ∷ ((aliases_asked image_a [] (9 ∷ replicate slot_length 9) (0 ∷ 4 ∷ 0 ∷ 7 ∷ [])).database gives 0 ∷ 6 ∷ 1 ∷ 7 ∷ [])
    ∷ (told_part (lookup_of 4 (first_filed image_a)) gives (7 + 4 * record_length) ∷ 2 ∷ [])
    ∷ (told_part (lookup_of 5 (first_filed image_a)) gives 0 ∷ 0 ∷ [])
    ∷ []

pub entry-cases : Agreed entered
unfolding entered
entry-cases = refl
