-- Images: what bytes decode to, every bound of the header, the order of the checks, each record rule, and the same rules on graphs.
-- Document 01, "Graph image", the rows 1 to 5 of "Turned back" and the paragraph below the table.
use Rattle.std.specs.Prelude.{ℕ, ◌+◌, refl, Bool, true, false, List, [], ◌∷◌, ◌++◌, map, pos, negsuc, length, set, replicate}
use Rattle.semantics.specs.declared.graph.Node.{Node}
use Rattle.semantics.specs.declared.graph.Node.TheVariants as N
use Rattle.semantics.specs.declared.graph.Edge.{Edge}
use Rattle.semantics.specs.declared.graph.Edge.TheVariants as E
use Rattle.semantics.specs.declared.refusal.ImageRefusal.{ImageRefusal}
use Rattle.semantics.specs.Answer.{Answer, ok}
use Rattle.semantics.specs.Graph.{node_id, file_id, Graph, file_of, is_reference, is_definition, is_exported, is_start, is_endpoint, lacks_file}
use Rattle.semantics.specs.Image.{symbol_bytes, check_image}
use Rattle.semantics.specs.Acceptance.{accepts}
use Rattle.semantics.specs.Words.{zeros}
use Rattle.semantics.specs.Cases.Rows.{Row, ◌gives◌, Agreed}
use Rattle.semantics.specs.Cases.Graphs.{image_a, graph_a, image_d, live, image_of, removed_node, scope, exported, reference, definition, push_scoped, drop_scopes, removed_edge, edge_of, ◌⟶◌}
use Rattle.semantics.specs.Cases.Asked.{checking}

-- WHAT BYTES DECODE TO

-- every kind of record, each flag both ways, and fields whose bytes all differ
abbrev every_kind : List ℕ
every_kind =
    1 ∷ 0 ∷ 0 ∷ 0 ∷ 154 ∷ 0 ∷ 6 ∷ 0 ∷ 14 ∷ 0 ∷ 6
    ∷ 1 ∷ 1
    ∷ 1 ∷ 2
    ∷ 8 ∷ 4 ∷ 0 ∷ 1 ∷ 1 ∷ 2 ∷ 3 ∷ 4 ∷ 1
    ∷ 4 ∷ 3 ∷ 0 ∷ 1 ∷ 1
    ∷ 10 ∷ 6 ∷ 0 ∷ 1 ∷ 5 ∷ 6 ∷ 7 ∷ 8 ∷ 0 ∷ 3 ∷ 0
    ∷ 8 ∷ 5 ∷ 0 ∷ 0 ∷ 9 ∷ 10 ∷ 11 ∷ 12 ∷ 1
    ∷ 8 ∷ 7 ∷ 0 ∷ 0 ∷ 255 ∷ 255 ∷ 255 ∷ 255 ∷ 1
    ∷ 3 ∷ 8 ∷ 0 ∷ 5
    ∷ 1 ∷ 0
    ∷ 4 ∷ 3 ∷ 0 ∷ 0 ∷ 0
    ∷ 8 ∷ 4 ∷ 0 ∷ 0 ∷ 0 ∷ 0 ∷ 0 ∷ 0 ∷ 0
    ∷ 8 ∷ 5 ∷ 0 ∷ 0 ∷ 0 ∷ 0 ∷ 0 ∷ 0 ∷ 0
    ∷ 10 ∷ 6 ∷ 0 ∷ 1 ∷ 0 ∷ 0 ∷ 0 ∷ 0 ∷ 0 ∷ 3 ∷ 1
    ∷ 8 ∷ 7 ∷ 0 ∷ 0 ∷ 0 ∷ 0 ∷ 0 ∷ 0 ∷ 0
    ∷ 9 ∷ 1 ∷ 0 ∷ 2 ∷ 0 ∷ 3 ∷ 127 ∷ 255 ∷ 255 ∷ 255
    ∷ 9 ∷ 1 ∷ 0 ∷ 2 ∷ 0 ∷ 4 ∷ 128 ∷ 0 ∷ 0 ∷ 0
    ∷ 1 ∷ 0
    ∷ 9 ∷ 1 ∷ 0 ∷ 3 ∷ 0 ∷ 12 ∷ 255 ∷ 255 ∷ 255 ∷ 255
    ∷ 9 ∷ 1 ∷ 0 ∷ 0 ∷ 0 ∷ 9 ∷ 1 ∷ 2 ∷ 3 ∷ 4
    ∷ 9 ∷ 1 ∷ 0 ∷ 9 ∷ 0 ∷ 10 ∷ 128 ∷ 0 ∷ 0 ∷ 1
    ∷ []

abbrev every_kind_of : Graph
every_kind_of =
    record {
      files = 6;
      nodes =
          N.Root
          ∷ N.JumpToScope
          ∷ N.Push (file_id 1) 16909060 true
          ∷ N.Scope (file_id 1) true
          ∷ N.PushScoped (file_id 1) 84281096 (node_id 3) false
          ∷ N.Pop (file_id 0) 151653132 true
          ∷ N.PopScoped (file_id 0) 4294967295 true
          ∷ N.DropScopes (file_id 5)
          ∷ N.Removed
          ∷ N.Scope (file_id 0) false
          ∷ N.Push (file_id 0) 0 false
          ∷ N.Pop (file_id 0) 0 false
          ∷ N.PushScoped (file_id 1) 0 (node_id 3) true
          ∷ N.PopScoped (file_id 0) 0 false
          ∷ [];
      edges =
          E.Live (node_id 2) (node_id 3) (pos 2147483647)
          ∷ E.Live (node_id 2) (node_id 4) (negsuc 2147483647)
          ∷ E.Removed
          ∷ E.Live (node_id 3) (node_id 12) (negsuc 0)
          ∷ E.Live (node_id 0) (node_id 9) (pos 16909060)
          ∷ E.Live (node_id 9) (node_id 10) (negsuc 2147483646)
          ∷ [];
    }

-- the kinds with a symbol, of two bytes
abbrev short_symbols : List ℕ
short_symbols =
    1 ∷ 0 ∷ 0 ∷ 0 ∷ 45 ∷ 0 ∷ 1 ∷ 0 ∷ 7 ∷ 0 ∷ 0
    ∷ 1 ∷ 1
    ∷ 1 ∷ 2
    ∷ 6 ∷ 4 ∷ 0 ∷ 0 ∷ 1 ∷ 2 ∷ 1
    ∷ 4 ∷ 3 ∷ 0 ∷ 0 ∷ 1
    ∷ 8 ∷ 6 ∷ 0 ∷ 0 ∷ 3 ∷ 4 ∷ 0 ∷ 3 ∷ 1
    ∷ 6 ∷ 5 ∷ 0 ∷ 0 ∷ 5 ∷ 6 ∷ 1
    ∷ 6 ∷ 7 ∷ 0 ∷ 0 ∷ 7 ∷ 8 ∷ 1
    ∷ []

abbrev short_symbols_of : Graph
short_symbols_of =
    record {
      files = 1;
      nodes = N.Root ∷ N.JumpToScope ∷ N.Push (file_id 0) 258 true ∷ N.Scope (file_id 0) true ∷ N.PushScoped (file_id 0) 772 (node_id 3) true ∷ N.Pop (file_id 0) 1286 true ∷ N.PopScoped (file_id 0) 1800 true ∷ [];
      edges = [];
    }

pub decoded : List (Row (Answer ImageRefusal Graph))
unfolding check_image
decoded =
    -- A, as document 01 describes it
    (check_image symbol_bytes image_a gives ok graph_a)
    -- big-endian fields of 16 and 32 bits, flags, a pop-scoped definition, precedences 2^31 - 1, -2^31, -1 and -2^31 + 1 (negsuc n is -(n + 1))
    ∷ (check_image symbol_bytes every_kind gives ok every_kind_of)
    -- the definitions are for every width of a symbol
    ∷ (check_image (λ v. 2) short_symbols gives ok short_symbols_of)
    ∷ []

pub decoded-cases : Agreed decoded
unfolding decoded
decoded-cases = refl

-- THE CHECK

-- the byte at a place replaced
abbrev put : ℕ → ℕ → List ℕ → List ℕ
put at v im = set im at v

-- a header of version 1 and these bytes of the counts, with n bytes behind it
abbrev header : ℕ → List ℕ → List ℕ
header n counts = 1 ∷ 0 ∷ 0 ∷ 0 ∷ (6 + n) ∷ counts

pub checks : List (Row (List ℕ))
unfolding checking
checks =
    -- accepted, with F, N and M; "The image has 77 bytes"
    (checking image_a gives 0 ∷ 1 ∷ 6 ∷ 3 ∷ [])
    ∷ (length image_a ∷ [] gives 77 ∷ [])
    -- the builder of the other tables makes A's bytes
    ∷ (image_of 1 (reference 0 7 ∷ exported 0 ∷ definition 0 7 ∷ definition 0 8 ∷ []) (2 ⟶ 3 ∷ 3 ⟶ 4 ∷ edge_of 3 5 1 ∷ []) gives image_a)
    -- SIZE: no bytes; 10 of a wrong version are too few, 11 are not. Cases/Versions has the sizes that are too great
    ∷ (checking [] gives 2 ∷ [])
    ∷ (checking (3 ∷ 0 ∷ 0 ∷ 0 ∷ 5 ∷ 0 ∷ 0 ∷ 0 ∷ 2 ∷ 0 ∷ []) gives 2 ∷ [])
    ∷ (checking (3 ∷ 0 ∷ 0 ∷ 0 ∷ 6 ∷ 0 ∷ 0 ∷ 0 ∷ 2 ∷ 0 ∷ 0 ∷ []) gives 1 ∷ [])
    -- LENGTH: one less, one more, and each higher byte of the four
    ∷ (checking (put 4 71 image_a) gives 2 ∷ [])
    ∷ (checking (put 4 73 image_a) gives 2 ∷ [])
    ∷ (checking (put 3 1 image_a) gives 2 ∷ [])
    ∷ (checking (put 2 1 image_a) gives 2 ∷ [])
    ∷ (checking (put 1 1 image_a) gives 2 ∷ [])
    -- length before version, version before counts, counts before records
    ∷ (checking (put 0 3 (put 4 71 image_a)) gives 2 ∷ [])
    ∷ (checking (put 0 3 (put 5 2 image_a)) gives 1 ∷ [])
    ∷ (checking (put 0 0 image_a) gives 1 ∷ [])
    ∷ (checking (put 5 2 (put 12 3 image_a)) gives 3 ∷ [])
    -- COUNTS: F 0, 255 and 256 are accepted, 257 is not
    ∷ (checking (header 4 (0 ∷ 0 ∷ 0 ∷ 2 ∷ 0 ∷ 0 ∷ 1 ∷ 1 ∷ 1 ∷ 2 ∷ [])) gives 0 ∷ 0 ∷ 2 ∷ 0 ∷ [])
    ∷ (checking (put 6 255 image_a) gives 0 ∷ 255 ∷ 6 ∷ 3 ∷ [])
    ∷ (checking (put 5 1 (put 6 0 image_a)) gives 0 ∷ 256 ∷ 6 ∷ 3 ∷ [])
    ∷ (checking (put 5 1 image_a) gives 3 ∷ [])
    -- N 0, 1 and 2,049 are not; 2, 2,047 and 2,048 are, where the records are cut
    ∷ (checking (put 8 0 image_a) gives 3 ∷ [])
    ∷ (checking (put 8 1 image_a) gives 3 ∷ [])
    ∷ (checking (header 0 (0 ∷ 0 ∷ 0 ∷ 2 ∷ 0 ∷ 0 ∷ [])) gives 2 ∷ [])
    ∷ (checking (header 0 (0 ∷ 0 ∷ 7 ∷ 255 ∷ 0 ∷ 0 ∷ [])) gives 2 ∷ [])
    ∷ (checking (header 0 (0 ∷ 0 ∷ 8 ∷ 0 ∷ 0 ∷ 0 ∷ [])) gives 2 ∷ [])
    ∷ (checking (header 0 (0 ∷ 0 ∷ 8 ∷ 1 ∷ 0 ∷ 0 ∷ [])) gives 3 ∷ [])
    -- M 4,095 and 4,096 are, 4,097 is not
    ∷ (checking (header 0 (0 ∷ 0 ∷ 0 ∷ 2 ∷ 15 ∷ 255 ∷ [])) gives 2 ∷ [])
    ∷ (checking (header 0 (0 ∷ 0 ∷ 0 ∷ 2 ∷ 16 ∷ 0 ∷ [])) gives 2 ∷ [])
    ∷ (checking (header 0 (0 ∷ 0 ∷ 0 ∷ 2 ∷ 16 ∷ 1 ∷ [])) gives 3 ∷ [])
    -- CUT: no count byte; a count of 0, before the kind; a count behind the last byte, before the kind; a count up to the last byte is none
    ∷ (checking (put 10 4 image_a) gives 2 ∷ [])
    ∷ (checking (put 15 0 (put 16 9 image_a)) gives 2 ∷ [])
    ∷ (checking (put 15 62 (put 16 9 image_a)) gives 2 ∷ [])
    ∷ (checking (put 15 200 (put 16 9 image_a)) gives 2 ∷ [])
    ∷ (checking (put 15 61 (put 16 9 image_a)) gives 4 ∷ 15 ∷ [])
    ∷ (checking (put 67 0 (put 68 2 image_a)) gives 2 ∷ [])
    ∷ (checking (put 67 10 (put 68 2 image_a)) gives 2 ∷ [])
    ∷ (checking (put 67 9 (put 68 2 image_a)) gives 4 ∷ 67 ∷ [])
    -- WHERE A KIND MAY STAND, before its count: no root, no jump; root or jump in the other's place; root or jump elsewhere
    ∷ (checking (put 12 3 image_a) gives 4 ∷ 11 ∷ [])
    ∷ (checking (put 12 0 image_a) gives 4 ∷ 11 ∷ [])
    ∷ (checking (put 12 2 image_a) gives 4 ∷ 11 ∷ [])
    ∷ (checking (put 14 3 image_a) gives 4 ∷ 13 ∷ [])
    ∷ (checking (put 14 0 image_a) gives 4 ∷ 13 ∷ [])
    ∷ (checking (put 14 1 image_a) gives 4 ∷ 13 ∷ [])
    ∷ (checking (put 16 1 image_a) gives 4 ∷ 15 ∷ [])
    ∷ (checking (put 16 2 image_a) gives 4 ∷ 15 ∷ [])
    -- KIND: 9 is none, 8 is one whose count is wrong here
    ∷ (checking (put 16 9 image_a) gives 4 ∷ 15 ∷ [])
    ∷ (checking (put 16 8 image_a) gives 2 ∷ [])
    -- COUNT, before the fields: of a removed node, with the bytes for it, of a push with a bad flag
    ∷ (checking (put 16 0 image_a) gives 2 ∷ [])
    ∷ (checking (image_of 1 ((2 ∷ 0 ∷ 0 ∷ []) ∷ []) []) gives 2 ∷ [])
    ∷ (checking (image_of 1 ((3 ∷ 3 ∷ 0 ∷ 0 ∷ []) ∷ []) []) gives 2 ∷ [])
    ∷ (checking (put 15 7 (put 22 2 image_a)) gives 2 ∷ [])
    -- FIELDS: a file equal to F, by its low and by its high byte; a flag of 2 on each kind that has one; none on drop-scopes, whose last byte is of its file
    ∷ (checking (put 18 1 image_a) gives 4 ∷ 15 ∷ [])
    ∷ (checking (put 17 1 image_a) gives 4 ∷ 15 ∷ [])
    ∷ (checking (put 28 2 image_a) gives 4 ∷ 24 ∷ [])
    ∷ (checking (put 23 2 image_a) gives 4 ∷ 15 ∷ [])
    ∷ (checking (put 37 2 image_a) gives 4 ∷ 29 ∷ [])
    ∷ (checking (put 34 2 image_d) gives 4 ∷ 24 ∷ [])
    ∷ (checking (put 48 2 image_d) gives 4 ∷ 40 ∷ [])
    ∷ (checking (image_of 6 (drop_scopes 5 ∷ []) []) gives 0 ∷ 6 ∷ 3 ∷ 0 ∷ [])
    ∷ (checking (image_of 5 (drop_scopes 5 ∷ []) []) gives 4 ∷ 15 ∷ [])
    -- AN EDGE RECORD: its kind before its count, also where the count would go with the kind; a live one of 8, 5 and 10 bytes, a removed one of 9
    ∷ (checking (put 57 8 (put 58 2 image_a)) gives 4 ∷ 57 ∷ [])
    ∷ (checking (image_of 1 [] ((17 ∷ 2 ∷ zeros 16) ∷ [])) gives 4 ∷ 15 ∷ [])
    ∷ (checking (put 57 8 image_a) gives 2 ∷ [])
    ∷ (checking (image_of 1 [] ((5 ∷ 1 ∷ zeros 4) ∷ [])) gives 2 ∷ [])
    ∷ (checking (image_of 1 [] ((10 ∷ 1 ∷ zeros 9) ∷ [])) gives 2 ∷ [])
    ∷ (checking (put 58 0 image_a) gives 2 ∷ [])
    ∷ (checking (image_of 1 [] (removed_edge ∷ 0 ⟶ 0 ∷ [])) gives 0 ∷ 1 ∷ 2 ∷ 2 ∷ [])
    -- THE FIRST RECORD that is wrong is answered, nodes before edges; every record before bytes left over; these before 5
    ∷ (checking (put 23 2 (put 28 2 image_a)) gives 4 ∷ 15 ∷ [])
    ∷ (checking (put 48 2 (put 28 2 image_a)) gives 4 ∷ 24 ∷ [])
    ∷ (checking (put 58 2 (put 48 2 image_a)) gives 4 ∷ 47 ∷ [])
    ∷ (checking (put 4 73 (put 23 2 image_a) ++ (0 ∷ [])) gives 4 ∷ 15 ∷ [])
    ∷ (checking (put 4 73 image_a ++ (0 ∷ [])) gives 2 ∷ [])
    ∷ (checking (put 4 73 (put 52 9 image_a) ++ (0 ∷ [])) gives 2 ∷ [])
    ∷ (checking (put 23 2 (put 52 9 image_a)) gives 4 ∷ 15 ∷ [])
    -- 5, EDGE ENDS: a source or target that is not there, by the low and the high byte, or was removed; the place of the first
    ∷ (checking (put 50 6 image_a) gives 5 ∷ 47 ∷ [])
    ∷ (checking (put 49 1 image_a) gives 5 ∷ 47 ∷ [])
    ∷ (checking (put 52 6 image_a) gives 5 ∷ 47 ∷ [])
    ∷ (checking (put 51 1 image_a) gives 5 ∷ 47 ∷ [])
    ∷ (checking (image_of 1 (removed_node ∷ scope 0 ∷ []) (3 ⟶ 3 ∷ 2 ⟶ 3 ∷ [])) gives 5 ∷ 32 ∷ [])
    ∷ (checking (image_of 1 (removed_node ∷ scope 0 ∷ []) (3 ⟶ 3 ∷ 3 ⟶ 2 ∷ [])) gives 5 ∷ 32 ∷ [])
    ∷ (checking (put 52 9 (put 70 1 image_a)) gives 5 ∷ 47 ∷ [])
    -- an edge from jump; an edge into jump is fine
    ∷ (checking (put 70 1 image_a) gives 5 ∷ 67 ∷ [])
    ∷ (checking (put 72 1 image_a) gives 0 ∷ 1 ∷ 6 ∷ 3 ∷ [])
    -- ends in two files; root and jump are in none
    ∷ (checking (image_of 2 (scope 0 ∷ scope 1 ∷ []) (2 ⟶ 3 ∷ [])) gives 5 ∷ 25 ∷ [])
    ∷ (checking (image_of 2 (scope 0 ∷ scope 1 ∷ []) (0 ⟶ 3 ∷ 3 ⟶ 0 ∷ 2 ⟶ 1 ∷ 0 ⟶ 0 ∷ 0 ⟶ 1 ∷ [])) gives 0 ∷ 2 ∷ 4 ∷ 5 ∷ [])
    -- 5, ATTACHED SCOPES: of another file; not exported; removed; a node of another kind; root; behind the last node, by its low and by its high byte; a later one is fine
    ∷ (checking (image_of 2 (exported 1 ∷ push_scoped 0 7 2 ∷ []) []) gives 5 ∷ 20 ∷ [])
    ∷ (checking (image_of 1 (scope 0 ∷ push_scoped 0 7 2 ∷ []) []) gives 5 ∷ 20 ∷ [])
    ∷ (checking (image_of 1 (removed_node ∷ push_scoped 0 7 2 ∷ []) []) gives 5 ∷ 17 ∷ [])
    ∷ (checking (image_of 1 (reference 0 7 ∷ push_scoped 0 7 2 ∷ []) []) gives 5 ∷ 24 ∷ [])
    ∷ (checking (image_of 1 (definition 0 7 ∷ push_scoped 0 7 2 ∷ []) []) gives 5 ∷ 24 ∷ [])
    ∷ (checking (image_of 1 (exported 0 ∷ push_scoped 0 7 0 ∷ []) []) gives 5 ∷ 20 ∷ [])
    ∷ (checking (image_of 1 (exported 0 ∷ push_scoped 0 7 4 ∷ []) []) gives 5 ∷ 20 ∷ [])
    ∷ (checking (put 32 1 image_d) gives 5 ∷ 24 ∷ [])
    ∷ (checking (image_of 1 (push_scoped 0 7 3 ∷ exported 0 ∷ []) []) gives 0 ∷ 1 ∷ 4 ∷ 0 ∷ [])
    -- the first of two, and before an edge end
    ∷ (checking (image_of 1 (exported 0 ∷ push_scoped 0 7 4 ∷ push_scoped 0 7 4 ∷ []) (2 ⟶ 9 ∷ [])) gives 5 ∷ 20 ∷ [])
    ∷ []

pub check-cases : Agreed checks
unfolding checks
check-cases = refl

-- THE SAME RULES ON GRAPHS: `accepts` holds of A, and of no graph with a count, a place, a file, an attached scope or an edge end that an image may not have
abbrev with_nodes : List Node → List Edge → Graph
with_nodes nodes edges = record { files = 1; nodes = N.Root ∷ N.JumpToScope ∷ nodes; edges = edges }

-- a node of each kind but root and jump; the attached scope is node 3
abbrev kinds : List Node
kinds = N.Removed ∷ N.Scope (file_id 0) false ∷ N.Push (file_id 0) 7 true ∷ N.Pop (file_id 0) 7 true ∷ N.PushScoped (file_id 0) 7 (node_id 3) true ∷ N.PopScoped (file_id 0) 7 true ∷ N.DropScopes (file_id 0) ∷ []

abbrev of_files : ℕ → Graph
of_files files = record { files = files; nodes = graph_a.nodes; edges = graph_a.edges }

abbrev as_jump : Node → Graph
as_jump n = record { files = 1; nodes = N.Root ∷ n ∷ N.Removed ∷ N.Scope (file_id 0) true ∷ []; edges = [] }

abbrev as_root : Node → Graph
as_root n = record { files = 1; nodes = n ∷ N.JumpToScope ∷ N.Removed ∷ N.Scope (file_id 0) true ∷ []; edges = [] }

pub acceptances : List (Row (List Bool))
unfolding accepts
acceptances =
    -- every kind of record
    (map accepts (graph_a ∷ every_kind_of ∷ []) gives true ∷ true ∷ [])
    -- F 255, 256, 257
    ∷ (map (λ f. accepts (of_files f)) (255 ∷ 256 ∷ 257 ∷ []) gives true ∷ true ∷ false ∷ [])
    -- N 1, 2, 2,047, 2,048, 2,049
    ∷ (accepts (record { files = 0; nodes = N.Root ∷ []; edges = [] }) ∷ map (λ k. accepts (with_nodes (replicate k N.Removed) [])) (0 ∷ 2045 ∷ 2046 ∷ 2047 ∷ []) gives false ∷ true ∷ true ∷ true ∷ false ∷ [])
    -- M 4,095, 4,096, 4,097
    ∷ (map (λ k. accepts (with_nodes [] (replicate k E.Removed))) (4095 ∷ 4096 ∷ 4097 ∷ []) gives true ∷ true ∷ false ∷ [])
    -- each kind as node 2, as node 1, as node 0
    ∷ (map (λ n. accepts (with_nodes (n ∷ N.Scope (file_id 0) true ∷ []) [])) kinds gives replicate 7 true)
    ∷ (map (λ n. accepts (as_jump n)) kinds gives replicate 7 false)
    ∷ (map (λ n. accepts (as_root n)) kinds gives replicate 7 false)
    -- root and jump in each other's place or elsewhere
    ∷ (map accepts (as_jump N.Root ∷ as_root N.JumpToScope ∷ with_nodes (N.Root ∷ []) [] ∷ with_nodes (N.JumpToScope ∷ []) [] ∷ []) gives replicate 4 false)
    -- a file equal to F; an attached scope of another file
    ∷ (map accepts (with_nodes (N.DropScopes (file_id 1) ∷ []) [] ∷ record { files = 2; nodes = N.Root ∷ N.JumpToScope ∷ N.Scope (file_id 1) true ∷ N.PushScoped (file_id 0) 7 (node_id 2) false ∷ []; edges = [] } ∷ []) gives replicate 2 false)
    -- edges between root and jump that may be, and one from jump; an end that was removed
    ∷ (map (λ e. accepts (with_nodes (N.Removed ∷ []) (e ∷ []))) (live 0 0 0 ∷ live 0 1 0 ∷ live 1 0 0 ∷ live 2 0 0 ∷ live 0 2 0 ∷ []) gives true ∷ true ∷ false ∷ false ∷ false ∷ [])
    ∷ []

pub acceptance-cases : Agreed acceptances
unfolding acceptances
acceptance-cases = refl

-- WHAT A NODE IS, by its kind and flag: a reference, a definition, an exported scope; one of a file's starts, an endpoint; without a file
is_what : Node → List Bool
unfolding lacks_file
is_what n = is_reference n ∷ is_definition n ∷ is_exported n ∷ is_start n ∷ is_endpoint n ∷ lacks_file (file_of n) ∷ []

pub natures : List (Row (List Bool))
unfolding is_what
natures =
    -- "Starts: root, then the file's references and exported scopes", "Endpoints: root, exported scope, definition, jump", "Of live nodes only root and jump lack a file"
    (is_what N.Root gives false ∷ false ∷ false ∷ false ∷ true ∷ true ∷ [])
    ∷ (is_what N.JumpToScope gives false ∷ false ∷ false ∷ false ∷ true ∷ true ∷ [])
    ∷ (is_what (N.Scope (file_id 0) true) gives false ∷ false ∷ true ∷ true ∷ true ∷ false ∷ [])
    ∷ (is_what (N.Scope (file_id 0) false) gives replicate 6 false)
    ∷ (is_what (N.Push (file_id 0) 7 true) gives true ∷ false ∷ false ∷ true ∷ false ∷ false ∷ [])
    ∷ (is_what (N.Push (file_id 0) 7 false) gives replicate 6 false)
    ∷ (is_what (N.Pop (file_id 0) 7 true) gives false ∷ true ∷ false ∷ false ∷ true ∷ false ∷ [])
    ∷ (is_what (N.Pop (file_id 0) 7 false) gives replicate 6 false)
    ∷ (is_what (N.PushScoped (file_id 0) 7 (node_id 3) true) gives true ∷ false ∷ false ∷ true ∷ false ∷ false ∷ [])
    ∷ (is_what (N.PushScoped (file_id 0) 7 (node_id 3) false) gives replicate 6 false)
    ∷ (is_what (N.PopScoped (file_id 0) 7 true) gives false ∷ true ∷ false ∷ false ∷ true ∷ false ∷ [])
    ∷ (is_what (N.PopScoped (file_id 0) 7 false) gives replicate 6 false)
    ∷ (is_what (N.DropScopes (file_id 0)) gives replicate 6 false)
    -- a removed node is nothing of all this
    ∷ (is_what N.Removed gives false ∷ false ∷ false ∷ false ∷ false ∷ true ∷ [])
    ∷ []

pub nature-cases : Agreed natures
unfolding natures
nature-cases = refl
