-- The graphs of the computed cases as bytes: A to F literally, others by a builder for each kind of record.
-- Document 01, "Graph image" and "Small graphs".
use Rattle.std.specs.Prelude.{ℕ, ◌+◌, ◌-◌, ◌*◌, ◌/◌, true, List, [], ◌∷◌, ◌++◌, pos, length}
use Rattle.semantics.specs.declared.graph.Node.TheVariants as N
use Rattle.semantics.specs.declared.graph.Edge.{Edge}
use Rattle.semantics.specs.declared.graph.Edge.TheVariants as E
use Rattle.semantics.specs.Graph.{node_id, file_id, Graph}

infix 70 ◌⟶◌
-- "A: F 1, N 6, M 3. Node 2 pushes 7 (reference), 3 is an exported scope, 4 and 5 are definitions popping 7 and 8.
-- Edges 0: 2→3, 1: 3→4, 2: 3→5, precedences 0, 0, 1": the header, then a record to a line
abbrev pub image_a : List ℕ
image_a =
    1 ∷ 0 ∷ 0 ∷ 0 ∷ 72 ∷ 0 ∷ 1 ∷ 0 ∷ 6 ∷ 0 ∷ 3
    ∷ 1 ∷ 1
    ∷ 1 ∷ 2
    ∷ 8 ∷ 4 ∷ 0 ∷ 0 ∷ 0 ∷ 0 ∷ 0 ∷ 7 ∷ 1
    ∷ 4 ∷ 3 ∷ 0 ∷ 0 ∷ 1
    ∷ 8 ∷ 5 ∷ 0 ∷ 0 ∷ 0 ∷ 0 ∷ 0 ∷ 7 ∷ 1
    ∷ 8 ∷ 5 ∷ 0 ∷ 0 ∷ 0 ∷ 0 ∷ 0 ∷ 8 ∷ 1
    ∷ 9 ∷ 1 ∷ 0 ∷ 2 ∷ 0 ∷ 3 ∷ 0 ∷ 0 ∷ 0 ∷ 0
    ∷ 9 ∷ 1 ∷ 0 ∷ 3 ∷ 0 ∷ 4 ∷ 0 ∷ 0 ∷ 0 ∷ 0
    ∷ 9 ∷ 1 ∷ 0 ∷ 3 ∷ 0 ∷ 5 ∷ 0 ∷ 0 ∷ 0 ∷ 1
    ∷ []

-- the same as a graph
abbrev pub live : ℕ → ℕ → ℕ → Edge
live s t p = E.Live (node_id s) (node_id t) (pos p)

abbrev pub graph_a : Graph
graph_a =
    record {
      files = 1;
      nodes = N.Root ∷ N.JumpToScope ∷ N.Push (file_id 0) 7 true ∷ N.Scope (file_id 0) true ∷ N.Pop (file_id 0) 7 true ∷ N.Pop (file_id 0) 8 true ∷ [];
      edges = live 2 3 0 ∷ live 3 4 0 ∷ live 3 5 1 ∷ [];
    }

-- "B: 2 and 3 as in A, 4 the definition; edges 2→3 twice (precedence 0, 1), 3→4 twice (0, 1)"
abbrev pub image_b : List ℕ
image_b =
    1 ∷ 0 ∷ 0 ∷ 0 ∷ 73 ∷ 0 ∷ 1 ∷ 0 ∷ 5 ∷ 0 ∷ 4
    ∷ 1 ∷ 1
    ∷ 1 ∷ 2
    ∷ 8 ∷ 4 ∷ 0 ∷ 0 ∷ 0 ∷ 0 ∷ 0 ∷ 7 ∷ 1
    ∷ 4 ∷ 3 ∷ 0 ∷ 0 ∷ 1
    ∷ 8 ∷ 5 ∷ 0 ∷ 0 ∷ 0 ∷ 0 ∷ 0 ∷ 7 ∷ 1
    ∷ 9 ∷ 1 ∷ 0 ∷ 2 ∷ 0 ∷ 3 ∷ 0 ∷ 0 ∷ 0 ∷ 0
    ∷ 9 ∷ 1 ∷ 0 ∷ 2 ∷ 0 ∷ 3 ∷ 0 ∷ 0 ∷ 0 ∷ 1
    ∷ 9 ∷ 1 ∷ 0 ∷ 3 ∷ 0 ∷ 4 ∷ 0 ∷ 0 ∷ 0 ∷ 0
    ∷ 9 ∷ 1 ∷ 0 ∷ 3 ∷ 0 ∷ 4 ∷ 0 ∷ 0 ∷ 0 ∷ 1
    ∷ []

-- "C: 2 as in A; edges 2→0, 0→0, 0→3 with 3 the definition, popping 7"
abbrev pub image_c : List ℕ
image_c =
    1 ∷ 0 ∷ 0 ∷ 0 ∷ 58 ∷ 0 ∷ 1 ∷ 0 ∷ 4 ∷ 0 ∷ 3
    ∷ 1 ∷ 1
    ∷ 1 ∷ 2
    ∷ 8 ∷ 4 ∷ 0 ∷ 0 ∷ 0 ∷ 0 ∷ 0 ∷ 7 ∷ 1
    ∷ 8 ∷ 5 ∷ 0 ∷ 0 ∷ 0 ∷ 0 ∷ 0 ∷ 7 ∷ 1
    ∷ 9 ∷ 1 ∷ 0 ∷ 2 ∷ 0 ∷ 0 ∷ 0 ∷ 0 ∷ 0 ∷ 0
    ∷ 9 ∷ 1 ∷ 0 ∷ 0 ∷ 0 ∷ 0 ∷ 0 ∷ 0 ∷ 0 ∷ 0
    ∷ 9 ∷ 1 ∷ 0 ∷ 0 ∷ 0 ∷ 3 ∷ 0 ∷ 0 ∷ 0 ∷ 0
    ∷ []

-- D: through root into another file, and by jump back into the first
abbrev pub image_d : List ℕ
image_d =
    1 ∷ 0 ∷ 0 ∷ 0 ∷ 103 ∷ 0 ∷ 2 ∷ 0 ∷ 7 ∷ 0 ∷ 5
    ∷ 1 ∷ 1
    ∷ 1 ∷ 2
    ∷ 8 ∷ 4 ∷ 0 ∷ 0 ∷ 0 ∷ 0 ∷ 0 ∷ 9 ∷ 1
    ∷ 10 ∷ 6 ∷ 0 ∷ 0 ∷ 0 ∷ 0 ∷ 0 ∷ 7 ∷ 0 ∷ 4 ∷ 0
    ∷ 4 ∷ 3 ∷ 0 ∷ 0 ∷ 1
    ∷ 8 ∷ 7 ∷ 0 ∷ 1 ∷ 0 ∷ 0 ∷ 0 ∷ 7 ∷ 0
    ∷ 8 ∷ 5 ∷ 0 ∷ 0 ∷ 0 ∷ 0 ∷ 0 ∷ 9 ∷ 1
    ∷ 9 ∷ 1 ∷ 0 ∷ 2 ∷ 0 ∷ 3 ∷ 255 ∷ 255 ∷ 255 ∷ 254
    ∷ 9 ∷ 1 ∷ 0 ∷ 3 ∷ 0 ∷ 0 ∷ 0 ∷ 0 ∷ 0 ∷ 0
    ∷ 9 ∷ 1 ∷ 0 ∷ 0 ∷ 0 ∷ 5 ∷ 0 ∷ 0 ∷ 0 ∷ 0
    ∷ 9 ∷ 1 ∷ 0 ∷ 5 ∷ 0 ∷ 1 ∷ 0 ∷ 0 ∷ 0 ∷ 0
    ∷ 9 ∷ 1 ∷ 0 ∷ 4 ∷ 0 ∷ 6 ∷ 0 ∷ 0 ∷ 0 ∷ 0
    ∷ []

-- E: a push, a scope with a loop, and a definition that pops another symbol
abbrev pub image_e : List ℕ
image_e =
    1 ∷ 0 ∷ 0 ∷ 0 ∷ 63 ∷ 0 ∷ 1 ∷ 0 ∷ 5 ∷ 0 ∷ 3
    ∷ 1 ∷ 1
    ∷ 1 ∷ 2
    ∷ 8 ∷ 4 ∷ 0 ∷ 0 ∷ 0 ∷ 0 ∷ 0 ∷ 7 ∷ 1
    ∷ 4 ∷ 3 ∷ 0 ∷ 0 ∷ 1
    ∷ 8 ∷ 5 ∷ 0 ∷ 0 ∷ 0 ∷ 0 ∷ 0 ∷ 8 ∷ 1
    ∷ 9 ∷ 1 ∷ 0 ∷ 2 ∷ 0 ∷ 3 ∷ 0 ∷ 0 ∷ 0 ∷ 0
    ∷ 9 ∷ 1 ∷ 0 ∷ 3 ∷ 0 ∷ 3 ∷ 0 ∷ 0 ∷ 0 ∷ 0
    ∷ 9 ∷ 1 ∷ 0 ∷ 3 ∷ 0 ∷ 4 ∷ 0 ∷ 0 ∷ 0 ∷ 0
    ∷ []

-- F: attached scopes, and a way to each refusal of the path rules from reference 2, which pushes 7 with scope 3
abbrev pub image_f : List ℕ
image_f =
    1 ∷ 0 ∷ 0 ∷ 0 ∷ 175 ∷ 0 ∷ 1 ∷ 0 ∷ 10 ∷ 0 ∷ 10
    ∷ 1 ∷ 1
    ∷ 1 ∷ 2
    ∷ 10 ∷ 6 ∷ 0 ∷ 0 ∷ 0 ∷ 0 ∷ 0 ∷ 7 ∷ 0 ∷ 3 ∷ 1
    ∷ 4 ∷ 3 ∷ 0 ∷ 0 ∷ 1
    ∷ 8 ∷ 7 ∷ 0 ∷ 0 ∷ 0 ∷ 0 ∷ 0 ∷ 7 ∷ 1
    ∷ 8 ∷ 5 ∷ 0 ∷ 0 ∷ 0 ∷ 0 ∷ 0 ∷ 8 ∷ 1
    ∷ 8 ∷ 4 ∷ 0 ∷ 0 ∷ 0 ∷ 0 ∷ 0 ∷ 8 ∷ 0
    ∷ 8 ∷ 5 ∷ 0 ∷ 0 ∷ 0 ∷ 0 ∷ 0 ∷ 7 ∷ 1
    ∷ 3 ∷ 8 ∷ 0 ∷ 0
    ∷ 8 ∷ 7 ∷ 0 ∷ 0 ∷ 0 ∷ 0 ∷ 0 ∷ 8 ∷ 1
    ∷ 9 ∷ 1 ∷ 0 ∷ 2 ∷ 0 ∷ 4 ∷ 0 ∷ 0 ∷ 0 ∷ 0
    ∷ 9 ∷ 1 ∷ 0 ∷ 2 ∷ 0 ∷ 5 ∷ 0 ∷ 0 ∷ 0 ∷ 0
    ∷ 9 ∷ 1 ∷ 0 ∷ 2 ∷ 0 ∷ 6 ∷ 0 ∷ 0 ∷ 0 ∷ 0
    ∷ 9 ∷ 1 ∷ 0 ∷ 6 ∷ 0 ∷ 5 ∷ 0 ∷ 0 ∷ 0 ∷ 0
    ∷ 9 ∷ 1 ∷ 0 ∷ 2 ∷ 0 ∷ 7 ∷ 0 ∷ 0 ∷ 0 ∷ 0
    ∷ 9 ∷ 1 ∷ 0 ∷ 4 ∷ 0 ∷ 8 ∷ 0 ∷ 0 ∷ 0 ∷ 0
    ∷ 9 ∷ 1 ∷ 0 ∷ 4 ∷ 0 ∷ 1 ∷ 0 ∷ 0 ∷ 0 ∷ 0
    ∷ 9 ∷ 1 ∷ 0 ∷ 8 ∷ 0 ∷ 1 ∷ 0 ∷ 0 ∷ 0 ∷ 0
    ∷ 9 ∷ 1 ∷ 0 ∷ 6 ∷ 0 ∷ 9 ∷ 0 ∷ 0 ∷ 0 ∷ 0
    ∷ 9 ∷ 1 ∷ 0 ∷ 4 ∷ 0 ∷ 5 ∷ 0 ∷ 0 ∷ 0 ∷ 0
    ∷ []

-- RECORDS BY THEIR KIND, of files, symbols and nodes below 256
abbrev pub removed_node : List ℕ
removed_node = 1 ∷ 0 ∷ []

abbrev pub scope : ℕ → List ℕ
scope file = 4 ∷ 3 ∷ 0 ∷ file ∷ 0 ∷ []

abbrev pub exported : ℕ → List ℕ
exported file = 4 ∷ 3 ∷ 0 ∷ file ∷ 1 ∷ []

abbrev pub push : ℕ → ℕ → List ℕ
push file symbol = 8 ∷ 4 ∷ 0 ∷ file ∷ 0 ∷ 0 ∷ 0 ∷ symbol ∷ 0 ∷ []

abbrev pub reference : ℕ → ℕ → List ℕ
reference file symbol = 8 ∷ 4 ∷ 0 ∷ file ∷ 0 ∷ 0 ∷ 0 ∷ symbol ∷ 1 ∷ []

abbrev pub pop : ℕ → ℕ → List ℕ
pop file symbol = 8 ∷ 5 ∷ 0 ∷ file ∷ 0 ∷ 0 ∷ 0 ∷ symbol ∷ 0 ∷ []

abbrev pub definition : ℕ → ℕ → List ℕ
definition file symbol = 8 ∷ 5 ∷ 0 ∷ file ∷ 0 ∷ 0 ∷ 0 ∷ symbol ∷ 1 ∷ []

abbrev pub push_scoped : ℕ → ℕ → ℕ → List ℕ
push_scoped file symbol attached = 10 ∷ 6 ∷ 0 ∷ file ∷ 0 ∷ 0 ∷ 0 ∷ symbol ∷ 0 ∷ attached ∷ 0 ∷ []

abbrev pub scoped_reference : ℕ → ℕ → ℕ → List ℕ
scoped_reference file symbol attached = 10 ∷ 6 ∷ 0 ∷ file ∷ 0 ∷ 0 ∷ 0 ∷ symbol ∷ 0 ∷ attached ∷ 1 ∷ []

abbrev pub pop_scoped : ℕ → ℕ → List ℕ
pop_scoped file symbol = 8 ∷ 7 ∷ 0 ∷ file ∷ 0 ∷ 0 ∷ 0 ∷ symbol ∷ 0 ∷ []

abbrev pub scoped_definition : ℕ → ℕ → List ℕ
scoped_definition file symbol = 8 ∷ 7 ∷ 0 ∷ file ∷ 0 ∷ 0 ∷ 0 ∷ symbol ∷ 1 ∷ []

abbrev pub drop_scopes : ℕ → List ℕ
drop_scopes file = 3 ∷ 8 ∷ 0 ∷ file ∷ []

abbrev pub removed_edge : List ℕ
removed_edge = 1 ∷ 0 ∷ []

-- an edge with the four bytes of its precedence, with a precedence below 256, with precedence 0
abbrev pub edge_with : ℕ → ℕ → List ℕ → List ℕ
edge_with source target precedence = 9 ∷ 1 ∷ 0 ∷ source ∷ 0 ∷ target ∷ precedence

abbrev pub edge_of : ℕ → ℕ → ℕ → List ℕ
edge_of source target precedence = edge_with source target (0 ∷ 0 ∷ 0 ∷ precedence ∷ [])

abbrev pub ◌⟶◌ : ℕ → ℕ → List ℕ
◌⟶◌ source target = edge_of source target 0

-- AN IMAGE: the header and the records, root and jump in front of the given nodes
abbrev pub joined : List (List ℕ) → List ℕ
joined [] = []
joined (x ∷ xs) = x ++ joined xs

abbrev two_bytes : ℕ → List ℕ
two_bytes n = (n / 256) ∷ (n - n / 256 * 256) ∷ []

abbrev with_header : ℕ → ℕ → ℕ → List ℕ → List ℕ
with_header files nodes edges records =
    1 ∷ 0 ∷ 0 ∷ (two_bytes (length records + 6) ++ (two_bytes files ++ (two_bytes nodes ++ (two_bytes edges ++ records))))

abbrev pub image_of : ℕ → List (List ℕ) → List (List ℕ) → List ℕ
image_of files nodes edges = with_header files (length nodes + 2) (length edges) (1 ∷ 1 ∷ 1 ∷ 2 ∷ (joined nodes ++ joined edges))

-- two edges of one node that each complete a path
abbrev pub twice_complete : List ℕ
twice_complete = image_of 1 (reference 0 7 ∷ definition 0 7 ∷ []) (2 ⟶ 3 ∷ 2 ⟶ 3 ∷ [])

-- a complete path that is the beginning of another
abbrev pub going_on : List ℕ
going_on = image_of 1 (reference 0 7 ∷ definition 0 7 ∷ push 0 7 ∷ definition 0 7 ∷ []) (2 ⟶ 3 ∷ 3 ⟶ 4 ∷ 4 ⟶ 5 ∷ [])

-- a scope with a loop
abbrev pub looping : List ℕ
looping = image_of 1 (reference 0 7 ∷ scope 0 ∷ []) (2 ⟶ 3 ∷ 3 ⟶ 3 ∷ [])

-- from root straight to jump, with scope 4 on the scope stack: reference 2 pushes 9, 3 pushes 7 with scope 4 attached, which 5 pops; behind 4 is the definition
abbrev pub hopping : List ℕ
hopping = image_of 1 (reference 0 9 ∷ push_scoped 0 7 4 ∷ exported 0 ∷ pop_scoped 0 7 ∷ definition 0 9 ∷ []) (2 ⟶ 3 ∷ 3 ⟶ 5 ∷ 5 ⟶ 0 ∷ 0 ⟶ 1 ∷ 4 ⟶ 6 ∷ [])

-- two files; edges 1 and 8 from root to root and 3 from root to jump; every other one has an end in a file, at root or at jump but for edge 4, which is removed
abbrev pub aliases_all : List ℕ
aliases_all = image_of 2 (reference 0 7 ∷ definition 0 7 ∷ exported 1 ∷ []) (2 ⟶ 0 ∷ 0 ⟶ 0 ∷ 0 ⟶ 3 ∷ 0 ⟶ 1 ∷ removed_edge ∷ 4 ⟶ 0 ∷ 0 ⟶ 4 ∷ 4 ⟶ 1 ∷ 0 ⟶ 0 ∷ [])
