-- Paths: what replay answers and refuses, completeness, shadowing.
-- Document 01, "Path", and the rows 10 to 19 and 30 of "Turned back".
use Rattle.std.specs.Prelude.{ℕ, ◌-◌, refl, Bool, true, false, List, [], ◌∷◌, ◌++◌, pos, negsuc, take, replicate}
use Rattle.std.proofs.Math.Option.{none, some}
use Rattle.semantics.specs.declared.graph.Node.TheVariants as N
use Rattle.semantics.specs.Limits.{base, max_edges}
use Rattle.semantics.specs.Answer.{ok}
use Rattle.semantics.specs.Told.{told_replayed}
use Rattle.semantics.specs.Graph.{node_id, file_id, Graph}
use Rattle.semantics.specs.Path as Rules
use Rattle.semantics.specs.Calls.{ReplayedPath, no_path, edge, jump, replay_call}
use Rattle.semantics.specs.Cases.Rows.{Row, ◌gives◌, Agreed}
use Rattle.semantics.specs.Cases.Graphs.{image_a, image_b, image_d, image_e, image_f, live, image_of, removed_node, scope, exported, reference, push, pop, push_scoped, scoped_reference, pop_scoped, drop_scopes, edge_with, edge_of, ◌⟶◌}
use Rattle.semantics.specs.Cases.Asked.{replaying, replayed, completing, shadowing}

-- WHAT A REPLAY ANSWERS: end, steps, both stacks with their tops first

-- 2 pushes 7 with scope 3, 4 pops it, 5 pushes 8 with scope 6 on top of 3, 7 pushes 9, 8 and 9 pop them, 10 drops scopes
abbrev stacked : List ℕ
stacked =
    image_of 1 (scoped_reference 0 7 3 ∷ exported 0 ∷ pop_scoped 0 7 ∷ push_scoped 0 8 6 ∷ exported 0 ∷ push 0 9 ∷ pop 0 9 ∷ pop_scoped 0 8 ∷ drop_scopes 0 ∷ [])
    (2 ⟶ 4 ∷ 4 ⟶ 5 ∷ 5 ⟶ 7 ∷ 7 ⟶ 8 ∷ 8 ⟶ 9 ∷ 9 ⟶ 1 ∷ 6 ⟶ 1 ∷ 7 ⟶ 10 ∷ 9 ⟶ 3 ∷ 3 ⟶ 0 ∷ 9 ⟶ 10 ∷ [])

pub replays : List (Row ReplayedPath)
unfolding replayed
replays =
    -- the empty list: the path ends at the reference, which is applied
    (replayed image_a 2 [] gives record { end = 2; steps = []; symbols = record { symbol = 7; scopes = none } ∷ []; scopes = [] })
    ∷ (replayed stacked 2 [] gives record { end = 2; steps = []; symbols = record { symbol = 7; scopes = some (3 ∷ []) } ∷ []; scopes = [] })
    -- pop-scoped: the attached scopes replace the scope stack
    ∷ (replayed stacked 2 (0 ∷ []) gives record { end = 4; steps = edge 0 ∷ []; symbols = []; scopes = 3 ∷ [] })
    -- push-scoped: the scope stack plus its own scope on top; the scope stack itself stays
    ∷ (replayed stacked 2 (0 ∷ 1 ∷ []) gives record { end = 5; steps = edge 0 ∷ edge 1 ∷ []; symbols = record { symbol = 8; scopes = some (6 ∷ 3 ∷ []) } ∷ []; scopes = 3 ∷ [] })
    -- push and pop, on top of another symbol and with scopes there
    ∷ (replayed stacked 2 (0 ∷ 1 ∷ 2 ∷ []) gives record { end = 7; steps = edge 0 ∷ edge 1 ∷ edge 2 ∷ []; symbols = record { symbol = 9; scopes = none } ∷ record { symbol = 8; scopes = some (6 ∷ 3 ∷ []) } ∷ []; scopes = 3 ∷ [] })
    ∷ (replayed stacked 2 (0 ∷ 1 ∷ 2 ∷ 3 ∷ []) gives record { end = 8; steps = edge 0 ∷ edge 1 ∷ edge 2 ∷ edge 3 ∷ []; symbols = record { symbol = 8; scopes = some (6 ∷ 3 ∷ []) } ∷ []; scopes = 3 ∷ [] })
    ∷ (replayed stacked 2 (0 ∷ 1 ∷ 2 ∷ 3 ∷ 4 ∷ []) gives record { end = 9; steps = edge 0 ∷ edge 1 ∷ edge 2 ∷ edge 3 ∷ edge 4 ∷ []; symbols = []; scopes = 6 ∷ 3 ∷ [] })
    -- jump: the top scope is taken, the path ends there, and a jump step is added; then again
    ∷ (replayed stacked 2 (0 ∷ 1 ∷ 2 ∷ 3 ∷ 4 ∷ 5 ∷ []) gives record { end = 6; steps = edge 0 ∷ edge 1 ∷ edge 2 ∷ edge 3 ∷ edge 4 ∷ edge 5 ∷ jump 6 ∷ []; symbols = []; scopes = 3 ∷ [] })
    ∷ (replayed stacked 2 (0 ∷ 1 ∷ 2 ∷ 3 ∷ 4 ∷ 5 ∷ 6 ∷ []) gives record { end = 3; steps = edge 0 ∷ edge 1 ∷ edge 2 ∷ edge 3 ∷ edge 4 ∷ edge 5 ∷ jump 6 ∷ edge 6 ∷ jump 3 ∷ []; symbols = []; scopes = [] })
    -- drop-scopes clears the scope stack, of one scope and of two, and keeps the symbols; scope and root do nothing
    ∷ (replayed stacked 2 (0 ∷ 1 ∷ 2 ∷ 7 ∷ []) gives record { end = 10; steps = edge 0 ∷ edge 1 ∷ edge 2 ∷ edge 7 ∷ []; symbols = record { symbol = 9; scopes = none } ∷ record { symbol = 8; scopes = some (6 ∷ 3 ∷ []) } ∷ []; scopes = [] })
    ∷ (replayed stacked 2 (0 ∷ 1 ∷ 2 ∷ 3 ∷ 4 ∷ 10 ∷ []) gives record { end = 10; steps = edge 0 ∷ edge 1 ∷ edge 2 ∷ edge 3 ∷ edge 4 ∷ edge 10 ∷ []; symbols = []; scopes = [] })
    ∷ (replayed stacked 2 (0 ∷ 1 ∷ 2 ∷ 3 ∷ 4 ∷ 8 ∷ 9 ∷ []) gives record { end = 0; steps = edge 0 ∷ edge 1 ∷ edge 2 ∷ edge 3 ∷ edge 4 ∷ edge 8 ∷ edge 9 ∷ []; symbols = []; scopes = 6 ∷ 3 ∷ [] })
    ∷ (replayed image_d 2 (0 ∷ 1 ∷ []) gives record { end = 0; steps = edge 0 ∷ edge 1 ∷ []; symbols = record { symbol = 7; scopes = some (4 ∷ []) } ∷ record { symbol = 9; scopes = none } ∷ []; scopes = [] })
    ∷ (replayed image_d 2 (0 ∷ 1 ∷ 2 ∷ 3 ∷ []) gives record { end = 4; steps = edge 0 ∷ edge 1 ∷ edge 2 ∷ edge 3 ∷ jump 4 ∷ []; symbols = record { symbol = 9; scopes = none } ∷ []; scopes = [] })
    -- refused, by the path rules and by the image
    ∷ (replayed image_f 2 (0 ∷ 9 ∷ []) gives no_path)
    ∷ (replayed (take 10 image_a) 2 [] gives no_path)
    ∷ []

pub replay-cases : Agreed replays
unfolding replays
replay-cases = refl

-- WHAT IT IS REFUSED WITH

-- on graphs that no image gives: a scope that is not exported, and was removed, attached to the reference
abbrev attaching : Graph
attaching = record { files = 1; nodes = N.Root ∷ N.JumpToScope ∷ N.PushScoped (file_id 0) 7 (node_id 3) true ∷ N.Scope (file_id 0) false ∷ N.Push (file_id 0) 7 true ∷ N.Removed ∷ []; edges = live 4 5 0 ∷ [] }

-- 4 pops 7, 5 and 6 pop 8 and 7 with scopes
abbrev popped : List ℕ
popped = image_of 1 (scoped_reference 0 7 3 ∷ exported 0 ∷ pop 0 7 ∷ pop_scoped 0 8 ∷ pop_scoped 0 7 ∷ []) (2 ⟶ 4 ∷ 2 ⟶ 5 ∷ 2 ⟶ 6 ∷ 6 ⟶ 5 ∷ [])

-- by jump to a scope with a loop
abbrev jump_then_loop : List ℕ
jump_then_loop = image_of 1 (scoped_reference 0 7 3 ∷ exported 0 ∷ pop_scoped 0 7 ∷ []) (2 ⟶ 4 ∷ 4 ⟶ 1 ∷ 3 ⟶ 3 ∷ [])

on_graph : Graph → ℕ → List ℕ → List ℕ
unfolding replay_call
on_graph g node edges = told_replayed (replay_call base (ok g) node edges).answer

pub refusals : List (Row (List ℕ))
unfolding replaying on_graph
refusals =
    -- 10: behind the last node, and removed; 11: a scope, root, a push that is no reference
    (replaying image_f 10 [] gives 10 ∷ 10 ∷ [])
    ∷ (replaying (image_of 1 (removed_node ∷ []) []) 2 (0 ∷ []) gives 10 ∷ 2 ∷ [])
    ∷ (replaying image_f 3 [] gives 11 ∷ 3 ∷ [])
    ∷ (replaying image_f 0 [] gives 11 ∷ 0 ∷ [])
    ∷ (replaying image_f 6 (3 ∷ []) gives 11 ∷ 6 ∷ [])
    -- 12: behind the last edge; 13: the path's end, then the edge's source
    ∷ (replaying image_f 2 (10 ∷ []) gives 12 ∷ 10 ∷ [])
    ∷ (replaying image_f 2 (3 ∷ []) gives 13 ∷ 2 ∷ 6 ∷ [])
    ∷ (replaying image_f 2 (0 ∷ 3 ∷ []) gives 13 ∷ 4 ∷ 6 ∷ [])
    -- 14: no symbol; 15: another one, compared before the scopes are looked at; 16: scopes where pop wants none; 17: none where pop-scoped wants some
    ∷ (replaying image_f 2 (0 ∷ 9 ∷ []) gives 14 ∷ 5 ∷ [])
    ∷ (replaying image_f 2 (1 ∷ []) gives 15 ∷ 5 ∷ [])
    ∷ (replaying image_f 2 (4 ∷ []) gives 16 ∷ 7 ∷ [])
    ∷ (replaying image_f 2 (2 ∷ 8 ∷ []) gives 17 ∷ 9 ∷ [])
    -- 16 at pop node 4, and 15 and 14 at pop-scoped node 5: with the node, not its symbol
    ∷ (replaying popped 2 (0 ∷ []) gives 16 ∷ 4 ∷ [])
    ∷ (replaying popped 2 (1 ∷ []) gives 15 ∷ 5 ∷ [])
    ∷ (replaying popped 2 (2 ∷ 3 ∷ []) gives 14 ∷ 5 ∷ [])
    ∷ (replaying stacked 2 (0 ∷ 1 ∷ 2 ∷ 3 ∷ 4 ∷ 5 ∷ 6 ∷ 9 ∷ []) gives 0 ∷ [])
    -- 18, at jump: the scopes were dropped; not refused where one is there
    ∷ (replaying image_f 2 (0 ∷ 5 ∷ 7 ∷ []) gives 18 ∷ 1 ∷ [])
    ∷ (replaying image_f 2 (0 ∷ 6 ∷ []) gives 0 ∷ [])
    -- 19, the attached scope, and 10 for an end that was removed: no accepted image has them
    ∷ (on_graph attaching 2 [] gives 19 ∷ 3 ∷ [])
    ∷ (on_graph attaching 4 (0 ∷ []) gives 10 ∷ 5 ∷ [])
    -- the first of several edges that is refused
    ∷ (replaying image_f 2 (1 ∷ 10 ∷ []) gives 15 ∷ 5 ∷ [])
    -- edges may be repeated; 63 edges are no refusal, a 64th is 30, before anything else is said of it
    ∷ (replaying image_e 2 (0 ∷ replicate (max_edges - 1) 1) gives 0 ∷ [])
    ∷ (replaying image_e 2 (0 ∷ replicate max_edges 1) gives 30 ∷ [])
    ∷ (replaying image_e 2 (0 ∷ (replicate (max_edges - 1) 1 ++ (9 ∷ []))) gives 30 ∷ [])
    ∷ (replaying image_e 2 (0 ∷ (replicate (max_edges - 2) 1 ++ (9 ∷ 1 ∷ []))) gives 12 ∷ 9 ∷ [])
    -- jumps are not counted
    ∷ (replaying jump_then_loop 2 (0 ∷ 1 ∷ replicate (max_edges - 2) 2) gives 0 ∷ [])
    ∷ (replaying jump_then_loop 2 (0 ∷ 1 ∷ replicate (max_edges - 1) 2) gives 30 ∷ [])
    -- the image before the node
    ∷ (replaying (take 10 image_a) 9 [] gives 2 ∷ [])
    ∷ []

pub refusal-cases : Agreed refusals
unfolding refusals
refusal-cases = refl

-- COMPLETENESS
pub completions : List (Row (List ℕ))
unfolding completing
completions =
    -- at a definition with both stacks empty; at a scope; at the reference itself
    (completing image_a 2 (0 ∷ 1 ∷ []) gives 0 ∷ 1 ∷ [])
    ∷ (completing image_a 2 (0 ∷ []) gives 0 ∷ 0 ∷ [])
    ∷ (completing image_a 2 [] gives 0 ∷ 0 ∷ [])
    -- behind a jump; at a definition with a scope left; at one with a symbol left
    ∷ (completing image_d 2 (0 ∷ 1 ∷ 2 ∷ 3 ∷ 4 ∷ []) gives 0 ∷ 1 ∷ [])
    ∷ (completing image_f 2 (0 ∷ []) gives 0 ∷ 0 ∷ [])
    ∷ (completing image_f 2 (2 ∷ 3 ∷ []) gives 0 ∷ 0 ∷ [])
    -- both stacks empty at a pop that is no definition, and at root
    ∷ (completing (image_of 1 (reference 0 7 ∷ pop 0 7 ∷ []) (2 ⟶ 3 ∷ 3 ⟶ 0 ∷ [])) 2 (0 ∷ []) gives 0 ∷ 0 ∷ [])
    ∷ (completing (image_of 1 (reference 0 7 ∷ pop 0 7 ∷ []) (2 ⟶ 3 ∷ 3 ⟶ 0 ∷ [])) 2 (0 ∷ 1 ∷ []) gives 0 ∷ 0 ∷ [])
    -- the refusals of a replay, and of the image
    ∷ (completing image_a 2 (0 ∷ 2 ∷ []) gives 15 ∷ 5 ∷ [])
    ∷ (completing image_a 3 [] gives 11 ∷ 3 ∷ [])
    ∷ (completing (take 10 image_a) 2 [] gives 2 ∷ [])
    ∷ []

pub completion-cases : Agreed completions
unfolding completions
completion-cases = refl

-- SHADOWING

-- six edges from 2 to 3 with precedences -2^31, -2^31 + 1, -2, -1, 0 and 2^31 - 1
abbrev preferring : List ℕ
preferring =
    image_of 1 (reference 0 7 ∷ scope 0 ∷ [])
    (edge_with 2 3 (128 ∷ 0 ∷ 0 ∷ 0 ∷ []) ∷ edge_with 2 3 (128 ∷ 0 ∷ 0 ∷ 1 ∷ []) ∷ edge_with 2 3 (255 ∷ 255 ∷ 255 ∷ 254 ∷ []) ∷ edge_with 2 3 (255 ∷ 255 ∷ 255 ∷ 255 ∷ []) ∷ 2 ⟶ 3 ∷ edge_with 2 3 (127 ∷ 255 ∷ 255 ∷ 255 ∷ []) ∷ [])

-- from 4, where scope 3 is on the stack: into jump; and over root, over 2 and over 3 itself to 5, each by an edge of precedence -1; 6 is a second reference
abbrev beside_jump : List ℕ
beside_jump =
    image_of 1 (scoped_reference 0 7 3 ∷ exported 0 ∷ pop_scoped 0 7 ∷ scope 0 ∷ scoped_reference 0 7 3 ∷ [])
    (2 ⟶ 4 ∷ 4 ⟶ 1 ∷ 4 ⟶ 0 ∷ edge_with 0 5 (255 ∷ 255 ∷ 255 ∷ 255 ∷ []) ∷ 4 ⟶ 2 ∷ edge_with 2 5 (255 ∷ 255 ∷ 255 ∷ 255 ∷ []) ∷ 4 ⟶ 3 ∷ edge_with 3 5 (255 ∷ 255 ∷ 255 ∷ 255 ∷ []) ∷ 3 ⟶ 5 ∷ edge_of 6 4 1 ∷ edge_of 4 1 1 ∷ [])

pub shadowings : List (Row (List ℕ))
unfolding shadowing
shadowings =
    -- on B: greater at the first edge; greater at the second after a smaller one; equal throughout; longer than a prefix; empty
    (shadowing image_b 2 (1 ∷ 2 ∷ []) 2 (0 ∷ 3 ∷ []) gives 0 ∷ 1 ∷ [])
    ∷ (shadowing image_b 2 (0 ∷ 3 ∷ []) 2 (1 ∷ 2 ∷ []) gives 0 ∷ 1 ∷ [])
    ∷ (shadowing image_b 2 (0 ∷ 2 ∷ []) 2 (1 ∷ 3 ∷ []) gives 0 ∷ 0 ∷ [])
    ∷ (shadowing image_b 2 (0 ∷ 3 ∷ []) 2 (0 ∷ 3 ∷ []) gives 0 ∷ 0 ∷ [])
    ∷ (shadowing image_b 2 (0 ∷ 2 ∷ []) 2 (1 ∷ []) gives 0 ∷ 0 ∷ [])
    ∷ (shadowing image_b 2 (1 ∷ []) 2 (0 ∷ 2 ∷ []) gives 0 ∷ 1 ∷ [])
    ∷ (shadowing image_b 2 [] 2 (0 ∷ []) gives 0 ∷ 0 ∷ [])
    -- two's complement: each precedence is greater than the one before, and not the other way round
    ∷ (shadowing preferring 2 (1 ∷ []) 2 (0 ∷ []) gives 0 ∷ 1 ∷ [])
    ∷ (shadowing preferring 2 (2 ∷ []) 2 (1 ∷ []) gives 0 ∷ 1 ∷ [])
    ∷ (shadowing preferring 2 (3 ∷ []) 2 (2 ∷ []) gives 0 ∷ 1 ∷ [])
    ∷ (shadowing preferring 2 (4 ∷ []) 2 (3 ∷ []) gives 0 ∷ 1 ∷ [])
    ∷ (shadowing preferring 2 (5 ∷ []) 2 (4 ∷ []) gives 0 ∷ 1 ∷ [])
    ∷ (shadowing preferring 2 (0 ∷ []) 2 (5 ∷ []) gives 0 ∷ 0 ∷ [])
    ∷ (shadowing preferring 2 (2 ∷ []) 2 (3 ∷ []) gives 0 ∷ 0 ∷ [])
    ∷ (shadowing preferring 2 (3 ∷ []) 2 (4 ∷ []) gives 0 ∷ 0 ∷ [])
    -- different sources: no, at the first step although the second has a greater precedence, and at a later one
    ∷ (shadowing beside_jump 6 (9 ∷ 10 ∷ []) 2 (0 ∷ 1 ∷ []) gives 0 ∷ 0 ∷ [])
    ∷ (shadowing beside_jump 2 (0 ∷ 6 ∷ 8 ∷ []) 2 (0 ∷ 2 ∷ 3 ∷ []) gives 0 ∷ 0 ∷ [])
    -- a jump leaves node 1: beside an edge from root, from node 2 and from the scope that is jumped to, each of precedence -1, the sources differ
    ∷ (shadowing beside_jump 2 (0 ∷ 1 ∷ []) 2 (0 ∷ 2 ∷ 3 ∷ []) gives 0 ∷ 0 ∷ [])
    ∷ (shadowing beside_jump 2 (0 ∷ 1 ∷ []) 2 (0 ∷ 4 ∷ 5 ∷ []) gives 0 ∷ 0 ∷ [])
    ∷ (shadowing beside_jump 2 (0 ∷ 1 ∷ []) 2 (0 ∷ 6 ∷ 7 ∷ []) gives 0 ∷ 0 ∷ [])
    -- two jumps are passed over: the edges behind them decide
    ∷ (shadowing beside_jump 2 (0 ∷ 1 ∷ 8 ∷ []) 2 (0 ∷ 1 ∷ 7 ∷ []) gives 0 ∷ 1 ∷ [])
    ∷ (shadowing beside_jump 2 (0 ∷ 1 ∷ 7 ∷ []) 2 (0 ∷ 1 ∷ 8 ∷ []) gives 0 ∷ 0 ∷ [])
    -- the left path is replayed before the right one; the image before both
    ∷ (shadowing image_b 2 (9 ∷ []) 3 [] gives 12 ∷ 9 ∷ [])
    ∷ (shadowing image_b 3 [] 2 (9 ∷ []) gives 11 ∷ 3 ∷ [])
    ∷ (shadowing image_b 2 [] 2 (9 ∷ []) gives 12 ∷ 9 ∷ [])
    ∷ (shadowing (take 10 image_b) 2 (9 ∷ []) 3 [] gives 2 ∷ [])
    ∷ []

pub shadowing-cases : Agreed shadowings
unfolding shadowings
shadowing-cases = refl

-- "A jump has precedence 0": as no edge leaves jump, only the definition itself can be asked, with steps that no graph has
pub jumpings : List (Row Bool)
unfolding Rules.shadowing
jumpings =
    (Rules.shadowing (Rules.jumped 3 ∷ []) (Rules.along 0 1 (negsuc 0) ∷ []) gives true)
    ∷ (Rules.shadowing (Rules.jumped 3 ∷ []) (Rules.along 0 1 (pos 0) ∷ []) gives false)
    ∷ (Rules.shadowing (Rules.along 0 1 (pos 0) ∷ []) (Rules.jumped 3 ∷ []) gives false)
    ∷ (Rules.shadowing (Rules.along 0 1 (pos 1) ∷ []) (Rules.jumped 3 ∷ []) gives true)
    ∷ []

pub jumping-cases : Agreed jumpings
unfolding jumpings
jumping-cases = refl
