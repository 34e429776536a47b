-- What an edge does to a path, judged before it is appended: each refusal with its values, the order of the tests, and completeness.
-- Document 02, order 4.
use Rattle.std.specs.Prelude.{ℕ, refl, true, false, List, [], ◌∷◌, Err, Ok}
use Rattle.std.proofs.Math.Option.{none}
use Rattle.semantics.specs.declared.graph.Node.TheVariants as N
use Rattle.semantics.specs.declared.refusal.ImageRefusal.{ImageRefusal}
use Rattle.semantics.specs.declared.refusal.ReplayRefusal.{ReplayRefusal}
use Rattle.semantics.specs.Limits.{base}
use Rattle.semantics.specs.Told.{told_path, told_flag}
use Rattle.semantics.specs.Answer.{Answer, ok, refuse}
use Rattle.semantics.specs.Graph.{node_id, file_id, Graph, view_of}
use Rattle.semantics.specs.Path.{Path, replay}
use Rattle.semantics.specs.Judgement.{judgement}
use Rattle.semantics.specs.Image.{symbol_bytes, check_image}
use Rattle.semantics.specs.Cases.Rows.{Row, ◌gives◌, Agreed}
use Rattle.semantics.specs.Cases.Graphs.{image_a, image_f, live, image_of, exported, reference, scope, pop, push, pop_scoped, scoped_reference, removed_edge, going_on, ◌⟶◌}
use Rattle.semantics.specs.PublicAnswers.{EdgeJudgement}

-- a refusal's number and values; else 0, and whether the extension is complete
abbrev told : EdgeJudgement → List ℕ
told (Err r) = told_path r
told (Ok complete) = 0 ∷ told_flag complete ∷ []

unfoldable judged_behind : Graph → Answer ReplayRefusal Path → ℕ → List ℕ
unfolding judgement view_of
judged_behind g (ok p) e = told (judgement (view_of g) p e)
judged_behind g (refuse r) e = []

unfoldable judged_in : Answer ImageRefusal Graph → ℕ → List ℕ → ℕ → List ℕ
unfolding judged_behind replay view_of
judged_in (ok g) node edges e = judged_behind g (replay base (view_of g) node edges) e
judged_in (refuse x) node edges e = []

-- an edge on the path of these edges from a reference
unfoldable judging : List ℕ → ℕ → List ℕ → ℕ → List ℕ
unfolding judged_in check_image
judging im node edges e = judged_in (check_image symbol_bytes im) node edges e

-- 2 pushes 7, 3 pushes 8, 4 pops 7 with scopes; edge 3 was removed
abbrev unscoped : List ℕ
unscoped = image_of 1 (reference 0 7 ∷ push 0 8 ∷ pop_scoped 0 7 ∷ []) (2 ⟶ 3 ∷ 3 ⟶ 4 ∷ 2 ⟶ 4 ∷ removed_edge ∷ [])

-- by jump to a scope: both stacks are empty there
abbrev jumping : List ℕ
jumping = image_of 1 (scoped_reference 0 7 3 ∷ exported 0 ∷ pop_scoped 0 7 ∷ []) (2 ⟶ 4 ∷ 4 ⟶ 1 ∷ [])

-- both stacks empty at a pop that is no definition, then at root
abbrev undefined : List ℕ
undefined = image_of 1 (reference 0 7 ∷ pop 0 7 ∷ scope 0 ∷ []) (2 ⟶ 3 ∷ 3 ⟶ 0 ∷ 3 ⟶ 4 ∷ [])

pub judgements : List (Row (List ℕ))
unfolding judging
judgements =
    -- 12: behind the last edge; removed, on a path that ends at 2 and on one that ends at 3: no source is compared before
    (judging image_f 2 [] 10 gives 12 ∷ 10 ∷ [])
    ∷ (judging unscoped 2 [] 3 gives 12 ∷ 3 ∷ [])
    ∷ (judging unscoped 2 (0 ∷ []) 3 gives 12 ∷ 3 ∷ [])
    -- 13: the path's end, then the edge's source; also where its target would be 15
    ∷ (judging image_f 2 [] 3 gives 13 ∷ 2 ∷ 6 ∷ [])
    ∷ (judging image_f 2 (0 ∷ []) 3 gives 13 ∷ 4 ∷ 6 ∷ [])
    ∷ (judging image_f 2 [] 9 gives 13 ∷ 2 ∷ 4 ∷ [])
    -- 14 and 15, 16 and 17 at the target: another symbol is 15 whether scopes are attached to it or not
    ∷ (judging image_f 2 (0 ∷ []) 9 gives 14 ∷ 5 ∷ [])
    ∷ (judging image_f 2 [] 1 gives 15 ∷ 5 ∷ [])
    ∷ (judging image_f 2 [] 4 gives 16 ∷ 7 ∷ [])
    ∷ (judging image_f 2 (2 ∷ []) 8 gives 17 ∷ 9 ∷ [])
    ∷ (judging unscoped 2 (0 ∷ []) 1 gives 15 ∷ 4 ∷ [])
    ∷ (judging unscoped 2 [] 2 gives 17 ∷ 4 ∷ [])
    -- 18 at jump; with a scope there the path lands on it, and is not complete although both stacks are then empty
    ∷ (judging image_f 2 (0 ∷ 5 ∷ []) 7 gives 18 ∷ 1 ∷ [])
    ∷ (judging jumping 2 (0 ∷ []) 1 gives 0 ∷ 0 ∷ [])
    -- at a definition with both stacks empty; with a scope left; with a symbol left
    ∷ (judging image_a 2 (0 ∷ []) 1 gives 0 ∷ 1 ∷ [])
    ∷ (judging image_f 2 [] 0 gives 0 ∷ 0 ∷ [])
    ∷ (judging image_f 2 (2 ∷ []) 3 gives 0 ∷ 0 ∷ [])
    -- it is the new end that counts: from a definition on, then to one
    ∷ (judging going_on 2 (0 ∷ []) 1 gives 0 ∷ 0 ∷ [])
    ∷ (judging going_on 2 (0 ∷ 1 ∷ []) 2 gives 0 ∷ 1 ∷ [])
    -- both stacks empty at a pop that is no definition, at root and at a scope
    ∷ (judging undefined 2 [] 0 gives 0 ∷ 0 ∷ [])
    ∷ (judging undefined 2 (0 ∷ []) 1 gives 0 ∷ 0 ∷ [])
    ∷ (judging undefined 2 (0 ∷ []) 2 gives 0 ∷ 0 ∷ [])
    ∷ []

pub judgement-cases : Agreed judgements
unfolding judgements
judgement-cases = refl

-- ON GRAPHS AND PATHS THAT NO IMAGE GIVES

-- 4 pushes 7 with scope 3, which is not exported, 5 was removed, 6 is a definition
abbrev unaccepted : Graph
unaccepted =
    record {
      files = 1;
      nodes = N.Root ∷ N.JumpToScope ∷ N.Push (file_id 0) 7 true ∷ N.Scope (file_id 0) false ∷ N.PushScoped (file_id 0) 7 (node_id 3) false ∷ N.Removed ∷ N.Pop (file_id 0) 7 true ∷ [];
      edges = live 2 4 0 ∷ live 2 5 0 ∷ live 2 1 0 ∷ live 2 6 0 ∷ [];
    }

-- at node 2 with symbol 7 on the stack, started there or elsewhere
abbrev standing : ℕ → List ℕ → Path
standing start scopes = record { start = start; end = 2; edges = []; steps = []; stacks = record { symbols = record { symbol = 7; scopes = none } ∷ []; scopes = scopes } }

unfoldable judging_at : ℕ → List ℕ → ℕ → List ℕ
unfolding judgement view_of
judging_at start scopes e = told (judgement (view_of unaccepted) (standing start scopes) e)

pub unaccepted-judgements : List (Row (List ℕ))
unfolding judging_at
unaccepted-judgements =
    -- 19 with the attached scope, at push-scoped and at jump; 10 for a target that was removed
    (judging_at 2 [] 0 gives 19 ∷ 3 ∷ [])
    ∷ (judging_at 2 [] 1 gives 10 ∷ 5 ∷ [])
    ∷ (judging_at 2 (3 ∷ []) 2 gives 19 ∷ 3 ∷ [])
    ∷ (judging_at 2 [] 2 gives 18 ∷ 1 ∷ [])
    -- complete only from a reference
    ∷ (judging_at 2 [] 3 gives 0 ∷ 1 ∷ [])
    ∷ (judging_at 3 [] 3 gives 0 ∷ 0 ∷ [])
    ∷ (judging_at 2 (3 ∷ []) 3 gives 0 ∷ 0 ∷ [])
    ∷ []

pub unaccepted-judgement-cases : Agreed unaccepted-judgements
unfolding unaccepted-judgements
unaccepted-judgement-cases = refl
