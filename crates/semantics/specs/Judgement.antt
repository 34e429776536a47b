-- The judgement of an edge on a path as it stands: no path is built.
-- Document 02, order 4: "the judgement gives the refusal that `append` gives, or none, and then whether the extension is complete".
use Rattle.std.specs.Prelude.{ℕ, Bool, true, false, List, [], ◌∷◌, eqb, Err, Ok}
use Rattle.semantics.specs.declared.graph.Node.{Node}
use Rattle.semantics.specs.declared.graph.Node.TheVariants as N
use Rattle.semantics.specs.declared.graph.Edge.{Edge}
use Rattle.semantics.specs.declared.graph.Edge.TheVariants as E
use Rattle.semantics.specs.declared.refusal.PathRefusal.{PathRefusal}
use Rattle.semantics.specs.declared.refusal.PathRefusal.TheVariants.{UnknownEdge, IncorrectSource, EmptyScopeStack, UnknownAttachedScope}
use Rattle.semantics.specs.Lists.{and, pick}
use Rattle.semantics.specs.Answer.{Answer, ok, refuse}
use Rattle.semantics.specs.Graph.{node_id, edge_id, View, is_reference, is_definition, is_exported}
use Rattle.semantics.specs.Path.{Stacks, Path, apply, is_empty}
use Rattle.semantics.specs.PublicAnswers.{EdgeJudgement}

-- from a reference to a definition with both stacks empty
unfoldable pub complete_at : View → ℕ → ℕ → Stacks → Bool
unfolding is_empty
complete_at g start end st = and (is_reference (g.node start)) (and (is_definition (g.node end)) (and (is_empty st.symbols) (is_empty st.scopes)))

-- at jump the path lands on the top scope, which is exported and so is no definition
unfoldable pub judge_jump : View → ℕ → List ℕ → EdgeJudgement
judge_jump g n [] = Err (EmptyScopeStack (node_id n))
judge_jump g n (scope ∷ rest) = pick (is_exported (g.node scope)) (Ok false) (Err (UnknownAttachedScope (node_id scope)))

-- the target was applied; by its kind the path stays there or jumps
unfoldable pub judge_landing : View → ℕ → ℕ → Node → Stacks → EdgeJudgement
unfolding complete_at judge_jump
judge_landing g start t N.Removed st = Ok (complete_at g start t st)
judge_landing g start t N.Root st = Ok (complete_at g start t st)
judge_landing g start t N.JumpToScope st = judge_jump g t st.scopes
judge_landing g start t (N.Scope f x) st = Ok (complete_at g start t st)
judge_landing g start t (N.Push f s r) st = Ok (complete_at g start t st)
judge_landing g start t (N.Pop f s d) st = Ok (complete_at g start t st)
judge_landing g start t (N.PushScoped f s a r) st = Ok (complete_at g start t st)
judge_landing g start t (N.PopScoped f s d) st = Ok (complete_at g start t st)
judge_landing g start t (N.DropScopes f) st = Ok (complete_at g start t st)

-- what the target says of the stacks
unfoldable pub judge_applied : View → ℕ → ℕ → Node → Answer PathRefusal Stacks → EdgeJudgement
unfolding judge_landing
judge_applied g start t n (ok st) = judge_landing g start t n st
judge_applied g start t n (refuse r) = Err r

-- an edge that leaves the path's end, or another node
unfoldable pub judge_from : Bool → View → Path → ℕ → ℕ → EdgeJudgement
unfolding judge_applied apply
judge_from true g p source target = judge_applied g p.start target (g.node target) (apply g target (g.node target) p.stacks)
judge_from false g p source target = Err (IncorrectSource (node_id p.end) (node_id source))

unfoldable pub judge_edge : View → Path → ℕ → Edge → EdgeJudgement
unfolding judge_from
judge_edge g p e E.Removed = Err (UnknownEdge (edge_id e))
judge_edge g p e (E.Live source target precedence) = judge_from (eqb source.0 p.end) g p source.0 target.0

-- any edge number on any path: 12, 13, what its target is refused with, or whether the extension is complete
unfoldable pub judgement : View → Path → ℕ → EdgeJudgement
unfolding judge_edge
judgement g p e = judge_edge g p e (g.edge e)
