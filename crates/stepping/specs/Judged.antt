-- Judging an edge on a path as it stands in steps, and what it means that steps stand for a path.
-- Document 01, "Path": `append` is the judgement, then the step is added.
use Rattle.std.specs.Prelude.{ℕ, ◌+◌, ◌*◌, ◌<◌, ◌≤◌, ◌≡◌, Bool, false, List, eqb, length, get_or}
use Rattle.semantics.specs.Limits.{step_length}
use Rattle.semantics.specs.ReplayedPaths.{step_at}
use Rattle.semantics.specs.declared.graph.Node.{Node}
use Rattle.semantics.specs.declared.graph.Edge.{Edge}
use Rattle.semantics.specs.declared.graph.Edge.TheVariants as E
use Rattle.semantics.specs.declared.refusal.PathRefusal.TheVariants.{UnknownNode, NotReference, UnknownEdge, IncorrectSource}
use Rattle.semantics.specs.Lists.{pick}
use Rattle.semantics.specs.Graph.{node_id, edge_id, traits, is_reference, is_definition, is_exported}
use Rattle.semantics.specs.Path.{Path}
use Rattle.semantics.specs.declared.replayed.Step.{Step}
use Rattle.stepping.specs.Steps.{Effect}
use Rattle.std.specs.Prelude.{Ok, Err}
use Rattle.stepping.specs.Steps.{plain_step, asked_scope, applied_of, remade_of, stacks_of, Low}
use Rattle.stepping.specs.StepWords.{maker_in, with_step}
pub mod Laws
pub mod Remaking

-- a step with empty stacks, behind which a reference is applied
abbrev pub no_step : Step
no_step = plain_step 0 0 0 0

module _ (nodes : ℕ → Node) where
  -- node t applied as step k, by edge e
  abbrev pub reached : ℕ → ℕ → ℕ → Step → Step → Step → Effect
  reached t e k last top over = applied_of (is_exported (nodes (asked_scope (nodes t) over))) (nodes t) t e k last top over

  -- step 0 of a path: 10, 11, or the reference applied
  unfoldable pub begun_of : ℕ → Effect
  unfolding applied_of
  begun_of r = pick (traits (nodes r)).removed (Err (UnknownNode (node_id r))) (pick (is_reference (nodes r)) (reached r 0 0 no_step no_step no_step) (Err (NotReference (node_id r))))

  -- an edge from the end of `last` to its target: 13, or the target applied as step k
  unfoldable pub followed : ℕ → ℕ → Step → Step → Step → Edge → Effect
  unfolding applied_of
  followed e k last top over E.Removed = Err (UnknownEdge (edge_id e))
  followed e k last top over (E.Live s t p) = pick (eqb s.0 last.end) (reached t.0 e k last top over) (Err (IncorrectSource (node_id last.end) s))

  -- edge e, which is this, on the path of k edges that stands in the words
  unfoldable pub judged_of : List ℕ → ℕ → ℕ → Edge → Effect
  unfolding followed
  judged_of ws k e x = followed e (k + 1) (step_at ws k) (maker_in ws (step_at ws k).symbols) (maker_in ws (step_at ws k).scopes) x

  -- step k behind `last` that leads to node t by edge e, where it was made once
  abbrev pub remade_behind : List ℕ → Step → ℕ → ℕ → ℕ → Step
  remade_behind ws last k e t = remade_of (nodes t) t e k last (maker_in ws last.symbols) (maker_in ws last.scopes)

  -- the same behind the k edges whose steps stand there
  abbrev pub remade_in : List ℕ → ℕ → ℕ → ℕ → Step
  remade_in ws k e t = remade_behind ws (step_at ws k) (k + 1) e t

  -- at a definition with both stacks empty; the path starts at a reference
  abbrev pub complete_step : Step → Bool
  complete_step s = pick (eqb s.symbols 0) (pick (eqb s.scopes 0) (is_definition (nodes s.end)) false) false

-- the last of k + 1 steps, and those that made the tops of its stacks, are in the words
pub record Ready (ws : List ℕ) (k : ℕ) : Type 0 where
  pub few : k < 4294967294
  pub room : step_length * k + step_length ≤ length ws
  pub symbols : (step_at ws k).symbols ≤ k + 1
  pub scopes : (step_at ws k).scopes ≤ k + 1

-- there is room for step k, and those that made the tops of the stacks of the step before are in the words
pub record Behind (ws : List ℕ) (last : Step) (k : ℕ) : Type 0 where
  pub few : k < 4294967295
  pub room : step_length * k + step_length ≤ length ws
  pub symbols : step_length * last.symbols ≤ length ws
  pub scopes : step_length * last.scopes ≤ length ws

-- the words behind a judgement: the step is added
unfoldable pub words_after : List ℕ → ℕ → Effect → List ℕ
words_after ws k (Ok s) = with_step ws k s
words_after ws k (Err r) = ws

-- k + 1 steps in the words stand for a path of k edges
pub record Stepped (ws : List ℕ) (k : ℕ) (p : Path) : Type 0 where
  pub low : (j : ℕ) → j < k + 1 → Low (step_at ws j) j
  pub count : length p.edges ≡ k
  pub end : (step_at ws k).end ≡ p.end
  pub stacks : p.stacks ≡ stacks_of (step_at ws) (step_at ws k)
  pub edges : (j : ℕ) → j < k → (step_at ws (j + 1)).edge ≡ get_or p.edges j 0
