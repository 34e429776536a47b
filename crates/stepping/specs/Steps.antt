-- The steps of a path as cells: what a node does behind a step, and the stacks that the cells stand for.
-- Document 01, "Path"; Steps/Laws shows that this is `extend` of the definitions.
use Rattle.std.specs.Prelude.{ℕ, ◌+◌, ◌-◌, ◌≤◌, Bool, eqb, ltb, Result, Ok, Err}
use Rattle.semantics.specs.ReplayedPaths.{scopes_of, symbols_of}
use Rattle.semantics.specs.declared.graph.Node.{Node}
use Rattle.semantics.specs.declared.graph.Node.TheVariants as N
use Rattle.semantics.specs.declared.refusal.PathRefusal.{PathRefusal}
use Rattle.semantics.specs.declared.refusal.PathRefusal.TheVariants.{UnknownNode, EmptySymbolStack, IncorrectPoppedSymbol, UnexpectedAttachedScopes, MissingAttachedScopes, EmptyScopeStack, UnknownAttachedScope}
use Rattle.semantics.specs.Lists.{pick}
use Rattle.semantics.specs.Graph.{node_id}
use Rattle.semantics.specs.Path.{Stacks}
use Rattle.semantics.specs.declared.replayed.Step.{Step}
pub mod Laws

-- WHAT A NODE DOES BEHIND A STEP: `last` is the step before, `top` made the top symbol, `over` the top scope, and the new step is the k-th

-- a step that makes no cell
abbrev pub plain_step : ℕ → ℕ → ℕ → ℕ → Step
plain_step edge end symbols scopes = record { edge = edge; end = end; symbols = symbols; scopes = scopes; symbol = 0; attached = 0; below = 0; scope = 0 }

-- a step that pushes a symbol without scopes
abbrev pub push_step : ℕ → ℕ → ℕ → ℕ → Step → Step
push_step symbol target edge k last = record { edge = edge; end = target; symbols = k + 1; scopes = last.scopes; symbol = symbol; attached = 0; below = last.symbols; scope = 0 }

-- a step that pushes one with the scope stack plus its own scope on top
abbrev pub push_scoped_step : ℕ → ℕ → ℕ → ℕ → ℕ → Step → Step
push_scoped_step symbol scope target edge k last = record { edge = edge; end = target; symbols = k + 1; scopes = last.scopes; symbol = symbol; attached = k + 1; below = last.symbols; scope = scope }

-- what becomes of an edge: the step that is added, or the refusal
abbrev pub Effect : Type 0
Effect = Result Step PathRefusal

unfoldable pub pop_of : ℕ → ℕ → ℕ → Step → Step → Effect
pop_of target edge symbol last top =
    pick (eqb last.symbols 0) (Err (EmptySymbolStack (node_id target)))
    (pick (eqb top.symbol symbol)
    (pick (eqb top.attached 0) (Ok (plain_step edge target top.below last.scopes)) (Err (UnexpectedAttachedScopes (node_id target))))
    (Err (IncorrectPoppedSymbol (node_id target))))

unfoldable pub pop_scoped_of : ℕ → ℕ → ℕ → Step → Step → Effect
pop_scoped_of target edge symbol last top =
    pick (eqb last.symbols 0) (Err (EmptySymbolStack (node_id target)))
    (pick (eqb top.symbol symbol)
    (pick (eqb top.attached 0) (Err (MissingAttachedScopes (node_id target))) (Ok (plain_step edge target top.below top.attached)))
    (Err (IncorrectPoppedSymbol (node_id target))))

unfoldable pub jump_of : Bool → ℕ → ℕ → Step → Step → Effect
jump_of exported target edge last over =
    pick (eqb last.scopes 0) (Err (EmptyScopeStack (node_id target)))
    (pick exported (Ok (plain_step edge over.scope last.symbols over.scopes)) (Err (UnknownAttachedScope (node_id over.scope))))

unfoldable pub push_scoped_of : Bool → ℕ → ℕ → ℕ → ℕ → ℕ → Step → Effect
push_scoped_of exported symbol scope target edge k last = pick exported (Ok (push_scoped_step symbol scope target edge k last)) (Err (UnknownAttachedScope (node_id scope)))

-- the scope whose export a node asks for: that of a push-scoped node, or the top scope at jump
abbrev pub asked_scope : Node → Step → ℕ
asked_scope N.Removed over = 0
asked_scope N.Root over = 0
asked_scope N.JumpToScope over = over.scope
asked_scope (N.Scope f x) over = 0
asked_scope (N.Push f symbol r) over = 0
asked_scope (N.Pop f symbol d) over = 0
asked_scope (N.PushScoped f symbol scope r) over = scope.0
asked_scope (N.PopScoped f symbol d) over = 0
asked_scope (N.DropScopes f) over = 0

-- `exported` says whether the scope that is asked for is exported
unfoldable pub applied_of : Bool → Node → ℕ → ℕ → ℕ → Step → Step → Step → Effect
unfolding pop_of pop_scoped_of jump_of push_scoped_of
applied_of exported N.Removed target edge k last top over = Err (UnknownNode (node_id target))
applied_of exported N.Root target edge k last top over = Ok (plain_step edge target last.symbols last.scopes)
applied_of exported N.JumpToScope target edge k last top over = jump_of exported target edge last over
applied_of exported (N.Scope f x) target edge k last top over = Ok (plain_step edge target last.symbols last.scopes)
applied_of exported (N.Push f symbol r) target edge k last top over = Ok (push_step symbol target edge k last)
applied_of exported (N.Pop f symbol d) target edge k last top over = pop_of target edge symbol last top
applied_of exported (N.PushScoped f symbol scope r) target edge k last top over = push_scoped_of exported symbol scope.0 target edge k last
applied_of exported (N.PopScoped f symbol d) target edge k last top over = pop_scoped_of target edge symbol last top
applied_of exported (N.DropScopes f) target edge k last top over = Ok (plain_step edge target last.symbols 0)

-- A STEP THAT WAS MADE ONCE: what a node does that is not refused

unfoldable pub remade_of : Node → ℕ → ℕ → ℕ → Step → Step → Step → Step
remade_of N.Removed target edge k last top over = plain_step edge target last.symbols last.scopes
remade_of N.Root target edge k last top over = plain_step edge target last.symbols last.scopes
remade_of N.JumpToScope target edge k last top over = plain_step edge over.scope last.symbols over.scopes
remade_of (N.Scope f x) target edge k last top over = plain_step edge target last.symbols last.scopes
remade_of (N.Push f symbol r) target edge k last top over = push_step symbol target edge k last
remade_of (N.Pop f symbol d) target edge k last top over = plain_step edge target top.below last.scopes
remade_of (N.PushScoped f symbol scope r) target edge k last top over = push_scoped_step symbol scope.0 target edge k last
remade_of (N.PopScoped f symbol d) target edge k last top over = plain_step edge target top.below top.attached
remade_of (N.DropScopes f) target edge k last top over = plain_step edge target last.symbols 0

-- the two stacks whose tops a step names
abbrev pub stacks_of : (ℕ → Step) → Step → Stacks
stacks_of f s = record { symbols = symbols_of f s.symbols; scopes = scopes_of f s.scopes }

-- a step's cells lie below it: a chain ends
pub record Low (s : Step) (j : ℕ) : Type 0 where
  pub symbols : s.symbols ≤ j + 1
  pub scopes : s.scopes ≤ j
  pub below : s.below ≤ j
  pub attached : s.attached ≤ j + 1

-- the step that made a cell; step 0 for none
abbrev pub maker_of : (ℕ → Step) → ℕ → Step
maker_of f c = f (c - 1)

-- the steps with one more, the k-th
unfoldable pub grown : (ℕ → Step) → ℕ → Step → ℕ → Step
grown f k s j = pick (ltb j k) (f j) s
