-- A path by value: how it starts, how an edge is added, and what a caller reads off it.
-- Document 01, "Path": its edges stand "in a fixed array"; "answers the path (end, steps, both stacks)".
use Rattle.std.specs.Prelude.{ℕ, ◌+◌, ◌<◌, ◌≡◌, Bool, false, eqb, length, set, take, replicate}
use Rattle.semantics.specs.Limits.{max_edges, steps_length}
use Rattle.semantics.specs.ReplayedPaths.{passages_to}
use Rattle.semantics.specs.declared.graph.Edge.{Edge}
use Rattle.semantics.specs.declared.graph.Edge.TheVariants as E
use Rattle.semantics.specs.Path as Model
use Rattle.semantics.specs.Calls.{passages}
use Rattle.semantics.specs.declared.replayed.Step.{Step}
use Rattle.stepping.specs.Steps.{Effect}
use Rattle.std.specs.Prelude.{Ok, Err}
use Rattle.semantics.specs.declared.replayed.Path.{Path}
use Rattle.stepping.specs.StepWords.{with_step}
use Rattle.stepping.specs.Judged.{Ready, Stepped}
pub mod Laws

abbrev pub empty_path : Path
empty_path = record { start = 0; end = 0; count = 0; edges = replicate max_edges 0; jumps = replicate max_edges false; steps = replicate steps_length 0 }

abbrev pub is_jump_edge : Edge → Bool
is_jump_edge E.Removed = false
is_jump_edge (E.Live s t p) = eqb t.0 1

-- what became of the reference or an edge, and the path behind it
pub record Grown : Type 0 where
  pub effect : Effect
  pub path : Path

abbrev pub grown : Effect → Path → Grown
grown e p = record { effect = e; path = p }

-- the reference as step 0
abbrev pub started_by : ℕ → Effect → Grown
started_by r (Ok s) = record { effect = Ok s; path = record { start = r; end = r; count = 0; edges = replicate max_edges 0; jumps = replicate max_edges false; steps = with_step (replicate steps_length 0) 0 s } }
started_by r (Err x) = record { effect = Err x; path = empty_path }

-- the path with an edge and its step
abbrev pub longer_path : Path → ℕ → Bool → Step → Path
longer_path p e j s =
    record { start = p.start; end = s.end; count = p.count + 1; edges = set p.edges p.count e; jumps = set p.jumps p.count j; steps = with_step p.steps (p.count + 1) s }

abbrev pub appended_by : Path → ℕ → Bool → Effect → Grown
appended_by p e j (Ok s) = record { effect = Ok s; path = longer_path p e j s }
appended_by p e j (Err x) = record { effect = Err x; path = p }

-- the lengths of its arrays
pub record Sized (p : Path) : Type 0 where
  pub edges : length p.edges ≡ max_edges
  pub jumps : length p.jumps ≡ max_edges
  pub steps : length p.steps ≡ steps_length

-- an edge may be added
pub record Growing (p : Path) : Type 0 where
  pub few : p.count < max_edges
  pub ready : Ready p.steps p.count

-- a value stands for a path of the definitions
pub record Shows (x : Path) (p : Model.Path) : Type 0 where
  pub sized : Sized x
  pub stepped : Stepped x.steps x.count p
  pub start : x.start ≡ p.start
  pub end : x.end ≡ p.end
  pub edges : take x.count x.edges ≡ p.edges
  pub steps : passages_to x x.count ≡ passages p.steps
