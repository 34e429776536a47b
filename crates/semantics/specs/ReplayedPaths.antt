-- A replayed path by value: its steps in words, the stacks that their cells stand for, and what a caller reads.
-- Document 01, "Path": "answers the path (end, steps, both stacks)". A cell is a number: 0 for none, else 1 more than the step that made it.
use Rattle.std.specs.Prelude.{ℕ, zero, suc, ◌+◌, ◌*◌, false, List, [], ◌∷◌, ◌++◌, get_or}
use Rattle.std.proofs.Math.Option.{Option, none, some}
use Rattle.semantics.specs.Limits.{step_length}
use Rattle.semantics.specs.declared.replayed.Step.{Step}
use Rattle.semantics.specs.declared.replayed.Path.{Path}
use Rattle.semantics.specs.Lists.{cons_if}
use Rattle.semantics.specs.Path.{Symbol}
use Rattle.semantics.specs.Halves.{joined}
use Rattle.semantics.specs.Calls.{Passage, edge, jump, ReplayedPath}

-- step k: the edge and the end, the top cells of both stacks, and the cell that the step made
abbrev pub step_at : List ℕ → ℕ → Step
step_at l k =
    record {
      edge = get_or l (step_length * k) 0;
      end = get_or l (step_length * k + 1) 0;
      symbols = get_or l (step_length * k + 2) 0;
      scopes = get_or l (step_length * k + 3) 0;
      symbol = joined (get_or l (step_length * k + 4) 0) (get_or l (step_length * k + 5) 0);
      attached = get_or l (step_length * k + 6) 0;
      below = get_or l (step_length * k + 7) 0;
      scope = get_or l (step_length * k + 8) 0;
    }

-- THE STACKS that cells stand for, tops first; f gives each step

-- from a scope cell down
unfoldable pub scopes_from : (ℕ → Step) → ℕ → ℕ → List ℕ
scopes_from f zero c = []
scopes_from f (suc n) zero = []
scopes_from f (suc n) (suc c) = (f c).scope ∷ scopes_from f n (f c).scopes

abbrev pub scopes_of : (ℕ → Step) → ℕ → List ℕ
scopes_of f c = scopes_from f c c

-- the scopes attached to a symbol, if any are
abbrev pub attached_of : (ℕ → Step) → ℕ → Option (List ℕ)
attached_of f zero = none
attached_of f (suc c) = some (scopes_of f (suc c))

-- from a symbol cell down
unfoldable pub symbols_from : (ℕ → Step) → ℕ → ℕ → List Symbol
symbols_from f zero c = []
symbols_from f (suc n) zero = []
symbols_from f (suc n) (suc c) = record { symbol = (f c).symbol; scopes = attached_of f (f c).attached } ∷ symbols_from f n (f c).below

abbrev pub symbols_of : (ℕ → Step) → ℕ → List Symbol
symbols_of f c = symbols_from f c c

-- WHAT A CALLER READS

-- the first k edges, each with the jump behind it
unfoldable pub passages_to : Path → ℕ → List Passage
passages_to p zero = []
passages_to p (suc j) = passages_to p j ++ (edge (get_or p.edges j 0) ∷ cons_if (get_or p.jumps j false) (jump (step_at p.steps (suc j)).end) [])

-- the path as a replay answers it
abbrev pub read_path : Path → ReplayedPath
read_path p =
    record {
      end = p.end;
      steps = passages_to p p.count;
      symbols = symbols_of (step_at p.steps) (step_at p.steps p.count).symbols;
      scopes = scopes_of (step_at p.steps) (step_at p.steps p.count).scopes;
    }
