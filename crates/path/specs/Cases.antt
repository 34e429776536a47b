-- Every number of a replayed path by value, by computation: what no edge reached is zero, and beside a refusal all is.
-- Document 01, "Path"; "leaves one word .. to choice, refused calls included" of "From the buyer".
use Rattle.std.specs.Prelude.{ℕ, ◌-◌, ◌*◌, ◌≡◌, refl, Bool, true, false, List, [], ◌∷◌, take, replicate, Err, Ok}
use Rattle.semantics.specs.Limits.{max_edges, step_length, steps_length}
use Rattle.semantics.specs.Entries.{graph_in}
use Rattle.semantics.specs.declared.refusal.ImageRefusal.TheVariants as Image
use Rattle.semantics.specs.declared.refusal.PathRefusal.TheVariants as P
use Rattle.semantics.specs.declared.refusal.ReplayRefusal.TheVariants as Replay
use Rattle.semantics.specs.Graph.{node_id}
use Rattle.semantics.specs.Image.{check_image}
use Rattle.semantics.specs.Cases.Graphs.{image_a, image_d}
use Rattle.semantics.proofs.Theorems.Cases.Versions.{image_high}
use Rattle.stepping.specs.Judged.{begun_of, judged_of}
use Rattle.semantics.specs.declared.replayed.Path.{Path}
use Rattle.path.specs.declared.replay.ReplayOutcome.{ReplayOutcome}
use Rattle.path.specs.Replays.{replay_value}
use Rattle.semantics.specs.declared.answer.TurnedBack.{TurnedBack}

abbrev zeros : ℕ → List ℕ
zeros n = replicate n 0

abbrev unset : ℕ → List Bool
unset n = replicate n false

-- no path: zero throughout
abbrev none : Path
none = record { start = 0; end = 0; count = 0; edges = zeros max_edges; jumps = unset max_edges; steps = zeros steps_length }

replayed : List ℕ → ℕ → List ℕ → ReplayOutcome
unfolding replay_value check_image
replayed image reference edges = replay_value (graph_in image) reference edges

pub values : List ReplayOutcome
unfolding replayed
values =
    replayed (take 10 image_a) 2 (0 ∷ 1 ∷ [])
    ∷ replayed image_a 3 (0 ∷ 1 ∷ [])
    ∷ replayed image_a 2 (0 ∷ 2 ∷ [])
    ∷ replayed image_a 2 []
    ∷ replayed image_a 2 (0 ∷ 1 ∷ [])
    ∷ replayed image_d 2 (0 ∷ 1 ∷ 2 ∷ 3 ∷ [])
    ∷ replayed image_high 2 []
    ∷ []

-- A step is its edge, the node it leads to, the tops of both stacks as 1 more than the step that made them, and what it made: symbol in two words, first
-- attached scope, cell below, scope. On A: a refused image; 11; 15 behind an accepted edge; the reference alone; both edges. On D: behind the last
-- edge stands a jump to node 4. In version 2: a reference that pushes 2^32 + 7
pub value-cases : values
    ≡ record { answer = Err (TurnedBack.Image Image.Length); path = none }
    ∷ record { answer = Err (TurnedBack.Refused (Replay.Path (P.NotReference (node_id 3)))); path = none }
    ∷ record { answer = Err (TurnedBack.Refused (Replay.Path (P.IncorrectPoppedSymbol (node_id 5)))); path = none }
    ∷ record {
      answer = Ok tt;
      path = record { start = 2; end = 2; count = 0; edges = zeros max_edges; jumps = unset max_edges; steps = 0 ∷ 2 ∷ 1 ∷ 0 ∷ 7 ∷ 0 ∷ 0 ∷ 0 ∷ 0 ∷ zeros (steps_length - step_length) };
    }
    ∷ record {
      answer = Ok tt;
      path = record {
        start = 2;
        end = 4;
        count = 2;
        edges = 0 ∷ 1 ∷ zeros (max_edges - 2);
        jumps = unset max_edges;
        steps = 0 ∷ 2 ∷ 1 ∷ 0 ∷ 7 ∷ 0 ∷ 0 ∷ 0 ∷ 0 ∷ 0 ∷ 3 ∷ 1 ∷ 0 ∷ 0 ∷ 0 ∷ 0 ∷ 0 ∷ 0 ∷ 1 ∷ 4 ∷ 0 ∷ 0 ∷ 0 ∷ 0 ∷ 0 ∷ 0 ∷ 0 ∷ zeros (steps_length - 3 * step_length);
      };
    }
    ∷ record {
      answer = Ok tt;
      path = record {
        start = 2;
        end = 4;
        count = 4;
        edges = 0 ∷ 1 ∷ 2 ∷ 3 ∷ zeros (max_edges - 4);
        jumps = false ∷ false ∷ false ∷ true ∷ unset (max_edges - 4);
        steps =
            0 ∷ 2 ∷ 1 ∷ 0 ∷ 9 ∷ 0 ∷ 0 ∷ 0 ∷ 0
            ∷ 0 ∷ 3 ∷ 2 ∷ 0 ∷ 7 ∷ 0 ∷ 2 ∷ 1 ∷ 4
            ∷ 1 ∷ 0 ∷ 2 ∷ 0 ∷ 0 ∷ 0 ∷ 0 ∷ 0 ∷ 0
            ∷ 2 ∷ 5 ∷ 1 ∷ 2 ∷ 0 ∷ 0 ∷ 0 ∷ 0 ∷ 0
            ∷ 3 ∷ 4 ∷ 1 ∷ 0 ∷ 0 ∷ 0 ∷ 0 ∷ 0 ∷ 0
            ∷ zeros (steps_length - 5 * step_length);
      };
    }
    ∷ record {
      answer = Ok tt;
      path = record { start = 2; end = 2; count = 0; edges = zeros max_edges; jumps = unset max_edges; steps = 0 ∷ 2 ∷ 1 ∷ 0 ∷ 7 ∷ 1 ∷ 0 ∷ 0 ∷ 0 ∷ zeros (steps_length - step_length) };
    }
    ∷ []
unfolding values begun_of judged_of
value-cases = refl
