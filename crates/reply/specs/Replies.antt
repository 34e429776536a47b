-- The reply of a search: its returned paths, or its recorded ones.
-- Document 01, "Answer": "An added call for each search returns its recorded paths".
use Rattle.std.specs.Prelude.{ℕ, List}
use Rattle.semantics.specs.Limits.{base, slot_length}
use Rattle.semantics.specs.Graph.{Graph, view_of}
use Rattle.semantics.specs.Path.{Path}
use Rattle.semantics.specs.Enumeration.{State}
use Rattle.semantics.specs.Recorded.{recorded, returned}
use Rattle.storage.specs.Index.{Loaded}
use Rattle.path.specs.Shadows.Laws.{JumpAt}
use Rattle.reply.specs.declared.finish.Reply.{Reply}
use Rattle.reply.specs.declared.finish.Reply.TheVariants.{Returned, Recorded}
use Rattle.reply.specs.EdgeLists.Paths.{Replays}
use Rattle.reply.specs.Ends.{Stand}
pub mod Laws

abbrev pub reply_of : Reply → State Path → List Path
reply_of Returned s = returned s
reply_of Recorded s = recorded s

-- where the kept paths of a search stood, those of the reply stand
abbrev pub Replied : List ℕ → Reply → ℕ → List ℕ → ℕ → List ℕ → Type 0
Replied index reply n rs r rs' =
    (g : Graph) (s : State Path) → Loaded g index → JumpAt (view_of g) → Replays base (view_of g) s.kept → Stand slot_length n rs s.kept → Stand slot_length r rs' (reply_of reply s)
