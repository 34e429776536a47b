-- Where the paths in result slots end.
-- Document 02, order 11.
use Rattle.std.specs.Prelude.{ℕ, ◌+◌, ◌*◌, ◌<◌, ◌≡◌, List, get_or}
use Rattle.semantics.specs.declared.graph.Edge.{Edge}
use Rattle.semantics.specs.declared.graph.Edge.TheVariants as E
use Rattle.semantics.specs.declared.answer.Definitions.{Definitions}
use Rattle.semantics.specs.declared.answer.Definitions.TheVariants as Definitions
use Rattle.semantics.specs.Limits.{slot_length}
use Rattle.storage.specs.Index.{edge_row}
use Rattle.reply.specs.ResultSlots.{count_of}
pub mod Laws

-- where an edge leads to
abbrev pub target_of : Edge → ℕ
target_of E.Removed = 0
target_of (E.Live s t p) = t.0

-- where the last edge in slot i does
abbrev pub slot_end : List ℕ → List ℕ → ℕ → ℕ
slot_end index rs i = target_of (edge_row index (get_or rs (slot_length * i + count_of slot_length (get_or rs (slot_length * i) 0)) 0))

-- n ends: none, all the same, or two that differ
abbrev pub Ending : (ℕ → ℕ) → ℕ → Definitions → Type 0
Ending end n Definitions.Nothing = n ≡ 0
Ending end n (Definitions.One x) = (0 < n) × ((j : ℕ) → j < n → end j ≡ x.0)
Ending end n Definitions.Several = (i : ℕ) × (j : ℕ) × (i < n) × (j < n) × (end i ≡ end j → ⊥)
