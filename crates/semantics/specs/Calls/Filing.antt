-- Databases that were filed by replace calls: what the third demand says of them stands in proofs/Theorems/Calls/Filing.
use Rattle.std.specs.Prelude.{ℕ, None, Ok}
use Rattle.std.proofs.Math.Path.{◌≡◌}
use mathlib.Core.List.{List, [], ◌∷◌}
use Rattle.semantics.specs.declared.search.SearchOrder.{SearchOrder}
use Rattle.semantics.specs.declared.search.PartialPathStats.{PartialPathStats}
use Rattle.semantics.specs.declared.refusal.ImageRefusal.{ImageRefusal}
use Rattle.semantics.specs.Limits.{Bounds, nobody}
use Rattle.semantics.specs.Answer.{Answer}
use Rattle.semantics.specs.Graph.{Graph}
use Rattle.semantics.specs.Database.{known_owners}
use Rattle.semantics.specs.Database.Compaction.{compact_call}
use Rattle.semantics.specs.Calls.{FileRequest, alias_request, fresh_call, replace_call, alias_call}

-- a replacement without limits
abbrev pub unlimited : SearchOrder → ℕ → ℕ → FileRequest
unlimited order work f = record { order = order; length = None; expansions = None; work = work; file = f }

-- the words after some replace calls without limits on this image, of files and of the alias set in any order, all answered with Done, that began with
-- any words at all; the owners replaced so far. Between them the words may have been compacted, with any list and whatever that answered
pub data Refiled (bd : Bounds) (image : Answer ImageRefusal Graph) (before : List ℕ) : List ℕ → List ℕ → Type 0 where
  begun : Refiled bd image before before []
  refiled : {words done : List ℕ} (order : SearchOrder) (work f : ℕ) (t : PartialPathStats) → Refiled bd image before words done
      → (replace_call bd known_owners image (unlimited order work f) words).answer ≡ Ok t
      → Refiled bd image before (replace_call bd known_owners image (unlimited order work f) words).database (f ∷ done)
  aliased : {words done : List ℕ} (order : SearchOrder) (work : ℕ) (t : PartialPathStats) → Refiled bd image before words done
      → (alias_call bd known_owners image (alias_request order None None work) words).answer ≡ Ok t
      → Refiled bd image before (alias_call bd known_owners image (alias_request order None None work) words).database (nobody ∷ done)
  compacted : {words done : List ℕ} (len : ℕ) → Refiled bd image before words done → Refiled bd image before (compact_call bd known_owners words len).database done

-- such words that began as a fresh database of this image
pub record Filed (bd : Bounds) (image : Answer ImageRefusal Graph) (words done : List ℕ) : Type 0 where
  pub lent : List ℕ
  pub created : (fresh_call image lent).answer ≡ Ok tt
  pub replaced : Refiled bd image (fresh_call image lent).database words done
