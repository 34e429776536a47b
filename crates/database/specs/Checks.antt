-- What the check of a database answers, without its slots, and what holds of a live record that it lets pass.
-- Document 01, "Turned back": 35, then 34.
use Rattle.std.specs.Prelude.{ℕ, ◌≤◌, ◌<◌, ◌≡◌, Bool, true, List, Result, Ok, Err}
use Rattle.semantics.specs.declared.refusal.DatabaseRefusal.{DatabaseRefusal}
use Rattle.semantics.specs.Limits.{Bounds}
use Rattle.semantics.specs.Answer.{Answer, ok, refuse}
use Rattle.semantics.specs.PartialPaths.{Slot}
use Rattle.semantics.specs.Database.{nodes_in, files_in, sound}
pub mod Laws

-- the test that each used record has to pass
abbrev pub tests : Bounds → (ℕ → ℕ → Bool) → List ℕ → List ℕ → Bool
tests bd known ws r = sound bd known (nodes_in ws) (files_in ws) r

-- nothing but that the words are sound, or the refusal
unfoldable pub inspected : Answer DatabaseRefusal (List Slot) → Result (Unit {0}) DatabaseRefusal
inspected (ok db) = Ok tt
inspected (refuse r) = Err r

-- a live record that does not meet 35
pub record Live (bd : Bounds) (known : ℕ → ℕ → Bool) (nodes files owner start count : ℕ) : Type 0 where
  pub named : known files owner ≡ true
  pub starts : start < nodes
  pub some : 1 ≤ count
  pub few : count ≤ bd.edges
