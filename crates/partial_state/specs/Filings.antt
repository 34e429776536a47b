-- Found routes as records of the database, written while there is room for them.
-- Document 01, "Partial paths": "appends the new ones in order found".
use Rattle.std.specs.Prelude.{ℕ, ◌+◌, ◌≤◌, ◌<◌, ◌^◌, List, ltb, length, take}
use Rattle.semantics.specs.Lists.{pick}
use Rattle.semantics.specs.Limits.{base, record_words}
use Rattle.semantics.specs.PartialPaths.{Route, slot}
use Rattle.semantics.specs.Database.{record_place, encode_slot}
use Rattle.database.specs.Records.{put_record}
use Rattle.database.specs.Filing.{put_routes}
use Rattle.partial_state.specs.declared.route.Ends.{Ends}
use Rattle.partial_state.specs.declared.filing.Filing.{Filing}
pub mod Laws

-- the records that may be filed lie in the words, and the file plus 1 is a word
pub record Fits (f : Filing) (ws : List ℕ) : Type 0 where
  pub inside : record_place base (f.first + f.room) ≤ length ws
  pub named : f.file + 1 < 2 ^ 32

-- behind n others one more is filed if there is room for it
unfoldable pub filed_next : Filing → ℕ → Ends → List ℕ → List ℕ → List ℕ
unfolding put_record encode_slot
filed_next f n e es ws = pick (ltb n f.room) (put_record base (f.first + n) (encode_slot (record_words base) (slot f.file e.start e.end es)) ws) ws

-- these routes are filed one after another, as far as there is room
unfoldable pub filed_in : Filing → List Route → List ℕ → List ℕ
unfolding put_routes
filed_in f rs ws = put_routes base f.file f.first (take f.room rs) ws
