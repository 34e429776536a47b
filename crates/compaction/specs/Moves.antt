-- Live records move down one after another, and their numbers are listed. For every bound on edges.
-- Document 02, order 7.
use Rattle.std.specs.Prelude.{ℕ, ◌+◌, ◌-◌, ◌*◌, ◌≤◌, ◌≡◌, List, ◌++◌, length, set, take, drop}
use Rattle.semantics.specs.Limits.{Bounds, record_words}
use Rattle.semantics.specs.Lists.{pick}
use Rattle.semantics.specs.Words.{zeros, slots_of}
use Rattle.semantics.specs.Database.{used_in, record_place}
use Rattle.semantics.specs.Database.Compaction.{is_live, live_of, renumbered}
use Rattle.database.specs.Records.{record_at, put_record}
use Rattle.database.specs.Filing.{with_records}
pub mod Laws

-- the first i records
abbrev pub first_records : Bounds → ℕ → List ℕ → List (List ℕ)
first_records bd i ws = slots_of (record_words bd) i (drop 3 ws)

-- the list with a pair of numbers at its place
abbrev pub noted : ℕ → ℕ → List ℕ → List ℕ
noted i to l = set (set l (2 * to) i) (2 * to + 1) to

-- a call that moves record i to a place and lists it, if it is live
abbrev pub Keeps : Bounds → ℕ → ℕ → List ℕ → List ℕ → ℕ → List ℕ → List ℕ → Type 0
Keeps bd i to ws l r ws' l' =
    (length ws' ≡ length ws) × (length l' ≡ length l) × (r ≡ pick (is_live (record_at bd i ws)) (to + 1) to)
    × (ws' ≡ pick (is_live (record_at bd i ws)) (put_record bd to (record_at bd i ws) ws) ws) × (l' ≡ pick (is_live (record_at bd i ws)) (noted i to l) l)

-- of the first i records the live ones stand in front, `to` of them, and their numbers in the list; ws₀ and l₀ are the words and the list before
pub record Closed (bd : Bounds) (i to : ℕ) (ws₀ l₀ ws l : List ℕ) : Type 0 where
  pub count : to ≡ length (live_of (first_records bd i ws₀))
  pub most : to ≤ i
  pub held : ws ≡ with_records bd (live_of (first_records bd i ws₀)) ws₀
  pub listed : l ≡ renumbered 0 0 (first_records bd i ws₀) ++ drop (2 * to) l₀

-- the words with the used records from k on zeroed, and k in front
unfoldable pub freed : Bounds → ℕ → List ℕ → List ℕ
freed bd k ws = set (take (record_place bd k) ws ++ (zeros (record_words bd * used_in ws - record_words bd * k) ++ drop (record_place bd (used_in ws)) ws)) 0 k
