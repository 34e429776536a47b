-- Two images of which a desk sees the same give it the same tally, refused or not: it learns nothing of hidden files.
-- Document 02, orders 8 and 9.
use Rattle.std.specs.Prelude.{ℕ, ◌≡◌, Bool, List, None}
use Rattle.std.proofs.Common.{ap}
use Rattle.semantics.specs.Limits.{Bounds, base, slot_words}
use Rattle.semantics.specs.Answer.{ok}
use Rattle.semantics.specs.Graph.{Graph, View}
use Rattle.semantics.specs.Direct.{direct}
use Rattle.semantics.specs.Words.{whole_slots}
use Rattle.semantics.specs.Image.{symbol_bytes, check_image}
use Rattle.semantics.specs.Hidden.{sees, seen, seen_image}
use Rattle.semantics.proofs.Theorems.Hidden.Desks.{SameDesk, SameImages, desk-view, seen-is, seen-is'}
use Rattle.semantics.specs.Tally.{tally_setting, TallyRequest, tally_outcome, tally_call}
use Rattle.semantics.specs.Entries.{tally_request_of, tally_lengths}

-- on graphs
graph-tally : (see : ℕ → Bool) (g h : Graph) → SameDesk see g h → (bd : Bounds) (q : TallyRequest) → tally_call bd q (ok (seen see g)) ≡ tally_call bd q (ok (seen see h))
unfolding tally_call
graph-tally see g h desk bd q = ap (λ (v : View). tally_outcome bd q (direct bd None (tally_setting (whole_slots (slot_words bd) q.work)) v q.node)) (desk-view see g h desk)

-- from bytes
pub desk-tally : (w : ℕ → ℕ) (see : ℕ → Bool) (im im' : List ℕ) → SameImages w see im im' → (bd : Bounds) (q : TallyRequest) → tally_call bd q (seen_image see (check_image w im)) ≡ tally_call bd q (seen_image see (check_image w im'))
desk-tally w see im im' same bd q = rw (seen-is w see im im' same, seen-is' w see im im' same) (graph-tally see same.graph same.graph' same.desk bd q)

-- of the entry: equal visible files, node and work area
pub desks-tally : (visible im im' : List ℕ) → SameImages symbol_bytes (sees visible) im im' → (r : ℕ) (ws : List ℕ) → tally_lengths im visible r ws ≡ tally_lengths im' visible r ws
desks-tally visible im im' same r ws = desk-tally symbol_bytes (sees visible) im im' same base (tally_request_of ws r)
