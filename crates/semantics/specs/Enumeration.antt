-- Bounded path enumeration: a waiting item is popped, turned into a list of tries, and each try is counted, kept and pushed.
-- Document 01, "Budget and frontier" and "Answer"; direct, linear, stitched and partial-path search are choices of `tries`.
use Prim.Native.Nat.{ℕ, zero, suc, ◌+◌}
use Rattle.std.specs.Prelude.{Bool, ltb, length}
use Rattle.std.proofs.Math.Bool.{true, false}
use mathlib.Core.List.{List, [], ◌∷◌, ◌++◌}
use Rattle.semantics.specs.declared.search.SearchOrder.{SearchOrder}
use Rattle.semantics.specs.declared.search.SearchOrder.TheVariants.{BreadthFirst, DepthFirst}
use Rattle.semantics.specs.declared.search.SearchStats.{SearchStats}
use Rattle.semantics.specs.Lists.{pick}
use Rattle.semantics.specs.Limits.{below, Limit}
use Rattle.semantics.specs.Answer.{Answer, ok, refuse, and_then, ok_if}
pub mod Laws
pub mod Statistics
pub mod Simulation
pub mod Room
pub mod Waiting
pub mod Once
pub mod Completes
pub mod Alike
pub mod Keeping
pub mod Refusals

-- what becomes of one edge, or of one partial path, looked at from a waiting item
pub data Try (R W : Type 0) : Type 0 where
  cut overlong reject : Try R W
  stop : R → Try R W
  go : (complete : Bool) (item : W) → Try R W

module _ {R W : Type 0} where
  -- the tests before anything is appended: cycle, then length, then the bound (with the refusal that stands for 30)
  unfoldable pub tested : (cycle short room : Bool) → R → Try R W → Try R W
  tested true short room too_long next = cut
  tested false false room too_long next = overlong
  tested false true false too_long next = stop too_long
  tested false true true too_long next = next

-- so many slots, and the refusal that is given when all are taken
pub data Area (R : Type 0) : Type 0 where
  unlimited : Area R
  slots : ℕ → R → Area R

pub record Setting (R : Type 0) : Type 0 where
  pub order : SearchOrder
  pub max_count : Limit
  pub max_complete : Limit
  pub waiting : Area R
  pub results : Area R
  pub too_many : R

-- what is counted beside the statistics: the first three are in the identities of document 01, and no call returns them; the last, how many items
-- ever waited together at most, is put into the statistics of a search that is over
pub record Tally : Type 0 where
  pub looked : ℕ
  pub overlong : ℕ
  pub pushed : ℕ
  pub waited : ℕ

-- waiting items in the order of taking, those pushed by the present expansion, the kept ones
pub record State (W : Type 0) : Type 0 where
  pub rest : List W
  pub pending : List W
  pub kept : List W
  pub stats : SearchStats
  pub tally : Tally

-- a count goes up by one, a flag is raised, a count or a flag stays
abbrev pub more : ℕ → ℕ
more n = n + 1

abbrev pub raised : Bool → Bool
raised b = true

abbrev pub stays : {A : Type 0} → A → A
stays x = x

abbrev pub greater : ℕ → ℕ → ℕ
greater m n = pick (ltb m n) n m

-- the statistics with each count and each flag changed so: here alone do their fields stand side by side
abbrev pub changed : (expanded complete rejected cycles : ℕ → ℕ) (length count completes : Bool → Bool) (waited : ℕ → ℕ) → SearchStats → SearchStats
changed expanded complete rejected cycles length count completes waited s =
    record {
      expanded = expanded s.expanded;
      complete = complete s.complete;
      rejected = rejected s.rejected;
      cycles = cycles s.cycles;
      length_limited = length s.length_limited;
      count_limited = count s.count_limited;
      complete_limited = completes s.complete_limited;
      waited = waited s.waited;
    }

abbrev pub add_expanded : SearchStats → SearchStats
add_expanded = changed more stays stays stays stays stays stays stays

abbrev pub add_complete : SearchStats → SearchStats
add_complete = changed stays more stays stays stays stays stays stays

abbrev pub add_rejected : SearchStats → SearchStats
add_rejected = changed stays stays more stays stays stays stays stays

abbrev pub add_cycle : SearchStats → SearchStats
add_cycle = changed stays stays stays more stays stays stays stays

abbrev pub flag_length : SearchStats → SearchStats
flag_length = changed stays stays stays stays raised stays stays stays

abbrev pub flag_count : SearchStats → SearchStats
flag_count = changed stays stays stays stays stays raised stays stays

abbrev pub flag_complete : SearchStats → SearchStats
flag_complete = changed stays stays stays stays stays stays raised stays

-- with this waiting figure
abbrev pub figured : ℕ → SearchStats → SearchStats
figured n = changed stays stays stays stays stays stays stays (λ w. n)

-- the same of what is counted beside them
abbrev pub tallied : (looked too_long pushed waited : ℕ → ℕ) → Tally → Tally
tallied looked too_long pushed waited t = record { looked = looked t.looked; overlong = too_long t.overlong; pushed = pushed t.pushed; waited = waited t.waited }

abbrev pub add_looked : Tally → Tally
add_looked = tallied more stays stays stays

abbrev pub add_overlong : Tally → Tally
add_overlong = tallied stays more stays stays

-- one more is pushed, and with it n wait
abbrev pub add_pushed : ℕ → Tally → Tally
add_pushed n = tallied stays stays more (λ w. greater w n)

abbrev pub no_stats : SearchStats
no_stats = record { expanded = 0; complete = 0; rejected = 0; cycles = 0; length_limited = false; count_limited = false; complete_limited = false; waited = 0 }

abbrev pub no_tally : Tally
no_tally = record { looked = 0; overlong = 0; pushed = 0; waited = 0 }

-- THE LOOP, beside the lines of `try_compute`:
--     while let Some(path) = frontier.pop() {                      turn, popped
--         if !state.budget.admit_expansion() { break; }            admit: the path-count flag; with no expansion left, final: 36
--         for edge in graph.outgoing(path.end()) {                 tries, each, one
--             if path.contains_edge(edge) { .. continue; }         tested, judged: cut
--             if !state.budget.admit_length(..) { continue; }      tested, judged: overlong; then the bound: 30
--             if next.append(graph, edge).is_err() { .. continue; }   judged: reject
--             if next.is_complete(graph) { state.record_complete(&next); }   keep
--             frontier.push(next);                                 push_item; merge has the order of taking
--         }
--     }

-- what stands at the top of a round: the search is over, or an item is to be expanded
pub data Turn (W : Type 0) : Type 0 where
  over : State W → Turn W
  expand : W → State W → Turn W

-- with n slots taken, one more, or the refusal
unfoldable pub place {ℓ} : {R : Type 0} {A : Type ℓ} → Area R → ℕ → A → Answer R A
unfolding ok_if
place unlimited n a = ok a
place (slots size r) n a = ok_if (ltb n size) r a

module _ {W : Type 0} where
  abbrev pub blank : State W
  blank = record { rest = []; pending = []; kept = []; stats = no_stats; tally = no_tally }

  abbrev pub with_stats : State W → SearchStats → State W
  with_stats s t = record { rest = s.rest; pending = s.pending; kept = s.kept; stats = t; tally = s.tally }

  abbrev pub with_tally : State W → Tally → State W
  with_tally s t = record { rest = s.rest; pending = s.pending; kept = s.kept; stats = s.stats; tally = t }

  -- how many wait: a popped item does not
  abbrev pub waiting : State W → ℕ
  waiting s = length s.rest + length s.pending

  abbrev pub with_pending : W → State W → State W
  with_pending w s = record { rest = s.rest; pending = s.pending ++ (w ∷ []); kept = s.kept; stats = s.stats; tally = add_pushed (waiting s + 1) s.tally }

  abbrev pub with_kept : W → State W → State W
  with_kept w s = record { rest = s.rest; pending = s.pending; kept = s.kept ++ (w ∷ []); stats = s.stats; tally = s.tally }

  -- the successors of an expansion go behind the others, or in front of them
  unfoldable pub merge : SearchOrder → State W → State W
  merge BreadthFirst s = record { rest = s.rest ++ s.pending; pending = []; kept = s.kept; stats = s.stats; tally = s.tally }
  merge DepthFirst s = record { rest = s.pending ++ s.rest; pending = []; kept = s.kept; stats = s.stats; tally = s.tally }

  unfoldable pub admit : Bool → State W → W → List W → Turn W
  admit true s w ws = expand w (record { rest = ws; pending = []; kept = s.kept; stats = add_expanded s.stats; tally = s.tally })
  admit false s w ws = over (record { rest = ws; pending = []; kept = s.kept; stats = flag_count s.stats; tally = s.tally })

module _ {R W : Type 0} where
  -- 31 when the waiting slots are all taken
  unfoldable pub push_item : Setting R → W → State W → Answer R (State W)
  unfolding place
  push_item c w s = place c.waiting (waiting s) (with_pending w s)

  -- 32 when the result slots are all taken
  unfoldable pub keep_if : Bool → Setting R → State W → W → Answer R (State W)
  unfolding place
  keep_if true c s w = place c.results (length s.kept) (with_kept w s)
  keep_if false c s w = ok (with_stats s (flag_complete s.stats))

  -- a complete path is counted, and kept unless the limit on complete paths is reached
  unfoldable pub keep : Bool → Setting R → State W → W → Answer R (State W)
  unfolding keep_if
  keep true c s w = keep_if (below (length s.kept) c.max_complete) c (with_stats s (add_complete s.stats)) w
  keep false c s w = ok s

  unfoldable pub judged : Setting R → State W → Try R W → Answer R (State W)
  unfolding keep push_item
  judged c s cut = ok (with_stats s (add_cycle s.stats))
  judged c s overlong = ok (with_tally (with_stats s (flag_length s.stats)) (add_overlong s.tally))
  judged c s reject = ok (with_stats s (add_rejected s.stats))
  judged c s (stop r) = refuse r
  judged c s (go complete w) = and_then (keep complete c s w) (push_item c w)

  unfoldable pub one : Setting R → State W → Try R W → Answer R (State W)
  unfolding judged
  one c s t = judged c (with_tally s (add_looked s.tally)) t

  unfoldable pub each : Setting R → State W → List (Try R W) → Answer R (State W)
  unfolding one
  each c s [] = ok s
  each c s (t ∷ ts) = and_then (one c s t) (λ u. each c u ts)

  unfoldable pub popped : Setting R → State W → List W → Turn W
  unfolding admit
  popped c s [] = over s
  popped c s (w ∷ ws) = admit (below s.stats.expanded c.max_count) s w ws

  unfoldable pub turn : Setting R → State W → Turn W
  unfolding popped
  turn c s = popped c s s.rest

  -- no expansion is left: 36, unless the search is over
  unfoldable pub final : Setting R → Turn W → Answer R (State W)
  final c (over s) = ok s
  final c (expand w s) = refuse c.too_many

  unfoldable pub follow : Setting R → (W → List (Try R W)) → (State W → Answer R (State W)) → Turn W → Answer R (State W)
  unfolding each merge
  follow c tries onward (over s) = ok s
  follow c tries onward (expand w s) = and_then (each c s (tries w)) (λ u. onward (merge c.order u))

  -- at most so many expansions
  unfoldable pub run : Setting R → (W → List (Try R W)) → ℕ → State W → Answer R (State W)
  unfolding final follow turn
  run c tries zero s = final c (turn c s)
  run c tries (suc n) s = follow c tries (run c tries n) (turn c s)

  -- the starting items are pushed like any others
  unfoldable pub seed : Setting R → State W → List W → Answer R (State W)
  unfolding push_item
  seed c s [] = ok s
  seed c s (w ∷ ws) = and_then (push_item c w s) (λ u. seed c u ws)

  unfoldable pub enumerate : Setting R → (W → List (Try R W)) → ℕ → List W → Answer R (State W)
  unfolding seed run merge
  enumerate c tries expansions starts = and_then (seed c blank starts) (λ s. run c tries expansions (merge c.order s))

-- THE STATISTICS OF A SEARCH THAT IS OVER: the greatest number of items that ever waited together is among them
abbrev pub report_of : {W : Type 0} → State W → SearchStats
report_of s = figured s.tally.waited s.stats
