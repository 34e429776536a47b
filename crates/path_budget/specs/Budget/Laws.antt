-- Laws of the budget: each answer is the test of its limit, each change of the counts and flags is the one of the search's statistics, and the limits stay.
-- Serves document 01, "Answer": a search's statistics and flags.
use Rattle.std.specs.Prelude.{ℕ, ◌+◌, Bool, true, false, ◌≡◌, refl}
use Rattle.std.proofs.Common.{ap, ◌∙◌}
use Rattle.semantics.specs.declared.search.SearchLimits.{SearchLimits}
use Rattle.semantics.specs.Limits.{within, below, Limit}
use Rattle.semantics.specs.Enumeration.{add_expanded, add_complete, add_rejected, add_cycle, flag_length, flag_count, flag_complete, no_stats}
use Rattle.path_budget.specs.declared.budget.Budget.{Budget}
use Rattle.path_budget.specs.Budget.{fresh, with_max_length, with_max_paths, with_max_complete, answer_by, one_expanded, one_complete, refused_count, refused_length, refused_complete, expansion, lengthening, completion, stats_of, limits_of, budget_of}

allowed-by : (t : Bool) (b d : Budget) → (answer_by t b d).allowed ≡ t
allowed-by true b d = refl
allowed-by false b d = refl

limits-by : (t : Bool) (a b d : Budget) → limits_of b ≡ limits_of a → limits_of d ≡ limits_of a → limits_of (answer_by t b d).budget ≡ limits_of a
limits-by true a b d p q = p
limits-by false a b d p q = q

-- ---- one more expansion

pub expansion-allowed : (b : Budget) → (expansion b).allowed ≡ below b.expanded b.max_paths
unfolding expansion
expansion-allowed b = allowed-by (below b.expanded b.max_paths) (one_expanded b) (refused_count b)

pub expansion-limits : (b : Budget) → limits_of (expansion b).budget ≡ limits_of b
unfolding expansion
expansion-limits b = limits-by (below b.expanded b.max_paths) b (one_expanded b) (refused_count b) refl refl

pub expansion-granted : (b : Budget) (rejected cycles : ℕ) → below b.expanded b.max_paths ≡ true → stats_of (expansion b).budget rejected cycles ≡ add_expanded (stats_of b rejected cycles)
unfolding expansion
expansion-granted b rejected cycles e = rw e

pub expansion-refused : (b : Budget) (rejected cycles : ℕ) → below b.expanded b.max_paths ≡ false → stats_of (expansion b).budget rejected cycles ≡ flag_count (stats_of b rejected cycles)
unfolding expansion
expansion-refused b rejected cycles e = rw e

-- ---- the length of a path

pub lengthening-allowed : (n : ℕ) (b : Budget) → (lengthening n b).allowed ≡ within n b.max_length
unfolding lengthening
lengthening-allowed n b = allowed-by (within n b.max_length) b (refused_length b)

pub lengthening-limits : (n : ℕ) (b : Budget) → limits_of (lengthening n b).budget ≡ limits_of b
unfolding lengthening
lengthening-limits n b = limits-by (within n b.max_length) b b (refused_length b) refl refl

pub lengthening-granted : (n : ℕ) (b : Budget) (rejected cycles : ℕ) → within n b.max_length ≡ true → stats_of (lengthening n b).budget rejected cycles ≡ stats_of b rejected cycles
unfolding lengthening
lengthening-granted n b rejected cycles e = rw e

pub lengthening-refused : (n : ℕ) (b : Budget) (rejected cycles : ℕ) → within n b.max_length ≡ false → stats_of (lengthening n b).budget rejected cycles ≡ flag_length (stats_of b rejected cycles)
unfolding lengthening
lengthening-refused n b rejected cycles e = rw e

-- ---- one more complete path, beside those that are kept

pub completion-allowed : (kept : ℕ) (b : Budget) → (completion kept b).allowed ≡ below kept b.max_complete
unfolding completion
completion-allowed kept b = allowed-by (below kept b.max_complete) (one_complete b) (refused_complete (one_complete b))

pub completion-limits : (kept : ℕ) (b : Budget) → limits_of (completion kept b).budget ≡ limits_of b
unfolding completion
completion-limits kept b = limits-by (below kept b.max_complete) b (one_complete b) (refused_complete (one_complete b)) refl refl

pub completion-granted : (kept : ℕ) (b : Budget) (rejected cycles : ℕ) → below kept b.max_complete ≡ true → stats_of (completion kept b).budget rejected cycles ≡ add_complete (stats_of b rejected cycles)
unfolding completion
completion-granted kept b rejected cycles e = rw e

pub completion-refused : (kept : ℕ) (b : Budget) (rejected cycles : ℕ) → below kept b.max_complete ≡ false → stats_of (completion kept b).budget rejected cycles ≡ flag_complete (add_complete (stats_of b rejected cycles))
unfolding completion
completion-refused kept b rejected cycles e = rw e

-- ---- limits set one after another

-- the last one set holds
pub length_last : (l m : Limit) (b : Budget) → with_max_length m (with_max_length l b) ≡ with_max_length m b
length_last l m b = refl

pub paths-last : (l m : Limit) (b : Budget) → with_max_paths m (with_max_paths l b) ≡ with_max_paths m b
paths-last l m b = refl

pub complete-last : (l m : Limit) (b : Budget) → with_max_complete m (with_max_complete l b) ≡ with_max_complete m b
complete-last l m b = refl

-- one after another, each on the budget that the one before handed back
pub limits-chained : (l : SearchLimits) (a b c d : Budget) → a ≡ fresh → b ≡ with_max_length l.length a → c ≡ with_max_paths l.expansions b → d ≡ with_max_complete l.complete c → d ≡ budget_of l
limits-chained l a b c d p q r s = s ∙ ap (with_max_complete l.complete) (r ∙ ap (with_max_paths l.expansions) (q ∙ ap (with_max_length l.length) p))

-- all three set on a fresh budget are the search's limits, and no work is counted
pub limits-set : (l : SearchLimits) → limits_of (budget_of l) ≡ l
limits-set l = refl

pub stats-set : (l : SearchLimits) → stats_of (budget_of l) 0 0 ≡ no_stats
stats-set l = refl

-- ---- what is counted beside the budget

pub stats-rejected : (b : Budget) (rejected cycles : ℕ) → stats_of b (rejected + 1) cycles ≡ add_rejected (stats_of b rejected cycles)
stats-rejected b rejected cycles = refl

pub stats-cycle : (b : Budget) (rejected cycles : ℕ) → stats_of b rejected (cycles + 1) ≡ add_cycle (stats_of b rejected cycles)
stats-cycle b rejected cycles = refl
