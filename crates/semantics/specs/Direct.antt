-- Direct search from a reference.
-- Document 01, "Answer": `try_compute`.
use Rattle.std.specs.Prelude.{ℕ, suc, ltb, length}
use mathlib.Core.List.{List, [], ◌∷◌, map}
use Rattle.semantics.specs.declared.search.SearchOrder.{SearchOrder}
use Rattle.semantics.specs.declared.search.SearchLimits.{SearchLimits}
use Rattle.semantics.specs.declared.refusal.PathRefusal.{PathRefusal}
use Rattle.semantics.specs.declared.refusal.SearchRefusal.{SearchRefusal}
use Rattle.semantics.specs.declared.refusal.SearchRefusal.TheVariants as Search
use Rattle.semantics.specs.Lists.{has}
use Rattle.semantics.specs.Limits.{Bounds, within, Limit}
use Rattle.semantics.specs.Answer.{Answer, ok, refuse, and_then, wrap}
use Rattle.semantics.specs.Graph.{View}
use Rattle.semantics.specs.Path.{Path, append, is_complete, from_reference}
use Rattle.semantics.specs.Enumeration.{Try, reject, go, tested, Setting, slots, State, enumerate}

module _ {R : Type 0} where
  unfoldable pub extended : View → Answer PathRefusal Path → Try R Path
  unfolding is_complete
  extended g (ok q) = go (is_complete g q) q
  extended g (refuse r) = reject

  -- cycle, length, the bound (with the refusal that stands for 30), append, completeness
  unfoldable pub judge : R → Bounds → Limit → View → Path → ℕ → Try R Path
  unfolding tested has append extended
  judge too_long bd lim g p e = tested (has e p.edges) (within (suc (length p.edges)) lim) (ltb (length p.edges) bd.edges) too_long (extended g (append g p e))

  unfoldable pub tries : R → Bounds → Limit → View → Path → List (Try R Path)
  unfolding judge
  tries too_long bd lim g p = map (judge too_long bd lim g p) (g.out p.end)

abbrev pub search_setting : SearchOrder → SearchLimits → ℕ → ℕ → Setting SearchRefusal
search_setting order limits waiting results =
    record {
      order = order;
      max_count = limits.expansions;
      max_complete = limits.complete;
      waiting = slots waiting Search.NoWaitingSlot;
      results = slots results Search.NoResultSlot;
      too_many = Search.TooManyExpansions;
    }

unfoldable pub direct : Bounds → Limit → Setting SearchRefusal → View → ℕ → Answer SearchRefusal (State Path)
unfolding tries enumerate from_reference
direct bd lim c g r = and_then (wrap Search.Path (from_reference g r)) (λ p. enumerate c (tries Search.TooLong bd lim g) bd.expansions (p ∷ []))
