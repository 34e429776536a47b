-- Linear search from a reference: at most one edge of each node may be appended.
-- Document 01, "Answer": `try_compute_linear`.
use Rattle.std.specs.Prelude.{ℕ, List, [], ◌∷◌}
use Rattle.semantics.specs.declared.search.SearchOrder.TheVariants.{BreadthFirst}
use Rattle.semantics.specs.declared.search.SearchLimits.{SearchLimits}
use Rattle.semantics.specs.declared.refusal.LinearRefusal.{LinearRefusal}
use Rattle.semantics.specs.declared.refusal.LinearRefusal.TheVariants as Linear
use Rattle.semantics.specs.Limits.{Bounds, Limit}
use Rattle.semantics.specs.Answer.{Answer, and_then, wrap}
use Rattle.semantics.specs.Graph.{node_id, View}
use Rattle.semantics.specs.Path.{Path, from_reference}
use Rattle.semantics.specs.Enumeration.{Try, cut, overlong, reject, stop, go, Setting, slots, unlimited, State, enumerate}
use Rattle.semantics.specs.Direct.{tries}

-- the second try of node n that goes on is 20, before its completeness is looked at
unfoldable mutual
  pub first : ℕ → List (Try LinearRefusal Path) → List (Try LinearRefusal Path)
  first n [] = []
  first n (cut ∷ ts) = cut ∷ first n ts
  first n (overlong ∷ ts) = overlong ∷ first n ts
  first n (reject ∷ ts) = reject ∷ first n ts
  first n (stop r ∷ ts) = stop r ∷ first n ts
  first n (go b p ∷ ts) = go b p ∷ later n ts

  pub later : ℕ → List (Try LinearRefusal Path) → List (Try LinearRefusal Path)
  later n [] = []
  later n (cut ∷ ts) = cut ∷ later n ts
  later n (overlong ∷ ts) = overlong ∷ later n ts
  later n (reject ∷ ts) = reject ∷ later n ts
  later n (stop r ∷ ts) = stop r ∷ later n ts
  later n (go b p ∷ ts) = stop (Linear.MultipleEdges (node_id n)) ∷ later n ts

unfoldable pub only_tries : Bounds → Limit → View → Path → List (Try LinearRefusal Path)
unfolding tries first
only_tries bd lim g p = first p.end (tries Linear.TooLong bd lim g p)

-- nothing waits beside the one path, so there are no waiting slots and the order of taking does not matter
abbrev pub linear_setting : SearchLimits → ℕ → Setting LinearRefusal
linear_setting limits results =
    record { order = BreadthFirst; max_count = limits.expansions; max_complete = limits.complete; waiting = unlimited; results = slots results Linear.NoResultSlot; too_many = Linear.TooManyExpansions }

unfoldable pub linear : Bounds → Limit → Setting LinearRefusal → View → ℕ → Answer LinearRefusal (State Path)
unfolding only_tries enumerate from_reference
linear bd lim c g r = and_then (wrap Linear.Path (from_reference g r)) (λ p. enumerate c (only_tries bd lim g) bd.expansions (p ∷ []))
