-- The walk over two edge lists from a place on. Serves document 01, "Path".
use Rattle.std.specs.Prelude.{ℕ, ◌+◌, ◌≤◌, ◌<◌, ◌≡◌, Bool, length, get_or, drop, Some, None}
use Rattle.std.proofs.Math.Path.{refl, sym, ap}
use Rattle.std.proofs.Common.{◌∙◌, add-one, drop_of_length-le}
use Rattle.std.proofs.Math.Bool.{false}
use mathlib.Core.List.{List, [], ◌∷◌}
use Rattle.std.proofs.Math.Seq.{drop-cons}
use Rattle.semantics.specs.declared.graph.Edge.{Edge}
use Rattle.path.specs.Shadows.{Met, meet, after, shadows_edges}

module _ (edges : ℕ → Edge) (l r : List ℕ) where
  pub walk-one : (i : ℕ) → i < length l → i < length r → shadows_edges edges (drop i l) (drop i r) ≡ after (meet (edges (get_or l i 0)) (edges (get_or r i 0))) (shadows_edges edges (drop (i + 1) l) (drop (i + 1) r))
  unfolding shadows_edges
  walk-one i h k = rw (add-one, drop-cons l i 0 h, drop-cons r i 0 k)

  pub walk-left : (i : ℕ) → length l ≤ i → shadows_edges edges (drop i l) (drop i r) ≡ false
  unfolding shadows_edges
  walk-left i h = rw (drop_of_length-le l h)

  pub walk-right : (i : ℕ) → length r ≤ i → shadows_edges edges (drop i l) (drop i r) ≡ false
  unfolding shadows_edges
  walk-right i h = rw (drop_of_length-le r h) (on (drop i l))
    where
      on : (x : List ℕ) → shadows_edges edges x [] ≡ false
      on [] = refl
      on (y ∷ x) = refl

  module _ {m : Met} (i : ℕ) (h : i < length l) (k : i < length r) (is : m ≡ meet (edges (get_or l i 0)) (edges (get_or r i 0))) where
    pub walk-decided : (b : Bool) → m ≡ Some b → b ≡ shadows_edges edges (drop i l) (drop i r)
    walk-decided b e = sym (walk-one i h k ∙ ap (λ (x : Met). after x (shadows_edges edges (drop (i + 1) l) (drop (i + 1) r))) (sym is ∙ e))

    pub walk-onward : m ≡ None → shadows_edges edges (drop (i + 1) l) (drop (i + 1) r) ≡ shadows_edges edges (drop i l) (drop i r)
    walk-onward e = sym (walk-one i h k ∙ ap (λ (x : Met). after x (shadows_edges edges (drop (i + 1) l) (drop (i + 1) r))) (sym is ∙ e))
