-- Which one of two edges is as great as the other.
-- Document 01, "Path": "Left precedence greater: yes."
use Rattle.std.specs.Prelude.{ℕ, ◌≡◌, refl, true, false, List, ℤ, pos, negsuc}
use Rattle.std.proofs.Common.{arith, sym, ap, ◌∙◌, true≢false, ltb-true, ltb-false, le-ltb}
use Rattle.std.specs.Int.Signed.{lt_z}
use Rattle.semantics.specs.declared.graph.NodeId.{NodeId}
use Rattle.semantics.specs.declared.graph.Edge.{Edge}
use Rattle.semantics.specs.declared.graph.Edge.TheVariants as E
use Rattle.storage.specs.Index.{edge_row}
use Rattle.reply.specs.Beatable.{exceeds, AsGreat}

-- not less than one that is not less than the third
not-less : (p q r : ℤ) → lt_z p q ≡ false → lt_z q r ≡ false → lt_z p r ≡ false
not-less (pos a) (pos b) (pos c) h k = le-ltb a c (omega (arith, ltb-false a b h, ltb-false b c k))
not-less (pos a) (pos b) (negsuc c) h k = refl
not-less (pos a) (negsuc b) (pos c) h k = absurd (true≢false k)
not-less (pos a) (negsuc b) (negsuc c) h k = refl
not-less (negsuc a) (pos b) r h k = absurd (true≢false h)
not-less (negsuc a) (negsuc b) (pos c) h k = absurd (true≢false k)
not-less (negsuc a) (negsuc b) (negsuc c) h k = le-ltb c a (omega (arith, ltb-false b a h, ltb-false c b k))

less_one_way : (q r : ℤ) → lt_z q r ≡ true → lt_z r q ≡ false
less_one_way (pos a) (pos b) h = le-ltb b a (omega (arith, ltb-true a b h))
less_one_way (pos a) (negsuc b) h = absurd (true≢false (sym h))
less_one_way (negsuc a) (pos b) h = refl
less_one_way (negsuc a) (negsuc b) h = le-ltb a b (omega (arith, ltb-true b a h))

module _ (index : List ℕ) (a b : ℕ) where
  pub removed-below : edge_row index b ≡ E.Removed → AsGreat index a b
  removed-below h p k = ap (exceeds p) h

  module _ (s t : NodeId) (q : ℤ) (h : edge_row index a ≡ E.Live s t q) where
    -- edge b exceeds the precedence of edge a
    pub exceeding-above : exceeds q (edge_row index b) ≡ true → AsGreat index b a
    exceeding-above k p f = ap (exceeds p) h ∙ on (edge_row index b) k f
      where
        on : (e : Edge) → exceeds q e ≡ true → exceeds p e ≡ false → lt_z p q ≡ false
        on E.Removed k f = absurd (true≢false (sym k))
        on (E.Live x y r) k f = not-less p r q f (less_one_way q r k)

    pub unexceeded-above : exceeds q (edge_row index b) ≡ false → AsGreat index a b
    unexceeded-above k p f = on (edge_row index b) k
      where
        on : (e : Edge) → exceeds q e ≡ false → exceeds p e ≡ false
        on E.Removed k = refl
        on (E.Live x y r) k = not-less p q r (sym (ap (exceeds p) h) ∙ f) k
