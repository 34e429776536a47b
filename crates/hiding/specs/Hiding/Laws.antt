-- One node more hidden, and one edge more that has a hidden end. Document 02, order 8.
use Rattle.std.specs.Prelude.{ℕ, ◌+◌, ◌*◌, ◌%◌, ◌-◌, ◌<◌, ◌≤◌, ◌≡◌, refl, Bool, true, false, List, length}
use Rattle.std.proofs.Common.{arith, ◌∙◌, lt-ltb, le-ltb, eq-eqb, ne_eqb}
use Rattle.std.proofs.Math.Decide.{dec_lt, ℕ_discrete}
use Rattle.std.proofs.Math.Path.{sym, ap, subst}
use Rattle.std.proofs.Math.ListN.{length-set}
use Rattle.semantics.specs.declared.graph.Node.{Node}
use Rattle.semantics.specs.declared.graph.Node.TheVariants as N
use Rattle.semantics.specs.declared.graph.Edge.{Edge}
use Rattle.semantics.specs.declared.graph.Edge.TheVariants as E
use Rattle.semantics.specs.Lists.{and}
use Rattle.semantics.specs.Acceptance.{is_live}
use Rattle.semantics.specs.Bytes.{signed}
use Rattle.semantics.specs.Graph.{node_id}
use Rattle.semantics.specs.Hidden.{seen_node, node_if, sees_file, edge_if}
use Rattle.image.specs.Index.{BLOCK, KIND, FLAG, FILE, SYMBOL, SYMBOL-HIGH, SCOPE, FIRST, SOURCE, TARGET, PRECEDENCE, cell, node_of, edge_of, node_row, edge_row, put}
use Rattle.image.specs.Index.Laws.{cell_same, cell_other, known-kind}
use Rattle.image.specs.Filling.{Filled}
use Rattle.hiding.specs.Hiding.{seen_to, pruned, pruned_to}

-- one more as it is seen
module _ (see : ℕ → Bool) (f : ℕ → Node) (k : ℕ) where
  seen_more : (j : ℕ) → (j ≡ k → ⊥) → seen_to see (k + 1) f j ≡ seen_to see k f j
  seen_more j h = go (dec_lt j k)
    where
      go : Dec (j < k) → seen_to see (k + 1) f j ≡ seen_to see k f j
      go (yes p) = rw (lt-ltb j (k + 1) (omega arith), lt-ltb j k p)
      go (no p) = let q : k + 1 ≤ j = past p (ℕ_discrete j k) in rw (le-ltb j (k + 1) q, le-ltb j k (omega arith))
        where
          past : (j < k → ⊥) → Dec (j ≡ k) → k + 1 ≤ j
          past a (yes e) = absurd (h e)
          past a (no e) = omega arith

  seen_last : seen_to see (k + 1) f k ≡ seen_node see (f k)
  seen_last = rw (lt-ltb k (k + 1) (omega arith))

  seen_next : seen_to see k f k ≡ f k
  seen_next = rw (le-ltb k k (omega arith))

-- A NODE REMOVED by its kind
module _ (l : List ℕ) (n : ℕ) (h : BLOCK * n < length l) where
  kept-cell : (row m : ℕ) → 0 < row → row < BLOCK → cell (put KIND n 0 l) row m ≡ cell l row m
  kept-cell row m a b = cell_other l row m KIND n 0 (λ x. omega arith)

  other-cell : (row m : ℕ) → row < BLOCK → (m ≡ n → ⊥) → cell (put KIND n 0 l) row m ≡ cell l row m
  other-cell row m b d = cell_other l row m KIND n 0 (λ x. d (omega arith))

  removed-here : node_row (put KIND n 0 l) n ≡ N.Removed
  unfolding node_row node_of
  removed-here = rw (cell_same l KIND n 0 (omega arith))

  removed-else : (m : ℕ) → (m ≡ n → ⊥) → node_row (put KIND n 0 l) m ≡ node_row l m
  unfolding node_row
  removed-else m d = rw (other-cell KIND m (omega arith) d, other-cell FLAG m (omega arith) d, other-cell FILE m (omega arith) d, other-cell SYMBOL m (omega arith) d, other-cell SYMBOL-HIGH m (omega arith) d, other-cell SCOPE m (omega arith) d)

  removed-edges : (e : ℕ) → edge_row (put KIND n 0 l) e ≡ edge_row l e
  unfolding edge_row
  removed-edges e = rw (kept-cell SOURCE e (omega arith) (omega arith), kept-cell TARGET e (omega arith) (omega arith), kept-cell PRECEDENCE e (omega arith) (omega arith))

  removed-kinds : ((m : ℕ) → cell l KIND m < 9) → (m : ℕ) → cell (put KIND n 0 l) KIND m < 9
  removed-kinds s m = go (ℕ_discrete m n)
    where
      go : Dec (m ≡ n) → cell (put KIND n 0 l) KIND m < 9
      go (yes e) = rw e (rw (cell_same l KIND n 0 (omega arith)) (omega arith))
      go (no d) = rw (other-cell KIND m (omega arith) d) (s m)

  pub removed-length : length (put KIND n 0 l) ≡ length l
  unfolding put
  removed-length = simp length-set

-- what the words of a node say of its file
module _ (see : ℕ → Bool) (l : List ℕ) (n : ℕ) (k : cell l KIND n < 9) where
  pub low-kind : cell l KIND n < 3 → seen_node see (node_row l n) ≡ node_row l n
  unfolding seen_node node_if sees_file
  low-kind = known-kind (λ kind x. kind < 3 → seen_node see x ≡ x) l n (λ h. refl) (λ h. refl) (λ h. refl)
      (λ h. absurd (omega (arith, h))) (λ h. absurd (omega (arith, h))) (λ h. absurd (omega (arith, h))) (λ h. absurd (omega (arith, h))) (λ h. absurd (omega (arith, h))) (λ h. absurd (omega (arith, h))) k

  pub high-kind : 3 ≤ cell l KIND n → seen_node see (node_row l n) ≡ node_if (see (cell l FILE n)) (node_row l n)
  unfolding seen_node sees_file
  high-kind = known-kind (λ kind x. 3 ≤ kind → seen_node see x ≡ node_if (see (cell l FILE n)) x) l n
      (λ h. absurd (omega (arith, h))) (λ h. absurd (omega (arith, h))) (λ h. absurd (omega (arith, h))) (λ h. refl) (λ h. refl) (λ h. refl) (λ h. refl) (λ h. refl) (λ h. refl) k

-- ONE NODE MORE
module _ (see : ℕ → Bool) (l : List ℕ) (n : ℕ) (f : ℕ → Node) (D : ℕ → Edge) (d : Filled (seen_to see n f) D l) where
  here : node_row l n ≡ f n
  here = d.node n ∙ seen_next see f n

  stays : seen_node see (node_row l n) ≡ node_row l n → Filled (seen_to see (n + 1) f) D l
  stays q = record { long = d.long; node = λ m. go m (ℕ_discrete m n); edge = d.edge; kinds = d.kinds; unlinked = d.unlinked }
    where
      go : (m : ℕ) → Dec (m ≡ n) → node_row l m ≡ seen_to see (n + 1) f m
      go m (yes z) = rw z (sym q ∙ ap (seen_node see) here ∙ sym (seen_last see f n))
      go m (no z) = d.node m ∙ sym (seen_more see f n m z)

  pub low-stays : cell l KIND n < 3 → Filled (seen_to see (n + 1) f) D l
  low-stays h = stays (low-kind see l n (d.kinds n) h)

  pub seen-stays : 3 ≤ cell l KIND n → see (cell l FILE n) ≡ true → Filled (seen_to see (n + 1) f) D l
  unfolding node_if
  seen-stays h v = stays (high-kind see l n (d.kinds n) h ∙ ap (λ b. node_if b (node_row l n)) v)

  pub hidden_goes : BLOCK * n < length l → 3 ≤ cell l KIND n → see (cell l FILE n) ≡ false → Filled (seen_to see (n + 1) f) D (put KIND n 0 l)
  unfolding node_if
  hidden_goes b h v = record {
    long = subst (λ m. m % BLOCK ≡ 0) (sym (removed-length l n b)) d.long;
    node = λ m. go m (ℕ_discrete m n);
    edge = λ e. removed-edges l n b e ∙ d.edge e;
    kinds = removed-kinds l n b d.kinds;
    unlinked = λ m. kept-cell l n b FIRST m (omega arith) (omega arith) ∙ d.unlinked m;
  }
    where
      gone : seen_node see (f n) ≡ N.Removed
      gone = ap (seen_node see) (sym here) ∙ high-kind see l n (d.kinds n) h ∙ ap (λ b. node_if b (node_row l n)) v

      go : (m : ℕ) → Dec (m ≡ n) → node_row (put KIND n 0 l) m ≡ seen_to see (n + 1) f m
      go m (yes z) = rw z (removed-here l n b ∙ sym gone ∙ sym (seen_last see f n))
      go m (no z) = removed-else l n b m z ∙ d.node m ∙ sym (seen_more see f n m z)

-- none yet
pub none_hidden : (see : ℕ → Bool) (l : List ℕ) (f : ℕ → Node) (D : ℕ → Edge) → Filled f D l → Filled (seen_to see 0 f) D l
none_hidden see l f D d = record { long = d.long; node = λ m. d.node m ∙ (rw (le-ltb m 0 (omega arith))); edge = d.edge; kinds = d.kinds; unlinked = d.unlinked }

-- EDGES: one more as it is left
module _ (F : ℕ → Node) (f : ℕ → Edge) (k : ℕ) where
  pruned-more : (j : ℕ) → (j ≡ k → ⊥) → pruned_to F (k + 1) f j ≡ pruned_to F k f j
  pruned-more j h = go (dec_lt j k)
    where
      go : Dec (j < k) → pruned_to F (k + 1) f j ≡ pruned_to F k f j
      go (yes p) = rw (lt-ltb j (k + 1) (omega arith), lt-ltb j k p)
      go (no p) = let q : k + 1 ≤ j = past p (ℕ_discrete j k) in rw (le-ltb j (k + 1) q, le-ltb j k (omega arith))
        where
          past : (j < k → ⊥) → Dec (j ≡ k) → k + 1 ≤ j
          past a (yes e) = absurd (h e)
          past a (no e) = omega arith

  pruned-last : pruned_to F (k + 1) f k ≡ pruned F (f k)
  pruned-last = rw (lt-ltb k (k + 1) (omega arith))

  pruned-next : pruned_to F k f k ≡ f k
  pruned-next = rw (le-ltb k k (omega arith))

-- a node whose kind is 0 is removed, and no other
module _ (l : List ℕ) (n : ℕ) (k : cell l KIND n < 9) where
  dead-kind : cell l KIND n < 1 → is_live (node_row l n) ≡ false
  dead-kind = known-kind (λ kind x. kind < 1 → is_live x ≡ false) l n (λ h. refl)
      (λ h. absurd (omega (arith, h))) (λ h. absurd (omega (arith, h))) (λ h. absurd (omega (arith, h))) (λ h. absurd (omega (arith, h))) (λ h. absurd (omega (arith, h))) (λ h. absurd (omega (arith, h))) (λ h. absurd (omega (arith, h))) (λ h. absurd (omega (arith, h))) k

  live-kind : 1 ≤ cell l KIND n → is_live (node_row l n) ≡ true
  live-kind = known-kind (λ kind x. 1 ≤ kind → is_live x ≡ true) l n (λ h. absurd (omega (arith, h)))
      (λ h. refl) (λ h. refl) (λ h. refl) (λ h. refl) (λ h. refl) (λ h. refl) (λ h. refl) (λ h. refl) k

-- AN EDGE REMOVED by its source
module _ (l : List ℕ) (long : length l % BLOCK ≡ 0) (e : ℕ) (h : BLOCK * e < length l) where
  source-other : (row m : ℕ) → row < BLOCK → (row ≡ SOURCE → ⊥) → cell (put SOURCE e 0 l) row m ≡ cell l row m
  source-other row m b d = cell_other l row m SOURCE e 0 (λ x. d (omega arith))

  source-else : (row m : ℕ) → row < BLOCK → (m ≡ e → ⊥) → cell (put SOURCE e 0 l) row m ≡ cell l row m
  source-else row m b d = cell_other l row m SOURCE e 0 (λ x. d (omega arith))

  gone-here : edge_row (put SOURCE e 0 l) e ≡ E.Removed
  unfolding edge_row edge_of
  gone-here = rw (cell_same l SOURCE e 0 (omega arith))

  gone-else : (m : ℕ) → (m ≡ e → ⊥) → edge_row (put SOURCE e 0 l) m ≡ edge_row l m
  unfolding edge_row
  gone-else m d = rw (source-else SOURCE m (omega arith) d, source-else TARGET m (omega arith) d, source-else PRECEDENCE m (omega arith) d)

  gone-nodes : (m : ℕ) → node_row (put SOURCE e 0 l) m ≡ node_row l m
  unfolding node_row
  gone-nodes m = rw (source-other KIND m (omega arith) (λ x. omega arith), source-other FLAG m (omega arith) (λ x. omega arith), source-other FILE m (omega arith) (λ x. omega arith), source-other SYMBOL m (omega arith) (λ x. omega arith), source-other SYMBOL-HIGH m (omega arith) (λ x. omega arith), source-other SCOPE m (omega arith) (λ x. omega arith))

  gone-length : length (put SOURCE e 0 l) ≡ length l
  unfolding put
  gone-length = simp length-set

-- ONE EDGE MORE
module _ (l : List ℕ) (e : ℕ) (F : ℕ → Node) (f : ℕ → Edge) (d : Filled F (pruned_to F e f) l) where
  edge_here : edge_row l e ≡ f e
  edge_here = d.edge e ∙ pruned-next F f e

  edge_stays : pruned F (f e) ≡ f e → Filled F (pruned_to F (e + 1) f) l
  edge_stays q = record { long = d.long; node = d.node; edge = λ m. go m (ℕ_discrete m e); kinds = d.kinds; unlinked = d.unlinked }
    where
      go : (m : ℕ) → Dec (m ≡ e) → edge_row l m ≡ pruned_to F (e + 1) f m
      go m (yes z) = rw z (edge_here ∙ sym q ∙ sym (pruned-last F f e))
      go m (no z) = d.edge m ∙ sym (pruned-more F f e m z)

  edge_goes : BLOCK * e < length l → pruned F (f e) ≡ E.Removed → Filled F (pruned_to F (e + 1) f) (put SOURCE e 0 l)
  edge_goes b q = record {
    long = subst (λ m. m % BLOCK ≡ 0) (sym (gone-length l d.long e b)) d.long;
    node = λ m. gone-nodes l d.long e b m ∙ d.node m;
    edge = λ m. go m (ℕ_discrete m e);
    kinds = λ m. rw (source-other l d.long e b KIND m (omega arith) (λ x. omega arith)) (d.kinds m);
    unlinked = λ m. source-other l d.long e b FIRST m (omega arith) (λ x. omega arith) ∙ d.unlinked m;
  }
    where
      go : (m : ℕ) → Dec (m ≡ e) → edge_row (put SOURCE e 0 l) m ≡ pruned_to F (e + 1) f m
      go m (yes z) = rw z (gone-here l d.long e b ∙ sym q ∙ sym (pruned-last F f e))
      go m (no z) = gone-else l d.long e b m z ∙ d.edge m ∙ sym (pruned-more F f e m z)

  end_live : (n : ℕ) → 1 ≤ cell l KIND n → is_live (F n) ≡ true
  end_live n h = ap is_live (sym (d.node n)) ∙ live-kind l n (d.kinds n) h

  end-dead : (n : ℕ) → cell l KIND n < 1 → is_live (F n) ≡ false
  end-dead n h = ap is_live (sym (d.node n)) ∙ dead-kind l n (d.kinds n) h

  removed-edge : cell l SOURCE e < 1 → f e ≡ E.Removed
  unfolding edge_row edge_of
  removed-edge h = sym edge_here ∙ (rw (eq-eqb (cell l SOURCE e) 0 (omega arith)))

  live-edge : 0 < cell l SOURCE e → f e ≡ E.Live (node_id (cell l SOURCE e - 1)) (node_id (cell l TARGET e)) (signed (cell l PRECEDENCE e))
  unfolding edge_row edge_of
  live-edge h = sym edge_here ∙ (rw (ne_eqb (cell l SOURCE e) 0 (λ q. omega arith)))

  pub none_stays : cell l SOURCE e < 1 → Filled F (pruned_to F (e + 1) f) l
  unfolding pruned
  none_stays h = edge_stays (ap (pruned F) (removed-edge h) ∙ sym (removed-edge h))

  pub both-stay : 0 < cell l SOURCE e → 1 ≤ cell l KIND (cell l SOURCE e - 1) → 1 ≤ cell l KIND (cell l TARGET e) → Filled F (pruned_to F (e + 1) f) l
  unfolding pruned edge_if
  both-stay h a b = edge_stays (ap (pruned F) (live-edge h) ∙ (rw (end_live (cell l SOURCE e - 1) a, end_live (cell l TARGET e) b)) ∙ sym (live-edge h))

  and-false : (b : Bool) → and b false ≡ false
  and-false true = refl
  and-false false = refl

  pub source_goes : BLOCK * e < length l → 0 < cell l SOURCE e → cell l KIND (cell l SOURCE e - 1) < 1 → Filled F (pruned_to F (e + 1) f) (put SOURCE e 0 l)
  unfolding pruned edge_if
  source_goes i h a = edge_goes i (ap (pruned F) (live-edge h) ∙ (rw (end-dead (cell l SOURCE e - 1) a)))

  pub target-goes : BLOCK * e < length l → 0 < cell l SOURCE e → cell l KIND (cell l TARGET e) < 1 → Filled F (pruned_to F (e + 1) f) (put SOURCE e 0 l)
  unfolding pruned edge_if
  target-goes i h a = edge_goes i (ap (pruned F) (live-edge h) ∙ (rw (end-dead (cell l TARGET e) a, and-false (is_live (F (cell l SOURCE e - 1))))))

pub none-pruned : (l : List ℕ) (F : ℕ → Node) (f : ℕ → Edge) → Filled F f l → Filled F (pruned_to F 0 f) l
none-pruned l F f d = record { long = d.long; node = d.node; edge = λ m. d.edge m ∙ (rw (le-ltb m 0 (omega arith))); kinds = d.kinds; unlinked = d.unlinked }

-- one file more is visible
pub all_more : (see : ℕ → Bool) (k : ℕ) → see k ≡ true → ((f : ℕ) → f < k → see f ≡ true) → (f : ℕ) → f < k + 1 → see f ≡ true
all_more see k e all f h = go (dec_lt f k)
  where
    go : Dec (f < k) → see f ≡ true
    go (yes p) = all f p
    go (no p) = let z : f ≡ k = omega arith in ap see z ∙ e
