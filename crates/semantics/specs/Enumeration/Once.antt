-- An enumeration whose tries add one more number to an item's key, no two alike, keeps no key twice.
-- Serves document 02, order 9: each list of distinct edges is counted once.
use Prim.Native.Nat.{ℕ, zero, suc}
use Rattle.std.proofs.Common.{arith, ◌∙◌, true≢false, length-append}
use Rattle.std.specs.Prelude.{◌≡◌, ◌⊎◌, false, length}
use Rattle.std.proofs.Math.Path.{refl, sym, ap, subst}
use Rattle.std.proofs.Math.Logic.{inl, inr, ⊎_elim}
use mathlib.Core.List.Memᴰ
use mathlib.Core.List.{List, [], ◌∷◌, ◌++◌, map, append-nil, append_assoc, Memᴰ}
use Rattle.semantics.specs.declared.search.SearchOrder.{SearchOrder}
use Rattle.semantics.specs.declared.search.SearchOrder.TheVariants.{BreadthFirst, DepthFirst}
use Rattle.semantics.specs.Lists.Laws.{mem-map, map-mem}
use Rattle.semantics.specs.Answer.{Answer, ok}
use Rattle.semantics.specs.Answer.Laws.{ok-inj, refuse-ok, and_then-ok}
use Rattle.semantics.specs.Demand.{Once}
use Rattle.semantics.specs.Enumeration.{Try, Setting, State, Turn, over, expand, blank, each, merge, turn, final, follow, run, seed, push_item, with_pending, enumerate}
use Rattle.semantics.specs.Enumeration.Laws.{place_ok, news, pushes, each_after, Over, empty, limited, Popped, TurnIs, turn_is}

-- the one list goes on with the other, and with at least one number
abbrev Prefix : List ℕ → List ℕ → Type 0
Prefix a b = (m : List ℕ) × (b ≡ a ++ m)

abbrev Longer : List ℕ → List ℕ → Type 0
Longer a b = (e : ℕ) × (m : List ℕ) × (b ≡ a ++ (e ∷ m))

-- neither goes on with the other
abbrev Apart : List ℕ → List ℕ → Type 0
Apart a b = (Prefix a b → ⊥) × (Prefix b a → ⊥)

abbrev AllApart : List (List ℕ) → Type 0
AllApart [] = Unit {0}
AllApart (x ∷ xs) = ((y : List ℕ) → Memᴰ y xs → Apart x y) × AllApart xs

apart-append : (a b : List (List ℕ)) → AllApart a → AllApart b → ((x y : List ℕ) → Memᴰ x a → Memᴰ y b → Apart x y) → AllApart (a ++ b)
apart-append [] b p q h = q
apart-append (x ∷ a) b p q h = (
  (λ y m. ⊎_elim (λ k. p.0 y k) (λ k. h x y (Memᴰ.head refl) k) (Memᴰ.append_cases a m)),
  apart-append a b p.1 q (λ u v m n. h u v (Memᴰ.tail m) n),
)

once-append : (a b : List (List ℕ)) → Once a → Once b → ((x : List ℕ) → Memᴰ x a → Memᴰ x b → ⊥) → Once (a ++ b)
once-append [] b p q h = q
once-append (x ∷ a) b p q h = ((λ m. ⊎_elim p.0 (λ k. h x (Memᴰ.head refl) k) (Memᴰ.append_cases a m)), once-append a b p.1 q (λ u m n. h u (Memᴰ.tail m) n))

map-append : {A : Type 0} (f : A → List ℕ) (a b : List A) → map f (a ++ b) ≡ map f a ++ map f b
map-append f [] b = refl
map-append f (x ∷ a) b = ap (λ l. f x ∷ l) (map-append f a b)

-- one number more: what a list that is a prefix of k and one more is
snoc-prefix : (a k : List ℕ) (e : ℕ) → Prefix a (k ++ (e ∷ [])) → Prefix a k ⊎ (a ≡ k ++ (e ∷ []))
snoc-prefix [] k e p = inl (k, refl)
snoc-prefix (x ∷ a) [] e p = inr (let q : e ∷ [] ≡ x ∷ (a ++ p.0) = p.1 in on a p.0 (tail_of q) (head_of q))
  where
    head_of : e ∷ [] ≡ x ∷ (a ++ p.0) → e ≡ x
    head_of q = cc

    tail_of : e ∷ [] ≡ x ∷ (a ++ p.0) → [] ≡ a ++ p.0
    tail_of q = cc

    on : (a m : List ℕ) → [] ≡ a ++ m → e ≡ x → x ∷ a ≡ e ∷ []
    on [] m q h = ap (λ (y : ℕ). y ∷ []) (sym h)
    on (y ∷ a) m q h = absurd (let z : ◌≡◌ {A = ℕ} 0 1 = cc in omega arith)
snoc-prefix (x ∷ a) (y ∷ k) e p = on (snoc-prefix a k e (p.0, tail_of p.1)) (head_of p.1)
  where
    head_of : y ∷ (k ++ (e ∷ [])) ≡ x ∷ (a ++ p.0) → y ≡ x
    head_of q = cc

    tail_of : y ∷ (k ++ (e ∷ [])) ≡ x ∷ (a ++ p.0) → k ++ (e ∷ []) ≡ a ++ p.0
    tail_of q = cc

    on : Prefix a k ⊎ (a ≡ k ++ (e ∷ [])) → y ≡ x → Prefix (x ∷ a) (y ∷ k) ⊎ (x ∷ a ≡ y ∷ (k ++ (e ∷ [])))
    on (inl q) h = inl (q.0, (let r = q.1 in λ i. h i ∷ r i))
    on (inr q) h = inr (λ i. sym h i ∷ q i)

-- so many numbers behind the same list
same-snoc : (k m : List ℕ) (e d : ℕ) → k ++ (d ∷ []) ≡ (k ++ (e ∷ [])) ++ m → m ≡ []
same-snoc k [] e d q = refl
same-snoc k (x ∷ m) e d q = absurd (let z = ap length q in omega (arith, z, length-append k (d ∷ []), length-append (k ++ (e ∷ [])) (x ∷ m), length-append k (e ∷ [])))

module _ {R W : Type 0} (key : W → List ℕ) (tries : W → List (Try R W))
    (pushed-key : (w v : W) → Memᴰ v (pushes (tries w)) → (e : ℕ) × (key v ≡ key w ++ (e ∷ [])))
    (news-pushed : (w v : W) → Memᴰ v (news (tries w)) → Memᴰ v (pushes (tries w)))
    (pushed-once : (w : W) → Once (map key (pushes (tries w)))) (news-once : (w : W) → Once (map key (news (tries w)))) where
  record Fine (s : State W) : Type 0 where
    pub apart : AllApart (map key s.rest)
    pub once : Once (map key s.kept)
    pub short : (k : List ℕ) (v : W) → Memᴰ k (map key s.kept) → Memᴰ v s.rest → Longer (key v) k → ⊥

  -- the keys that one expansion pushes stand apart: they have one length
  pushed-apart : (w : W) (ps : List W) → ((v : W) → Memᴰ v ps → (e : ℕ) × (key v ≡ key w ++ (e ∷ []))) → Once (map key ps) → AllApart (map key ps)
  pushed-apart w [] h o = tt
  pushed-apart w (v ∷ ps) h o = (others, pushed-apart w ps (λ u m. h u (Memᴰ.tail m)) o.1)
    where
      others : (y : List ℕ) → Memᴰ y (map key ps) → Apart (key v) y
      others y m =
          let k = mem-map key y ps m in
          let a = h v (Memᴰ.head refl) in
          let b = h k.0 (Memᴰ.tail k.1) in (
            (λ p. o.0 (subst (λ z. Memᴰ z (map key ps)) (p.1 ∙ ap (λ t. key v ++ t) (same-snoc (key w) p.0 a.0 b.0 (sym b.1 ∙ sym k.2 ∙ p.1 ∙ ap (λ t. t ++ p.0) a.1)) ∙ append-nil (key v)) m)),
            (λ p. o.0 (subst (λ z. Memᴰ z (map key ps)) (sym (p.1 ∙ ap (λ t. y ++ t) (same-snoc (key w) p.0 b.0 a.0 (sym a.1 ∙ p.1 ∙ ap (λ t. t ++ p.0) (k.2 ∙ b.1))) ∙ append-nil y)) m)),
          )

  -- AN EXPANSION: w was taken from the front, the others are ws
  module _ (w : W) (ws : List W) (kept : List W) (apart : AllApart (map key (w ∷ ws))) (once : Once (map key kept)) (short : (k : List ℕ) (v : W) → Memᴰ k (map key kept) → Memᴰ v (w ∷ ws) → Longer (key v) k → ⊥) where
    abbrev P : List W
    P = pushes (tries w)

    away : (v : W) → Memᴰ v ws → Apart (key w) (key v)
    away v m = apart.0 (key v) (map-mem key v ws m)

    -- a child stands apart from those that wait
    child-away : (c v : W) → Memᴰ c P → Memᴰ v ws → Apart (key c) (key v)
    child-away c v m n =
        let a = pushed-key w c m in (
          (λ p. (away v n).0 ((a.0 ∷ []) ++ p.0, p.1 ∙ ap (λ t. t ++ p.0) a.1 ∙ append_assoc (key w) (a.0 ∷ []) p.0)),
          (λ p. ⊎_elim (λ (q : Prefix (key v) (key w)). (away v n).1 q) (λ (q : key v ≡ key w ++ (a.0 ∷ [])). (away v n).0 (a.0 ∷ [], q)) (snoc-prefix (key v) (key w) a.0 (p.0, sym a.1 ∙ p.1))),
        )

    swap : (a b : List ℕ) → Apart a b → Apart b a
    swap a b h = (h.1, h.0)

    pub all_apart : (o : SearchOrder) (s : State W) → s.rest ≡ ws → s.pending ≡ P → AllApart (map key (merge o s).rest)
    unfolding merge
    all_apart BreadthFirst s r p = rw (r, p, map-append key ws (pushes (tries w)))
        (apart-append (map key ws) (map key (pushes (tries w))) apart.1 (pushed-apart w (pushes (tries w)) (λ v m. pushed-key w v m) (pushed-once w))
        (λ x y m n. let a = mem-map key x ws m in let b = mem-map key y (pushes (tries w)) n in subst (λ z. Apart z y) (sym a.2) (subst (λ z. Apart (key a.0) z) (sym b.2) (swap (key b.0) (key a.0) (child-away b.0 a.0 b.1 a.1)))))
    all_apart DepthFirst s r p = rw (r, p, map-append key (pushes (tries w)) ws)
        (apart-append (map key (pushes (tries w))) (map key ws) (pushed-apart w (pushes (tries w)) (λ v m. pushed-key w v m) (pushed-once w)) apart.1
        (λ x y m n. let a = mem-map key x (pushes (tries w)) m in let b = mem-map key y ws n in subst (λ z. Apart z y) (sym a.2) (subst (λ z. Apart (key a.0) z) (sym b.2) (child-away a.0 b.0 a.1 b.1))))

    pub kept-once : Once (map key (kept ++ news (tries w)))
    kept-once = rw (map-append key kept (news (tries w))) (once-append (map key kept) (map key (news (tries w))) once (news-once w)
        (λ x m n. let b = mem-map key x (news (tries w)) n in let a = pushed-key w b.0 (news-pushed w b.0 b.1) in short x w m (Memᴰ.head refl) (a.0, [], b.2 ∙ a.1)))

    pub kept-short : (k : List ℕ) (v : W) → Memᴰ k (map key (kept ++ news (tries w))) → Memᴰ v ws ⊎ Memᴰ v P → Longer (key v) k → ⊥
    kept-short k v m n l = ⊎_elim (old n) (new n) (Memᴰ.append_cases (map key kept) (subst (λ z. Memᴰ k z) (map-append key kept (news (tries w))) m))
      where
        old : Memᴰ v ws ⊎ Memᴰ v (pushes (tries w)) → Memᴰ k (map key kept) → ⊥
        old (inl i) j = short k v j (Memᴰ.tail i) l
        old (inr i) j = let a = pushed-key w v i in short k w j (Memᴰ.head refl) (a.0, l.0 ∷ l.1, l.2 ∙ ap (λ t. t ++ (l.0 ∷ l.1)) a.1 ∙ append_assoc (key w) (a.0 ∷ []) (l.0 ∷ l.1))

        new : Memᴰ v ws ⊎ Memᴰ v (pushes (tries w)) → Memᴰ k (map key (news (tries w))) → ⊥
        new (inl i) j =
            let b = mem-map key k (news (tries w)) j in
            (child-away b.0 v (news-pushed w b.0 b.1) i).1 (l.0 ∷ l.1, sym b.2 ∙ l.2)
        new (inr i) j =
            let b = mem-map key k (news (tries w)) j in
            let c = pushed-key w b.0 (news-pushed w b.0 b.1) in
            let a = pushed-key w v i in
            nonempty l.0 l.1 (same-snoc (key w) (l.0 ∷ l.1) a.0 c.0 (sym c.1 ∙ sym b.2 ∙ l.2 ∙ ap (λ t. t ++ (l.0 ∷ l.1)) a.1))
          where
            nonempty : (e : ℕ) (m : List ℕ) → e ∷ m ≡ [] → ⊥
            nonempty e m q = let z : ◌≡◌ {A = ℕ} 0 1 = cc in omega arith

  -- THE RUN, where the limit on complete paths refuses none
  module _ (c : Setting R) (u : State W) (whole : u.stats.complete_limited ≡ false) (uncounted : u.stats.count_limited ≡ false) where
    merge-kept : (o : SearchOrder) (s : State W) → (merge o s).kept ≡ s.kept
    unfolding merge
    merge-kept BreadthFirst s = refl
    merge-kept DepthFirst s = refl

    merge-flag : (o : SearchOrder) (s : State W) → (merge o s).stats.complete_limited ≡ s.stats.complete_limited
    unfolding merge
    merge-flag BreadthFirst s = refl
    merge-flag DepthFirst s = refl

    merge-cases : (o : SearchOrder) (s : State W) (v : W) → Memᴰ v (merge o s).rest → Memᴰ v s.rest ⊎ Memᴰ v s.pending
    unfolding merge
    merge-cases BreadthFirst s v m = Memᴰ.append_cases s.rest m
    merge-cases DepthFirst s v m = ⊎_elim inr inl (Memᴰ.append_cases s.pending m)

    abbrev Goes : State W → Type 0
    Goes s = (s.stats.complete_limited ≡ false) × (Fine s → Once (map key u.kept))

    over-goes : (s x : State W) → Over s x → ◌≡◌ {A = Answer R (State W)} (ok x) (ok u) → x.stats.complete_limited ≡ s.stats.complete_limited → x.kept ≡ s.kept → Goes s
    over-goes s x h e f k = (
      sym f ∙ ap (λ (y : State W). y.stats.complete_limited) (ok-inj x u e) ∙ whole,
      λ fine. subst (λ (y : State W). Once (map key y.kept)) (ok-inj x u e) (subst (λ l. Once (map key l)) (sym k) fine.once),
    )

    -- one expansion
    next-fine : (s x y : State W) (w : W) → Popped s x w → y.rest ≡ x.rest → y.pending ≡ pushes (tries w) → y.kept ≡ x.kept ++ news (tries w) → Fine s → Fine (merge c.order y)
    next-fine s x y w p r q k f = record {
      apart = all_apart w x.rest x.kept ap' on' sh' c.order y r q;
      once = subst (λ l. Once (map key l)) (sym (merge-kept c.order y ∙ k)) (kept-once w x.rest x.kept ap' on' sh');
      short = λ l v m n. kept-short w x.rest x.kept ap' on' sh' l v (subst (λ z. Memᴰ l (map key z)) (merge-kept c.order y ∙ k) m)
          (⊎_elim (λ i. inl (subst (λ z. Memᴰ v z) r i)) (λ i. inr (subst (λ z. Memᴰ v z) q i)) (merge-cases c.order y v n));
    }
      where
        ap' : AllApart (map key (w ∷ x.rest))
        ap' = subst (λ l. AllApart (map key l)) p.waited f.apart

        on' : Once (map key x.kept)
        on' = subst (λ l. Once (map key l)) (sym p.kept) f.once

        sh' : (k : List ℕ) (v : W) → Memᴰ k (map key x.kept) → Memᴰ v (w ∷ x.rest) → Longer (key v) k → ⊥
        sh' l v m n = f.short l v (subst (λ z. Memᴰ l (map key z)) p.kept m) (subst (λ z. Memᴰ v z) (sym p.waited) n)

    follow-goes : (k : State W → Answer R (State W)) → ((x : State W) → k x ≡ ok u → Goes x) → (s : State W) (t : Turn W) → TurnIs s t → follow c tries k t ≡ ok u → Goes s
    unfolding follow
    follow-goes k ih s (over x) h e = on h
      where
        on : Over s x → Goes s
        on (empty a q) = over-goes s x (empty a q) e (ap (λ (y : State W). y.stats.complete_limited) (sym q)) (ap (λ (y : State W). y.kept) (sym q))
        on (limited a q) = absurd (true≢false (sym a ∙ ap (λ (y : State W). y.stats.count_limited) (ok-inj x u e) ∙ uncounted))
    follow-goes k ih s (expand w x) h e =
        let a = and_then-ok (each c x (tries w)) (λ y. k (merge c.order y)) u e in
        let b = each_after c x a.0 (tries w) a.1 in
        let g = ih (merge c.order a.0) a.2 in
        let f = b.full (sym (merge-flag c.order a.0) ∙ g.0) in (
          sym h.flag ∙ f.0,
          λ fine. g.1 (next-fine s x a.0 w h b.rest (b.pending ∙ ap (λ l. l ++ pushes (tries w)) h.pending) f.1 fine),
        )

    run-goes : (n : ℕ) (s : State W) → run c tries n s ≡ ok u → Goes s
    unfolding run
    run-goes zero s e = last (turn c s) (turn_is c s) e
      where
        last : (t : Turn W) → TurnIs s t → final c t ≡ ok u → Goes s
        last (over x) (empty a q) k = unfold final in over-goes s x (empty a q) k (ap (λ (y : State W). y.stats.complete_limited) (sym q)) (ap (λ (y : State W). y.kept) (sym q))
        last (over x) (limited a q) k = absurd (true≢false (sym a ∙ ap (λ (y : State W). y.stats.count_limited) (ok-inj x u (unfold final in k)) ∙ uncounted))
        last (expand w x) h k = absurd (refuse-ok c.too_many u (unfold final in k))
    run-goes (suc n) s e = follow-goes (run c tries n) (run-goes n) s (turn c s) (turn_is c s) e

    pub enumerate-once : (fuel : ℕ) (w : W) → enumerate c tries fuel (w ∷ []) ≡ ok u → Once (map key u.kept)
    unfolding enumerate seed push_item
    enumerate-once fuel w e =
        let a = and_then-ok (seed c blank (w ∷ [])) (λ s. run c tries fuel (merge c.order s)) u e in
        let f = and_then-ok (push_item c w blank) (λ s. seed c s []) a.0 a.1 in
        let z : with_pending w blank ≡ a.0 = place_ok c.waiting _ (with_pending w blank) f.0 f.1 ∙ ok-inj f.0 a.0 f.2 in
        (run-goes fuel (merge c.order a.0) a.2).1 (subst (λ (s : State W). Fine (merge c.order s)) z (start c.order))
      where
        alone : AllApart (map key (w ∷ []))
        alone = ((λ y m. absurd (Memᴰ.not-nil m)), tt)

        start : (o : SearchOrder) → Fine (merge o (with_pending w blank))
        start BreadthFirst = unfold merge in record { apart = alone; once = tt; short = λ k v m n l. Memᴰ.not-nil m }
        start DepthFirst = unfold merge in record { apart = alone; once = tt; short = λ k v m n l. Memᴰ.not-nil m }
