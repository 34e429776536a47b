-- Two enumerations whose items are related and whose tries correspond run alike: same refusal, or same statistics and related items.
-- Serves the code, whose waiting items are edge lists in words.
use Prim.Native.Nat.{ℕ, zero, suc, ◌+◌}
use Rattle.std.specs.Prelude.{◌≡◌, Bool, List, [], ◌∷◌, ◌++◌, ltb}
use Rattle.std.proofs.Math.Path.{refl, ap, subst}
use Rattle.std.proofs.Common.{sym}
use Rattle.std.proofs.Math.Bool.{true, false}
use Rattle.std.proofs.Math.ListN.{length}
use Rattle.semantics.specs.declared.search.SearchOrder.{SearchOrder}
use Rattle.semantics.specs.declared.search.SearchOrder.TheVariants.{BreadthFirst, DepthFirst}
use Rattle.semantics.specs.declared.search.SearchStats.{SearchStats}
use Rattle.semantics.specs.Limits.{below}
use Rattle.semantics.specs.Answer.{Answer, ok, refuse, and_then, ok_if}
use Rattle.semantics.specs.Enumeration.{Try, cut, overlong, reject, stop, go, Area, unlimited, slots, Setting, State, Tally, Turn, over, expand, one, each, merge, turn, run, enumerate, blank, with_stats}
use Rattle.semantics.specs.Enumeration.{with_tally, with_pending, with_kept, judged, add_looked, add_overlong, place, push_item, keep_if, keep, add_cycle, add_rejected, add_expanded, add_complete, flag_length, flag_count, flag_complete, admit, popped, final, follow, seed}

module _ {W X : Type 0} (L : W → X → Type 0) where
  pub data All2 : List W → List X → Type 0 where
    nil : All2 [] []
    cons : {w : W} {v : X} {ws : List W} {vs : List X} → L w v → All2 ws vs → All2 (w ∷ ws) (v ∷ vs)

  pub record StateRel (s : State W) (t : State X) : Type 0 where
    pub rest : All2 s.rest t.rest
    pub pending : All2 s.pending t.pending
    pub kept : All2 s.kept t.kept
    pub stats : s.stats ≡ t.stats
    pub tally : s.tally ≡ t.tally

  pub data TurnRel : Turn W → Turn X → Type 0 where
    overs : {s : State W} {t : State X} → StateRel s t → TurnRel (over s) (over t)
    expands : {w : W} {v : X} {s : State W} {t : State X} → L w v → StateRel s t → TurnRel (expand w s) (expand v t)

  all2-append : {a : List W} {b : List X} {a' : List W} {b' : List X} → All2 a b → All2 a' b' → All2 (a ++ a') (b ++ b')
  all2-append nil h = h
  all2-append (cons r q) h = cons r (all2-append q h)

  all2-length : (a : List W) (b : List X) → All2 a b → length a ≡ length b
  all2-length a b nil = refl
  all2-length a b (cons {ws = ws} {vs = vs} r q) = ap suc (all2-length ws vs q)

  stats-rel : (f : SearchStats → SearchStats) (s : State W) (t : State X) → StateRel s t → StateRel (with_stats s (f s.stats)) (with_stats t (f t.stats))
  stats-rel f s t h = record { rest = h.rest; pending = h.pending; kept = h.kept; stats = ap f h.stats; tally = h.tally }

  tally-rel : (f : Tally → Tally) (s : State W) (t : State X) → StateRel s t → StateRel (with_tally s (f s.tally)) (with_tally t (f t.tally))
  tally-rel f s t h = record { rest = h.rest; pending = h.pending; kept = h.kept; stats = h.stats; tally = ap f h.tally }

  merge-rel : (o : SearchOrder) (s : State W) (t : State X) → StateRel s t → StateRel (merge o s) (merge o t)
  unfolding merge
  merge-rel BreadthFirst s t h = record { rest = all2-append h.rest h.pending; pending = nil; kept = h.kept; stats = h.stats; tally = h.tally }
  merge-rel DepthFirst s t h = record { rest = all2-append h.pending h.rest; pending = nil; kept = h.kept; stats = h.stats; tally = h.tally }

  admit-rel : (b : Bool) (s : State W) (t : State X) (w : W) (v : X) (ws : List W) (vs : List X) → StateRel s t → L w v → All2 ws vs → TurnRel (admit b s w ws) (admit b t v vs)
  unfolding admit
  admit-rel true s t w v ws vs h r q = expands r (record { rest = q; pending = nil; kept = h.kept; stats = ap add_expanded h.stats; tally = h.tally })
  admit-rel false s t w v ws vs h r q = overs (record { rest = q; pending = nil; kept = h.kept; stats = ap flag_count h.stats; tally = h.tally })

module _ {R W X : Type 0} (L : W → X → Type 0) where
  pub data TryRel : Try R W → Try R X → Type 0 where
    cuts : TryRel cut cut
    overlongs : TryRel overlong overlong
    rejects : TryRel reject reject
    stops : (r : R) → TryRel (stop r) (stop r)
    goes : {w : W} {v : X} (b : Bool) → L w v → TryRel (go b w) (go b v)

  pub data TriesRel : List (Try R W) → List (Try R X) → Type 0 where
    done : TriesRel [] []
    next : {x : Try R W} {y : Try R X} {xs : List (Try R W)} {ys : List (Try R X)} → TryRel x y → TriesRel xs ys → TriesRel (x ∷ xs) (y ∷ ys)

  pub data AnswerRel : Answer R (State W) → Answer R (State X) → Type 0 where
    oks : {s : State W} {t : State X} → StateRel L s t → AnswerRel (ok s) (ok t)
    refuses : (r : R) → AnswerRel (refuse r) (refuse r)

  then-rel : {a : Answer R (State W)} {b : Answer R (State X)} (k : State W → Answer R (State W)) (l : State X → Answer R (State X)) → AnswerRel a b → ((s : State W) (t : State X) → StateRel L s t → AnswerRel (k s) (l t)) → AnswerRel (and_then a k) (and_then b l)
  then-rel k l (oks {s = s} {t = t} h) f = f s t h
  then-rel k l (refuses r) f = refuses r

  place-rel : (a : Area R) (n m : ℕ) (s : State W) (t : State X) → n ≡ m → StateRel L s t → AnswerRel (place a n s) (place a m t)
  unfolding place ok_if
  place-rel unlimited n m s t e h = oks h
  place-rel (slots size r) n m s t e h = subst (λ k. AnswerRel (ok_if (ltb k size) r s) (ok_if (ltb m size) r t)) (sym e) (on (ltb m size))
    where
      on : (b : Bool) → AnswerRel (ok_if b r s) (ok_if b r t)
      on true = oks h
      on false = refuses r

  push_item-rel : (c : Setting R) (s : State W) (t : State X) (w : W) (v : X) → StateRel L s t → L w v → AnswerRel (push_item c w s) (push_item c v t)
  unfolding push_item
  push_item-rel c s t w v h r =
      place-rel c.waiting (length s.rest + length s.pending) (length t.rest + length t.pending) (with_pending w s) (with_pending v t)
      (rw (all2-length L _ _ h.rest, all2-length L _ _ h.pending))
      (record { rest = h.rest; pending = all2-append L h.pending (cons r nil); kept = h.kept; stats = h.stats; tally = rw (all2-length L _ _ h.rest, all2-length L _ _ h.pending, h.tally) refl })

  keep_if-rel : (b : Bool) (c : Setting R) (s : State W) (t : State X) (w : W) (v : X) → StateRel L s t → L w v → AnswerRel (keep_if b c s w) (keep_if b c t v)
  unfolding keep_if
  keep_if-rel true c s t w v h r = place-rel c.results (length s.kept) (length t.kept) (with_kept w s) (with_kept v t) (all2-length L s.kept t.kept h.kept) (record { rest = h.rest; pending = h.pending; kept = all2-append L h.kept (cons r nil); stats = h.stats; tally = h.tally })
  keep_if-rel false c s t w v h r = oks (stats-rel L flag_complete s t h)

  keep-rel : (b : Bool) (c : Setting R) (s : State W) (t : State X) (w : W) (v : X) → StateRel L s t → L w v → AnswerRel (keep b c s w) (keep b c t v)
  unfolding keep
  keep-rel true c s t w v h r =
      let h' = stats-rel L add_complete s t h in
      subst (λ n. AnswerRel (keep_if (below n c.max_complete) c (with_stats s (add_complete s.stats)) w) (keep_if (below (length t.kept) c.max_complete) c (with_stats t (add_complete t.stats)) v)) (sym (all2-length L s.kept t.kept h.kept))
      (keep_if-rel (below (length t.kept) c.max_complete) c (with_stats s (add_complete s.stats)) (with_stats t (add_complete t.stats)) w v h' r)
  keep-rel false c s t w v h r = oks h

  judged-rel : (c : Setting R) (s : State W) (t : State X) (x : Try R W) (y : Try R X) → StateRel L s t → TryRel x y → AnswerRel (judged c s x) (judged c t y)
  unfolding judged
  judged-rel c s t x y h cuts = oks (stats-rel L add_cycle s t h)
  judged-rel c s t x y h overlongs = oks (record { rest = h.rest; pending = h.pending; kept = h.kept; stats = ap flag_length h.stats; tally = ap add_overlong h.tally })
  judged-rel c s t x y h rejects = oks (stats-rel L add_rejected s t h)
  judged-rel c s t x y h (stops r) = refuses r
  judged-rel c s t x y h (goes {w = w} {v = v} b r) = then-rel (push_item c w) (push_item c v) (keep-rel b c s t w v h r) (λ s' t' h'. push_item-rel c s' t' w v h' r)

  one-rel : (c : Setting R) (s : State W) (t : State X) (x : Try R W) (y : Try R X) → StateRel L s t → TryRel x y → AnswerRel (one c s x) (one c t y)
  unfolding one
  one-rel c s t x y h q = judged-rel c _ _ x y (tally-rel L add_looked s t h) q

  each-rel : (c : Setting R) (s : State W) (t : State X) (xs : List (Try R W)) (ys : List (Try R X)) → StateRel L s t → TriesRel xs ys → AnswerRel (each c s xs) (each c t ys)
  unfolding each
  each-rel c s t xs ys h done = oks h
  each-rel c s t xs ys h (next {x = x} {y = y} {xs = xs'} {ys = ys'} r q) = then-rel (λ u. each c u xs') (λ u. each c u ys') (one-rel c s t x y h r) (λ s' t' h'. each-rel c s' t' xs' ys' h' q)

  popped-rel : (c : Setting R) (s : State W) (t : State X) (ws : List W) (vs : List X) → StateRel L s t → All2 L ws vs → TurnRel L (popped c s ws) (popped c t vs)
  unfolding popped
  popped-rel c s t ws vs h nil = overs h
  popped-rel c s t ws vs h (cons {w = w} {v = v} {ws = ws'} {vs = vs'} r q) =
      subst (λ (n : SearchStats). TurnRel L (admit (below n.expanded c.max_count) s w ws') (admit (below t.stats.expanded c.max_count) t v vs')) (sym h.stats) (admit-rel L (below t.stats.expanded c.max_count) s t w v ws' vs' h r q)

  module _ (c : Setting R) (tries : W → List (Try R W)) (tries' : X → List (Try R X)) (like : (w : W) (v : X) → L w v → TriesRel (tries w) (tries' v)) where
    final-rel : (x : Turn W) (y : Turn X) → TurnRel L x y → AnswerRel (final c x) (final c y)
    unfolding final
    final-rel x y (overs h) = oks h
    final-rel x y (expands r h) = refuses c.too_many

    follow-rel : (k : State W → Answer R (State W)) (l : State X → Answer R (State X)) → ((s : State W) (t : State X) → StateRel L s t → AnswerRel (k s) (l t)) → (x : Turn W) (y : Turn X) → TurnRel L x y → AnswerRel (follow c tries k x) (follow c tries' l y)
    unfolding follow
    follow-rel k l ih x y (overs h) = oks h
    follow-rel k l ih x y (expands {w = w} {v = v} {s = s} {t = t} r h) = then-rel (λ u. k (merge c.order u)) (λ u. l (merge c.order u)) (each-rel c s t (tries w) (tries' v) h (like w v r)) (λ s' t' h'. ih (merge c.order s') (merge c.order t') (merge-rel L c.order s' t' h'))

    pub run-rel : (n : ℕ) (s : State W) (t : State X) → StateRel L s t → AnswerRel (run c tries n s) (run c tries' n t)
    unfolding run turn
    run-rel zero s t h = final-rel (turn c s) (turn c t) (popped-rel c s t s.rest t.rest h h.rest)
    run-rel (suc n) s t h = follow-rel (run c tries n) (run c tries' n) (run-rel n) (turn c s) (turn c t) (popped-rel c s t s.rest t.rest h h.rest)

  seed-rel : (c : Setting R) (s : State W) (t : State X) (ws : List W) (vs : List X) → StateRel L s t → All2 L ws vs → AnswerRel (seed c s ws) (seed c t vs)
  unfolding seed
  seed-rel c s t ws vs h nil = oks h
  seed-rel c s t ws vs h (cons {w = w} {v = v} {ws = ws'} {vs = vs'} r q) = then-rel (λ u. seed c u ws') (λ u. seed c u vs') (push_item-rel c s t w v h r) (λ s' t' h'. seed-rel c s' t' ws' vs' h' q)

  pub enumerate-rel : (c : Setting R) (tries : W → List (Try R W)) (tries' : X → List (Try R X)) (like : (w : W) (v : X) → L w v → TriesRel (tries w) (tries' v)) (fuel : ℕ) (ws : List W) (vs : List X) → All2 L ws vs → AnswerRel (enumerate c tries fuel ws) (enumerate c tries' fuel vs)
  unfolding enumerate
  enumerate-rel c tries tries' like fuel ws vs q =
      then-rel (λ s. run c tries fuel (merge c.order s)) (λ s. run c tries' fuel (merge c.order s)) (seed-rel c blank blank ws vs (record { rest = nil; pending = nil; kept = nil; stats = refl; tally = refl }) q)
      (λ s t h. run-rel c tries tries' like fuel (merge c.order s) (merge c.order t) (merge-rel L c.order s t h))
