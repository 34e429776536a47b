-- The numbers at the start of a search, behind each round and at its end.
-- Serves document 02, order 9.
use Rattle.std.specs.Prelude.{ℕ, zero, suc, ◌+◌, ◌-◌, ◌<◌, ◌≤◌, ◌^◌, ◌≡◌, false, get_or, set, replicate, Ok, Err, None}
use Rattle.std.proofs.Common.{arith, ◌∙◌, ⊎_elim}
use Rattle.std.proofs.Math.Path.{refl, sym, ap, subst}
use mathlib.Core.List.{List, [], ◌∷◌, ◌++◌, Memᴰ}
use Rattle.std.proofs.Math.ListN.{length, length-append, length-replicate}
use Rattle.semantics.specs.declared.search.SearchOrder.TheVariants.{DepthFirst}
use Rattle.semantics.specs.declared.search.SearchStats.{SearchStats}
use Rattle.semantics.specs.declared.refusal.PathRefusal.{PathRefusal}
use Rattle.semantics.specs.declared.refusal.SearchRefusal.{SearchRefusal}
use Rattle.semantics.specs.declared.refusal.SearchRefusal.TheVariants as Search
use Rattle.semantics.specs.Limits.{base, slot_length, max_expansions, looked_before, Limit}
use Rattle.semantics.specs.Answer.{Answer, ok, refuse, and_then, wrap}
use Rattle.semantics.specs.Graph.{Graph, view_of}
use Rattle.semantics.specs.Path.{Path, from_reference}
use Rattle.semantics.specs.Enumeration.{State, blank, with_pending, push_item, merge, each, enumerate, changed, stays}
use Rattle.semantics.specs.Enumeration.Laws.{news, place_ok}
use Rattle.semantics.specs.Enumeration.Alike.{Full, Beside, counted, enumerate-beside, refuse-beside, unlimited-never, none_never}
use Rattle.semantics.specs.Enumeration.Keeping.{keeping, Keeping, Rounded, over-kept, round-kept, rest-refused}
use Rattle.semantics.specs.Recorded.{edge_lists}
use Rattle.semantics.specs.Recorded.Laws.{mem-lists}
use Rattle.semantics.specs.Direct.{direct}
use Rattle.semantics.proofs.Theorems.Direct.Counted.{new-length}
use Rattle.semantics.specs.Words.{zeros}
use Rattle.semantics.specs.Calls as Calls
use Rattle.semantics.proofs.Theorems.Calls.Laws.{length-lists}
use Rattle.semantics.specs.Tally.{of_length, lengths_from, lengths}
use Rattle.semantics.specs.Tally.Laws.{lengths-more}
use Rattle.semantics.specs.Entries.{request_of}
use Rattle.search_state.specs.declared.search.Search as S
use Rattle.search_state.specs.Searches.{Going}
use Rattle.search_state.specs.declared.search.Finished.{Finished}
use Rattle.search_state.specs.declared.search.Round.TheVariants as Round
use Rattle.search_state.specs.Searches.{Taken}
use Rattle.search_state.specs.declared.progress.Frame.{Frame}
use Rattle.search_state.specs.Searches.{Clears, Taking}
use Rattle.search_state.specs.Progresses.{frame_of}
use Rattle.search_state.specs.Reps.{setting_of, Rep}
use Rattle.search_state.specs.Reps.Rounds.{Opened, round-over}
use Rattle.search_state.specs.Runs.{run-over, run-round}
use Rattle.search_rounds.specs.Drives.{SearchEnd}
use Rattle.search_rounds.specs.Drives.{Driving, run_of, DrivenTo}
use Rattle.search_rounds.specs.Drives as D
use Rattle.search_rounds.specs.Drives.Laws.{Turning, turn-start, start-state, turn_many, turn-given, turn-size, turn-refused, turn-counts, turn-again, again-state, opened, going}
use Rattle.search_rounds.specs.Starts.{answer_to, first_of, Begins, start-run}
use Rattle.direct_search.specs.DirectAnswers.{edge_tries}
use Rattle.direct_search.specs.Expansions.Rounds.{tries-few}
use Rattle.direct_search.specs.Counting.{added_to, Low, kept_from, Counting, run_on, Tallies, none_kept, tallied_on}

-- ---- the numbers

lists-append : (ps qs : List Path) → edge_lists (ps ++ qs) ≡ edge_lists ps ++ edge_lists qs
lists-append [] qs = refl
lists-append (p ∷ ps) qs = ap (λ (z : List (List ℕ)). p.edges ∷ z) (lists-append ps qs)

-- paths of one length more
numbers_more : (k : ℕ) (ps qs : List Path) → ((q : Path) → Memᴰ q qs → length q.edges ≡ k + 1) → lengths base (edge_lists (ps ++ qs)) ≡ added_to (lengths base (edge_lists ps)) (k + 1) (length qs)
numbers_more k ps qs h =
    ap (lengths base) (lists-append ps qs)
    ∙ lengths-more 0 (k + 1) slot_length (k + 1) (edge_lists ps) (edge_lists qs) (let z : k + 1 ≡ 0 + (k + 1) = omega arith in z) (λ l m. let x = mem-lists l qs m in ap length x.2 ∙ h x.0 x.1)
    ∙ ap (added_to (lengths base (edge_lists ps)) (k + 1)) (length-lists qs)

-- behind the last number nothing changes
pub added-behind : (ns : List ℕ) (i more : ℕ) → length ns ≤ i → ns ≡ added_to ns i more
added-behind ns i more h = on ns i (get_or ns i 0 + more) h
  where
    on : (l : List ℕ) (i a : ℕ) → length l ≤ i → l ≡ set l i a
    on [] i a h = refl
    on (x ∷ l) zero a h = absurd (omega (arith, h))
    on (x ∷ l) (suc i) a h = ap (λ (z : List ℕ). x ∷ z) (on l i a (omega (arith, h)))

-- a bound on every number
low-set : (ns : List ℕ) (j i v b : ℕ) → get_or ns i 0 ≤ b → v ≤ b → get_or (set ns j v) i 0 ≤ b
low-set [] j i v b h k = h
low-set (x ∷ ns) zero zero v b h k = k
low-set (x ∷ ns) zero (suc i) v b h k = h
low-set (x ∷ ns) (suc j) zero v b h k = h
low-set (x ∷ ns) (suc j) (suc i) v b h k = low-set ns j i v b h k

zeros-at : (n i : ℕ) → get_or (zeros n) i 0 ≡ 0
zeros-at zero i = refl
zeros-at (suc n) zero = refl
zeros-at (suc n) (suc i) = zeros-at n i

pub low_zeros : (ns : List ℕ) (s : S.Search) → ns ≡ zeros (length ns) → Low ns s
low_zeros ns s e i = let z : get_or ns i 0 ≡ 0 = ap (λ (l : List ℕ). get_or l i 0) e ∙ zeros-at (length ns) i in omega (arith, z)

-- ---- every search: what a round counts

-- a state as if it had kept as many paths as it counted
padded : Path → State Path → State Path
padded p t = record { rest = t.rest; pending = t.pending; kept = replicate t.stats.complete p; stats = changed stays stays stays stays stays stays (λ f. false) stays t.stats; tally = t.tally }

padded-keeps : (p : Path) (t : State Path) → Keeping (padded p t) t
unfolding padded
padded-keeps p t = record { alike = refl; unflagged = refl; counted = sym (length-replicate t.stats.complete p) }

module _ {index steps₀ item₀ : List ℕ} {s : S.Search} {ws₀ rs₀ : List ℕ} (v : Driving index steps₀ item₀ s ws₀ rs₀) where
  module _ {on : S.Search} {steps item ws rs : List ℕ} {n : ℕ} (long : length steps ≡ length steps₀) (t : Turning edge_tries v (tries-few v.loaded) on steps item ws rs n) {a : Taken} {item' ws' : List ℕ} (y : Taking on ws a item' ws') (next : S.Search) (e : a ≡ Ok (Round.Expand next))
      {b : Going} {steps' ws'' rs' : List ℕ} (r : D.Rounded edge_tries looked_before index steps item' n next ws' rs (turn-given edge_tries v (tries-few v.loaded) long t y next e) b steps' ws'' rs') (m : S.Search) (c : b ≡ Ok m) where
    -- as many as before, and more behind the round
    round-more : (k : ℕ) × (next.state.budget.complete ≡ on.state.budget.complete) × (m.state.budget.complete ≡ on.state.budget.complete + k)
    unfolding padded
    round-more =
        let o = opened edge_tries v (tries-few v.loaded) long t y next e in
        let u = going edge_tries v (tries-few v.loaded) long t y next e r m c in
        let q = round-kept (setting_of (frame_of on)) (padded o.path t.state) t.state (padded-keeps o.path t.state) (edge_tries (frame_of on).limits.length (view_of v.graph)) o.path o.model u.0 o.round u.1 in
        let ms : m.state.budget.complete ≡ u.0.stats.complete = ap (λ (z : SearchStats). z.complete) u.3.counts.stats in
        let ns : next.state.budget.complete ≡ o.model.stats.complete = ap (λ (z : SearchStats). z.complete) o.rep.counts.stats in
        let os : on.state.budget.complete ≡ t.state.stats.complete = ap (λ (z : SearchStats). z.complete) t.stood.counts.stats in
        let same : q.state.stats.complete ≡ u.0.stats.complete = ap (λ (z : State Path). z.stats.complete) q.keeps.alike in
        let fresh = news (edge_tries (frame_of on).limits.length (view_of v.graph) o.path) in
        let h = q.keeps.counted in
        let g = ap length q.kept in
        let j = length-append (replicate t.state.stats.complete o.path) fresh in
        let w = length-replicate t.state.stats.complete o.path in
        let f = q.more in
        (length fresh, omega (arith, ms, ns, os, same, h, g, j, w, f), omega (arith, ms, ns, os, same, h, g, j, w, f))

    pub round-less : next.state.budget.complete ≤ m.state.budget.complete
    round-less = let k = round-more in omega (arith, k.1, k.2)

    pub round-fits : (ns : List ℕ) (i : ℕ) (item'' : List ℕ) → Clears b item'' → Low ns on → get_or ns i 0 + (m.state.budget.complete - next.state.budget.complete) < 2 ^ 64
    round-fits ns i item'' clears low =
        let k = round-more in
        let w = turn-again edge_tries v (tries-few v.loaded) long t y next e r m c item'' clears refl in
        let f = w.stood.few.complete in
        let p : m.state.budget.complete ≡ w.state.stats.complete = ap (λ (z : SearchStats). z.complete) w.stood.counts.stats in
        let h = low i in
        omega (arith, k.1, k.2, f, p, h, w.looked, w.expanded)

    pub round-low : (ns : List ℕ) (j : ℕ) → Low ns on → Low (added_to ns j (m.state.budget.complete - next.state.budget.complete)) m
    round-low ns j low i =
        let k = round-more in
        let h = low i in
        let g = low j in
        low-set ns j i (get_or ns j 0 + (m.state.budget.complete - next.state.budget.complete)) m.state.budget.complete (omega (arith, k.1, k.2, h)) (omega (arith, k.1, k.2, g))

-- ---- a tally

module _ {index steps₀ item₀ : List ℕ} {s : S.Search} {ws₀ rs₀ ns₀ : List ℕ} (x : Counting index steps₀ item₀ s ws₀ rs₀ ns₀) where
  abbrev v : Driving index steps₀ item₀ s ws₀ rs₀
  v = x.driving

  abbrev few : (lim : Limit) (p : Path) → length (edge_tries lim (view_of x.driving.graph) p) ≤ 4096
  few = tries-few x.driving.loaded

  -- at the head of the loop
  pub record Standing (on : S.Search) (steps item ws rs : List ℕ) (n : ℕ) (ns : List ℕ) : Type 0 where
    pub turning : Turning edge_tries x.driving (tries-few x.driving.loaded) on steps item ws rs n
    pub state : State Path
    pub keeps : Keeping state turning.state
    pub numbers : ns ≡ lengths base (edge_lists state.kept)
    pub same : kept_from (view_of x.driving.graph) (frame_of on) (max_expansions - on.state.budget.expanded) state ≡ run_on x

  pub stand-start : Standing s steps₀ item₀ ws₀ rs₀ 0 ns₀
  stand-start = record { turning = turn-start edge_tries v few; state = x.state; keeps = subst (λ (m : State Path). Keeping x.state m) (sym (start-state edge_tries v few)) x.keeps; numbers = x.numbers; same = refl }

  -- a refusal of the search is one of the tally
  refused-alike : (y : SearchRefusal) (rs ns : List ℕ) → DrivenTo edge_tries index steps₀ item₀ s ws₀ rs₀ v (Err y) rs → Tallies (Err y) ns (run_on x)
  refused-alike y rs ns h = on (run_of edge_tries index steps₀ item₀ s ws₀ rs₀ v) refl h
    where
      on : (a : Answer SearchRefusal (State Path)) → run_of edge_tries index steps₀ item₀ s ws₀ rs₀ x.driving ≡ a → D.Ends (Err y) rs a → Tallies (Err y) ns (run_on x)
      on (ok u) e k = absurd k
      on (refuse z) e k =
          subst (λ (a : Answer SearchRefusal (State Path)). Tallies (Err y) ns a)
          (sym (rest-refused (setting_of (frame_of s)) x.state x.driving.model x.keeps x.none (edge_tries (frame_of s).limits.length (view_of x.driving.graph)) (max_expansions - s.state.budget.expanded) z e)) k

  module _ {on : S.Search} {steps item ws rs : List ℕ} {n : ℕ} {ns : List ℕ} (long : length steps ≡ length steps₀) (t : Standing on steps item ws rs n ns) {a : Taken} {item' ws' : List ℕ} (y : Taking on ws a item' ws') where
    pub stand-over : (f : Finished) → a ≡ Ok (Round.Over f) → Tallies (Ok f) ns (run_on x)
    stand-over f e =
        let o = round-over (view_of v.graph) v.reference on ws rs t.turning.state t.turning.stood a item' ws' f y e in
        let k = over-kept (setting_of (frame_of on)) t.state t.turning.state t.keeps o.model o.round in
        let w = run-over (keeping (setting_of (frame_of on))) (edge_tries (frame_of on).limits.length (view_of v.graph)) (max_expansions - on.state.budget.expanded) (merge on.frontier.order t.state) k.0 k.1 in
        subst (λ (z : Answer SearchRefusal (State Path)). Tallies (Ok f) ns z) (sym (sym t.same ∙ w)) (t.numbers ∙ ap (λ (ps : List Path). lengths base (edge_lists ps)) (sym k.2))

    pub stand-many : (z : SearchRefusal) → a ≡ Err z → Tallies (Err z) ns (run_on x)
    stand-many z e = refused-alike z rs ns (turn_many edge_tries v few long t.turning y z e)

    module _ (next : S.Search) (e : a ≡ Ok (Round.Expand next)) where
      module _ {b : Going} {steps' ws'' rs' : List ℕ} (r : D.Rounded edge_tries looked_before index steps item' n next ws' rs (turn-given edge_tries v few long t.turning y next e) b steps' ws'' rs') where
        pub stand-refused : (z : SearchRefusal) → b ≡ Err z → Tallies (Err z) ns (run_on x)
        stand-refused z c = refused-alike z rs' ns (turn-refused edge_tries v few long t.turning y next e r z c)

        module _ (m : S.Search) (c : b ≡ Ok m) where
          abbrev o : Opened (view_of x.driving.graph) x.driving.reference on ws rs t.turning.state t.turning.stood item' ws' next
          o = opened edge_tries v few long t.turning y next e

          abbrev u : (z : State Path) × (each (setting_of (frame_of on)) o.model (edge_tries (frame_of on).limits.length (view_of x.driving.graph) o.path) ≡ ok z) × (frame_of m ≡ frame_of on) × Rep (view_of x.driving.graph) x.driving.reference m ws'' rs' z
          u = going edge_tries v few long t.turning y next e r m c

          -- the same round of the enumeration that keeps every path
          kept : Rounded (setting_of (frame_of on)) t.state t.turning.state t.keeps (edge_tries (frame_of on).limits.length (view_of x.driving.graph)) o.path o.model u.0
          kept = round-kept (setting_of (frame_of on)) t.state t.turning.state t.keeps (edge_tries (frame_of on).limits.length (view_of x.driving.graph)) o.path o.model u.0 o.round u.1

          found : List Path
          found = news (edge_tries (frame_of on).limits.length (view_of x.driving.graph) o.path)

          -- what the round counted
          found-more : m.state.budget.complete ≡ next.state.budget.complete + length found
          unfolding found
          found-more =
              let p : m.state.budget.complete ≡ u.0.stats.complete = ap (λ (z : SearchStats). z.complete) u.3.counts.stats in
              let q : next.state.budget.complete ≡ o.model.stats.complete = ap (λ (z : SearchStats). z.complete) o.rep.counts.stats in
              let k = kept.more in
              omega (arith, p, q, k)

          pub stand-again : (item'' : List ℕ) → Clears b item'' → {k : ℕ} → k ≡ get_or item' 0 0 → Standing m steps' item'' ws'' rs' k (added_to ns (k + 1) (m.state.budget.complete - next.state.budget.complete))
          unfolding found
          stand-again item'' clears {k} at =
              let w = turn-again edge_tries v few long t.turning y next e r m c item'' clears at in
              let is = again-state edge_tries v few long t.turning y next e r m c item'' clears at in
              let q = kept in
              let size : length o.path.edges ≡ k = turn-size edge_tries v few long t.turning y next e at in
              let more : m.state.budget.complete - next.state.budget.complete ≡ length (news (edge_tries (frame_of on).limits.length (view_of x.driving.graph) o.path)) = (let z = found-more in omega (arith, z)) in
              let j = turn-counts edge_tries v few long t.turning y next e r m c in
              let fuel : max_expansions - on.state.budget.expanded - 1 ≡ max_expansions - m.state.budget.expanded = omega (arith, j.0, j.1) in
              let step = run-round (keeping (setting_of (frame_of on))) (edge_tries (frame_of on).limits.length (view_of x.driving.graph)) (max_expansions - on.state.budget.expanded) (merge on.frontier.order t.state) o.path q.begun q.state q.turns (omega (arith, o.before)) q.tried in
              record {
                turning = w;
                state = q.state;
                keeps = subst (λ (z : State Path). Keeping q.state z) (sym is) q.keeps;
                numbers =
                    ap (added_to ns (k + 1)) more
                    ∙ ap (λ (l : List ℕ). added_to l (k + 1) (length (news (edge_tries (frame_of on).limits.length (view_of x.driving.graph) o.path)))) t.numbers
                    ∙ sym (numbers_more k t.state.kept (news (edge_tries (frame_of on).limits.length (view_of x.driving.graph) o.path)) (λ p h. new-length Search.TooLong base (frame_of on).limits.length (view_of x.driving.graph) o.path p h ∙ ap (λ (i : ℕ). i + 1) size))
                    ∙ ap (λ (ps : List Path). lengths base (edge_lists ps)) (sym q.kept);
                same =
                    ap (λ (f : Frame). kept_from (view_of x.driving.graph) f (max_expansions - m.state.budget.expanded) q.state) u.2
                    ∙ ap (λ (i : ℕ). kept_from (view_of x.driving.graph) (frame_of on) i q.state) (sym fuel)
                    ∙ sym step
                    ∙ t.same;
              }

-- ---- the start

module _ {index steps item : List ℕ} {g : Graph} {ws rs : List ℕ} {n : ℕ} {t : S.Search} {ws' rs' : List ℕ} (v : Driving index steps item t ws' rs') (b : Begins g DepthFirst none_kept ws rs n index steps item t ws' rs' v) where
  begun : with_pending v.first blank ≡ v.model
  unfolding push_item
  begun = place_ok (setting_of (frame_of (first_of DepthFirst none_kept ws rs))).waiting _ _ v.model b.pushed

  -- what the rounds are given
  pub start-counting : Counting index steps item t ws' rs' (zeros slot_length)
  start-counting = record {
    driving = v;
    none = ap (λ (f : Frame). f.limits.complete) b.frame;
    state = v.model;
    keeps = record {
      alike = refl;
      unflagged = ap (λ (m : State Path). m.stats.complete_limited) (sym begun);
      counted = ap (λ (m : State Path). m.stats.complete) (sym begun) ∙ ap (λ (m : State Path). length m.kept) begun;
    };
    numbers = (let z : zeros slot_length ≡ lengths base (edge_lists []) = unfold lengths_from in unfold of_length in refl in z) ∙ ap (λ (m : State Path). lengths base (edge_lists m.kept)) begun;
  }

  -- what the rounds answer is what the definition answers
  pub start-tallied : (r : SearchEnd) (ns : List ℕ) → Tallies r ns (run_on start-counting) → Tallies r ns (tallied_on g ws n)
  unfolding start-counting direct push_item
  start-tallied r ns h =
      let k : max_expansions - t.state.budget.expanded ≡ max_expansions = (let z = b.unexpanded in omega (arith, z)) in
      let a : run_on start-counting ≡ kept_from (view_of g) (frame_of (first_of DepthFirst none_kept ws rs)) max_expansions v.model =
      ap (λ (z : Graph). kept_from (view_of z) (frame_of t) (max_expansions - t.state.budget.expanded) v.model) b.graph
      ∙ ap (λ (f : Frame). kept_from (view_of g) f (max_expansions - t.state.budget.expanded) v.model) b.frame
      ∙ ap (λ (i : ℕ). kept_from (view_of g) (frame_of (first_of DepthFirst none_kept ws rs)) i v.model) k in
      let c = start-run (keeping (setting_of (frame_of (first_of DepthFirst none_kept ws rs)))) (edge_tries None (view_of g)) (view_of g) n v.first v.model b.starts b.pushed in
      subst (λ (z : Answer SearchRefusal (State Path)). Tallies r ns z) (a ∙ sym c) h

-- 10, 11 and 31 are met alike at the start
pub start-refused : (g : Graph) (ws rs : List ℕ) (n : ℕ) (z : SearchRefusal) (rs' ns : List ℕ) → D.Ends (Err z) rs' (answer_to edge_tries g DepthFirst none_kept ws rs n) → Tallies (Err z) ns (tallied_on g ws n)
unfolding direct
start-refused g ws rs n z rs' ns h = on (from_reference (view_of g) n) h
  where
    on : (a : Answer PathRefusal Path) → D.Ends (Err z) rs' (and_then (wrap Search.Path a) (λ p. enumerate (Calls.setting_of base (request_of DepthFirst none_kept ws rs n)) (edge_tries None (view_of g)) max_expansions (p ∷ [])))
        → Tallies (Err z) ns (and_then (wrap Search.Path a) (λ p. enumerate (keeping (Calls.setting_of base (request_of DepthFirst none_kept ws rs n))) (edge_tries None (view_of g)) max_expansions (p ∷ [])))
    on (refuse y) k = k
    on (ok p) k = by (enumerate (Calls.setting_of base (request_of DepthFirst none_kept ws rs n)) (edge_tries None (view_of g)) max_expansions (p ∷ [])) refl k
      where
        by : (a : Answer SearchRefusal (State Path)) → enumerate (Calls.setting_of base (request_of DepthFirst none_kept ws rs n)) (edge_tries None (view_of g)) max_expansions (p ∷ []) ≡ a → D.Ends (Err z) rs' a
            → Tallies (Err z) ns (enumerate (keeping (Calls.setting_of base (request_of DepthFirst none_kept ws rs n))) (edge_tries None (view_of g)) max_expansions (p ∷ []))
        by (ok u) e k = absurd k
        by (refuse y) e k =
            let c = Calls.setting_of base (request_of DepthFirst none_kept ws rs n) in
            let t = edge_tries None (view_of g) in
            let b = counted c t max_expansions (p ∷ []) in
            ⊎_elim (λ q. subst (λ (a : Answer SearchRefusal (State Path)). Tallies (Err z) ns a) (sym q) k) (λ (f : Full c y). absurd (none_never c refl y f))
            (refuse-beside c (keeping c) (unlimited-never (keeping c) refl) y (enumerate (keeping c) t max_expansions (p ∷ [])) b
            (subst (λ (a : Answer SearchRefusal (State Path)). Beside c a b) e (enumerate-beside c t max_expansions (p ∷ []))) (enumerate-beside (keeping c) t max_expansions (p ∷ [])))
