-- A computation in code goes on as the enumeration does: what is looked at, counted, filed and pushed.
-- Serves document 01, "Partial paths" and "Budget and frontier"; 31 of "Turned back".
use Rattle.std.specs.Prelude.{ℕ, ◌+◌, ◌-◌, ◌<◌, ◌≤◌, ◌≡◌, ◌⊎◌, true, false, Option, Some, None, length, take, drop, get_or}
use Rattle.std.proofs.Common.{arith, sym, ap, ap₂, subst, ◌∙◌, inl, inr, ⊎_elim, length-append}
use Rattle.std.proofs.Math.Path.{refl}
use mathlib.Core.List.Memᴰ
use mathlib.Core.List.{List, [], ◌∷◌, ◌++◌, map, Memᴰ}
use Rattle.semantics.specs.declared.refusal.PartialPathRefusal.{PartialPathRefusal}
use Rattle.semantics.specs.declared.refusal.PartialPathRefusal.TheVariants.{NoWaitingSlot}
use Rattle.semantics.specs.Limits.{within, slot_length}
use Rattle.semantics.specs.Answer.{Answer, ok, refuse}
use Rattle.semantics.specs.Graph.{View}
use Rattle.semantics.specs.Enumeration.{State, keep, keep_if, place, push_item, with_kept, with_stats, with_tally, with_pending, add_complete, add_cycle, add_looked, add_overlong, flag_length}
use Rattle.semantics.specs.PartialPaths.{Route}
use Rattle.words.specs.Slots.{IsSlot, padded}
use Rattle.path_frontier.specs.declared.frontier.Frontier.{Frontier}
use Rattle.path_budget.specs.Budget.{lengthening}
use Rattle.path_budget.specs.Budget.Laws.{lengthening-refused}
use Rattle.path_frontier.specs.Frontier.{Framed, pushed, Waits, Wider}
use Rattle.path_frontier.specs.Frontier.Laws.{push-frame}
use Rattle.path_frontier.specs.Frontier.Stands.{Stands, stands-done, stands-full}
use Rattle.partial_state.specs.declared.route.Ends.{Ends}
use Rattle.partial_state.specs.declared.filing.Filing.{Filing}
use Rattle.partial_state.specs.declared.extraction.ExtractionFrame.{ExtractionFrame}
use Rattle.partial_state.specs.Routes.{held, ends_of, Waiting}
use Rattle.partial_state.specs.Routes.Laws.{held-count, held-carries, held-padded}
use Rattle.partial_state.specs.Filings.{filed_next}
use Rattle.partial_state.specs.Filings.Laws.{filed-next, filed-nowhere}
use Rattle.partial_state.specs.Extractions.{Computation, Course, goes, stops, with_budget, with_frontier, cut_one, found_one, counting, course_of, Extends, Grows}
use Rattle.partial_state.specs.Reps.{Few, frame_of, setting_of, Rep, Untouched, Tells, Extendable, ExtendsTo}

module _ {g : View} {f : Filing} {origin : List ℕ} {x : Computation} {ws db : List ℕ} {m : State Route} (rep : Rep g f origin x ws db m) where
  pub untouched : Untouched f origin db
  untouched e = rep.filed ∙ filed-nowhere f m.kept origin e

  -- ---- an edge is looked at
  abbrev pub looked_at : State Route
  looked_at = with_tally m (add_looked m.tally)

  pub rep-looked : Rep g f origin x ws db looked_at
  rep-looked = record {
    sized = rep.sized;
    stands = rep.stands;
    counts = record { stats = rep.counts.stats; found = rep.counts.found };
    few = record { complete = omega (arith, rep.few.complete); cycles = omega (arith, rep.few.cycles) };
    filed = rep.filed;
    traced = rep.traced;
  }

  -- it is on the route already
  pub rep-cut : Rep g f origin (cut_one x) ws db (with_stats looked_at (add_cycle m.stats))
  rep-cut = record {
    sized = rep.sized;
    stands = rep.stands;
    counts = record { stats = ap add_cycle rep.counts.stats; found = rep.counts.found };
    few = record { complete = omega (arith, rep.few.complete); cycles = omega (arith, rep.few.cycles) };
    filed = rep.filed;
    traced = rep.traced;
  }

  -- it would make a route too long
  pub rep-overlong : (n : ℕ) → within n x.budget.max_length ≡ false → Rep g f origin (with_budget (lengthening n x.budget).budget x) ws db (with_tally (with_stats looked_at (flag_length m.stats)) (add_overlong looked_at.tally))
  rep-overlong n h = record {
    sized = rep.sized;
    stands = rep.stands;
    counts = record { stats = ap (counting x.found) (lengthening-refused n x.budget 0 x.cycles h) ∙ ap flag_length rep.counts.stats; found = rep.counts.found };
    few = record { complete = omega (arith, rep.few.complete); cycles = omega (arith, rep.few.cycles) };
    filed = rep.filed;
    traced = rep.traced;
  }

  module _ (q : Route) (good : Waiting g f.file x.frontier.length q) where
    -- ---- a route is found
    abbrev pub kept_with : State Route
    kept_with = with_kept q (with_stats m (add_complete m.stats))

    pub keep-is : (fr : ExtractionFrame) → keep true (setting_of fr) m q ≡ ok kept_with
    unfolding keep keep_if place
    keep-is fr = refl

    pub rep-found : {n : ℕ} {db' : List ℕ} → Few n m.stats → n + 1 ≡ m.tally.looked → db' ≡ filed_next f x.found (ends_of q) q.edges db → Rep g f origin (found_one x) ws db' kept_with
    rep-found few at e = record {
      sized = rep.sized;
      stands = rep.stands;
      counts = record { stats = ap add_complete rep.counts.stats; found = ap (λ (k : ℕ). k + 1) rep.counts.found ∙ sym (length-append m.kept (q ∷ [])) };
      few = record { complete = omega (arith, few.complete, at); cycles = omega (arith, few.cycles, at) };
      filed = e ∙ ap (filed_next f x.found (ends_of q) q.edges) rep.filed ∙ filed-next f m.kept q x.found origin rep.counts.found;
      traced = rep.traced;
    }

    -- ---- a route is pushed
    in-snoc : (r : Route) → Memᴰ r m.rest ⊎ Memᴰ r (m.pending ++ (q ∷ [])) → Waiting g f.file x.frontier.length r
    in-snoc r (inl a) = rep.traced r (inl a)
    in-snoc r (inr a) = ⊎_elim (λ (b : Memᴰ r m.pending). rep.traced r (inr b)) (λ (b : Memᴰ r (q ∷ [])). subst (Waiting g f.file x.frontier.length) (sym (Memᴰ.eq_of_singleton b)) good) (Memᴰ.append_cases m.pending a)

    pub push-tells : {a : Course} {ws' : List ℕ} → Extends x ws (held x.frontier.length q) a ws' → Tells g f origin (frame_of x) a ws' db (push_item (setting_of (frame_of x)) q m)
    push-tells {ws'} h = subst (λ (y : Course). Tells g f origin (frame_of x) y ws' db (push_item (setting_of (frame_of x)) q m)) (sym h.is) (on h.pushed refl)
      where
        on : (p : Option Frontier) → h.pushed ≡ p → Tells g f origin (frame_of x) (course_of x p) ws' db (push_item (setting_of (frame_of x)) q m)
        on (Some n) e =
            let d = stands-done (held x.frontier.length) (setting_of (frame_of x)) NoWaitingSlot x.frontier refl ws m q h.pushed ws' h.pushes rep.stands n e in
            let k = push-frame x.frontier ws (held x.frontier.length q) h.pushed ws' h.pushes n e in
            subst (λ (z : Frontier). Tells g f origin (frame_of x) (goes (with_frontier z x)) ws' db (push_item (setting_of (frame_of x)) q m)) (sym k.1)
            (subst (λ (y : Answer PartialPathRefusal (State Route)). Tells g f origin (frame_of x) (goes (with_frontier (pushed x.frontier) x)) ws' db y) (sym d.0) (
              refl,
              record {
                sized = record { start = rep.sized.start; most = rep.sized.most; room = omega (arith, rep.sized.room, h.pushes.same_length) };
                stands = subst (λ (z : Frontier). Stands (held x.frontier.length) z ws' (with_pending q m)) k.1 d.1;
                counts = record { stats = rep.counts.stats; found = rep.counts.found };
                few = rep.few;
                filed = rep.filed;
                traced = in-snoc;
              },
            ))
        on None e =
            subst (λ (y : Answer PartialPathRefusal (State Route)). Tells g f origin (frame_of x) (stops NoWaitingSlot) ws' db y) (sym (stands-full (held x.frontier.length) (setting_of (frame_of x)) NoWaitingSlot x.frontier refl ws m q h.pushed ws' h.pushes rep.stands e)) (refl, untouched)

-- ---- the waiting slots get more words

module _ {g : View} {f : Filing} {origin : List ℕ} {x : Computation} {ws db : List ℕ} {m : State Route} (rep : Rep g f origin x ws db m) where
  -- the words of waiting routes in longer slots
  all-padded : (L : ℕ) → x.frontier.length ≤ L → (l : List Route) → ((r : Route) → Memᴰ r l → length r.edges < x.frontier.length) → map (padded L) (map (held x.frontier.length) l) ≡ map (held L) l
  all-padded L h [] k = refl
  all-padded L h (r ∷ l) k = ap₂ (λ (s : List ℕ) (t : List (List ℕ)). s ∷ t) (held-padded L x.frontier.length r rep.sized.start h (k r (Memᴰ.head refl))) (all-padded L h l (λ q i. k q (Memᴰ.tail i)))

  pub rep-wider : Wider x.frontier ws slot_length
  rep-wider = record { longer = rep.sized.most; room = rep.sized.room }

  pub rep-grows : (L : ℕ) → x.frontier.length ≤ L → L ≤ slot_length → {y : Computation} {ws' : List ℕ} → Grows x ws L y ws' → Rep g f origin y ws' db m
  rep-grows L longer most {ws'} h = subst (λ (z : Computation). Rep g f origin z ws' db m) (sym (h.is ∙ ap (λ (n : Frontier). with_frontier n x) h.widens.is)) (record {
    sized = record { start = omega (arith, rep.sized.start, longer); most = most; room = omega (arith, rep.sized.room, h.widens.same_length) };
    stands =
        let v = h.widens.waits (map (held x.frontier.length) m.rest) (map (held x.frontier.length) m.pending) rep.stands.0 in
        let a = all-padded L longer m.rest (λ r i. (rep.traced r (inl i)).1) in
        let b = all-padded L longer m.pending (λ r i. (rep.traced r (inr i)).1) in (
          subst (λ (n : Frontier). Waits n ws' (map (held L) m.rest) (map (held L) m.pending)) h.widens.is
              (subst (λ (l : List (List ℕ)). Waits h.frontier ws' (map (held L) m.rest) l) b (subst (λ (l : List (List ℕ)). Waits h.frontier ws' l (map (padded L) (map (held x.frontier.length) m.pending))) a v)),
          rep.stands.1,
        );
    counts = record { stats = rep.counts.stats; found = rep.counts.found };
    few = rep.few;
    filed = rep.filed;
    traced = λ r k. let w = rep.traced r k in (w.0, omega (arith, w.1, longer));
  })

-- ---- a route that was extended

-- it is no endpoint: it waits
pub extend-only : {x : Computation} (e : Ends) (f : Filing) {item ws : List ℕ} (db : List ℕ) {a : Course} {ws' : List ℕ} → Extends x ws item a ws' → ExtendsTo x false e f item ws db a ws' db
unfolding keep
extend-only {x} e f {ws} db {a} {ws'} h g origin m q n rep few at good ends is = push-tells rep q good (subst (λ (i : List ℕ). Extends x ws i a ws') is h)

-- the edges in its words
pub held-part : (g : View) (file L : ℕ) (q : Route) {item : List ℕ} → Waiting g file L q → 2 ≤ L → item ≡ held L q → take (get_or item 0 0 + 1 - 1) (drop 1 item) ≡ q.edges
held-part g file L q {item} good two is =
    let c : get_or item 0 0 ≡ length q.edges = ap (λ (l : List ℕ). get_or l 0 0) is ∙ held-count L q.start q.edges (omega (arith, two)) in
    let n : get_or item 0 0 + 1 - 1 ≡ length q.edges = omega (arith, c) in
    ap (λ (k : ℕ). take k (drop 1 item)) n ∙ ap (λ (l : List ℕ). take (length q.edges) (drop 1 l)) is ∙ (held-carries L q.start q.edges two good.1).edges

-- an endpoint: it is counted and filed, then it waits
pub extend-found : (x : Computation) (e : Ends) (f : Filing) {item ws : List ℕ} (db : List ℕ) {db' : List ℕ} → db' ≡ filed_next f x.found e (take (get_or item 0 0 + 1 - 1) (drop 1 item)) db → {y : Computation} → y ≡ found_one x → {a : Course} {ws' : List ℕ} → Extends y ws item a ws'
    → ExtendsTo x true e f item ws db a ws' db'
extend-found x e f {item} {ws} db {db'} w {y} made {a} {ws'} h g origin m q n rep few at good ends is =
    let z : db' ≡ filed_next f x.found (ends_of q) q.edges db =
    w ∙ ap (λ (l : List ℕ). filed_next f x.found e l db) (held-part g f.file x.frontier.length q good rep.sized.start is) ∙ ap (λ (k : Ends). filed_next f x.found k q.edges db) ends in
    let u : Extends (found_one x) ws (held x.frontier.length q) a ws' = subst (λ (k : Computation). Extends k ws (held x.frontier.length q) a ws') made (subst (λ (i : List ℕ). Extends y ws i a ws') is h) in
    let r = rep-found rep q good few at z in
    rw (keep-is rep q good (frame_of x)) (push-tells r q good u)

-- what the push behind it is given
pub extend-push : {x y : Computation} {f : Filing} {item ws db : List ℕ} → Extendable x f item ws db → y ≡ found_one x → Framed y.frontier ws × IsSlot y.frontier.length item
extend-push {item} {ws} h e = subst (λ (z : Computation). Framed z.frontier ws × IsSlot z.frontier.length item) (sym e) (h.framed, h.slot)

-- ---- what a caller draws from an answer

going-refused : (x : Computation) (r : PartialPathRefusal) → goes x ≡ stops r → ⊥
going-refused x r e = let z : ◌≡◌ {A = ℕ} 0 1 = cc in omega arith

module _ (g : View) (f : Filing) (origin : List ℕ) (fr : ExtractionFrame) where
  pub tells-on : (a : Course) (ws db : List ℕ) (t : Answer PartialPathRefusal (State Route)) (x : Computation) → Tells g f origin fr a ws db t → a ≡ goes x → (m : State Route) × (t ≡ ok m) × (frame_of x ≡ fr) × Rep g f origin x ws db m
  tells-on (goes y) ws db (ok m) x h e =
      let z : y ≡ x = cc in
      (m, refl, (subst (λ (k : Computation). (frame_of k ≡ fr) × Rep g f origin k ws db m) z h).0, (subst (λ (k : Computation). (frame_of k ≡ fr) × Rep g f origin k ws db m) z h).1)
  tells-on (goes y) ws db (refuse r) x h e = absurd h
  tells-on (stops r) ws db t x h e = absurd (going-refused x r (sym e))

  pub tells-refused : (a : Course) (ws db : List ℕ) (t : Answer PartialPathRefusal (State Route)) (r : PartialPathRefusal) → Tells g f origin fr a ws db t → a ≡ stops r → (t ≡ refuse r) × Untouched f origin db
  tells-refused (goes x) ws db t r h e = absurd (going-refused x r e)
  tells-refused (stops y) ws db (ok m) r h e = absurd h
  tells-refused (stops y) ws db (refuse z) r h e = let w : y ≡ r = cc in (ap (λ (v : PartialPathRefusal). refuse v) (sym h.0 ∙ w), h.1)
