-- Outcomes of an extension.
-- Serves document 01, "Answer"; 31 and 32 of "Turned back".
use Rattle.std.specs.Prelude.{ℕ, ◌+◌, ◌≡◌, refl, Bool, true, false, Option, Some, None, Ok, Err}
use Rattle.std.proofs.Common.{sym, ap, subst, ◌∙◌, inl, inr, ⊎_elim}
use mathlib.Core.List.{List, map, Memᴰ}
use Rattle.semantics.specs.declared.refusal.SearchRefusal.{SearchRefusal}
use Rattle.semantics.specs.declared.refusal.SearchRefusal.TheVariants as Search
use Rattle.semantics.specs.Answer.{Answer, ok, refuse, and_then}
use Rattle.semantics.specs.Answer.Laws.{and_then-ok}
use Rattle.semantics.specs.Graph.{View}
use Rattle.semantics.specs.Path.{Path}
use Rattle.semantics.specs.Enumeration.{State, Setting, Tally, keep, with_pending, push_item}
use Rattle.semantics.specs.Enumeration.Laws.{place_ok}
use Rattle.path_frontier.specs.Frontier.{Waits}
use Rattle.search_state.specs.declared.state.SearchState.{SearchState}
use Rattle.search_state.specs.declared.search.Search as S
use Rattle.search_state.specs.Searches.{Going}
use Rattle.search_state.specs.States.{recorded_by, result_after}
use Rattle.search_state.specs.Items.{Clear}
use Rattle.search_state.specs.Items.Laws.{clear-slot}
use Rattle.search_state.specs.Searches.{with_state, Pushable, Extends, Clears}
use Rattle.search_state.specs.declared.progress.Frame.{Frame}
use Rattle.search_state.specs.Progresses.{frame_of}
use Rattle.search_state.specs.Reps.{slot_in, slot_of, Slotted, Few, setting_of, Rep, Tells}
use Rattle.search_state.specs.Reps.Laws.{Kept, Records, record-tells, push-tells}
use Rattle.search_state.specs.Extensions.{Extendable, ExtendsTo}

-- ---- not complete: it waits
pub extend-only : {s : S.Search} {ws : List ℕ} (rs : List ℕ) {item : List ℕ} {a : Going} {ws' : List ℕ} → Extends s ws item a ws' → ExtendsTo s false ws rs item a ws' rs
unfolding keep
extend-only {s} {ws} rs {a} {ws'} x g r m q n rep few at good e = push-tells rep q good (subst (λ (i : List ℕ). Extends s ws i a ws') e x)

-- ---- complete
module _ (s : S.Search) (ws rs item : List ℕ) {b : Option SearchState} {rs' : List ℕ} (is : b ≡ recorded_by s.state) (w : rs' ≡ result_after s.state item rs) where
  module _ {g : View} {r : ℕ} {m : State Path} (q : Path) (rep : Rep g r s ws rs m) (e : item ≡ slot_of q) where
    told : Records (setting_of (frame_of s)) Search.NoResultSlot refl refl rep.counts q b rs' (keep true (setting_of (frame_of s)) m q)
    told = record-tells (setting_of (frame_of s)) Search.NoResultSlot refl refl rep.counts q is (w ∙ ap (λ (i : List ℕ). result_after s.state i rs) e)

    kept-done : (n : SearchState) → b ≡ Some n → (u : State Path) × (keep true (setting_of (frame_of s)) m q ≡ ok u) × Kept s.state n rs' m u
    kept-done n d = on (keep true (setting_of (frame_of s)) m q) refl (subst (λ (y : Option SearchState). Records (setting_of (frame_of s)) Search.NoResultSlot refl refl rep.counts q y rs' (keep true (setting_of (frame_of s)) m q)) d told)
      where
        on : (t : Answer SearchRefusal (State Path)) → keep true (setting_of (frame_of s)) m q ≡ t → Records (setting_of (frame_of s)) Search.NoResultSlot refl refl rep.counts q (Some n) rs' t
            → (u : State Path) × (keep true (setting_of (frame_of s)) m q ≡ ok u) × Kept s.state n rs' m u
        on (ok u) k h = (u, k, h)
        on (refuse y) k h = absurd h

    kept_full : b ≡ None → keep true (setting_of (frame_of s)) m q ≡ refuse Search.NoResultSlot
    kept_full d = on (keep true (setting_of (frame_of s)) m q) (subst (λ (y : Option SearchState). Records (setting_of (frame_of s)) Search.NoResultSlot refl refl rep.counts q y rs' (keep true (setting_of (frame_of s)) m q)) d told)
      where
        on : (t : Answer SearchRefusal (State Path)) → Records (setting_of (frame_of s)) Search.NoResultSlot refl refl rep.counts q None rs' t → t ≡ refuse Search.NoResultSlot
        on (ok u) h = absurd h
        on (refuse y) h = ap (λ (x : SearchRefusal). refuse x) h

    kept-rep : {n : SearchState} {u : State Path} {k : ℕ} → Kept s.state n rs' m u → Few k m.stats → k + 1 ≡ m.tally.looked → Rep g r (with_state n s) ws rs' u
    kept-rep {u} {k} h f l = let L = s.frontier.length in record {
      sized = subst (λ (x : List Path). Slotted s.frontier ws x u.pending) (sym h.same.rest) (subst (λ (x : List Path). Slotted s.frontier ws m.rest x) (sym h.same.pending) rep.sized);
      stands = (
        subst (λ (x : List Path). Waits s.frontier ws (map (slot_in L) x) (map (slot_in L) u.pending)) (sym h.same.rest)
            (subst (λ (x : List Path). Waits s.frontier ws (map (slot_in L) m.rest) (map (slot_in L) x)) (sym h.same.pending) rep.stands.0),
        rep.stands.1 ∙ ap (λ (t : Tally). t.waited) (sym h.same.tally),
      );
      counts = h.counts;
      few = subst (λ (x : ℕ). Few x u.stats) (l ∙ ap (λ (t : Tally). t.looked) (sym h.same.tally)) (h.few k f);
      replays = λ p k. ⊎_elim (λ (x : Memᴰ p u.rest). rep.replays p (inl (subst (λ (y : List Path). Memᴰ p y) h.same.rest x))) (λ (x : Memᴰ p u.pending). rep.replays p (inr (subst (λ (y : List Path). Memᴰ p y) h.same.pending x))) k;
    }

    kept_frame : {n : SearchState} {u : State Path} → Kept s.state n rs' m u → frame_of (with_state n s) ≡ frame_of s
    kept_frame h = λ i. record { order = s.frontier.order; limits = h.same.limits i; waiting = s.frontier.capacity; results = h.same.results i }

  pub extend-full : b ≡ None → ExtendsTo s true ws rs item (Err Search.NoResultSlot) ws rs'
  extend-full d g r m q n rep few at good e = rw (kept_full q rep e d) refl

  pub extend-kept : (n : SearchState) → b ≡ Some n → {t : S.Search} → t ≡ with_state n s → {a : Going} {ws' : List ℕ} → Extends t ws item a ws' → ExtendsTo s true ws rs item a ws' rs'
  extend-kept n d {t} made {a} {ws'} x g r m q k rep few at good e =
      let h = kept-done q rep e n d in
      let u = h.0 in
      let y : Extends (with_state n s) ws (slot_of q) a ws' = subst (λ (z : S.Search). Extends z ws (slot_of q) a ws') made (subst (λ (i : List ℕ). Extends t ws i a ws') e x) in
      let v = push-tells (kept-rep q rep e h.2 few at) q good y in
      rw h.1 (subst (λ (f : Frame). Tells g r f a ws' rs' (push_item (setting_of f) q u)) (kept_frame q rep e h.2) v)

-- what the push behind it is given
pub extend-push : {s t : S.Search} (n : SearchState) {ws rs item : List ℕ} → Extendable s ws rs item → t ≡ with_state n s → Pushable t ws item
extend-push n {ws} {item} x e = subst (λ (y : S.Search). Pushable y ws item) (sym e) (record { framed = x.pushable.framed; wider = x.pushable.wider; slot = x.pushable.slot; short = x.pushable.short })

-- ---- the item behind it

pushed-is : (c : Setting SearchRefusal) (q : Path) (m u : State Path) → push_item c q m ≡ ok u → with_pending q m ≡ u
unfolding push_item
pushed-is c q m u e = place_ok c.waiting _ _ u e

-- the path waits, so that its words have a place in a slot
pub extend-clears : (g : View) (r : ℕ) (f : Frame) (c : Bool) (a : Going) (ws rs : List ℕ) (m : State Path) (q : Path) {item : List ℕ} → item ≡ slot_of q → Tells g r f a ws rs (and_then (keep c (setting_of f) m q) (push_item (setting_of f) q)) → Clears a item
extend-clears g r f c (Err x) ws rs m q e h = tt
extend-clears g r f c (Ok s) ws rs m q {item} e h = on (and_then (keep c (setting_of f) m q) (push_item (setting_of f) q)) refl h
  where
    on : (t : Answer SearchRefusal (State Path)) → and_then (keep c (setting_of f) m q) (push_item (setting_of f) q) ≡ t → Tells g r f (Ok s) ws rs t → Clears (Ok s) item
    on (refuse y) k h = absurd h
    on (ok u) k h =
        let p = and_then-ok (keep c (setting_of f) m q) (push_item (setting_of f) q) u k in
        let v : with_pending q p.0 ≡ u = pushed-is (setting_of f) q p.0 u p.2 in
        let i : Memᴰ q u.pending = subst (λ (x : State Path). Memᴰ q x.pending) v (mathlib.Core.List.Memᴰ.append_right p.0.pending (mathlib.Core.List.Memᴰ.head refl)) in
        subst (Clear s.frontier.length) (sym e) (clear-slot s.frontier.length q.edges (h.1.sized.fits q (inr i)) h.1.sized.wider.longer)
