-- A search in code goes on as the enumeration does: what is counted, kept and pushed.
-- Serves document 01, "Answer" and "Budget and frontier"; 31 and 32 of "Turned back".
use Rattle.std.specs.Prelude.{ℕ, zero, suc, ◌+◌, ◌-◌, ◌*◌, ◌<◌, ◌≤◌, ◌≡◌, ◌⊎◌, Bool, length, get_or, Option, Some, None, Ok, Err}
use Rattle.std.proofs.Common.{arith, mul-suc, ap₂, ◌∙◌, inl, inr, ⊎_elim, ltb→lt, length-append}
use Rattle.std.proofs.Math.Path.{refl, sym, ap, subst}
use Rattle.std.proofs.Math.Bool.{true, false}
use mathlib.Core.List.Memᴰ
use mathlib.Core.List.{List, [], ◌∷◌, ◌++◌, map, append_assoc, Memᴰ}
use Rattle.std.proofs.Math.Dec.{T, ltb}
use Rattle.std.proofs.lemmas.List.{length-replicate}
use Rattle.semantics.specs.declared.search.SearchStats.{SearchStats}
use Rattle.semantics.specs.declared.refusal.SearchRefusal.{SearchRefusal}
use Rattle.semantics.specs.declared.refusal.SearchRefusal.TheVariants as Search
use Rattle.semantics.specs.Lists.{pick}
use Rattle.semantics.specs.Limits.{below, slot_length}
use Rattle.semantics.specs.Answer.{Answer, ok, refuse, ok_if}
use Rattle.semantics.specs.Graph.{View}
use Rattle.semantics.specs.Path.{Path}
use Rattle.semantics.specs.Enumeration.{State, Setting, Area, slots, keep, keep_if, place, push_item, with_pending, with_kept, with_stats, add_complete, flag_complete}
use Rattle.semantics.specs.Recorded.{edge_lists}
use Rattle.semantics.specs.Words.{zeros, encode, flat, area}
use Rattle.semantics.specs.Words.Laws.{length-encode, length-flat}
use Rattle.words.specs.Area.{encode-count}
use Rattle.words.specs.Slots.{put_slot, padded}
use Rattle.words.specs.Slots.Laws.{within, length-put, put-at}
use Rattle.path_frontier.specs.declared.frontier.Frontier.{Frontier}
use Rattle.path_budget.specs.Budget.{completion, limits_of}
use Rattle.path_budget.specs.Budget.Laws.{completion-allowed, completion-limits, completion-granted, completion-refused}
use Rattle.path_frontier.specs.Frontier.{pushed, greatest_in, Waits, Pushes, MakesRoom}
use Rattle.path_frontier.specs.Frontier.Laws.{push-frame}
use Rattle.path_frontier.specs.Frontier.Stands.{Stands, stands-done, stands-full}
use Rattle.path.specs.Replays.Calls.{few-edges}
use Rattle.search_state.specs.declared.state.SearchState.{SearchState}
use Rattle.search_state.specs.declared.search.Search as S
use Rattle.search_state.specs.Searches.{Going}
use Rattle.search_state.specs.States.{kept_one, asked, recorded_by, result_after}
use Rattle.search_state.specs.Searches.{going_of, Pushable, Extends}
use Rattle.search_state.specs.Items.Laws.{encode-longer, encode-front}
use Rattle.search_state.specs.declared.progress.Frame.{Frame}
use Rattle.search_state.specs.Progresses.{frame_of}
use Rattle.search_state.specs.Reps.{slot_in, slot_of, Counts, Few, setting_of, Replayed, Rep, Tells}

-- ---- the result area with one more slot

flat-snoc : (L : ℕ) (ls : List (List ℕ)) (l : List ℕ) → flat L (ls ++ (l ∷ [])) ≡ flat L ls ++ encode L l
unfolding flat
flat-snoc L [] l = append-nil (encode L l)
  where
    append-nil : (xs : List ℕ) → xs ++ [] ≡ xs
    append-nil [] = refl
    append-nil (x ∷ xs) = ap (λ (t : List ℕ). x ∷ t) (append-nil xs)
flat-snoc L (x ∷ ls) l = ap (λ (t : List ℕ). encode L x ++ t) (flat-snoc L ls l) ∙ sym (append_assoc (encode L x) (flat L ls) (encode L l))

zeros-split : (a b : ℕ) → zeros (a + b) ≡ zeros a ++ zeros b
zeros-split zero b = ap zeros (let z : 0 + b ≡ b = omega arith in z)
zeros-split (suc a) b = let z : suc a + b ≡ suc (a + b) = omega arith in ap zeros z ∙ ap (λ (t : List ℕ). 0 ∷ t) (zeros-split a b)

pub area-snoc : (L n : ℕ) (ls : List (List ℕ)) (l : List ℕ) → L * length ls + L ≤ n → put_slot L (length ls) (encode L l) (area L n ls) ≡ area L n (ls ++ (l ∷ []))
unfolding area
area-snoc L n ls l h =
    let k = n - L * length (ls ++ (l ∷ [])) in
    let c : length (ls ++ (l ∷ [])) ≡ suc (length ls) = length-append ls (l ∷ []) ∙ (let z : length ls + 1 ≡ suc (length ls) = omega arith in z) in
    let d : L * length (ls ++ (l ∷ [])) ≡ L * length ls + L = ap (λ (x : ℕ). L * x) c ∙ mul-suc L (length ls) in
    let z : zeros (n - L * length ls) ≡ zeros L ++ zeros k = ap zeros (let y : n - L * length ls ≡ L + k = omega (arith, d, h) in y) ∙ zeros-split L k in
    let a : flat L ls ++ zeros (n - L * length ls) ≡ flat L ls ++ zeros L ++ zeros k = ap (λ (t : List ℕ). flat L ls ++ t) z ∙ sym (append_assoc (flat L ls) (zeros L) (zeros k)) in
    ap (put_slot L (length ls) (encode L l)) a
    ∙ put-at L (length ls) (flat L ls) (zeros L) (zeros k) (encode L l) (length-flat L ls) (length-replicate L 0)
    ∙ ap (λ (t : List ℕ). t ++ zeros k) (sym (flat-snoc L ls l))

lists-snoc : (ps : List Path) (q : Path) → edge_lists (ps ++ (q ∷ [])) ≡ edge_lists ps ++ (q.edges ∷ [])
lists-snoc [] q = refl
lists-snoc (p ∷ ps) q = ap (λ (t : List (List ℕ)). p.edges ∷ t) (lists-snoc ps q)

lists_length : (ps : List Path) → length (edge_lists ps) ≡ length ps
lists_length [] = refl
lists_length (p ∷ ps) = ap suc (lists_length ps)

-- ---- a complete path

-- what recording leaves alone
pub record Same (st n : SearchState) (m u : State Path) : Type 0 where
  pub limits : limits_of n.budget ≡ limits_of st.budget
  pub results : n.results ≡ st.results
  pub rest : u.rest ≡ m.rest
  pub pending : u.pending ≡ m.pending
  pub tally : u.tally ≡ m.tally

-- one more complete path, kept or not
pub record Kept (st n : SearchState) (rs : List ℕ) (m u : State Path) : Type 0 where
  pub same : Same st n m u
  pub counts : Counts n rs u
  pub few : (k : ℕ) → Few k m.stats → Few (k + 1) u.stats

module _ {R : Type 0} (c : Setting R) (full : R) {st : SearchState} (lent : c.results ≡ slots st.results full) (limit : c.max_complete ≡ st.budget.max_complete)
    {rs : List ℕ} {m : State Path} (k : Counts st rs m) (q : Path) where
  abbrev counted : State Path
  counted = with_stats m (add_complete m.stats)

  keep-is : {b : Bool} → (completion st.kept st.budget).allowed ≡ b → keep true c m q ≡ keep_if b c counted q
  unfolding keep
  keep-is e = ap (λ (x : Bool). keep_if x c counted q)
      (ap₂ below (sym k.kept) limit ∙ sym (completion-allowed st.kept st.budget) ∙ e)

  place_is : {b : Bool} → ltb st.kept st.results ≡ b → keep_if true c counted q ≡ ok_if b full (with_kept q counted)
  unfolding keep_if place
  place_is e = ap (λ (x : Area R). place x (length m.kept) (with_kept q counted)) lent ∙ ap (λ (x : Bool). ok_if x full (with_kept q counted)) (ap (λ (x : ℕ). ltb x st.results) (sym k.kept) ∙ e)

  answer-is : {b : Bool} → (completion st.kept st.budget).allowed ≡ b → below st.kept st.budget.max_complete ≡ b
  answer-is e = sym (completion-allowed st.kept st.budget) ∙ e

  -- the answer of recording beside the enumeration's
  abbrev pub Records : Option SearchState → List ℕ → Answer R (State Path) → Type 0
  Records (Some n) rs' (ok u) = Kept st n rs' m u
  Records (Some n) rs' (refuse y) = ⊥
  Records None rs' (ok u) = ⊥
  Records None rs' (refuse y) = y ≡ full

  few-more : {n : ℕ} → Few n m.stats → Few (n + 1) (add_complete m.stats)
  few-more f = record { complete = omega (arith, f.complete); rejected = omega (arith, f.rejected); cycles = omega (arith, f.cycles) }

  not-kept : (completion st.kept st.budget).allowed ≡ false → Kept st (asked st) rs m (with_stats counted (flag_complete counted.stats))
  not-kept e = record {
    same = record { limits = completion-limits st.kept st.budget; results = refl; rest = refl; pending = refl; tally = refl };
    counts = record {
      stats = completion-refused st.kept st.budget st.rejected st.cycles (answer-is e) ∙ ap (λ (t : SearchStats). flag_complete (add_complete t)) k.stats;
      kept = k.kept;
      fits = k.fits;
      room = k.room;
      words = k.words;
    };
    few = λ n f. let h = few-more f in record { complete = h.complete; rejected = h.rejected; cycles = h.cycles };
  }

  newly-kept : (completion st.kept st.budget).allowed ≡ true → st.kept < st.results → Kept st (kept_one (asked st)) (put_slot slot_length st.kept (slot_of q) rs) m (with_kept q counted)
  newly-kept e h =
      let i = within slot_length st.results st.kept rs h k.room in
      let n : length (put_slot slot_length st.kept (slot_of q) rs) ≡ length rs = length-put slot_length st.kept (slot_of q) rs (length-encode slot_length q.edges) i in
      let j : st.kept ≡ length (edge_lists m.kept) = k.kept ∙ sym (lists_length m.kept) in
      record {
        same = record { limits = completion-limits st.kept st.budget; results = refl; rest = refl; pending = refl; tally = refl };
        counts = record {
          stats = completion-granted st.kept st.budget st.rejected st.cycles (answer-is e) ∙ ap add_complete k.stats;
          kept = ap (λ (x : ℕ). x + 1) k.kept ∙ sym (length-append m.kept (q ∷ []));
          fits = omega (arith, h);
          room = subst (λ (x : ℕ). slot_length * st.results ≤ x) (sym n) k.room;
          words =
              ap (λ (x : List ℕ). put_slot slot_length st.kept (slot_of q) x) k.words
              ∙ ap (λ (x : ℕ). put_slot slot_length x (slot_of q) (area slot_length (length rs) (edge_lists m.kept))) j
              ∙ area-snoc slot_length (length rs) (edge_lists m.kept) q.edges (subst (λ (x : ℕ). slot_length * x + slot_length ≤ length rs) j i)
              ∙ ap (area slot_length (length rs)) (sym (lists-snoc m.kept q))
              ∙ ap (λ (x : ℕ). area slot_length x (edge_lists (m.kept ++ (q ∷ [])))) (sym n);
        };
        few = λ x f. few-more f;
      }

  pub record-tells : {a : Option SearchState} {rs' : List ℕ} → a ≡ recorded_by st → rs' ≡ result_after st (slot_of q) rs → Records a rs' (keep true c m q)
  unfolding recorded_by result_after
  record-tells {rs'} e w = subst (λ (x : Option SearchState). Records x rs' (keep true c m q)) (sym e) (subst (λ (x : List ℕ). Records (recorded_by st) x (keep true c m q)) (sym w) (on (completion st.kept st.budget).allowed (ltb st.kept st.results) refl refl))
    where
      on : (b d : Bool) → (completion st.kept st.budget).allowed ≡ b → ltb st.kept st.results ≡ d
          → Records (pick b (pick d (Some (kept_one (asked st))) None) (Some (asked st))) (pick b (pick d (put_slot slot_length st.kept (slot_of q) rs) rs) rs) (keep true c m q)
      on false d x y = unfold keep_if in subst (λ (z : Answer R (State Path)). Records (Some (asked st)) rs z) (sym (keep-is x)) (not-kept x)
      on true false x y = unfold ok_if in subst (λ (z : Answer R (State Path)). Records None rs z) (sym (keep-is x ∙ place_is y)) refl
      on true true x y = unfold ok_if in subst (λ (z : Answer R (State Path)). Records (Some (kept_one (asked st))) (put_slot slot_length st.kept (slot_of q) rs) z) (sym (keep-is x ∙ place_is y)) (newly-kept x (ltb→lt st.kept st.results (subst T (sym y) tt)))

-- ---- a push

abbrev with_frontier : Frontier → S.Search → S.Search
with_frontier f s = record { frontier = f; state = s.state }

-- the words of waiting paths in longer slots
all-longer : (L M : ℕ) → L ≤ M → (l : List Path) → ((p : Path) → Memᴰ p l → length p.edges < L) → map (padded M) (map (slot_in L) l) ≡ map (slot_in M) l
all-longer L M h [] k = refl
all-longer L M h (p ∷ l) k = ap₂ (λ (s : List ℕ) (t : List (List ℕ)). s ∷ t) (encode-longer L M p.edges (k p (Memᴰ.head refl)) h) (all-longer L M h l (λ q i. k q (Memᴰ.tail i)))

module _ {g : View} {r : ℕ} {s : S.Search} {ws rs : List ℕ} {m : State Path} (rep : Rep g r s ws rs m) where
  -- longer slots stand for the same state
  module _ {words : ℕ} {f : Frontier} {ws₁ : List ℕ} (room : MakesRoom s.frontier ws words f ws₁) where
    roomy-frame : frame_of (with_frontier f s) ≡ frame_of s
    roomy-frame = ap (λ (z : Frontier). frame_of (with_frontier z s)) room.widens.is

    roomy-rep : Rep g r (with_frontier f s) ws₁ rs m
    roomy-rep =
        let L = s.frontier.length in
        let c : f.capacity ≡ s.frontier.capacity = ap (λ (z : Frontier). z.capacity) room.widens.is in
        let v = room.widens.waits (map (slot_in L) m.rest) (map (slot_in L) m.pending) rep.stands.0 in
        let a = all-longer L f.length room.longer m.rest (λ p i. rep.sized.fits p (inl i)) in
        let b = all-longer L f.length room.longer m.pending (λ p i. rep.sized.fits p (inr i)) in
        record {
          sized = record { wider = record { longer = room.most; room = omega (arith, rep.sized.wider.room, room.widens.same_length, c) }; fits = λ p k. let h = rep.sized.fits p k in omega (arith, h, room.longer) };
          stands = (
            subst (λ (l : List (List ℕ)). Waits f ws₁ (map (slot_in f.length) m.rest) l) b
                (subst (λ (l : List (List ℕ)). Waits f ws₁ l (map (padded f.length) (map (slot_in L) m.pending))) a v),
            ap greatest_in room.widens.is ∙ rep.stands.1,
          );
          counts = record { stats = rep.counts.stats; kept = rep.counts.kept; fits = rep.counts.fits; room = rep.counts.room; words = rep.counts.words };
          few = rep.few;
          replays = rep.replays;
        }

  -- a path whose edges have room in a slot
  module _ (q : Path) (good : Replayed g r q) (short : length q.edges < s.frontier.length) where
    in-snoc : (p : Path) → Memᴰ p m.rest ⊎ Memᴰ p (m.pending ++ (q ∷ [])) → Replayed g r p × (length p.edges < s.frontier.length)
    in-snoc p (inl a) = (rep.replays p (inl a), rep.sized.fits p (inl a))
    in-snoc p (inr a) = ⊎_elim
        (λ (b : Memᴰ p m.pending). (rep.replays p (inr b), rep.sized.fits p (inr b)))
        (λ (b : Memᴰ p (q ∷ [])). subst (λ (z : Path). Replayed g r z × (length z.edges < s.frontier.length)) (sym (Memᴰ.eq_of_singleton b)) (good, short))
        (Memᴰ.append_cases m.pending a)

    slot-tells : {a : Option Frontier} {ws' : List ℕ} → Pushes s.frontier ws (slot_in s.frontier.length q) a ws' → Tells g r (frame_of s) (going_of s.state a) ws' rs (push_item (setting_of (frame_of s)) q m)
    slot-tells {a} {ws'} x = on a refl
      where
        on : (p : Option Frontier) → a ≡ p → Tells g r (frame_of s) (going_of s.state p) ws' rs (push_item (setting_of (frame_of s)) q m)
        on (Some f) e =
            let L = s.frontier.length in
            let d = stands-done (slot_in L) (setting_of (frame_of s)) Search.NoWaitingSlot s.frontier refl ws m q a ws' x rep.stands f e in
            let h = push-frame s.frontier ws (slot_in L q) a ws' x f e in
            subst (λ (z : Frontier). Tells g r (frame_of s) (Ok (with_frontier z s)) ws' rs (push_item (setting_of (frame_of s)) q m)) (sym h.1)
            (subst (λ (y : Answer SearchRefusal (State Path)). Tells g r (frame_of s) (Ok (with_frontier (pushed s.frontier) s)) ws' rs y) (sym d.0) (
              refl,
              record {
                sized = record { wider = record { longer = rep.sized.wider.longer; room = omega (arith, rep.sized.wider.room, x.same_length) }; fits = λ p k. (in-snoc p k).1 };
                stands = subst (λ (z : Frontier). Stands (slot_in L) z ws' (with_pending q m)) h.1 d.1;
                counts = record { stats = rep.counts.stats; kept = rep.counts.kept; fits = rep.counts.fits; room = rep.counts.room; words = rep.counts.words };
                few = rep.few;
                replays = λ p k. (in-snoc p k).0;
              },
            ))
        on None e =
            subst (λ (y : Answer SearchRefusal (State Path)). Tells g r (frame_of s) (Err Search.NoWaitingSlot) ws' rs y) (sym (stands-full (slot_in s.frontier.length) (setting_of (frame_of s)) Search.NoWaitingSlot s.frontier refl ws m q a ws' x rep.stands e)) refl

-- the words of a path can be pushed
pub rep-pushable : {g : View} {r : ℕ} {s : S.Search} {ws rs : List ℕ} {m : State Path} → Rep g r s ws rs m → (q : Path) → Replayed g r q → {item : List ℕ} → item ≡ slot_of q → Pushable s ws item
rep-pushable {g} {r} rep q good {item} e =
    let n = few-edges g r q.edges q good in
    let k = encode-count slot_length q.edges (omega (arith, n)) in
    let c : get_or item 0 0 ≡ length q.edges = ap (λ (l : List ℕ). get_or l 0 0) e ∙ k in
    record { framed = rep.stands.0.framed; wider = rep.sized.wider; slot = ap length e ∙ length-encode slot_length q.edges; short = omega (arith, c, n) }

-- room is made for the path, then it is pushed
pub push-tells : {g : View} {r : ℕ} {s : S.Search} {ws rs : List ℕ} {m : State Path} → Rep g r s ws rs m → (q : Path) → Replayed g r q → {a : Going} {ws' : List ℕ} → Extends s ws (slot_of q) a ws' → Tells g r (frame_of s) a ws' rs (push_item (setting_of (frame_of s)) q m)
push-tells {g} {r} {s} {ws} {rs} {m} rep q good {ws'} x =
    let L = x.roomy.length in
    let words = get_or (slot_of q) 0 0 + 1 in
    let n = few-edges g r q.edges q good in
    let k = encode-count slot_length q.edges (omega (arith, n)) in
    let h : length q.edges < L = omega (arith, x.makes.enough, k) in
    let p = subst (λ (w : List ℕ). Pushes x.roomy x.words w x.pushed ws') (encode-front L slot_length q.edges h x.makes.most) x.pushes in
    let t = slot-tells (roomy-rep rep x.makes) q good h p in
    subst (λ (y : Going). Tells g r (frame_of s) y ws' rs (push_item (setting_of (frame_of s)) q m)) (sym x.is)
    (subst (λ (z : Frame). Tells g r z (going_of s.state x.pushed) ws' rs (push_item (setting_of z) q m)) (roomy-frame rep x.makes) t)

-- ---- what a caller draws from an answer

going-refused : (s : S.Search) (x : SearchRefusal) → Ok s ≡ Err x → ⊥
going-refused s x e = let z : ◌≡◌ {A = ℕ} 0 1 = cc in omega arith

module _ (g : View) (r : ℕ) (f : Frame) where
  pub tells-on : (a : Going) (ws rs : List ℕ) (t : Answer SearchRefusal (State Path)) (s : S.Search) → Tells g r f a ws rs t → a ≡ Ok s → (m : State Path) × (t ≡ ok m) × (frame_of s ≡ f) × Rep g r s ws rs m
  tells-on (Ok s') ws rs (ok m) s h e = let z : s' ≡ s = cc in (m, refl, (subst (λ (x : S.Search). (frame_of x ≡ f) × Rep g r x ws rs m) z h).0, (subst (λ (x : S.Search). (frame_of x ≡ f) × Rep g r x ws rs m) z h).1)
  tells-on (Ok s') ws rs (refuse y) s h e = absurd h
  tells-on (Err x) ws rs t s h e = absurd (going-refused s x (sym e))

  pub tells-refused : (a : Going) (ws rs : List ℕ) (t : Answer SearchRefusal (State Path)) (x : SearchRefusal) → Tells g r f a ws rs t → a ≡ Err x → t ≡ refuse x
  tells-refused (Ok s) ws rs t x h e = absurd (going-refused s x e)
  tells-refused (Err y) ws rs (ok m) x h e = absurd h
  tells-refused (Err y) ws rs (refuse z) x h e = let w : y ≡ x = cc in ap (λ (v : SearchRefusal). refuse v) (sym h ∙ w)
