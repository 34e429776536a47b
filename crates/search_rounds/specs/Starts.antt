-- The start of a search from a reference: 10 and 11, the first push, and the state from which it is driven. For every choice of what is tried.
-- Serves document 01, "Answer"; 10, 11 and 31 of "Turned back".
use Rattle.std.specs.Prelude.{ℕ, ◌-◌, ◌*◌, ◌/◌, ◌≤◌, ◌≡◌, ◌⊎◌, length, drop, get_or, Ok, Err}
use Rattle.std.proofs.Common.{arith, ◌∙◌, ⊎_elim}
use Rattle.std.proofs.Math.Path.{refl, sym, ap, subst}
use mathlib.Core.List.Memᴰ
use mathlib.Core.List.{List, [], ◌∷◌, Memᴰ}
use Rattle.std.proofs.lemmas.List.{length-replicate}
use Rattle.semantics.specs.Entries.{request_of}
use Rattle.semantics.specs.declared.graph.Node.{Node}
use Rattle.semantics.specs.declared.search.SearchLimits.{SearchLimits}
use Rattle.semantics.specs.declared.search.SearchOrder.{SearchOrder}
use Rattle.semantics.specs.declared.search.SearchStats.{SearchStats}
use Rattle.semantics.specs.declared.refusal.PathRefusal.{PathRefusal}
use Rattle.semantics.specs.declared.refusal.SearchRefusal.{SearchRefusal}
use Rattle.semantics.specs.declared.refusal.SearchRefusal.TheVariants as Search
use Rattle.semantics.specs.Limits.{base, max_expansions, slot_length, steps_length}
use Rattle.semantics.specs.Answer.{Answer, ok, refuse, and_then, wrap}
use Rattle.semantics.specs.Graph.{Graph, View, view_of}
use Rattle.semantics.specs.Path.{Path, from_reference, replay, append_all}
use Rattle.semantics.proofs.Theorems.Path.Laws.{replay-of}
use Rattle.semantics.specs.Enumeration.{State, Setting, Try, blank, with_pending, push_item, seed, run, merge, enumerate}
use Rattle.semantics.specs.Enumeration.Laws.{place_ok}
use Rattle.semantics.specs.Words.{zeros, encode}
use Rattle.semantics.specs.Words.Laws.{area-none, whole-fits}
use Rattle.semantics.specs.Calls.{setting_of}
use Rattle.storage.specs.Index.{node_row, Loaded}
use Rattle.semantics.specs.declared.replayed.Step.{Step}
use Rattle.stepping.specs.Steps.{Effect}
use Rattle.std.specs.Prelude.{Ok, Err}
use Rattle.stepping.specs.StepWords.{with_step}
use Rattle.stepping.specs.Judged.{Stepped, begun_of}
use Rattle.stepping.specs.Judged.Laws.{Begun, begun-done, begun-refused}
use Rattle.path.specs.Replays.Laws.{nodes-are}
use Rattle.path.specs.Values.Laws.{empty-room}
use Rattle.words.specs.Slots.Wider.{zeros-drop}
use Rattle.path_frontier.specs.declared.frontier.Frontier.{Frontier}
use Rattle.path_frontier.specs.Frontier.{short_slot, empty}
use Rattle.path_frontier.specs.Frontier.Laws.{framed-empty}
use Rattle.path_frontier.specs.Frontier.Stands.{stands-blank}
use Rattle.search_state.specs.declared.state.SearchState.{SearchState}
use Rattle.search_state.specs.declared.search.Search as S
use Rattle.search_state.specs.Searches.{Going}
use Rattle.search_state.specs.States.{new_state}
use Rattle.search_state.specs.Searches.{Pushable, Extends}
use Rattle.search_state.specs.Reps as R
use Rattle.search_state.specs.declared.progress.Frame.{Frame}
use Rattle.search_state.specs.Progresses.{frame_of}
use Rattle.search_state.specs.Reps.{slot_in, slot_of, Rep, Tells}
use Rattle.search_state.specs.Reps.Laws.{push-tells, tells-on, tells-refused}
use Rattle.search_rounds.specs.Drives.{SearchEnd}
use Rattle.search_rounds.specs.Drives.{Tries, Driving, Ends, run_from, DrivenTo}

-- ---- the definition, from the first push on

-- a search that starts with the path of a reference alone
abbrev pub from_start : Setting SearchRefusal → (Path → List (Try SearchRefusal Path)) → View → ℕ → Answer SearchRefusal (State Path)
from_start c f g r = and_then (wrap Search.Path (from_reference g r)) (λ p. enumerate c f max_expansions (p ∷ []))

-- what the definition answers to a request
abbrev pub answer_to : Tries → Graph → SearchOrder → SearchLimits → List ℕ → List ℕ → ℕ → Answer SearchRefusal (State Path)
answer_to tries g o l ws rs n = from_start (setting_of base (request_of o l ws rs n)) (tries l.length (view_of g)) (view_of g) n

-- nothing waits in short slots, as many as there are of full length, and nothing is counted
abbrev pub first_of : SearchOrder → SearchLimits → List ℕ → List ℕ → S.Search
first_of o l ws rs = record { frontier = empty o short_slot (length ws / slot_length); state = new_state l (length rs / slot_length) }

-- that state: the path of the reference was pushed, and nothing else was done
pub record Begins (g : Graph) (o : SearchOrder) (l : SearchLimits) (ws rs : List ℕ) (n : ℕ) (index steps item : List ℕ) (t : S.Search) (ws' rs' : List ℕ) (v : Driving index steps item t ws' rs') : Type 0 where
  pub graph : v.graph ≡ g
  pub starts : from_reference (view_of g) n ≡ ok v.first
  pub frame : frame_of t ≡ frame_of (first_of o l ws rs)
  pub pushed : push_item (R.setting_of (frame_of (first_of o l ws rs))) v.first blank ≡ ok v.model
  pub unexpanded : t.state.budget.expanded ≡ 0

-- the search goes on from a state of the enumeration, and where it is driven from there, it ends as the definition says; or it is refused alike
abbrev pub StartedBy : Tries → List ℕ → Graph → SearchOrder → SearchLimits → List ℕ → List ℕ → ℕ → List ℕ → Going → List ℕ → List ℕ → List ℕ → Type 0
StartedBy tries index g o l ws rs n item (Ok t) steps ws' rs' =
    (v : Driving index steps item t ws' rs') × ((r : SearchEnd) (rs'' : List ℕ) → DrivenTo tries index steps item t ws' rs' v r rs'' → Ends r rs'' (answer_to tries g o l ws rs n))
StartedBy tries index g o l ws rs n item (Err z) steps ws' rs' = (rs'' : List ℕ) → Ends (Err z) rs'' (answer_to tries g o l ws rs n)

-- for every choice of what is tried
abbrev pub Started : List ℕ → SearchOrder → SearchLimits → List ℕ → List ℕ → ℕ → List ℕ → Going → List ℕ → List ℕ → List ℕ → Type 0
Started index o l ws rs n item a steps ws' rs' = (tries : Tries) (g : Graph) → Loaded g index → StartedBy tries index g o l ws rs n item a steps ws' rs'

-- the same, and that state is the first one: the path of the reference was pushed, and nothing else was done
abbrev pub FirstStartedBy : Tries → List ℕ → Graph → SearchOrder → SearchLimits → List ℕ → List ℕ → ℕ → List ℕ → Going → List ℕ → List ℕ → List ℕ → Type 0
FirstStartedBy tries index g o l ws rs n item (Ok t) steps ws' rs' =
    (v : Driving index steps item t ws' rs') × ((r : SearchEnd) (rs'' : List ℕ) → DrivenTo tries index steps item t ws' rs' v r rs'' → Ends r rs'' (answer_to tries g o l ws rs n))
    × Begins g o l ws rs n index steps item t ws' rs' v
FirstStartedBy tries index g o l ws rs n item (Err z) steps ws' rs' = (rs'' : List ℕ) → Ends (Err z) rs'' (answer_to tries g o l ws rs n)

-- for every choice of what is tried
abbrev pub FirstStarted : List ℕ → SearchOrder → SearchLimits → List ℕ → List ℕ → ℕ → List ℕ → Going → List ℕ → List ℕ → List ℕ → Type 0
FirstStarted index o l ws rs n item a steps ws' rs' = (tries : Tries) (g : Graph) → Loaded g index → FirstStartedBy tries index g o l ws rs n item a steps ws' rs'

-- what goes on from the first state goes on from a state
pub begun-started : (tries : Tries) (index : List ℕ) (g : Graph) (o : SearchOrder) (l : SearchLimits) (ws rs : List ℕ) (n : ℕ) (item : List ℕ) (a : Going) (steps ws' rs' : List ℕ)
    → FirstStartedBy tries index g o l ws rs n item a steps ws' rs' → StartedBy tries index g o l ws rs n item a steps ws' rs'
begun-started tries index g o l ws rs n item (Ok t) steps ws' rs' h = (h.0, h.1)
begun-started tries index g o l ws rs n item (Err z) steps ws' rs' h = h

-- the first push, for any bound on the expansions
module _ (c : Setting SearchRefusal) (f : Path → List (Try SearchRefusal Path)) (n : ℕ) (p : Path) where
  seeded-full : (z : SearchRefusal) → push_item c p blank ≡ refuse z → enumerate c f n (p ∷ []) ≡ refuse z
  unfolding enumerate seed
  seeded-full z h = rw h

  seeded-run : (m : State Path) → push_item c p blank ≡ ok m → enumerate c f n (p ∷ []) ≡ run c f n (merge c.order m)
  unfolding enumerate seed
  seeded-run m h = rw h

module _ (c : Setting SearchRefusal) (f : Path → List (Try SearchRefusal Path)) (g : View) (r : ℕ) where
  start-refused : (z : PathRefusal) → from_reference g r ≡ refuse z → from_start c f g r ≡ refuse (Search.Path z)
  start-refused z e = rw e

  start-as : (p : Path) → from_reference g r ≡ ok p → from_start c f g r ≡ enumerate c f max_expansions (p ∷ [])
  start-as p e = ap (λ (x : Answer PathRefusal Path). and_then (wrap Search.Path x) (λ y. enumerate c f max_expansions (y ∷ []))) e

  start-full : (p : Path) (z : SearchRefusal) → from_reference g r ≡ ok p → push_item c p blank ≡ refuse z → from_start c f g r ≡ refuse z
  start-full p z e h = start-as p e ∙ seeded-full c f max_expansions p z h

  pub start-run : (p : Path) (m : State Path) → from_reference g r ≡ ok p → push_item c p blank ≡ ok m → from_start c f g r ≡ run c f max_expansions (merge c.order m)
  start-run p m e h = start-as p e ∙ seeded-run c f max_expansions p m h

-- ---- what is built before the first push

module _ (o : SearchOrder) (l : SearchLimits) (ws rs : List ℕ) {f : Frontier} {st : SearchState} (a : f ≡ empty o short_slot (length ws / slot_length)) (b : st ≡ new_state l (length rs / slot_length)) where
  made : record { frontier = f; state = st } ≡ first_of o l ws rs
  made = λ i. record { frontier = a i; state = b i }

  pub made-extends : {item : List ℕ} {y : Going} {ws' : List ℕ} → Extends (record { frontier = f; state = st }) ws item y ws' → Extends (first_of o l ws rs) ws item y ws'
  made-extends {item} {y} {ws'} h = subst (λ (z : S.Search). Extends z ws item y ws') made h

  pub made-pushable : {item : List ℕ} → item ≡ zeros slot_length → Pushable (record { frontier = f; state = st }) ws item
  made-pushable {item} k = subst (λ (z : S.Search). Pushable z ws item) (sym made) (record {
    framed = framed-empty o short_slot (length ws / slot_length) ws (omega arith) (omega (arith, whole-fits slot_length (length ws)));
    wider = record { longer = omega arith; room = whole-fits slot_length (length ws) };
    slot = ap length k ∙ length-replicate {A = ℕ} slot_length 0;
    short = let z : get_or item 0 0 ≡ 0 = ap (λ (w : List ℕ). get_or w 0 0) k in omega (arith, z);
  })

module _ (tries : Tries) {index : List ℕ} {g : Graph} (loaded : Loaded g index) (o : SearchOrder) (l : SearchLimits) (ws rs : List ℕ) (n : ℕ) {x : Effect} (is : x ≡ begun_of (node_row index) n) where
  abbrev answer : Answer SearchRefusal (State Path)
  answer = answer_to tries g o l ws rs n

  begun-in : begun_of (view_of g).node n ≡ x
  begun-in = sym (is ∙ ap (λ (f : ℕ → Node). begun_of f n) (nodes-are g index loaded))

  -- 10 and 11
  pub begin-refused : (rs' : List ℕ) (z : PathRefusal) → x ≡ Err z → Ends (Err (Search.Path z)) rs' answer
  begin-refused rs' z e =
      subst (λ (y : Answer SearchRefusal (State Path)). Ends (Err (Search.Path z)) rs' y)
      (sym (start-refused (setting_of base (request_of o l ws rs n)) (tries l.length (view_of g)) (view_of g) n z (begun-refused (view_of g) (zeros steps_length) empty-room n z (begun-in ∙ e)))) refl

  module _ (s : Step) (e : x ≡ Ok s) where
    abbrev start : Begun (view_of g) (zeros steps_length) empty-room n s
    start = begun-done (view_of g) (zeros steps_length) empty-room n s (begun-in ∙ e)

    abbrev first : S.Search
    first = first_of o l ws rs

    module _ {rs₀ : List ℕ} (cleared : rs₀ ≡ zeros (length rs)) where
      long : length rs₀ ≡ length rs
      long = ap length cleared ∙ length-replicate (length rs) 0

      first-rep : Rep (view_of g) n first ws rs₀ blank
      first-rep = record {
        sized = record { wider = record { longer = omega arith; room = whole-fits slot_length (length ws) }; fits = λ p k. absurd (none p k) };
        stands = stands-blank (slot_in short_slot) o short_slot (length ws / slot_length) ws (omega arith) (omega (arith, whole-fits slot_length (length ws)));
        counts = record {
          stats = refl;
          kept = refl;
          fits = omega arith;
          room = subst (λ (k : ℕ). slot_length * (length rs / slot_length) ≤ k) (sym long) (whole-fits slot_length (length rs));
          words = cleared ∙ ap zeros (sym long) ∙ sym (area-none slot_length (length rs₀));
        };
        few = record { complete = omega arith; rejected = omega arith; cycles = omega arith };
        replays = λ p k. absurd (none p k);
      }
        where
          none : (p : Path) → Memᴰ p [] ⊎ Memᴰ p [] → ⊥
          none p k = ⊎_elim (λ (a : Memᴰ p []). Memᴰ.not-nil a) (λ (a : Memᴰ p []). Memᴰ.not-nil a) k

      module _ {item : List ℕ} (none : item ≡ zeros slot_length) {a : Going} {ws' : List ℕ} (y : Extends first ws item a ws') where
        item-is : item ≡ slot_of start.path
        unfolding encode
        item-is = none ∙ (let z : zeros slot_length ≡ encode slot_length [] = refl in z) ∙ ap (encode slot_length) (sym start.edges)

        good : R.Replayed (view_of g) n start.path
        unfolding append_all
        good = subst (λ (es : List ℕ). replay base (view_of g) n es ≡ ok start.path) (sym start.edges) (replay-of base (view_of g) n [] start.path start.path start.started refl)

        pushed : Answer SearchRefusal (State Path)
        pushed = push_item (R.setting_of (frame_of first)) start.path blank

        told : Tells (view_of g) n (frame_of first) a ws' rs₀ pushed
        unfolding pushed
        told = push-tells first-rep start.path good (subst (λ (i : List ℕ). Extends first ws i a ws') item-is y)

        -- 31
        begin-full : (z : SearchRefusal) → a ≡ Err z → (rs' : List ℕ) → Ends (Err z) rs' answer
        unfolding pushed
        begin-full z d rs' =
            subst (λ (y : Answer SearchRefusal (State Path)). Ends (Err z) rs' y)
            (sym (start-full (setting_of base (request_of o l ws rs n)) (tries l.length (view_of g)) (view_of g) n start.path z start.started (tells-refused (view_of g) n (frame_of first) a ws' rs₀ pushed z told d))) refl

        module _ (t : S.Search) (d : a ≡ Ok t) where
          going : (m : State Path) × (pushed ≡ ok m) × (frame_of t ≡ frame_of first) × Rep (view_of g) n t ws' rs₀ m
          going = tells-on (view_of g) n (frame_of first) a ws' rs₀ pushed t told d

          only : with_pending start.path blank ≡ going.0
          unfolding push_item pushed
          only = place_ok (R.setting_of (frame_of first)).waiting _ _ going.0 going.1

          unexpanded : t.state.budget.expanded ≡ 0
          unexpanded = ap (λ (z : SearchStats). z.expanded) going.3.counts.stats ∙ ap (λ (z : State Path). z.stats.expanded) (sym only)

          unlooked : going.0.tally.looked ≡ 0
          unlooked = ap (λ (z : State Path). z.tally.looked) (sym only)

          module _ {steps : List ℕ} (laid : steps ≡ with_step (zeros steps_length) 0 s) where
            begin-driving : Driving index steps item t ws' rs₀
            begin-driving = record {
              graph = g;
              loaded = loaded;
              reference = n;
              first = start.path;
              starts = start.started;
              begun = subst (λ (z : List ℕ). Stepped z 0 start.path) (sym laid) start.stepped;
              long = let z : length steps ≡ steps_length = ap length laid ∙ refl in omega (arith, z);
              slot = ap length none ∙ length-replicate {A = ℕ} slot_length 0;
              clear = ap (drop t.frontier.length) none ∙ zeros-drop t.frontier.length slot_length;
              model = going.0;
              rep = going.3;
              looked = let z = unlooked in omega (arith, z);
              expanded = let z = unexpanded in omega (arith, z);
            }

            begin-driven : (r : SearchEnd) (rs' : List ℕ) → DrivenTo tries index steps item t ws' rs₀ begin-driving r rs' → Ends r rs' answer
            unfolding begin-driving pushed
            begin-driven r rs' h =
                let k : max_expansions - t.state.budget.expanded ≡ max_expansions = let z = unexpanded in omega (arith, z) in
                let b : run_from tries (view_of g) (frame_of t) (max_expansions - t.state.budget.expanded) going.0 ≡ run_from tries (view_of g) (frame_of first) max_expansions going.0 =
                ap (λ (f : Frame). run_from tries (view_of g) f (max_expansions - t.state.budget.expanded) going.0) going.2 ∙ ap (λ (m : ℕ). run_from tries (view_of g) (frame_of first) m going.0) k in
                let c : answer ≡ run_from tries (view_of g) (frame_of first) max_expansions going.0 = start-run (setting_of base (request_of o l ws rs n)) (tries l.length (view_of g)) (view_of g) n start.path going.0 start.started going.1 in
                subst (λ (z : Answer SearchRefusal (State Path)). Ends r rs' z) (b ∙ sym c) h

            begin-begins : Begins g o l ws rs n index steps item t ws' rs₀ begin-driving
            unfolding begin-driving pushed
            begin-begins = record { graph = refl; starts = start.started; frame = going.2; pushed = going.1; unexpanded = unexpanded }

            on-begun : FirstStartedBy tries index g o l ws rs n item a steps ws' rs₀
            on-begun = subst (λ (b : Going). FirstStartedBy tries index g o l ws rs n item b steps ws' rs₀) (sym d) (begin-driving, begin-driven, begin-begins)

        pub begin-begun : {steps : List ℕ} → steps ≡ with_step (zeros steps_length) 0 s → FirstStartedBy tries index g o l ws rs n item a steps ws' rs₀
        begin-begun {steps} laid = by a refl
          where
            by : (b : Going) → a ≡ b → FirstStartedBy tries index g o l ws rs n item a steps ws' rs₀
            by (Ok t) d = on-begun t d laid
            by (Err z) d = subst (λ (b : Going). FirstStartedBy tries index g o l ws rs n item b steps ws' rs₀) (sym d) (begin-full z d)

        pub begin-started : {steps : List ℕ} → steps ≡ with_step (zeros steps_length) 0 s → StartedBy tries index g o l ws rs n item a steps ws' rs₀
        begin-started {steps} laid = begun-started tries index g o l ws rs n item a steps ws' rs₀ (begin-begun laid)

-- ---- what a caller draws from the answer

module _ (tries : Tries) (index : List ℕ) (g : Graph) (o : SearchOrder) (l : SearchLimits) (ws rs : List ℕ) (n : ℕ) (item : List ℕ) {a : Going} (steps ws' rs' : List ℕ) (h : StartedBy tries index g o l ws rs n item a steps ws' rs') where
  module _ (t : S.Search) (d : a ≡ Ok t) where
    onward : StartedBy tries index g o l ws rs n item (Ok t) steps ws' rs'
    onward = subst (λ (b : Going). StartedBy tries index g o l ws rs n item b steps ws' rs') d h

    pub started-driving : Driving index steps item t ws' rs'
    started-driving = onward.0

    pub started-driven : (r : SearchEnd) (rs'' : List ℕ) → DrivenTo tries index steps item t ws' rs' started-driving r rs'' → Ends r rs'' (answer_to tries g o l ws rs n)
    unfolding started-driving
    started-driven r rs'' k = onward.1 r rs'' k

  pub started-refused : (z : SearchRefusal) → a ≡ Err z → (rs'' : List ℕ) → Ends (Err z) rs'' (answer_to tries g o l ws rs n)
  started-refused z d rs'' = subst (λ (b : Going). StartedBy tries index g o l ws rs n item b steps ws' rs') d h rs''

-- ---- and from that it begins

module _ (tries : Tries) (index : List ℕ) (g : Graph) (o : SearchOrder) (l : SearchLimits) (ws rs : List ℕ) (n : ℕ) (item : List ℕ) {a : Going} (steps ws' rs' : List ℕ) (h : FirstStartedBy tries index g o l ws rs n item a steps ws' rs') where
  module _ (t : S.Search) (d : a ≡ Ok t) where
    onward_first : FirstStartedBy tries index g o l ws rs n item (Ok t) steps ws' rs'
    onward_first = subst (λ (b : Going). FirstStartedBy tries index g o l ws rs n item b steps ws' rs') d h

    pub first-driving : Driving index steps item t ws' rs'
    first-driving = onward_first.0

    pub first-driven : (r : SearchEnd) (rs'' : List ℕ) → DrivenTo tries index steps item t ws' rs' first-driving r rs'' → Ends r rs'' (answer_to tries g o l ws rs n)
    unfolding first-driving
    first-driven r rs'' k = onward_first.1 r rs'' k

    pub first-begins : Begins g o l ws rs n index steps item t ws' rs' first-driving
    unfolding first-driving
    first-begins = onward_first.2

  pub first-refused : (z : SearchRefusal) → a ≡ Err z → (rs'' : List ℕ) → Ends (Err z) rs'' (answer_to tries g o l ws rs n)
  first-refused z d rs'' = subst (λ (b : Going). FirstStartedBy tries index g o l ws rs n item b steps ws' rs') d h rs''
