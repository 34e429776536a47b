-- From the start of a linear search to its answer.
-- Serves document 01, "Answer"; 10, 11 and 20 of "Turned back".
use Rattle.std.specs.Prelude.{ℕ, ◌*◌, ◌/◌, ◌≤◌, ◌≡◌, Bool, Ok, Err}
use native.Mathlib.Omega.{arith}
use Rattle.std.proofs.Math.Path.{refl, sym, ap, subst}
use Rattle.std.proofs.Common.{◌∙◌}
use Rattle.std.proofs.Math.Logic.{⊎_elim}
use mathlib.Core.List.Memᴰ
use mathlib.Core.List.{List, [], ◌∷◌, Memᴰ}
use Rattle.std.proofs.Math.ListN.{length}
use Rattle.std.proofs.lemmas.List.{length-replicate}
use Rattle.semantics.specs.Entries.{linear_request_of, DoesLinear}
use Rattle.semantics.specs.declared.graph.Node.{Node}
use Rattle.semantics.specs.declared.search.SearchLimits.{SearchLimits}
use Rattle.semantics.specs.declared.search.SearchStats.{SearchStats}
use Rattle.semantics.specs.declared.refusal.PathRefusal.{PathRefusal}
use Rattle.semantics.specs.declared.refusal.LinearRefusal.{LinearRefusal}
use Rattle.semantics.specs.declared.refusal.LinearRefusal.TheVariants as Linear
use Rattle.semantics.specs.declared.refusal.ImageRefusal.{ImageRefusal}
use Rattle.semantics.specs.Limits.{Bounds, base, slot_length, steps_length, max_expansions, Limit}
use Rattle.semantics.proofs.Theorems.Limits.Laws.{within-zero}
use Rattle.semantics.specs.Answer.{Answer, ok, refuse, wrap}
use Rattle.semantics.specs.Answer.Laws.{and_then-ok, wrap-ok}
use Rattle.semantics.specs.Graph.{node_id, Graph, View, view_of}
use Rattle.semantics.specs.Graph.Laws.{view_of-lawful}
use Rattle.semantics.specs.Path.{Path, from_reference, replay, append_all}
use Rattle.semantics.proofs.Theorems.Path.Laws.{begun}
use Rattle.semantics.specs.Enumeration.{State, figured, Setting, Try, cut, overlong, reject, stop, go, blank, with_pending, place, push_item, seed, run, merge, enumerate}
use Rattle.semantics.specs.Enumeration.Laws.{Leads, here, on, enumerate-sound}
use Rattle.semantics.specs.Direct.{tries}
use Rattle.semantics.proofs.Theorems.Direct.Laws.{step-taken}
use Rattle.semantics.specs.Linear.{first, later, only_tries, linear}
use Rattle.semantics.specs.Demand.{Taken}
use Rattle.semantics.specs.Words.{zeros, encode, area}
use Rattle.semantics.specs.Words.Laws.{area-none, whole-fits}
use Rattle.semantics.specs.Recorded.{edge_lists}
use Rattle.semantics.specs.Calls.{LinearRequest, linear_outcome, linear_call}
use Rattle.storage.specs.Index.{node_row, Loaded}
use Rattle.semantics.specs.declared.replayed.Step.{Step}
use Rattle.stepping.specs.Steps.{Effect}
use Rattle.std.specs.Prelude.{Ok, Err}
use Rattle.path.specs.Shadows.Laws.{JumpAt}
use Rattle.stepping.specs.StepWords.{with_step}
use Rattle.stepping.specs.Judged.{Stepped, begun_of}
use Rattle.stepping.specs.Judged.Laws.{Begun, begun-done, begun-refused}
use Rattle.path.specs.Replays.Laws.{nodes-are}
use Rattle.path.specs.Values.Laws.{empty-room}
use Rattle.search_state.specs.declared.state.SearchState.{SearchState}
use Rattle.search_state.specs.States.{new_state, stats_in}
use Rattle.search_state.specs.Reps.{Counts}
use Rattle.reply.specs.declared.finish.Reply.{Reply}
use Rattle.reply.specs.EdgeLists.Paths.{Replays}
use Rattle.reply.specs.Ends.{Stand}
use Rattle.reply.specs.Ends.Laws.{stand-lists}
use Rattle.reply.specs.ResultSlots.{Lists}
use Rattle.reply.specs.Replies.{reply_of, Replied}
use Rattle.linear_search.specs.Walks.{Walked, frame_of, setting_of, Walking, Ends, WalkedTo}
use Rattle.linear_search.specs.LinearAnswers.{linear_of, walked_of}
use Rattle.semantics.specs.PublicAnswers.{LinearResolution, resolved}
use Rattle.semantics.specs.declared.answer.TurnedBack.{TurnedBack}

-- ---- the definition, from the first push on

module _ (bd : Bounds) (lim : Limit) (limits : SearchLimits) (results : ℕ) (g : View) (r : ℕ) where
  abbrev c : Setting LinearRefusal
  c = setting_of (record { limits = limits; results = results })

  linear-refused : (z : PathRefusal) → from_reference g r ≡ refuse z → linear bd lim c g r ≡ refuse (Linear.Path z)
  unfolding linear
  linear-refused z e = rw e

  linear-run : (p : Path) → from_reference g r ≡ ok p → linear bd lim c g r ≡ run c (only_tries bd lim g) bd.expansions (merge c.order (with_pending p blank))
  unfolding linear enumerate seed push_item place
  linear-run p e = rw e

  linear-ok : (u : State Path) → linear bd lim c g r ≡ ok u → (p : Path) × (from_reference g r ≡ ok p) × (enumerate c (only_tries bd lim g) bd.expansions (p ∷ []) ≡ ok u)
  unfolding linear
  linear-ok u h =
      let a = and_then-ok (wrap Linear.Path (from_reference g r)) (λ p. enumerate c (only_tries bd lim g) bd.expansions (p ∷ [])) u h in
      (a.0, wrap-ok Linear.Path (from_reference g r) a.0 a.1, a.2)

-- ---- the start

module _ {index : List ℕ} {g : Graph} (loaded : Loaded g index) (l : SearchLimits) (rs : List ℕ) (n : ℕ) {x : Effect} (is : x ≡ begun_of (node_row index) n) where
  abbrev q : LinearRequest
  q = linear_request_of l rs n

  begun-in : begun_of (view_of g).node n ≡ x
  begun-in = sym (is ∙ ap (λ (f : ℕ → Node). begun_of f n) (nodes-are g index loaded))

  -- 10 and 11
  pub begin-refused : (rs' : List ℕ) (z : PathRefusal) → x ≡ Err z → Ends (Err (Linear.Path z)) rs' (linear_of g q)
  begin-refused rs' z e =
      subst (λ (y : Answer LinearRefusal (State Path)). Ends (Err (Linear.Path z)) rs' y)
      (sym (linear-refused base l.length l (length rs / slot_length) (view_of g) n z (begun-refused (view_of g) (zeros steps_length) empty-room n z (begun-in ∙ e)))) refl

  module _ (s : Step) (e : x ≡ Ok s) where
    abbrev start : Begun (view_of g) (zeros steps_length) empty-room n s
    start = begun-done (view_of g) (zeros steps_length) empty-room n s (begun-in ∙ e)

    module _ {rs₀ : List ℕ} (cleared : rs₀ ≡ zeros (length rs)) {st : SearchState} (made : st ≡ new_state l (length rs / slot_length)) {steps : List ℕ} (laid : steps ≡ with_step (zeros steps_length) 0 s) {item : List ℕ} (none : item ≡ zeros slot_length) where
      long : length rs₀ ≡ length rs
      long = ap length cleared ∙ length-replicate (length rs) 0

      model : State Path
      model = merge (setting_of (frame_of (new_state l (length rs / slot_length)))).order (with_pending start.path blank)

      walking : Walking index steps item (new_state l (length rs / slot_length)) rs₀
      unfolding encode model merge
      walking = record {
        graph = g;
        loaded = loaded;
        reference = n;
        first = start.path;
        starts = start.started;
        none = start.edges;
        begun = subst (λ (z : List ℕ). Stepped z 0 start.path) (sym laid) start.stepped;
        long = let z : length steps ≡ steps_length = ap length laid ∙ refl in omega (arith, z);
        words = none ∙ (let z : zeros slot_length ≡ encode slot_length [] = refl in z) ∙ ap (encode slot_length) (sym start.edges);
        model = model;
        counts = record {
          stats = refl;
          kept = refl;
          fits = omega arith;
          room = subst (λ (k : ℕ). slot_length * (length rs / slot_length) ≤ k) (sym long) (whole-fits slot_length (length rs));
          words = cleared ∙ ap zeros (sym long) ∙ sym (area-none slot_length (length rs₀));
        };
        few = record { complete = omega arith; rejected = omega arith; cycles = omega arith };
        unlooked = refl;
        rest = refl;
        pending = refl;
        unexpanded = refl;
      }

      pub begin-walking : Walking index steps item st rs₀
      begin-walking = subst (λ (y : SearchState). Walking index steps item y rs₀) (sym made) walking

      pub begin-walked : (r : Walked) (rs' : List ℕ) → ((w : Walking index steps item st rs₀) → WalkedTo index steps item st rs₀ w r rs') → Ends r rs' (linear_of g q)
      unfolding walking model
      begin-walked r rs' h =
          let k : (w : Walking index steps item (new_state l (length rs / slot_length)) rs₀) → WalkedTo index steps item (new_state l (length rs / slot_length)) rs₀ w r rs' =
          subst (λ (y : SearchState). (w : Walking index steps item y rs₀) → WalkedTo index steps item y rs₀ w r rs') made h in
          subst (λ (y : Answer LinearRefusal (State Path)). Ends r rs' y) (sym (linear-run base l.length l (length rs / slot_length) (view_of g) n start.path start.started)) (k walking)

-- ---- the kept paths replay

go-cut : (b : Bool) (p : Path) → ◌≡◌ {A = Try LinearRefusal Path} (go b p) cut → ⊥
go-cut b p e = let z : ◌≡◌ {A = ℕ} 0 1 = cc in omega arith

go-overlong : (b : Bool) (p : Path) → ◌≡◌ {A = Try LinearRefusal Path} (go b p) overlong → ⊥
go-overlong b p e = let z : ◌≡◌ {A = ℕ} 0 1 = cc in omega arith

go-reject : (b : Bool) (p : Path) → ◌≡◌ {A = Try LinearRefusal Path} (go b p) reject → ⊥
go-reject b p e = let z : ◌≡◌ {A = ℕ} 0 1 = cc in omega arith

go-stop : (b : Bool) (p : Path) (r : LinearRefusal) → ◌≡◌ {A = Try LinearRefusal Path} (go b p) (stop r) → ⊥
go-stop b p r e = let z : ◌≡◌ {A = ℕ} 0 1 = cc in omega arith

module _ (n : ℕ) (b : Bool) (p : Path) where
  -- no further edge is appended
  never-later : (ts : List (Try LinearRefusal Path)) → Memᴰ (go b p) (later n ts) → ⊥
  unfolding later
  never-later [] m = Memᴰ.not-nil m
  never-later (cut ∷ ts) m = ⊎_elim (go-cut b p) (never-later ts) (Memᴰ.cases_cons m)
  never-later (overlong ∷ ts) m = ⊎_elim (go-overlong b p) (never-later ts) (Memᴰ.cases_cons m)
  never-later (reject ∷ ts) m = ⊎_elim (go-reject b p) (never-later ts) (Memᴰ.cases_cons m)
  never-later (stop r ∷ ts) m = ⊎_elim (go-stop b p r) (never-later ts) (Memᴰ.cases_cons m)
  never-later (go d q ∷ ts) m = ⊎_elim (go-stop b p (Linear.MultipleEdges (node_id n))) (never-later ts) (Memᴰ.cases_cons m)

  -- an edge that is appended is one of the node's
  in-first : (ts : List (Try LinearRefusal Path)) → Memᴰ (go b p) (first n ts) → Memᴰ (go b p) ts
  unfolding first
  in-first [] m = absurd (Memᴰ.not-nil m)
  in-first (cut ∷ ts) m = Memᴰ.tail (⊎_elim (λ (e : go b p ≡ cut). absurd (go-cut b p e)) (in-first ts) (Memᴰ.cases_cons m))
  in-first (overlong ∷ ts) m = Memᴰ.tail (⊎_elim (λ (e : go b p ≡ overlong). absurd (go-overlong b p e)) (in-first ts) (Memᴰ.cases_cons m))
  in-first (reject ∷ ts) m = Memᴰ.tail (⊎_elim (λ (e : go b p ≡ reject). absurd (go-reject b p e)) (in-first ts) (Memᴰ.cases_cons m))
  in-first (stop r ∷ ts) m = Memᴰ.tail (⊎_elim (λ (e : go b p ≡ stop r). absurd (go-stop b p r e)) (in-first ts) (Memᴰ.cases_cons m))
  in-first (go d q ∷ ts) m = ⊎_elim (λ (e : go b p ≡ go d q). Memᴰ.head e) (λ (k : Memᴰ (go b p) (later n ts)). absurd (never-later ts k)) (Memᴰ.cases_cons m)

module _ {lim : Limit} (g : Graph) {r : ℕ} where
  step-on : {p : Path} (v : Path) (b : Bool) → Taken base lim (view_of g) r p.edges p → Memᴰ (go b v) (only_tries base lim (view_of g) p) → Taken base lim (view_of g) r v.edges v
  unfolding only_tries
  step-on {p} v b t m = (step-taken Linear.TooLong base lim (view_of g) (view_of-lawful g) r p v b t (in-first p.end b v (tries Linear.TooLong base lim (view_of g) p) m)).0

  leads-replayed : {p v : Path} → Taken base lim (view_of g) r p.edges p → Leads (only_tries base lim (view_of g)) p v → replay base (view_of g) r v.edges ≡ ok v
  leads-replayed {p} {v} t (here m) = (step-on v _ t m).replayed
  leads-replayed {p} {v} t (on {u = x} b m l) = leads-replayed (step-on x b t m) l

module _ (g : Graph) (l : SearchLimits) (rs : List ℕ) (n : ℕ) (u : State Path) (h : linear_of g (linear_request_of l rs n) ≡ ok u) where
  pub kept-replays : Replays base (view_of g) u.kept
  unfolding replay append_all
  kept-replays v m =
      let a = linear-ok base l.length l (length rs / slot_length) (view_of g) n u h in
      let p = a.0 in
      let k = enumerate-sound (setting_of (record { limits = l; results = length rs / slot_length })) (only_tries base l.length (view_of g)) max_expansions (p ∷ []) u a.2 v m in
      (n, from p a.1 k.0 k.1 k.2)
    where
      from : (p : Path) → from_reference (view_of g) n ≡ ok p → (w : Path) → Memᴰ w (p ∷ []) → Leads (only_tries base l.length (view_of g)) w v → replay base (view_of g) n v.edges ≡ ok v
      from p f w i k =
          let b = begun (view_of g) n p f in
          let t : Taken base l.length (view_of g) n p.edges p = subst (λ (y : List ℕ). Taken base l.length (view_of g) n y p) (sym b.edges) (record { replayed = rw f; distinct = tt; short = within-zero l.length }) in
          ⊎_elim (λ (z : w ≡ p). leads-replayed g t (subst (λ (y : Path). Leads (only_tries base l.length (view_of g)) y v) z k)) (λ (z : Memᴰ w []). absurd (Memᴰ.not-nil z)) (Memᴰ.cases_cons i)

-- ---- the end

over-refused : (st : SearchState) (x : LinearRefusal) → Ok st ≡ Err x → ⊥
over-refused st x e = let z : ◌≡◌ {A = ℕ} 0 1 = cc in omega arith

ends-over : (d : Walked) (rs : List ℕ) (t : Answer LinearRefusal (State Path)) (st : SearchState) → Ends d rs t → d ≡ Ok st → (u : State Path) × (t ≡ ok u) × Counts st rs u
ends-over (Ok s) rs (ok u) st h e = let z : s ≡ st = cc in (u, refl, subst (λ (x : SearchState). Counts x rs u) z h)
ends-over (Ok s) rs (refuse y) st h e = absurd h
ends-over (Err x) rs t st h e = absurd (over-refused st x (sym e))

ends-refused : (d : Walked) (rs : List ℕ) (t : Answer LinearRefusal (State Path)) (x : LinearRefusal) → Ends d rs t → d ≡ Err x → t ≡ refuse x
ends-refused (Ok s) rs t x h e = absurd (over-refused s x e)
ends-refused (Err y) rs (ok u) x h e = absurd h
ends-refused (Err y) rs (refuse z) x h e = let w : y ≡ x = cc in ap (λ (v : LinearRefusal). refuse v) (sym h ∙ w)

module _ {index : List ℕ} (reply : Reply) (l : SearchLimits) (rs : List ℕ) (n : ℕ) {d : Walked} (rs' : List ℕ) (long : length rs' ≡ length rs) {g : Graph} (loaded : Loaded g index)
    (h : Ends d rs' (linear_of g (linear_request_of l rs n))) where
  module _ (st : SearchState) (e : d ≡ Ok st) where
    over : (u : State Path) × (linear_of g (linear_request_of l rs n) ≡ ok u) × Counts st rs' u
    over = ends-over d rs' (linear_of g (linear_request_of l rs n)) st h e

    stand : Stand slot_length st.kept rs' over.0.kept
    stand = record { words = over.2.words; count = over.2.kept }

    pub over-lists : Lists slot_length st.kept rs'
    over-lists = stand-lists base (view_of g) (kept-replays g l rs n over.0 over.1) stand

    pub over-does : JumpAt (view_of g) → (r : ℕ) (rs'' : List ℕ) → length rs'' ≡ length rs' → Replied index reply st.kept rs' r rs'' → {t : SearchStats} → t ≡ stats_in st
        → DoesLinear (walked_of g reply (linear_request_of l rs n)) (resolved r t) rs''
    unfolding linear_outcome
    over-does j r rs'' k f {t} s =
        let z = f g over.0 loaded j (kept-replays g l rs n over.0 over.1) stand in
        let c : t ≡ figured 0 over.0.stats = s ∙ ap (figured 0) over.2.stats in
        rw over.1 (ap (λ (m : ℕ). resolved m t) z.count ∙ ap (resolved (length (reply_of reply over.0))) c, z.words ∙ ap (λ (m : ℕ). area slot_length m (edge_lists (reply_of reply over.0))) (k ∙ long))

  pub refused-does : (x : LinearRefusal) → d ≡ Err x → {rs'' : List ℕ} → rs'' ≡ zeros (length rs') → DoesLinear (walked_of g reply (linear_request_of l rs n)) (Err (TurnedBack.Refused x)) rs''
  unfolding linear_outcome
  refused-does x e r = rw (ends-refused d rs' (linear_of g (linear_request_of l rs n)) x h e) (refl, r ∙ ap zeros long)

-- ---- the image

module _ (reply : Reply) (q : LinearRequest) {y : Answer ImageRefusal Graph} where
  pub image-refused : (x : ImageRefusal) → y ≡ refuse x → {rs : List ℕ} → rs ≡ zeros q.result → DoesLinear (linear_call base (reply_of reply) y q) (Err (TurnedBack.Image x)) rs
  unfolding linear_call
  image-refused x e r = rw e (refl, r)

  pub image_does : (g : Graph) → y ≡ ok g → (a : LinearResolution) (rs : List ℕ) → DoesLinear (walked_of g reply q) a rs → DoesLinear (linear_call base (reply_of reply) y q) a rs
  unfolding linear_call
  image_does g e a rs h = rw e h
