-- From the starts of a computation to its answer, and from that to the replaced owner.
-- Serves document 01, "Partial paths"; 21, 33, 34 and 35 of "Turned back"; document 02, order 5.
use Prim.Native.Nat.{ℕ, ◌+◌, ◌-◌, ◌/◌, ◌<◌, ◌≤◌, ◌^◌}
use Rattle.std.proofs.Common.{arith, ◌∙◌, ⊎_elim}
use Rattle.std.specs.Prelude.{◌≡◌, Bool, true, leb, Option, Some, None, Result, Ok, Err}
use Rattle.std.proofs.Math.Path.{refl, sym, ap, subst}
use Rattle.std.proofs.Math.Bool.{false}
use mathlib.Core.List.Memᴰ
use mathlib.Core.List.{List, [], ◌∷◌, map, Memᴰ}
use borrow.Author.Tests.{lt-ltb, le-ltb, leb-true, ne_eqb}
use Rattle.std.proofs.Math.Dec.{eqb}
use Rattle.std.proofs.Math.ListN.{length, take}
use Rattle.semantics.specs.Entries.{Changes, Leaves}
use Rattle.semantics.specs.declared.graph.FileId.{FileId}
use Rattle.semantics.specs.declared.search.SearchStats.{SearchStats}
use Rattle.semantics.specs.declared.search.PartialPathStats.{PartialPathStats}
use Rattle.semantics.specs.declared.refusal.ImageRefusal.{ImageRefusal}
use Rattle.semantics.specs.declared.refusal.DatabaseRefusal.{DatabaseRefusal}
use Rattle.semantics.specs.declared.refusal.PartialPathRefusal.{PartialPathRefusal}
use Rattle.semantics.specs.declared.refusal.PartialPathRefusal.TheVariants.{UnknownFile}
use Rattle.semantics.specs.Lists.{pick}
use Rattle.semantics.specs.Limits.{Bounds, base, slot_length, max_expansions, nobody, Limit}
use Rattle.semantics.specs.Answer.{Answer, ok, refuse}
use Rattle.semantics.specs.Answer.Laws.{ok-inj, refuse-ok, and_then-ok}
use Rattle.semantics.specs.Graph.{file_id, Graph, view_of}
use Rattle.semantics.specs.Enumeration.{State, Setting, blank, push_item, with_pending, run, merge, enumerate}
use Rattle.semantics.specs.Enumeration as Enumeration
use Rattle.semantics.specs.Enumeration.Laws.{place_ok}
use Rattle.semantics.specs.PartialPaths.{Route, Slot, route_at, starts_from, start_routes, belongs, is_fileless, owned_by, route_tries, partials, file_routes, alias_routes, if_known, file_partials, partial_stats}
use Rattle.semantics.specs.Words.{zeros}
use Rattle.semantics.specs.Words.Laws.{whole-fits}
use Rattle.semantics.specs.Database.{used_in, capacity, record_place, known_owners, slots_in, well_formed, check_database, has_room, replace_words}
use Rattle.semantics.specs.Calls.{FileRequest, file_setting_of, filing_outcome, computation_outcome, replacement_outcome, alias_outcome, replace_call, alias_call}
use Rattle.storage.specs.Index.{Loaded}
use Rattle.path_frontier.specs.Frontier.Stands.{stands-blank}
use Rattle.database.specs.Checks.{inspected}
use Rattle.database.specs.Checks.Laws.{capacity-most, capacity-fits, formed-used, formed-whole, inspected-refused, inspected-sound}
use Rattle.database.specs.Records.{Whole}
use Rattle.database.specs.Filing.{cleared, put_routes, headed}
use Rattle.database.specs.Filing.Laws.{room-is, replaced-in-steps}
use Rattle.partial_state.specs.declared.filing.Filing.{Filing}
use Rattle.partial_state.specs.declared.extraction.Config.{Config}
use Rattle.partial_state.specs.declared.extraction.ExtractionFrame.{ExtractionFrame}
use Rattle.partial_state.specs.Routes.{held}
use Rattle.partial_state.specs.Filings.{Fits, filed_in}
use Rattle.partial_state.specs.Filings.Laws.{take_all, filed-none, filed-nowhere}
use Rattle.path_frontier.specs.Frontier.{short_slot}
use Rattle.partial_state.specs.Extractions.{Computation, Course, goes, stops, new_computation}
use Rattle.partial_state.specs.Reps.{frame_of, setting_of, Rep, Untouched, Tells}
use Rattle.partial_state.specs.Reps.Laws.{tells-on, tells-refused}
use Rattle.semantics.specs.declared.answer.Counts.{Counts}
use Rattle.partial.specs.Rounds.{Driving, Ends, run_from, DrivenTo}
use Rattle.partial_trial.specs.Seeds.{starts_of, Seeding, Seeded}
use Rattle.partial.specs.Replacements.{asked_by, number_of, routes_of, Computing, ComputedTo, FiledTo, Storing, Few, Replacing, computed_on, replaced_on, inspected_on, call_for}
use Rattle.semantics.specs.PublicAnswers.{Replacement}
use Rattle.semantics.specs.declared.answer.ReplacementRefusal.{ReplacementRefusal}

-- ---- seeding counts nothing

seed-quiet : {R W : Type 0} (c : Setting R) (s u : State W) (ws : List W) → Enumeration.seed c s ws ≡ ok u → (u.tally.looked ≡ s.tally.looked) × (u.stats ≡ s.stats)
unfolding Enumeration.seed push_item
seed-quiet c s u [] e = let z = ok-inj s u e in (ap (λ (t : State _). t.tally.looked) (sym z), ap (λ (t : State _). t.stats) (sym z))
seed-quiet c s u (w ∷ ws) e =
    let k = and_then-ok (push_item c w s) (λ t. Enumeration.seed c t ws) u e in
    let z = place_ok c.waiting (length s.rest + length s.pending) (with_pending w s) k.0 k.1 in
    let i = seed-quiet c k.0 u ws k.2 in
    (i.0 ∙ ap (λ (t : State _). t.tally.looked) (sym z), i.1 ∙ ap (λ (t : State _). t.stats) (sym z))

-- ---- a computation: its starts, then its rounds

module _ (bd : Bounds) (lim : Limit) (c : Setting PartialPathRefusal) (g : Graph) (f : ℕ) where
  abbrev routes : Answer PartialPathRefusal (State Route)
  routes = partials bd lim c (view_of g) (owned_by (view_of g) f) (starts_of g f)

  routes-refused : (y : PartialPathRefusal) → Enumeration.seed c blank (starts_of g f) ≡ refuse y → routes ≡ refuse y
  unfolding partials enumerate
  routes-refused y e = rw e

  routes-run : (u : State Route) → Enumeration.seed c blank (starts_of g f) ≡ ok u → routes ≡ run c (route_tries bd lim (view_of g) (owned_by (view_of g) f)) bd.expansions (merge c.order u)
  unfolding partials enumerate
  routes-run u e = rw e

  -- a file, which is not nobody, has the edges and the starts that it had
  routes-file : f < g.files → file_partials bd lim c g f ≡ partials bd lim c (view_of g) (belongs (view_of g) f) (start_routes g f)
  unfolding file_partials if_known file_routes
  routes-file k = rw (lt-ltb f g.files k)

  routes-known : f < g.files → g.files < nobody → file_partials bd lim c g f ≡ routes
  unfolding owned_by
  routes-known k h =
      let z : eqb f nobody ≡ false = ne_eqb f nobody (λ e. omega (arith, e, k, h)) in
      let mine : belongs (view_of g) f ≡ owned_by (view_of g) f = λ i e. sym (ap (λ (b : Bool). pick b (is_fileless (view_of g) ((view_of g).edge e)) (belongs (view_of g) f e)) z) i in
      routes-file k
      ∙ ap (λ (m : ℕ → Bool). partials bd lim c (view_of g) m (start_routes g f)) mine
      ∙ ap (λ (b : Bool). partials bd lim c (view_of g) (owned_by (view_of g) f) (route_at 0 ∷ pick b [] (map route_at (starts_from f 0 g.nodes)))) (sym z)

  -- the alias set is nobody's
  routes-alias : f ≡ nobody → alias_routes bd lim c g ≡ routes
  unfolding alias_routes
  routes-alias e = rw e

-- ---- a computation

module _ {index : List ℕ} {g : Graph} (loaded : Loaded g index) (f : Filing) (c : Config) (ws db : List ℕ) {x : Computation} (made : x ≡ new_computation c (length ws / slot_length)) where
  abbrev asks : FileRequest
  asks = asked_by c ws f.file

  abbrev fresh : Computation
  fresh = new_computation c (length ws / slot_length)

  nothing : Rep (view_of g) f db fresh ws db blank
  nothing = record {
    sized = record { start = omega arith; most = omega arith; room = whole-fits slot_length (length ws) };
    stands = stands-blank (held short_slot) c.order short_slot (length ws / slot_length) ws (omega arith) (omega (arith, whole-fits slot_length (length ws)));
    counts = record { stats = refl; found = refl };
    few = record { complete = omega arith; cycles = omega arith };
    filed = sym (filed-none f db);
    traced = λ r k. ⊎_elim (λ (m : Memᴰ r []). absurd (Memᴰ.not-nil m)) (λ (m : Memᴰ r []). absurd (Memᴰ.not-nil m)) k;
  }

  -- what the starts are given
  pub begins : (item : List ℕ) → length item ≡ short_slot → Seeding item x ws
  begins item l = record { view = view_of g; filing = f; origin = db; database = db; slot = l ∙ sym (ap (λ (y : Computation). y.frontier.length) made); model = blank; rep = subst (λ (y : Computation). Rep (view_of g) f db y ws db blank) (sym made) nothing }

  module _ (item : List ℕ) (long : length item ≡ short_slot) (a : Course) (ws' : List ℕ) (s : Seeded item x ws (begins item long) g f.file a ws') where
    abbrev seeds : Answer PartialPathRefusal (State Route)
    seeds = Enumeration.seed (file_setting_of base asks) blank (starts_of g f.file)

    told : Tells (view_of g) f db (frame_of fresh) a ws' db seeds
    unfolding begins
    told = subst (λ (y : Computation). Tells (view_of g) f db (frame_of y) a ws' db (Enumeration.seed (setting_of (frame_of y)) blank (starts_of g f.file))) made s

    pub compute-refused : (y : PartialPathRefusal) → a ≡ stops y → Ends f db (Err y) db (routes_of g asks)
    compute-refused y e =
        let u = tells-refused (view_of g) f db (frame_of fresh) a ws' db seeds y told e in
        subst (λ (t : Answer PartialPathRefusal (State Route)). Ends f db (Err y) db t) (sym (routes-refused base c.length (file_setting_of base asks) g f.file y u.0)) (refl, λ q. refl)

    module _ (on : Computation) (e : a ≡ goes on) where
      begun : (m : State Route) × (seeds ≡ ok m) × (frame_of on ≡ frame_of fresh) × Rep (view_of g) f db on ws' db m
      begun = tells-on (view_of g) f db (frame_of fresh) a ws' db seeds on told e

      unexpanded : on.budget.expanded ≡ 0
      unexpanded =
          let u = begun in
          ap (λ (t : SearchStats). t.expanded) (u.3.counts.stats ∙ (seed-quiet (file_setting_of base asks) blank u.0 (starts_of g f.file) u.1).1)

      -- what the rounds are given
      pub drives : (item' : List ℕ) → length item' ≡ slot_length → Fits f db → Driving index f item' on ws' db
      drives item' l h =
          let u = begun in
          let z = unexpanded in
          let q = (seed-quiet (file_setting_of base asks) blank u.0 (starts_of g f.file) u.1).0 in
          record { graph = g; loaded = loaded; origin = db; slot = l; fits = h; model = u.0; rep = u.3; looked = omega (arith, q); expanded = omega (arith, z) }

      pub compute-ends : (item' : List ℕ) (l : length item' ≡ slot_length) (h : Fits f db) (r : Result PartialPathStats PartialPathRefusal) (db' : List ℕ) → DrivenTo index f item' on ws' db (drives item' l h) r db' → Ends f db r db' (routes_of g asks)
      unfolding drives
      compute-ends item' l h r db' d =
          let u = begun in
          let n : max_expansions - on.budget.expanded ≡ max_expansions = let z = unexpanded in omega (arith, z) in
          let w : routes_of g asks ≡ run_from (frame_of fresh) g f.file max_expansions u.0 = routes-run base c.length (file_setting_of base asks) g f.file u.0 u.1 in
          subst (λ (t : Answer PartialPathRefusal (State Route)). Ends f db r db' t) (sym w)
          (subst (λ (y : ExtractionFrame). Ends f db r db' (run_from y g f.file max_expansions u.0)) u.2
          (subst (λ (k : ℕ). Ends f db r db' (run_from (frame_of on) g f.file k u.0)) n d))

-- ---- what an answer says

done_refused : (s : PartialPathStats) (r : PartialPathRefusal) → ◌≡◌ {A = Result PartialPathStats PartialPathRefusal} (Ok s) (Err r) → ⊥
done_refused s r e = let z : ◌≡◌ {A = ℕ} 0 1 = cc in omega arith

module _ (f : Filing) (db db' : List ℕ) where
  -- a computation that is not refused files what it found
  ends-filed : (a : Result PartialPathStats PartialPathRefusal) (t : Answer PartialPathRefusal (State Route)) (u : State Route) → Ends f db a db' t → t ≡ ok u → db' ≡ filed_in f u.kept db
  ends-filed (Ok s) (ok m) u h e = let z = ok-inj m u e in h.1 ∙ ap (λ (y : State Route). filed_in f y.kept db) z
  ends-filed (Ok s) (refuse r) u h e = absurd (refuse-ok r u e)
  ends-filed (Err r) (ok m) u h e = absurd h
  ends-filed (Err r) (refuse y) u h e = absurd (refuse-ok y u e)

  ends-refused : (a : Result PartialPathStats PartialPathRefusal) (t : Answer PartialPathRefusal (State Route)) (r : PartialPathRefusal) → Ends f db a db' t → a ≡ Err r → (t ≡ refuse r) × Untouched f db db'
  ends-refused (Ok s) t r h e = absurd (done_refused s r e)
  ends-refused (Err y) (ok m) r h e = absurd h
  ends-refused (Err y) (refuse z) r h e = let w : y ≡ r = cc in (ap (λ (k : PartialPathRefusal). refuse k) (sym h.0 ∙ w), h.1)

  -- without room the counts are those of the whole
  ends-done : f.room ≡ 0 → (a : Result PartialPathStats PartialPathRefusal) (t : Answer PartialPathRefusal (State Route)) (s : PartialPathStats) → Ends f db a db' t → a ≡ Ok s → (u : State Route) × (t ≡ ok u) × (s ≡ partial_stats u) × (s.found ≡ length u.kept) × (db' ≡ filed_in f u.kept db)
  ends-done none (Ok y) (ok m) s h e = let z : y ≡ s = cc in let k = h.0 none in (m, refl, sym z ∙ k.0, ap (λ (x : PartialPathStats). x.found) (sym z) ∙ k.1, h.1)
  ends-done none (Ok y) (refuse r) s h e = absurd (omega (arith, h, none))
  ends-done none (Err r) t s h e = absurd (done_refused s r (sym e))

-- ---- the found paths filed

module _ (index : List ℕ) (nodes : ℕ) (f : Filing) (c : Config) (ws db : List ℕ) where
  pub filed-by : (a : Result PartialPathStats PartialPathRefusal) (db' : List ℕ) → ComputedTo index nodes f c ws db a db' → FiledTo index nodes f c ws db db'
  filed-by a db' h g loaded counted u e = ends-filed f db db' a (routes_of g (asked_by c ws f.file)) u (h g loaded counted) e

  -- without room no computation is needed
  pub filed-without : f.room ≡ 0 → FiledTo index nodes f c ws db db
  filed-without z g loaded counted u e = sym (filed-nowhere f u.kept db z)

module _ {index : List ℕ} {n : Counts} {f : Filing} {c : Config} {ws db : List ℕ} (v : Storing index n f c ws db) where
  pub store-clears : Whole base db
  store-clears = omega (arith, v.first, v.fits.inside)

  pub store-computes : (db' : List ℕ) → length db' ≡ length db → Computing index n.nodes f db'
  store-computes db' l = record { holds = record { holds = v.sized.holds; node-count = v.sized.node-count }; fits = record { inside = omega (arith, l, v.fits.inside); named = v.fits.named } }

  pub store-heads : (db' : List ℕ) → length db' ≡ length db → 3 ≤ length db'
  store-heads db' l = omega (arith, l, v.fits.inside)

  pub stored_is : {db₁ : List ℕ} → db₁ ≡ cleared base f.file db → (db₂ : List ℕ) → FiledTo index n.nodes f c ws db₁ db₂ → {db₃ : List ℕ} → db₃ ≡ headed (f.first + f.room) n.nodes n.files db₂
      → db₃ ≡ replace_words base v.sized.holds.graph f.file v.found db
  unfolding filed_in
  stored_is {db₁} p db₂ h q =
      let k = v.found.kept in
      let w : db₂ ≡ put_routes base f.file f.first (take f.room k) db₁ = h v.sized.holds.graph v.sized.holds.loaded v.sized.node-count v.found v.is in
      let t : take f.room k ≡ k = take_all f.room k (omega (arith, v.room)) in
      let y : db₂ ≡ put_routes base f.file (used_in db) k (cleared base f.file db) =
      w ∙ ap (λ (l : List Route). put_routes base f.file f.first l db₁) t ∙ ap (λ (i : ℕ). put_routes base f.file i k db₁) v.first ∙ ap (put_routes base f.file (used_in db) k) p in
      let u : f.first + f.room ≡ used_in db + length k = omega (arith, v.first, v.room) in
      q
      ∙ ap (λ (i : ℕ). headed i n.nodes n.files db₂) u
      ∙ ap (λ (i : ℕ). headed (used_in db + length k) i n.files db₂) v.sized.node-count
      ∙ ap (λ (i : ℕ). headed (used_in db + length k) (length v.sized.holds.graph.nodes) i db₂) v.sized.file-count
      ∙ ap (headed (used_in db + length k) (length v.sized.holds.graph.nodes) v.sized.holds.graph.files) y
      ∙ replaced-in-steps base f.file db v.sized.holds.graph v.found (subst (λ (i : ℕ). record_place base i ≤ length db) u v.fits.inside)

-- ---- the computation, 33

abbrev pub filing_of : ℕ → ℕ → ℕ → Filing
filing_of file first room = record { file = file; first = first; room = room }

module _ {index : List ℕ} {n : Counts} (owner : ℕ) (c : Config) (ws : List ℕ) {db : List ℕ} (v : Replacing index n db) (named : owner + 1 < 2 ^ 32) {first : ℕ} (used : first ≡ used_in db) where
  abbrev q : FileRequest
  q = asked_by c ws owner

  pub counting-computes : Computing index n.nodes (filing_of owner first 0) db
  counting-computes = record {
    holds = record { holds = v.sized.holds; node-count = v.sized.node-count };
    fits = record { inside = let h = capacity-fits base db (used_in db) v.long v.used in omega (arith, h, used); named = named };
  }

  module _ (a : Result PartialPathStats PartialPathRefusal) (db₁ : List ℕ) (h : ComputedTo index n.nodes (filing_of owner first 0) c ws db a db₁) where
    ends : Ends (filing_of owner first 0) db a db₁ (routes_of v.sized.holds.graph q)
    ends = h v.sized.holds.graph v.sized.holds.loaded v.sized.node-count

    pub replaced-refused : (r : PartialPathRefusal) → a ≡ Err r → Leaves (computed_on v.sized.holds.graph q db) (Err (ReplacementRefusal.Refused r)) db₁
    unfolding computation_outcome
    replaced-refused r e = let u = ends-refused (filing_of owner first 0) db db₁ a (routes_of v.sized.holds.graph q) r ends e in rw u.0 (refl, u.1 refl)

    module _ (s : PartialPathStats) (e : a ≡ Ok s) where
      counted : (u : State Route) × (routes_of v.sized.holds.graph q ≡ ok u) × (s ≡ partial_stats u) × (s.found ≡ length u.kept) × (db₁ ≡ filed_in (filing_of owner first 0) u.kept db)
      counted = ends-done (filing_of owner first 0) db db₁ refl a (routes_of v.sized.holds.graph q) s ends e

      -- counting alters no word
      pub counted_same : db₁ ≡ db
      counted_same = let u = counted in u.4 ∙ filed-nowhere (filing_of owner first 0) u.0.kept db refl

      pub counted-asks : (3 ≤ length db₁) × (used_in db₁ ≤ capacity base db₁)
      counted-asks = subst (λ (l : List ℕ). (3 ≤ length l) × (used_in l ≤ capacity base l)) (sym counted_same) (v.long, v.used)

      module _ {b : Bool} (is : b ≡ leb (used_in db₁ + s.found) (capacity base db₁)) where
        room-told : b ≡ has_room base counted.0 db
        room-told = is ∙ ap (λ (l : List ℕ). leb (used_in l + s.found) (capacity base l)) counted_same ∙ room-is base f₀.file db s.found counted.0 counted.3
          where
            f₀ : Filing
            f₀ = filing_of owner first 0

        pub replaced-full : b ≡ false → Leaves (computed_on v.sized.holds.graph q db) (Err ReplacementRefusal.Full) db₁
        unfolding computation_outcome filing_outcome
        replaced-full z = let u = counted in rw (u.1, sym room-told ∙ z) (refl, counted_same)

        module _ (z : b ≡ true) (ws₁ : List ℕ) (same : length ws₁ ≡ length ws) where
          fitting : used_in db₁ + s.found ≤ capacity base db₁
          fitting = leb-true (used_in db₁ + s.found) (capacity base db₁) (sym is ∙ z)

          pub storing : Storing index n (filing_of owner first s.found) c ws₁ db₁
          storing =
              let u = counted in
              let k = fitting in
              let m = (capacity-most base db₁).0 in
              let i : first ≡ used_in db₁ = used ∙ ap used_in (sym counted_same) in
              let t = capacity-fits base db₁ (used_in db₁ + s.found) counted-asks.0 k in
              record {
                sized = v.sized;
                found = u.0;
                is = ap (λ (l : ℕ). routes_of v.sized.holds.graph (record { order = c.order; length = c.length; expansions = c.expansions; work = l; file = owner })) same ∙ u.1;
                first = i;
                room = u.3;
                few = omega (arith, k, m, i);
                fits = record { inside = omega (arith, t, i); named = named };
              }

          pub replaced-done : {db₂ : List ℕ} → db₂ ≡ replace_words base storing.sized.holds.graph owner storing.found db₁ → Leaves (computed_on v.sized.holds.graph q db) (Ok s) db₂
          unfolding computation_outcome filing_outcome storing
          replaced-done y =
              let u = counted in
              rw (u.1, sym room-told ∙ z) (ap (λ (t : PartialPathStats). Ok t) u.2, y ∙ ap (replace_words base v.sized.holds.graph owner u.0) counted_same)

-- ---- 21 before it

module _ {index : List ℕ} {n : Counts} (file : ℕ) (c : Config) (ws : List ℕ) {db : List ℕ} (v : Replacing index n db) where
  pub replaced-unknown : n.files ≤ file → Leaves (replaced_on v.sized.holds.graph (asked_by c ws file) db) (Err (ReplacementRefusal.Refused (UnknownFile (file_id file)))) db
  unfolding computation_outcome file_partials if_known
  replaced-unknown h = rw (le-ltb file v.sized.holds.graph.files (omega (arith, h, v.sized.file-count))) (refl, refl)

  pub replaced-known : n.files < nobody → file < n.files → (r : Replacement) (db' : List ℕ) → Leaves (computed_on v.sized.holds.graph (asked_by c ws file) db) r db' → Leaves (replaced_on v.sized.holds.graph (asked_by c ws file) db) r db'
  replaced-known few known r db' h =
      let g = v.sized.holds.graph in
      let e = routes-known base c.length (file_setting_of base (asked_by c ws file)) g file (omega (arith, known, v.sized.file-count)) (omega (arith, few, v.sized.file-count)) in
      subst (λ (t : Answer PartialPathRefusal (State Route)). Leaves (computation_outcome base g (asked_by c ws file) db t) r db') (sym e) h

-- ---- 35 and 34 before that

module _ {index : List ℕ} (n : Counts) (o : Option FileId) (c : Config) (ws db : List ℕ) (v : Few index n) (a : Result (Unit {0}) DatabaseRefusal) (is : (g : Graph) → n.nodes ≡ length g.nodes → n.files ≡ g.files → a ≡ inspected (check_database base known_owners g db)) where
  abbrev graph : Graph
  graph = v.sized.holds.graph

  found_in : a ≡ inspected (check_database base known_owners graph db)
  found_in = is graph v.sized.node-count v.sized.file-count

  pub inspected-not : (r : DatabaseRefusal) → a ≡ Err r → Leaves (inspected_on o graph (asked_by c ws (number_of o)) db) (Err (ReplacementRefusal.Database r)) db
  unfolding replacement_outcome alias_outcome
  inspected-not r e = on o
    where
      z : check_database base known_owners graph db ≡ refuse r
      z = inspected-refused base known_owners graph db r (sym e ∙ found_in)

      on : (x : Option FileId) → Leaves (inspected_on x graph (asked_by c ws (number_of x)) db) (Err (ReplacementRefusal.Database r)) db
      on (Some f) = rw z (refl, refl)
      on None = rw z (refl, refl)

  module _ (e : a ≡ Ok tt) where
    formed : (well_formed base known_owners db ≡ true) × (check_database base known_owners graph db ≡ ok (slots_in base db))
    formed = inspected-sound base known_owners graph db (sym e ∙ found_in)

    pub inspected-replaces : Replacing index n db
    inspected-replaces = record {
      sized = v.sized;
      long = let h = formed-whole base known_owners db formed.0 in omega (arith, h);
      used = formed-used base known_owners db formed.0;
    }

    pub inspected-file : (f : FileId) → o ≡ Some f → (r : Replacement) (db' : List ℕ) → Leaves (replaced_on inspected-replaces.sized.holds.graph (asked_by c ws f.0) db) r db'
        → Leaves (inspected_on o graph (asked_by c ws (number_of o)) db) r db'
    unfolding replacement_outcome inspected-replaces
    inspected-file f is r db' h = subst (λ (x : Option FileId). Leaves (inspected_on x graph (asked_by c ws (number_of x)) db) r db') (sym is) (rw formed.1 h)

    pub inspected-nobody : o ≡ None → (r : Replacement) (db' : List ℕ) → Leaves (computed_on inspected-replaces.sized.holds.graph (asked_by c ws nobody) db) r db'
        → Leaves (inspected_on o graph (asked_by c ws (number_of o)) db) r db'
    unfolding alias_outcome inspected-replaces
    inspected-nobody is r db' h =
        let k = routes-alias base c.length (file_setting_of base (asked_by c ws nobody)) graph nobody refl in
        subst (λ (x : Option FileId). Leaves (inspected_on x graph (asked_by c ws (number_of x)) db) r db') (sym is)
        (rw formed.1 (subst (λ (t : Answer PartialPathRefusal (State Route)). Leaves (computation_outcome base graph (asked_by c ws nobody) db t) r db') (sym k) h))

-- ---- the image before that

-- the work area is zero whatever the answer
stored-work : (b : Bool) (g : Graph) (q : FileRequest) (db : List ℕ) (s : State Route) → (filing_outcome base b g q db s).work ≡ zeros q.work
unfolding filing_outcome
stored-work true g q db s = refl
stored-work false g q db s = refl

computed-work : (g : Graph) (q : FileRequest) (db : List ℕ) (t : Answer PartialPathRefusal (State Route)) → (computation_outcome base g q db t).work ≡ zeros q.work
unfolding computation_outcome
computed-work g q db (ok s) = stored-work (has_room base s db) g q db s
computed-work g q db (refuse r) = refl

file-work : (g : Graph) (q : FileRequest) (db : List ℕ) (t : Answer DatabaseRefusal (List Slot)) → (replacement_outcome base g q db t).work ≡ zeros q.work
unfolding replacement_outcome
file-work g q db (ok slots) = computed-work g q db (file_partials base q.length (file_setting_of base q) g q.file)
file-work g q db (refuse r) = refl

alias-work : (g : Graph) (q : FileRequest) (db : List ℕ) (t : Answer DatabaseRefusal (List Slot)) → (alias_outcome base g q db t).work ≡ zeros q.work
unfolding alias_outcome
alias-work g q db (ok slots) = computed-work g q db (alias_routes base q.length (file_setting_of base q) g)
alias-work g q db (refuse r) = refl

module _ (o : Option FileId) {x : Answer ImageRefusal Graph} (q : FileRequest) (db : List ℕ) {ws : List ℕ} (z : ws ≡ zeros q.work) where
  pub image-refused : (r : ImageRefusal) → x ≡ refuse r → Changes (call_for o x q db) (Err (ReplacementRefusal.Image r)) ws db
  unfolding replace_call alias_call
  image-refused r e = on o
    where
      on : (y : Option FileId) → Changes (call_for y x q db) (Err (ReplacementRefusal.Image r)) ws db
      on (Some f) = rw e (refl, z, refl)
      on None = rw e (refl, z, refl)

  pub image-accepted : (g : Graph) → x ≡ ok g → (a : Replacement) (db' : List ℕ) → Leaves (inspected_on o g q db) a db' → Changes (call_for o x q db) a ws db'
  unfolding replace_call alias_call
  image-accepted g e a db' h = on o h
    where
      on : (y : Option FileId) → Leaves (inspected_on y g q db) a db' → Changes (call_for y x q db) a ws db'
      on (Some f) h = rw e (h.0, z ∙ sym (file-work g q db (check_database base known_owners g db)), h.1)
      on None h = rw e (h.0, z ∙ sym (alias-work g q db (check_database base known_owners g db)), h.1)
