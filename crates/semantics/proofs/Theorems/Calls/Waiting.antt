-- THE WAITING FIGURE OF A CALL: from the figure that an unrefused call tells, its answer with any other work area is known. As many slots as the
-- figure are enough: the same answer and the same words. With fewer the call is 31. So an operator lends exactly the figure. Document 02, order 2.
use Rattle.std.specs.Prelude.{ℕ, ◌≤◌, ◌<◌, Bool, List, [], ◌∷◌, ltb, Err, Ok}
use Rattle.std.proofs.Common.{arith, sym, ⊎_elim}
use Rattle.std.proofs.Math.Path.{◌≡◌, refl, subst}
use Rattle.std.proofs.Math.Bool.{true, false, true≢false}
use Rattle.semantics.specs.declared.search.SearchStats.{SearchStats}
use Rattle.semantics.specs.declared.search.PartialPathStats.{PartialPathStats}
use Rattle.semantics.specs.declared.refusal.ImageRefusal.{ImageRefusal}
use Rattle.semantics.specs.declared.refusal.DatabaseRefusal.{DatabaseRefusal}
use Rattle.semantics.specs.declared.refusal.SearchRefusal.{SearchRefusal}
use Rattle.semantics.specs.declared.refusal.SearchRefusal.TheVariants as Search
use Rattle.semantics.specs.declared.refusal.PartialPathRefusal.{PartialPathRefusal}
use Rattle.semantics.specs.declared.refusal.PartialPathRefusal.TheVariants as Partial
use Rattle.semantics.specs.Limits.{Bounds, slot_words, nobody, Limit}
use Rattle.semantics.specs.Answer.{Answer, ok, refuse, and_then, wrap}
use Rattle.semantics.specs.Answer.Laws.{refuse-ok}
use Rattle.semantics.specs.Graph.{Graph, View, view_of}
use Rattle.semantics.specs.Path.{Path, from_reference}
use Rattle.semantics.specs.Enumeration.{Setting, State, Try, slots, enumerate, report_of}
use Rattle.semantics.specs.Enumeration.Waiting.{lent, waited, WithSlots, waiting-other}
use Rattle.semantics.specs.Direct.{direct, tries}
use Rattle.semantics.specs.PartialPaths.{Route, Slot, partials, route_tries, route_at, start_routes, belongs, owned_by, file_routes, if_known, file_partials, alias_routes, partial_stats}
use Rattle.semantics.specs.Hidden.{seen_slots}
use Rattle.semantics.specs.Stitching.{stitched, slot_tries}
use Rattle.semantics.specs.Words.{whole_slots}
use Rattle.semantics.specs.Database.{check_database, has_room}
use Rattle.semantics.proofs.Theorems.Calls.Statistics.{searched-done}
use Rattle.semantics.specs.Calls.{Request, FileRequest, Outcome, Change, Reply, setting_of, file_setting_of, refused, unaltered, search_outcome, direct_call, stitched_outcome, stitched_call, filing_outcome, computation_outcome, replacement_outcome, replace_call, alias_outcome, alias_call}
use Rattle.semantics.specs.PublicAnswers.{Replacement, Resolution, resolved}
use Rattle.semantics.specs.declared.answer.ReplacementRefusal.{ReplacementRefusal}
use Rattle.semantics.specs.declared.answer.ResolutionRefusal.{ResolutionRefusal}

-- the waiting slots in so many words of work area
abbrev pub slots_for : Bounds → ℕ → ℕ
slots_for bd work = whole_slots (slot_words bd) work

-- the same request with so many words of work area
abbrev pub lending : ℕ → Request → Request
lending work q = record { order = q.order; limits = q.limits; work = work; result = q.result; node = q.node }

abbrev pub lending_file : ℕ → FileRequest → FileRequest
lending_file work q = record { order = q.order; length = q.length; expansions = q.expansions; work = work; file = q.file }

-- what a search answers with n slots, where it answered `before` with the figure f: the same paths, number and statistics, or 31
abbrev pub SearchWith : ℕ → ℕ → Request → (before after : Outcome Resolution) → Type 0
SearchWith f n q before after =
    (f ≤ n → (after.answer ≡ before.answer) × (after.result ≡ before.result)) × (n < f → after ≡ refused q (Err (ResolutionRefusal.Refused Search.NoWaitingSlot)))

-- the same of a replacement: the same statistics and the same database, or 31 and the database unaltered
abbrev pub FilingWith : ℕ → ℕ → FileRequest → List ℕ → (before after : Change Replacement) → Type 0
FilingWith f n q words before after =
    (f ≤ n → (after.answer ≡ before.answer) × (after.database ≡ before.database)) × (n < f → after ≡ unaltered q words (Err (ReplacementRefusal.Refused Partial.NoWaitingSlot)))

-- ---- the searches with other slots

module _ (c : Setting SearchRefusal) (w v : ℕ) (u : State Path) where
  abbrev lend : ℕ → Setting SearchRefusal
  lend n = lent (slots n Search.NoWaitingSlot) c

  begun-other : (a : Answer SearchRefusal Path) (ts : Path → List (Try SearchRefusal Path)) (fuel : ℕ) → and_then a (λ p. enumerate (lend w) ts fuel (p ∷ [])) ≡ ok u
      → WithSlots v Search.NoWaitingSlot u (and_then a (λ p. enumerate (lend v) ts fuel (p ∷ [])))
  begun-other (ok p) ts fuel e = waiting-other c w v Search.NoWaitingSlot ts fuel (p ∷ []) u e
  begun-other (refuse r) ts fuel e = absurd (refuse-ok r u e)

  direct-other : (bd : Bounds) (lim : Limit) (g : View) (n : ℕ) → direct bd lim (lend w) g n ≡ ok u → WithSlots v Search.NoWaitingSlot u (direct bd lim (lend v) g n)
  unfolding direct
  direct-other bd lim g n e = begun-other (wrap Search.Path (from_reference g n)) (tries Search.TooLong bd lim g) bd.expansions e

  stitched-other : (bd : Bounds) (lim : Limit) (g : View) (db : List Slot) (n : ℕ) → stitched bd lim (lend w) g db n ≡ ok u → WithSlots v Search.NoWaitingSlot u (stitched bd lim (lend v) g db n)
  unfolding stitched
  stitched-other bd lim g db n e = begun-other (wrap Search.Path (from_reference g n)) (slot_tries bd lim g db) bd.expansions e

-- ---- what a call leaves

module _ (bd : Bounds) (reply : Reply) (q : Request) (work : ℕ) where
  searched-other : (u : State Path) (t : SearchStats) → report_of u ≡ t → (a : Answer SearchRefusal (State Path)) → WithSlots (slots_for bd work) Search.NoWaitingSlot u a
      → SearchWith t.waited (slots_for bd work) (lending work q) (search_outcome bd reply q (ok u)) (search_outcome bd reply (lending work q) a)
  unfolding search_outcome
  searched-other u t is a k = subst (λ (y : SearchStats). SearchWith y.waited (slots_for bd work) (lending work q) (search_outcome bd reply q (ok u)) (search_outcome bd reply (lending work q) a)) is (⊎_elim
      (λ (j : (waited u ≤ (slots_for bd work)) × (a ≡ ok u)). subst (λ (y : Answer SearchRefusal (State Path)). SearchWith (waited u) (slots_for bd work) (lending work q) (search_outcome bd reply q (ok u)) (search_outcome bd reply (lending work q) y)) (sym j.1)
      ((λ h. (refl, refl)), λ h. absurd (let z = j.0 in omega (arith, z, h))))
      (λ (j : ((slots_for bd work) < waited u) × (a ≡ refuse Search.NoWaitingSlot)). subst (λ (y : Answer SearchRefusal (State Path)). SearchWith (waited u) (slots_for bd work) (lending work q) (search_outcome bd reply q (ok u)) (search_outcome bd reply (lending work q) y)) (sym j.1)
      ((λ h. absurd (let z = j.0 in omega (arith, z, h))), λ h. refl))
      k)

-- ---- THE CALLS

module _ (bd : Bounds) (reply : Reply) where
  pub direct-waiting : (image : Answer ImageRefusal Graph) (q : Request) (n : ℕ) (t : SearchStats) → (direct_call bd reply image q).answer ≡ resolved n t → (work : ℕ)
      → SearchWith t.waited (slots_for bd work) (lending work q) (direct_call bd reply image q) (direct_call bd reply image (lending work q))
  unfolding direct_call
  direct-waiting (ok g) q n t e work =
      let lim = q.limits.length in
      let x = searched-done bd reply q n t (direct bd lim (setting_of bd q) (view_of g) q.node) e in
      let k = direct-other (setting_of bd q) (slots_for bd q.work) (slots_for bd work) x.0 bd lim (view_of g) q.node x.1 in
      subst (λ (a : Answer SearchRefusal (State Path)). SearchWith t.waited (slots_for bd work) (lending work q) (search_outcome bd reply q a) (direct_call bd reply (ok g) (lending work q))) (sym x.1)
      (searched-other bd reply q work x.0 t x.2 (direct bd lim (setting_of bd (lending work q)) (view_of g) q.node) k)
  direct-waiting (refuse r) q n t e work = absurd (let z : ◌≡◌ {A = Bool} true false = cc in true≢false z)

  stitched-found : (see : ℕ → Bool) (g : Graph) (q : Request) (n : ℕ) (t : SearchStats) (db : List Slot) → (stitched_outcome bd reply see g q (ok db)).answer ≡ resolved n t → (work : ℕ)
      → SearchWith t.waited (slots_for bd work) (lending work q) (stitched_outcome bd reply see g q (ok db)) (stitched_outcome bd reply see g (lending work q) (ok db))
  unfolding stitched_outcome
  stitched-found see g q n t db e work =
      let lim = q.limits.length in
      let x = searched-done bd reply q n t (stitched bd lim (setting_of bd q) (view_of g) (seen_slots see db) q.node) e in
      let k = stitched-other (setting_of bd q) (slots_for bd q.work) (slots_for bd work) x.0 bd lim (view_of g) (seen_slots see db) q.node x.1 in
      subst (λ (a : Answer SearchRefusal (State Path)). SearchWith t.waited (slots_for bd work) (lending work q) (search_outcome bd reply q a) (stitched_outcome bd reply see g (lending work q) (ok db))) (sym x.1)
      (searched-other bd reply q work x.0 t x.2 (stitched bd lim (setting_of bd (lending work q)) (view_of g) (seen_slots see db) q.node) k)

  pub stitched-waiting : (known : ℕ → ℕ → Bool) (see : ℕ → Bool) (image : Answer ImageRefusal Graph) (words : List ℕ) (q : Request) (n : ℕ) (t : SearchStats) → (stitched_call bd reply known see image words q).answer ≡ resolved n t → (work : ℕ)
      → SearchWith t.waited (slots_for bd work) (lending work q) (stitched_call bd reply known see image words q) (stitched_call bd reply known see image words (lending work q))
  unfolding stitched_call stitched_outcome
  stitched-waiting known see (ok g) words q n t e work = on (check_database bd known g words) e
    where
      on : (a : Answer DatabaseRefusal (List Slot)) → (stitched_outcome bd reply see g q a).answer ≡ resolved n t → SearchWith t.waited (slots_for bd work) (lending work q) (stitched_outcome bd reply see g q a) (stitched_outcome bd reply see g (lending work q) a)
      on (ok db) h = stitched-found see g q n t db h work
      on (refuse r) h = absurd (let z : ◌≡◌ {A = Bool} true false = cc in true≢false z)
  stitched-waiting known see (refuse r) words q n t e work = absurd (let z : ◌≡◌ {A = Bool} true false = cc in true≢false z)

-- ---- THE PARTIAL PATHS OF A FILE, AND THE ALIAS SET

module _ (bd : Bounds) (g : Graph) (q : FileRequest) (words : List ℕ) (work : ℕ) where
  abbrev computed : FileRequest → Answer PartialPathRefusal (State Route)
  computed x = file_partials bd x.length (file_setting_of bd x) g x.file

  partials-other : (u : State Route) → computed q ≡ ok u → WithSlots (slots_for bd work) Partial.NoWaitingSlot u (computed (lending_file work q))
  unfolding file_partials if_known
  partials-other u e = on (ltb q.file g.files) e
    where
      on : (b : Bool) → if_known b bd q.length (file_setting_of bd q) g q.file ≡ ok u → WithSlots (slots_for bd work) Partial.NoWaitingSlot u (if_known b bd q.length (file_setting_of bd (lending_file work q)) g q.file)
      on true k = unfold file_routes in unfold partials in waiting-other (file_setting_of bd q) (slots_for bd q.work) (slots_for bd work) Partial.NoWaitingSlot (route_tries bd q.length (view_of g) (belongs (view_of g) q.file)) bd.expansions (start_routes g q.file) u k
      on false k = absurd (refuse-ok _ u k)

  abbrev computed_aliases : FileRequest → Answer PartialPathRefusal (State Route)
  computed_aliases x = alias_routes bd x.length (file_setting_of bd x) g

  aliases-other : (u : State Route) → computed_aliases q ≡ ok u → WithSlots (slots_for bd work) Partial.NoWaitingSlot u (computed_aliases (lending_file work q))
  unfolding alias_routes partials
  aliases-other u e = waiting-other (file_setting_of bd q) (slots_for bd q.work) (slots_for bd work) Partial.NoWaitingSlot (route_tries bd q.length (view_of g) (owned_by (view_of g) nobody)) bd.expansions (route_at 0 ∷ []) u e

  computed-done : (a : Answer PartialPathRefusal (State Route)) (t : PartialPathStats) → (computation_outcome bd g q words a).answer ≡ Ok t → (u : State Route) × (a ≡ ok u) × (has_room bd u words ≡ true) × (partial_stats u ≡ t)
  unfolding computation_outcome filing_outcome
  computed-done (ok u) t e = on (has_room bd u words) refl e
    where
      on : (b : Bool) → has_room bd u words ≡ b → (filing_outcome bd b g q words u).answer ≡ Ok t → (x : State Route) × (◌≡◌ {A = Answer PartialPathRefusal (State Route)} (ok u) (ok x)) × (has_room bd x words ≡ true) × (partial_stats x ≡ t)
      on true k h = (u, refl, k, cc)
      on false k h = absurd (let z : ◌≡◌ {A = Bool} true false = cc in true≢false z)
  computed-done (refuse r) t e = absurd (let z : ◌≡◌ {A = Bool} true false = cc in true≢false z)

  computed-other : (u : State Route) (t : PartialPathStats) → partial_stats u ≡ t → (a : Answer PartialPathRefusal (State Route)) → WithSlots (slots_for bd work) Partial.NoWaitingSlot u a
      → FilingWith t.waited (slots_for bd work) (lending_file work q) words (computation_outcome bd g q words (ok u)) (computation_outcome bd g (lending_file work q) words a)
  unfolding computation_outcome filing_outcome
  computed-other u t is a k = subst (λ (y : PartialPathStats). FilingWith y.waited (slots_for bd work) (lending_file work q) words (computation_outcome bd g q words (ok u)) (computation_outcome bd g (lending_file work q) words a)) is (⊎_elim
      (λ (j : (waited u ≤ slots_for bd work) × (a ≡ ok u)). subst (λ (y : Answer PartialPathRefusal (State Route)). FilingWith (waited u) (slots_for bd work) (lending_file work q) words (computation_outcome bd g q words (ok u)) (computation_outcome bd g (lending_file work q) words y)) (sym j.1)
      ((λ h. same (has_room bd u words)), λ h. absurd (let z = j.0 in omega (arith, z, h))))
      (λ (j : (slots_for bd work < waited u) × (a ≡ refuse Partial.NoWaitingSlot)). subst (λ (y : Answer PartialPathRefusal (State Route)). FilingWith (waited u) (slots_for bd work) (lending_file work q) words (computation_outcome bd g q words (ok u)) (computation_outcome bd g (lending_file work q) words y)) (sym j.1)
      ((λ h. absurd (let z = j.0 in omega (arith, z, h))), λ h. refl))
      k)
    where
      same : (b : Bool) → ((filing_outcome bd b g (lending_file work q) words u).answer ≡ (filing_outcome bd b g q words u).answer) × ((filing_outcome bd b g (lending_file work q) words u).database ≡ (filing_outcome bd b g q words u).database)
      same true = (refl, refl)
      same false = (refl, refl)

  -- of a computation with these slots and with others
  computed-waiting : (with-these with-others : Answer PartialPathRefusal (State Route)) → ((u : State Route) → with-these ≡ ok u → WithSlots (slots_for bd work) Partial.NoWaitingSlot u with-others)
      → (t : PartialPathStats) → (computation_outcome bd g q words with-these).answer ≡ Ok t
      → FilingWith t.waited (slots_for bd work) (lending_file work q) words (computation_outcome bd g q words with-these) (computation_outcome bd g (lending_file work q) words with-others)
  computed-waiting these others other t e =
      let x = computed-done these t e in
      subst (λ (a : Answer PartialPathRefusal (State Route)). FilingWith t.waited (slots_for bd work) (lending_file work q) words (computation_outcome bd g q words a) (computation_outcome bd g (lending_file work q) words others)) (sym x.1)
      (computed-other x.0 t x.3 others (other x.0 x.1))

pub replace-waiting : (bd : Bounds) (known : ℕ → ℕ → Bool) (image : Answer ImageRefusal Graph) (q : FileRequest) (words : List ℕ) (t : PartialPathStats) → (replace_call bd known image q words).answer ≡ Ok t → (work : ℕ)
    → FilingWith t.waited (slots_for bd work) (lending_file work q) words (replace_call bd known image q words) (replace_call bd known image (lending_file work q) words)
unfolding replace_call replacement_outcome
replace-waiting bd known (ok g) q words t e work = on (check_database bd known g words) e
  where
    on : (a : Answer DatabaseRefusal (List Slot)) → (replacement_outcome bd g q words a).answer ≡ Ok t → FilingWith t.waited (slots_for bd work) (lending_file work q) words (replacement_outcome bd g q words a) (replacement_outcome bd g (lending_file work q) words a)
    on (ok db) h = computed-waiting bd g q words work (computed bd g q words work q) (computed bd g q words work (lending_file work q)) (partials-other bd g q words work) t h
    on (refuse r) h = absurd (let z : ◌≡◌ {A = Bool} true false = cc in true≢false z)
replace-waiting bd known (refuse r) q words t e work = absurd (let z : ◌≡◌ {A = Bool} true false = cc in true≢false z)

pub alias-waiting : (bd : Bounds) (known : ℕ → ℕ → Bool) (image : Answer ImageRefusal Graph) (q : FileRequest) (words : List ℕ) (t : PartialPathStats) → (alias_call bd known image q words).answer ≡ Ok t → (work : ℕ)
    → FilingWith t.waited (slots_for bd work) (lending_file work q) words (alias_call bd known image q words) (alias_call bd known image (lending_file work q) words)
unfolding alias_call alias_outcome
alias-waiting bd known (ok g) q words t e work = on (check_database bd known g words) e
  where
    on : (a : Answer DatabaseRefusal (List Slot)) → (alias_outcome bd g q words a).answer ≡ Ok t → FilingWith t.waited (slots_for bd work) (lending_file work q) words (alias_outcome bd g q words a) (alias_outcome bd g (lending_file work q) words a)
    on (ok db) h = computed-waiting bd g q words work (computed_aliases bd g q words work q) (computed_aliases bd g q words work (lending_file work q)) (aliases-other bd g q words work) t h
    on (refuse r) h = absurd (let z : ◌≡◌ {A = Bool} true false = cc in true≢false z)
alias-waiting bd known (refuse r) q words t e work = absurd (let z : ◌≡◌ {A = Bool} true false = cc in true≢false z)
