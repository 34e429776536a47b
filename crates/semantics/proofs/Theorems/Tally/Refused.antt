-- The refusals of a tally are those of the unlimited depth-first direct search with the same work area, except 32; then all its numbers are 0.
-- Document 02, order 9: "Refusals are those of that search in depth-first order, except 32, as no path is kept".
use Rattle.std.specs.Prelude.{ℕ, suc, ◌⊎◌, Bool, ltb, length, None, Err, Ok}
use Rattle.std.proofs.Math.Path.{◌≡◌, refl, sym, ap}
use Rattle.std.proofs.Common.{◌∙◌, subst}
use Rattle.std.proofs.Math.Logic.{inl, inr, ⊎_elim}
use Rattle.std.proofs.Math.Bool.{true, false, true≢false}
use mathlib.Core.List.{[], ◌∷◌, Memᴰ}
use Rattle.semantics.specs.declared.search.SearchOrder.TheVariants.{DepthFirst}
use Rattle.semantics.specs.declared.search.SearchStats.{SearchStats}
use Rattle.semantics.specs.declared.refusal.ImageRefusal.{ImageRefusal}
use Rattle.semantics.specs.declared.refusal.PathRefusal.{PathRefusal}
use Rattle.semantics.specs.declared.refusal.SearchRefusal.{SearchRefusal}
use Rattle.semantics.specs.declared.refusal.SearchRefusal.TheVariants as Search
use Rattle.semantics.specs.Lists.{has}
use Rattle.semantics.specs.Lists.Laws.{mem-map}
use Rattle.semantics.specs.Limits.{Bounds, slot_words, within}
use Rattle.semantics.specs.Answer.{Answer, ok, refuse, and_then, wrap}
use Rattle.semantics.specs.Answer.Laws.{refuse-inj, refuse-ok}
use Rattle.semantics.specs.Graph.{Graph, View, view_of}
use Rattle.semantics.specs.Path.{Path, from_reference, append}
use Rattle.semantics.specs.Enumeration.{Setting, State, Try, stop, slots, unlimited, tested, enumerate}
use Rattle.semantics.specs.Enumeration.Alike.{Full, Beside, counted, enumerate-beside, ok-beside, refuse-beside, unlimited-never}
use Rattle.semantics.specs.Enumeration.Refusals.{RefusedBy, enumerate-refused}
use Rattle.semantics.specs.Direct.{extended, judge, tries, direct}
use Rattle.semantics.specs.Words.{zeros, whole_slots}
use Rattle.semantics.specs.Calls.{Request, Reply, search_outcome, direct_call}
use Rattle.semantics.specs.Tally.{no_limits, tally_setting, TallyRequest, tally_outcome, tally_call}
use Rattle.semantics.specs.PublicAnswers.{Resolution, resolved}
use Rattle.semantics.specs.declared.answer.ResolutionRefusal.{ResolutionRefusal}
use Rattle.semantics.specs.declared.answer.TurnedBack.{TurnedBack}

-- that search: with the work area of the tally, and any result area
abbrev pub search_like : TallyRequest → ℕ → Request
search_like q result = record { order = DepthFirst; limits = no_limits; work = q.work; result = result; node = q.node }

-- ON THE SEARCH

-- what a direct search answers, beside the one that keeps nothing
module _ (bd : Bounds) (c : Setting SearchRefusal) (g : View) (r : ℕ) where
  abbrev uncounted : Answer SearchRefusal (State Path)
  uncounted = and_then (wrap Search.Path (from_reference g r)) (λ p. counted c (tries Search.TooLong bd None g) bd.expansions (p ∷ []))

  direct-beside : Beside c (direct bd None c g r) uncounted
  unfolding direct
  direct-beside = on (wrap Search.Path (from_reference g r))
    where
      on : (a : Answer SearchRefusal Path) → Beside c (and_then a (λ p. enumerate c (tries Search.TooLong bd None g) bd.expansions (p ∷ []))) (and_then a (λ p. counted c (tries Search.TooLong bd None g) bd.expansions (p ∷ [])))
      on (ok p) = enumerate-beside c (tries Search.TooLong bd None g) bd.expansions (p ∷ [])
      on (refuse x) = inl refl

-- a try of direct search stops it with 30 alone
stopped-long : (bd : Bounds) (g : View) (p : Path) (x : SearchRefusal) → Memᴰ (stop x) (tries Search.TooLong bd None g p) → x ≡ Search.TooLong
unfolding tries judge
stopped-long bd g p x m =
    let k = mem-map (judge Search.TooLong bd None g p) (stop x) (g.out p.end) m in
    let e = k.0 in
    tests (has e p.edges) (within (suc (length p.edges)) None) (ltb (length p.edges) bd.edges) (extended g (append g p e)) (λ y. grown (append g p e) y) (sym k.2)
  where
    grown : (a : Answer PathRefusal Path) (y : SearchRefusal) → extended g a ≡ stop y → ⊥
    grown (ok q) y h = unfold extended in (let z : ◌≡◌ {A = Bool} true false = cc in true≢false z)
    grown (refuse s) y h = unfold extended in (let z : ◌≡◌ {A = Bool} true false = cc in true≢false z)

    tests : (cycle short room : Bool) (next : Try SearchRefusal Path) → ((y : SearchRefusal) → next ≡ stop y → ⊥) → tested cycle short room Search.TooLong next ≡ stop x → x ≡ Search.TooLong
    tests true short room next n h = absurd (unfold tested in (let z : ◌≡◌ {A = Bool} true false = cc in true≢false z))
    tests false false room next n h = absurd (unfold tested in (let z : ◌≡◌ {A = Bool} true false = cc in true≢false z))
    tests false true false next n h = unfold tested in cc
    tests false true true next n h = absurd (n x (unfold tested in h))

module _ (bd : Bounds) (W : ℕ) (g : View) (r : ℕ) where
  abbrev tallied : Answer SearchRefusal (State Path)
  tallied = direct bd None (tally_setting W) g r

  -- never 32
  never-full : (x : SearchRefusal) → tallied ≡ refuse x → x ≡ Search.NoResultSlot → ⊥
  unfolding direct
  never-full x e = on (from_reference g r) e
    where
      other : (y : SearchRefusal) → y ≡ Search.TooLong → y ≡ Search.NoResultSlot → ⊥
      other y h k = let z : ◌≡◌ {A = Bool} true false = cc in true≢false z

      waits : (y : SearchRefusal) → RefusedBy (slots W Search.NoWaitingSlot) y → y ≡ Search.NoResultSlot → ⊥
      waits y h k = let q = h.1 in let z : ◌≡◌ {A = Bool} true false = cc in true≢false z

      keeps : (y : SearchRefusal) → RefusedBy {R = SearchRefusal} unlimited y → y ≡ Search.NoResultSlot → ⊥
      keeps y h k = let q = h.1 in let z : ◌≡◌ {A = Bool} true false = cc in true≢false z

      many : Search.TooManyExpansions ≡ Search.NoResultSlot → ⊥
      many k = let z : ◌≡◌ {A = Bool} true false = cc in true≢false z

      on : (a : Answer PathRefusal Path) → and_then (wrap Search.Path a) (λ p. enumerate (tally_setting W) (tries Search.TooLong bd None g) bd.expansions (p ∷ [])) ≡ refuse x → x ≡ Search.NoResultSlot → ⊥
      on (ok p) h k =
          enumerate-refused (tally_setting W) (λ y. y ≡ Search.NoResultSlot → ⊥) waits keeps many (tries Search.TooLong bd None g) (λ w y m. other y (stopped-long bd g w y m)) bd.expansions (p ∷ []) x h k
      on (refuse s) h k = let q : Search.Path s ≡ x = refuse-inj {A = State Path} (Search.Path s) x h in let z : ◌≡◌ {A = Bool} true false = cc in true≢false z

  module _ (results : ℕ) where
    abbrev like : Setting SearchRefusal
    like = record { order = DepthFirst; max_count = None; max_complete = None; waiting = slots W Search.NoWaitingSlot; results = slots results Search.NoResultSlot; too_many = Search.TooManyExpansions }

    -- the search that keeps paths in slots
    abbrev slotted : Answer SearchRefusal (State Path)
    slotted = direct bd None like g r

    full_is : (x : SearchRefusal) → Full like x → x ≡ Search.NoResultSlot
    full_is x f = let q = f.area in cc

    there-ok : (u : State Path) → slotted ≡ ok u → (v : State Path) × (tallied ≡ ok v)
    there-ok u e =
        let k = ok-beside like (tally_setting W) (unlimited-never (tally_setting W) refl) u tallied (uncounted bd like g r)
        (subst (λ (a : Answer SearchRefusal (State Path)). Beside like a (uncounted bd like g r)) e (direct-beside bd like g r)) (direct-beside bd (tally_setting W) g r) in
        (k.0, k.1)

    there-refused : (x : SearchRefusal) → slotted ≡ refuse x → (x ≡ Search.NoResultSlot → ⊥) → tallied ≡ refuse x
    there-refused x e other =
        ⊎_elim (λ k. k) (λ (f : Full like x). absurd (other (full_is x f)))
        (refuse-beside like (tally_setting W) (unlimited-never (tally_setting W) refl) x tallied (uncounted bd like g r)
        (subst (λ (a : Answer SearchRefusal (State Path)). Beside like a (uncounted bd like g r)) e (direct-beside bd like g r)) (direct-beside bd (tally_setting W) g r))

-- is it 32
full-or-not : (y : SearchRefusal) → (y ≡ Search.NoResultSlot) ⊎ (y ≡ Search.NoResultSlot → ⊥)
full-or-not Search.NoResultSlot = inl refl
full-or-not Search.NoWaitingSlot = inr (λ e. let z : ◌≡◌ {A = Bool} true false = cc in true≢false z)
full-or-not Search.TooLong = inr (λ e. let z : ◌≡◌ {A = Bool} true false = cc in true≢false z)
full-or-not Search.TooManyExpansions = inr (λ e. let z : ◌≡◌ {A = Bool} true false = cc in true≢false z)
full-or-not (Search.Path t) = inr (λ e. let z : ◌≡◌ {A = Bool} true false = cc in true≢false z)

-- ON THE CALL
module _ (bd : Bounds) (q : TallyRequest) (reply : Reply) (result : ℕ) where
  -- the answer of the search, beside that of the tally
  pub record Refusals (image : Answer ImageRefusal Graph) : Type 0 where
    -- the search's refusal is the tally's, except 32
    pub given : (x : SearchRefusal) → (direct_call bd reply image (search_like q result)).answer ≡ Err (ResolutionRefusal.Refused x) → (x ≡ Search.NoResultSlot → ⊥) → (tally_call bd q image).answer ≡ Err (TurnedBack.Refused x)
    -- the tally's is the search's, where that does not meet 32 before it
    pub met : (x : SearchRefusal) → (tally_call bd q image).answer ≡ Err (TurnedBack.Refused x)
        → ((direct_call bd reply image (search_like q result)).answer ≡ Err (ResolutionRefusal.Refused x)) ⊎ ((direct_call bd reply image (search_like q result)).answer ≡ Err (ResolutionRefusal.Refused Search.NoResultSlot))
    -- where the search ends, so does the tally
    pub ended : (n : ℕ) (t : SearchStats) → (direct_call bd reply image (search_like q result)).answer ≡ resolved n t → (tally_call bd q image).answer ≡ Ok tt
    -- an image is refused alike
    pub unread : (x : ImageRefusal) → (direct_call bd reply image (search_like q result)).answer ≡ Err (ResolutionRefusal.Image x) → (tally_call bd q image).answer ≡ Err (TurnedBack.Image x)
    -- 32 is never given
    pub never : (tally_call bd q image).answer ≡ Err (TurnedBack.Refused Search.NoResultSlot) → ⊥

  abbrev slots_of : ℕ
  slots_of = whole_slots (slot_words bd) q.work

  abbrev results : ℕ
  results = whole_slots (slot_words bd) result

  compared : (v : View) (a b : Answer SearchRefusal (State Path)) → slotted bd slots_of v q.node results ≡ a → tallied bd slots_of v q.node ≡ b
      → ((x : SearchRefusal) → (search_outcome bd reply (search_like q result) a).answer ≡ Err (ResolutionRefusal.Refused x) → (x ≡ Search.NoResultSlot → ⊥) → (tally_outcome bd q b).answer ≡ Err (TurnedBack.Refused x))
      × ((x : SearchRefusal) → (tally_outcome bd q b).answer ≡ Err (TurnedBack.Refused x) → ((search_outcome bd reply (search_like q result) a).answer ≡ Err (ResolutionRefusal.Refused x)) ⊎ ((search_outcome bd reply (search_like q result) a).answer ≡ Err (ResolutionRefusal.Refused Search.NoResultSlot)))
      × ((n : ℕ) (t : SearchStats) → (search_outcome bd reply (search_like q result) a).answer ≡ resolved n t → (tally_outcome bd q b).answer ≡ Ok tt)
  unfolding search_outcome tally_outcome
  compared v (ok u) b p r =
      let k = there-ok bd slots_of v q.node results u p in
      let z : b ≡ ok k.0 = sym r ∙ k.1 in
      rw z ((λ x h o. absurd (let y : ◌≡◌ {A = Bool} true false = cc in true≢false y)), (λ x h. absurd (let y : ◌≡◌ {A = Bool} true false = cc in true≢false y)), (λ n t h. refl))
  compared v (refuse y) (ok w) p r = (
    (λ x h o. let z : y ≡ x = cc in absurd (refuse-ok y w (sym (there-refused bd slots_of v q.node results y p (λ e. o (sym z ∙ e))) ∙ r))),
    (λ x h. absurd (let z : ◌≡◌ {A = Bool} true false = cc in true≢false z)),
    (λ n t h. refl),
  )
  compared v (refuse y) (refuse s) p r = (
    (λ x h o. let z : y ≡ x = cc in let k : s ≡ y = refuse-inj {A = State Path} s y (sym r ∙ there-refused bd slots_of v q.node results y p (λ e. o (sym z ∙ e))) in ap (λ r. Err (TurnedBack.Refused r)) (k ∙ z)),
    (λ x h. let z : s ≡ x = cc in either y s x p r z),
    (λ n t h. absurd (let z : ◌≡◌ {A = Bool} true false = cc in true≢false z)),
  )
    where
      either : (y s x : SearchRefusal) → slotted bd slots_of v q.node results ≡ refuse y → tallied bd slots_of v q.node ≡ refuse s → s ≡ x
          → ◌≡◌ {A = Resolution} (Err (ResolutionRefusal.Refused y)) (Err (ResolutionRefusal.Refused x)) ⊎ ◌≡◌ {A = Resolution} (Err (ResolutionRefusal.Refused y)) (Err (ResolutionRefusal.Refused Search.NoResultSlot))
      either y s x p r z =
          ⊎_elim (λ (e : y ≡ Search.NoResultSlot). inr (ap (λ r. Err (ResolutionRefusal.Refused r)) e))
          (λ (o : y ≡ Search.NoResultSlot → ⊥). inl (ap (λ r. Err (ResolutionRefusal.Refused r)) (refuse-inj {A = State Path} y s (sym (there-refused bd slots_of v q.node results y p o) ∙ r) ∙ z))) (full-or-not y)

  pub tally-refusals : (image : Answer ImageRefusal Graph) → Refusals image
  unfolding direct_call tally_call
  tally-refusals (ok g) =
      let k = compared (view_of g) (slotted bd slots_of (view_of g) q.node results) (tallied bd slots_of (view_of g) q.node) refl refl in
      record {
        given = k.0;
        met = k.1;
        ended = k.2;
        unread = λ x e. absurd (no-image (slotted bd slots_of (view_of g) q.node results) x e);
        never = no-full (tallied bd slots_of (view_of g) q.node) refl;
      }
    where
      no-image : (a : Answer SearchRefusal (State Path)) (x : ImageRefusal) → (search_outcome bd reply (search_like q result) a).answer ≡ Err (ResolutionRefusal.Image x) → ⊥
      no-image (ok u) x e = unfold search_outcome in (let z : ◌≡◌ {A = Bool} true false = cc in true≢false z)
      no-image (refuse y) x e = unfold search_outcome in (let z : ◌≡◌ {A = Bool} true false = cc in true≢false z)

      no-full : (a : Answer SearchRefusal (State Path)) → tallied bd slots_of (view_of g) q.node ≡ a → (tally_outcome bd q a).answer ≡ Err (TurnedBack.Refused Search.NoResultSlot) → ⊥
      no-full (ok u) p e = unfold tally_outcome in (let z : ◌≡◌ {A = Bool} true false = cc in true≢false z)
      no-full (refuse y) p e = never-full bd slots_of (view_of g) q.node y p (unfold tally_outcome in cc)
  tally-refusals (refuse x) = record {
    given = λ y e o. absurd (let z : ◌≡◌ {A = Bool} true false = cc in true≢false z);
    met = λ y e. absurd (let z : ◌≡◌ {A = Bool} true false = cc in true≢false z);
    ended = λ n t e. absurd (let z : ◌≡◌ {A = Bool} true false = cc in true≢false z);
    unread = λ y e. let z : x ≡ y = cc in ap (λ r. Err (TurnedBack.Image r)) z;
    never = λ e. (let z : ◌≡◌ {A = Bool} true false = cc in true≢false z);
  }

-- A REFUSED CALL has all numbers 0; the work area is zero after every call
module _ (bd : Bounds) (q : TallyRequest) where
  pub tally-zeroed : (image : Answer ImageRefusal Graph) → ((tally_call bd q image).answer ≡ Ok tt → ⊥) → (tally_call bd q image).numbers ≡ zeros (suc bd.edges)
  unfolding tally_call tally_outcome
  tally-zeroed (ok g) h = on (tallied bd (whole_slots (slot_words bd) q.work) (view_of g) q.node) h
    where
      on : (a : Answer SearchRefusal (State Path)) → ((tally_outcome bd q a).answer ≡ Ok tt → ⊥) → (tally_outcome bd q a).numbers ≡ zeros (suc bd.edges)
      on (ok u) h = absurd (h refl)
      on (refuse x) h = refl
  tally-zeroed (refuse x) h = refl

  pub tally-work : (image : Answer ImageRefusal Graph) → (tally_call bd q image).work ≡ zeros q.work
  unfolding tally_call tally_outcome
  tally-work (ok g) = on (tallied bd (whole_slots (slot_words bd) q.work) (view_of g) q.node)
    where
      on : (a : Answer SearchRefusal (State Path)) → (tally_outcome bd q a).work ≡ zeros q.work
      on (ok u) = refl
      on (refuse x) = refl
  tally-work (refuse x) = refl
