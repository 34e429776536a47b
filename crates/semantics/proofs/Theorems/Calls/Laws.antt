-- Demand 3 at the level of words: what stands in the used result slots of the two recorded-path calls; and the same with the alias set.
-- The third demand; document 02, order 5; document 01: "A recorded set is the edge lists in the used result slots of the added call, none twice".
use Rattle.std.specs.Prelude.{ℕ, suc, ◌≤◌, ◌*◌, ◌≡◌, Bool, true, false}
use Rattle.std.proofs.Common.{arith, mul-le-mul_left, le_trans, sym, ◌∙◌, ap, subst, true≢false}
use Rattle.std.proofs.Math.Path.{refl}
use mathlib.Core.List.{List, [], ◌∷◌, Memᴰ}
use Rattle.std.proofs.Math.ListN.{length, length-replicate}
use Rattle.semantics.specs.declared.search.SearchStats.{SearchStats}
use Rattle.semantics.specs.declared.refusal.ImageRefusal.{ImageRefusal}
use Rattle.semantics.specs.declared.refusal.DatabaseRefusal.{DatabaseRefusal}
use Rattle.semantics.specs.declared.refusal.SearchRefusal.{SearchRefusal}
use Rattle.semantics.specs.declared.refusal.SearchRefusal.TheVariants as Search
use Rattle.semantics.specs.Limits.{Bounds, slot_words, Limit}
use Rattle.semantics.specs.Answer.{Answer, ok, refuse}
use Rattle.semantics.specs.Answer.Laws.{ok-inj}
use Rattle.semantics.specs.Graph.{Graph, View, view_of}
use Rattle.semantics.specs.Graph.Laws.{view_of-lawful}
use Rattle.semantics.specs.Path.{Path, append_all}
use Rattle.semantics.proofs.Theorems.Path.Laws.{begun, begun-incomplete, replay-ok, append_all-bound}
use Rattle.semantics.specs.Enumeration.{State, report_of}
use Rattle.semantics.specs.Enumeration.Room.{enumerate-room}
use Rattle.semantics.specs.Recorded.{edge_lists, recorded}
use Rattle.semantics.specs.Recorded.Laws.{recorded-shorter}
use Rattle.semantics.specs.Direct.{direct, tries}
use Rattle.semantics.proofs.Theorems.Direct.Laws.{direct-ok, direct-exact}
use Rattle.semantics.specs.PartialPaths.{Slot}
use Rattle.semantics.specs.Hidden.{seen_slots}
use Rattle.semantics.specs.Stitching.{stitched, slot_tries}
use Rattle.semantics.proofs.Theorems.Stitching.Laws.{stitched-ok, stitched-exact}
use Rattle.semantics.specs.Demand.{Owners, file_owners, all_owners, Demand, DemandAll, Valid, Holds, Suited}
use Rattle.semantics.specs.Acceptance.{accepts}
use Rattle.semantics.specs.Words.{whole_slots, area, lists_in}
use Rattle.semantics.specs.Words.Laws.{Fits, AllFit, lists-area, whole-fits, length-area}
use Rattle.semantics.specs.Database.{slots_in, check_database, known_owners}
use Rattle.semantics.specs.Database.Laws.{checked}
use Rattle.semantics.specs.Calls.{Request, Outcome, setting_of, search_outcome, direct_call, stitched_outcome, stitched_call}
use Rattle.semantics.proofs.Theorems.Demand.Laws.{demand-slots}
use Rattle.semantics.proofs.Theorems.Demand.Aliases.{suited-all, demand-slots-all}
use Rattle.semantics.proofs.Theorems.Acceptance.Laws.{suited}
use Rattle.semantics.specs.PublicAnswers.{Resolution, resolved}
use Rattle.semantics.proofs.Theorems.PublicAnswers.{resolved-stats}

-- THE SLOTS HOLD THE RECORDED LISTS
pub valid-fits : (bd : Bounds) (lim : Limit) (g : View) (r : ℕ) (l : List ℕ) → Valid bd lim g r l → Fits bd.edges l
unfolding append_all
valid-fits bd lim g r [] v =
    let a = replay-ok bd g r [] v.path v.taken.replayed in
    absurd (begun-incomplete g r v.path (begun g r v.path (a.1 ∙ ap ok (ok-inj a.0 v.path a.2))) v.complete)
valid-fits bd lim g r (e ∷ es) v =
    let a = replay-ok bd g r (e ∷ es) v.path v.taken.replayed in
    let n : length a.0.edges ≡ 0 = ap length (begun g r a.0 a.1).edges in
    let b = append_all-bound bd g (e ∷ es) a.0 v.path (omega (arith, n)) a.2 in
    (omega arith, omega (arith, b))

all_fit : (m : ℕ) (ls : List (List ℕ)) → ((l : List ℕ) → Memᴰ l ls → Fits m l) → AllFit m ls
all_fit m [] h = tt
all_fit m (l ∷ ls) h = (h l (Memᴰ.head refl), all_fit m ls (λ x k. h x (Memᴰ.tail k)))

pub length-lists : (ps : List Path) → length (edge_lists ps) ≡ length ps
length-lists [] = refl
length-lists (p ∷ ps) = ap suc (length-lists ps)

module _ (bd : Bounds) (len : ℕ) (u : State Path) (room : length u.kept ≤ whole_slots (slot_words bd) len) (fits : (l : List ℕ) → Memᴰ l (edge_lists (recorded u)) → Fits bd.edges l) (shorter : length (recorded u) ≤ length u.kept) where
  few : length (edge_lists (recorded u)) ≤ whole_slots (slot_words bd) len
  few = omega (arith, length-lists (recorded u), shorter, room)

  within-words : slot_words bd * length (edge_lists (recorded u)) ≤ len
  within-words = le_trans (mul-le-mul_left (slot_words bd) few) (whole-fits (slot_words bd) len)

  slots-hold : lists_in (slot_words bd) (area (slot_words bd) len (edge_lists (recorded u))) ≡ edge_lists (recorded u)
  slots-hold = lists-area bd.edges len (edge_lists (recorded u)) few (all_fit bd.edges (edge_lists (recorded u)) fits) within-words

-- WHAT AN ANSWER TELLS
record Answered (bd : Bounds) (len : ℕ) (a : Answer SearchRefusal (State Path)) (t : SearchStats) (o : Outcome Resolution) : Type 0 where
  pub state : State Path
  pub found : a ≡ ok state
  pub stats : report_of state ≡ t
  pub result : o.result ≡ area (slot_words bd) len (edge_lists (recorded state))

searched-done : (bd : Bounds) (q : Request) (n : ℕ) (t : SearchStats) (a : Answer SearchRefusal (State Path)) → (search_outcome bd recorded q a).answer ≡ resolved n t → Answered bd q.result a t (search_outcome bd recorded q a)
unfolding search_outcome
searched-done bd q n t (ok s) e = record { state = s; found = refl; stats = resolved-stats (length (recorded s)) n (report_of s) t e; result = refl }
searched-done bd q n t (refuse r) e = absurd (let z : ◌≡◌ {A = Bool} true false = cc in true≢false z)

stitched-done : (bd : Bounds) (known : ℕ → ℕ → Bool) (see : ℕ → Bool) (g : Graph) (words : List ℕ) (q : Request) (n : ℕ) (t : SearchStats) → (stitched_call bd recorded known see (ok g) words q).answer ≡ resolved n t
    → Answered bd q.result (stitched bd q.limits.length (setting_of bd q) (view_of g) (seen_slots see (slots_in bd words)) q.node) t (stitched_call bd recorded known see (ok g) words q)
unfolding stitched_call stitched_outcome
stitched-done bd known see g words q n t e = on (check_database bd known g words) refl e
  where
    on : (a : Answer DatabaseRefusal (List Slot)) → check_database bd known g words ≡ a → (stitched_outcome bd recorded see g q a).answer ≡ resolved n t
        → Answered bd q.result (stitched bd q.limits.length (setting_of bd q) (view_of g) (seen_slots see (slots_in bd words)) q.node) t (stitched_outcome bd recorded see g q a)
    on (ok db) k h =
        subst (λ x. Answered bd q.result (stitched bd q.limits.length (setting_of bd q) (view_of g) (seen_slots see x) q.node) t (stitched_outcome bd recorded see g q (ok db))) (sym (checked bd known g words db k))
        (searched-done bd q n t (stitched bd q.limits.length (setting_of bd q) (view_of g) (seen_slots see db) q.node) h)
    on (refuse r) k h = absurd (let z : ◌≡◌ {A = Bool} true false = cc in true≢false z)

-- the used slots of the two calls
abbrev pub direct_lists : Bounds → Graph → Request → List (List ℕ)
direct_lists bd g q = lists_in (slot_words bd) (direct_call bd recorded (ok g) q).result

abbrev pub stitched_lists : Bounds → (ℕ → Bool) → Graph → List ℕ → Request → List (List ℕ)
stitched_lists bd see g words q = lists_in (slot_words bd) (stitched_call bd recorded known_owners see (ok g) words q).result

-- what is recorded stands in the slots
direct-slots : (bd : Bounds) (g : Graph) (q : Request) (u : State Path) → direct bd q.limits.length (setting_of bd q) (view_of g) q.node ≡ ok u → (direct_call bd recorded (ok g) q).result ≡ area (slot_words bd) q.result (edge_lists (recorded u)) → direct_lists bd g q ≡ edge_lists (recorded u)
direct-slots bd g q u h e =
    let a = direct-ok bd q.limits.length (setting_of bd q) (view_of g) q.node u h in
    let x = direct-exact bd q.limits.length (setting_of bd q) (view_of g) (view_of-lawful g) q.node u h in
    ap (lists_in (slot_words bd)) e
    ∙ slots-hold bd q.result u (enumerate-room (whole_slots (slot_words bd) q.result) Search.NoResultSlot (setting_of bd q) refl (tries Search.TooLong bd q.limits.length (view_of g)) bd.expansions (a.0 ∷ []) u a.2)
    (λ l m. valid-fits bd q.limits.length (view_of g) q.node l (x.sound l m)) (recorded-shorter u)

stitched-slots : (O : Owners) (bd : Bounds) (see : ℕ → Bool) (g : Graph) (words : List ℕ) (q : Request) (u : State Path) → Suited (view_of g) O → Holds O bd (view_of g) (seen_slots see (slots_in bd words))
    → stitched bd q.limits.length (setting_of bd q) (view_of g) (seen_slots see (slots_in bd words)) q.node ≡ ok u → (stitched_call bd recorded known_owners see (ok g) words q).result ≡ area (slot_words bd) q.result (edge_lists (recorded u)) → stitched_lists bd see g words q ≡ edge_lists (recorded u)
stitched-slots O bd see g words q u good holds h e =
    let a = stitched-ok O bd q.limits.length (setting_of bd q) (view_of g) q.node (seen_slots see (slots_in bd words)) u h in
    let x = stitched-exact O bd q.limits.length (setting_of bd q) (view_of g) q.node (seen_slots see (slots_in bd words)) u holds good h in
    ap (lists_in (slot_words bd)) e
    ∙ slots-hold bd q.result u (enumerate-room (whole_slots (slot_words bd) q.result) Search.NoResultSlot (setting_of bd q) refl (slot_tries bd q.limits.length (view_of g) (seen_slots see (slots_in bd words))) bd.expansions (a.0 ∷ []) u a.2)
    (λ l m. valid-fits bd q.limits.length (view_of g) q.node l (x.sound l m).0) (recorded-shorter u)

-- same accepted graph and reference, the same length limit; neither call was refused or set its path-count or complete-count flag
module _ (bd : Bounds) (see : ℕ → Bool) (g : Graph) (good : accepts g ≡ true) (q q' : Request) (words : List ℕ) (node : q.node ≡ q'.node) (limit : q.limits.length ≡ q'.limits.length) (n n' : ℕ) (t t' : SearchStats)
    (hd : (direct_call bd recorded (ok g) q).answer ≡ resolved n t) (dn : t.count_limited ≡ false) (dk : t.complete_limited ≡ false)
    (hs : (stitched_call bd recorded known_owners see (ok g) words q').answer ≡ resolved n' t') (sn : t'.count_limited ≡ false) (sk : t'.complete_limited ≡ false) where
  directed : Answered bd q.result (direct bd q.limits.length (setting_of bd q) (view_of g) q.node) t (direct_call bd recorded (ok g) q)
  unfolding direct_call
  directed = searched-done bd q n t (direct bd q.limits.length (setting_of bd q) (view_of g) q.node) hd

  stitched_to : Answered bd q'.result (stitched bd q'.limits.length (setting_of bd q') (view_of g) (seen_slots see (slots_in bd words)) q'.node) t' (stitched_call bd recorded known_owners see (ok g) words q')
  stitched_to = stitched-done bd known_owners see g words q' n' t' hs

  -- the state of either search, its flags, and what stands in its slots
  record Ended (a : Answer SearchRefusal (State Path)) (lists : List (List ℕ)) : Type 0 where
    pub state : State Path
    pub found : a ≡ ok state
    pub uncounted : state.stats.count_limited ≡ false
    pub uncut : state.stats.complete_limited ≡ false
    pub slots : lists ≡ edge_lists (recorded state)

  direct-ended : Ended (direct bd q.limits.length (setting_of bd q) (view_of g) q.node) (direct_lists bd g q)
  direct-ended = record {
    state = directed.state;
    found = directed.found;
    uncounted = ap (λ (z : SearchStats). z.count_limited) directed.stats ∙ dn;
    uncut = ap (λ (z : SearchStats). z.complete_limited) directed.stats ∙ dk;
    slots = direct-slots bd g q directed.state directed.found directed.result;
  }

  -- as asked of direct search
  stitched-ended : (O : Owners) → Suited (view_of g) O → Holds O bd (view_of g) (seen_slots see (slots_in bd words)) → Ended (stitched bd q.limits.length (setting_of bd q') (view_of g) (seen_slots see (slots_in bd words)) q.node) (stitched_lists bd see g words q')
  stitched-ended O fit holds =
      let s = stitched_to in
      record {
        state = s.state;
        found = subst (λ z. stitched bd q.limits.length (setting_of bd q') (view_of g) (seen_slots see (slots_in bd words)) z ≡ ok s.state) (sym node) (subst (λ z. stitched bd z (setting_of bd q') (view_of g) (seen_slots see (slots_in bd words)) q'.node ≡ ok s.state) (sym limit) s.found);
        uncounted = ap (λ (z : SearchStats). z.count_limited) s.stats ∙ sn;
        uncut = ap (λ (z : SearchStats). z.complete_limited) s.stats ∙ sk;
        slots = stitched-slots O bd see g words q' s.state fit holds s.found s.result;
      }

  -- the database holds the files' partial paths
  pub demand : Holds (file_owners g) bd (view_of g) (seen_slots see (slots_in bd words)) → Demand bd (view_of g) q.node q.limits.length (direct_lists bd g q) (stitched_lists bd see g words q')
  demand holds =
      let d = direct-ended in
      let s = stitched-ended (file_owners g) (suited g good) holds in
      subst (λ z. Demand bd (view_of g) q.node q.limits.length z (stitched_lists bd see g words q')) (sym d.slots)
      (subst (λ z. Demand bd (view_of g) q.node q.limits.length (edge_lists (recorded d.state)) z) (sym s.slots)
      (demand-slots g (suited g good) bd q.limits.length (setting_of bd q) (setting_of bd q') q.node (seen_slots see (slots_in bd words)) holds d.state s.state d.found d.uncounted d.uncut s.found s.uncounted s.uncut))

  -- and the alias set
  pub demand-all : Holds (all_owners g) bd (view_of g) (seen_slots see (slots_in bd words)) → DemandAll bd (view_of g) q.node q.limits.length (direct_lists bd g q) (stitched_lists bd see g words q')
  demand-all holds =
      let d = direct-ended in
      let s = stitched-ended (all_owners g) (suited-all g good) holds in
      subst (λ z. DemandAll bd (view_of g) q.node q.limits.length z (stitched_lists bd see g words q')) (sym d.slots)
      (subst (λ z. DemandAll bd (view_of g) q.node q.limits.length (edge_lists (recorded d.state)) z) (sym s.slots)
      (demand-slots-all g good bd q.limits.length (setting_of bd q) (setting_of bd q') q.node (seen_slots see (slots_in bd words)) holds d.state s.state d.found d.uncounted d.uncut s.found s.uncounted s.uncut))

-- the result area keeps its length
module _ (bd : Bounds) (kept : State Path → List Path) (shorter : (u : State Path) → length (kept u) ≤ length u.kept) where
  searched-length : (q : Request) (a : Answer SearchRefusal (State Path)) → ((u : State Path) → a ≡ ok u → length u.kept ≤ whole_slots (slot_words bd) q.result) → length (search_outcome bd kept q a).result ≡ q.result
  unfolding search_outcome
  searched-length q (ok u) h = length-area (slot_words bd) q.result (edge_lists (kept u)) (le_trans (mul-le-mul_left (slot_words bd) (omega (arith, length-lists (kept u), shorter u, h u refl))) (whole-fits (slot_words bd) q.result))
  searched-length q (refuse r) h = length-replicate q.result 0

  pub direct-length : (image : Answer ImageRefusal Graph) (q : Request) → length (direct_call bd kept image q).result ≡ q.result
  unfolding direct_call
  direct-length (ok g) q = searched-length q (direct bd q.limits.length (setting_of bd q) (view_of g) q.node)
      (λ u h. let a = direct-ok bd q.limits.length (setting_of bd q) (view_of g) q.node u h in enumerate-room (whole_slots (slot_words bd) q.result) Search.NoResultSlot (setting_of bd q) refl (tries Search.TooLong bd q.limits.length (view_of g)) bd.expansions (a.0 ∷ []) u a.2)
  direct-length (refuse r) q = length-replicate q.result 0

  pub stitched-length : (known : ℕ → ℕ → Bool) (see : ℕ → Bool) (image : Answer ImageRefusal Graph) (words : List ℕ) (q : Request) → length (stitched_call bd kept known see image words q).result ≡ q.result
  unfolding stitched_call stitched_outcome
  stitched-length known see (ok g) words q = on (check_database bd known g words)
    where
      on : (a : Answer DatabaseRefusal (List Slot)) → length (stitched_outcome bd kept see g q a).result ≡ q.result
      on (ok db) = searched-length q (stitched bd q.limits.length (setting_of bd q) (view_of g) (seen_slots see db) q.node)
          (λ u h. let a = stitched-ok (file_owners g) bd q.limits.length (setting_of bd q) (view_of g) q.node (seen_slots see db) u h in enumerate-room (whole_slots (slot_words bd) q.result) Search.NoResultSlot (setting_of bd q) refl (slot_tries bd q.limits.length (view_of g) (seen_slots see db)) bd.expansions (a.0 ∷ []) u a.2)
      on (refuse r) = length-replicate q.result 0
  stitched-length known see (refuse r) words q = length-replicate q.result 0
