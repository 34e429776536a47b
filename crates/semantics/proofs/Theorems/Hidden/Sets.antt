-- The set of visible files as the calls take it: numbers in it from F on change no answer and no word, and with every file in it a call is the one
-- without hiding. Document 02, order 8: "numbers in it from F on change nothing".
use Rattle.std.specs.Prelude.{ℕ, ◌<◌, ◌≡◌, ◌⊎◌, Bool, true, eqb}
use Rattle.std.proofs.Math.Path.{refl, sym, ap}
use Rattle.std.proofs.Common.{◌∙◌, subst, inl, inr}
use mathlib.Core.List.{List}
use Rattle.semantics.specs.declared.search.SearchLimits.{SearchLimits}
use Rattle.semantics.specs.declared.search.SearchOrder.{SearchOrder}
use Rattle.semantics.specs.declared.refusal.ImageRefusal.{ImageRefusal}
use Rattle.semantics.specs.declared.refusal.DatabaseRefusal.{DatabaseRefusal}
use Rattle.semantics.specs.Lists.{or}
use Rattle.semantics.specs.Limits.{Bounds, base, nobody, Limit}
use Rattle.semantics.specs.Answer.{Answer, ok, refuse}
use Rattle.semantics.specs.Graph.{Graph, view_of}
use Rattle.semantics.specs.PartialPaths.{Slot}
use Rattle.semantics.specs.Stitching.{stitched}
use Rattle.semantics.specs.Image.{symbol_bytes, check_image}
use Rattle.semantics.specs.Database.{slots_in, check_database, known_owners}
use Rattle.semantics.specs.Database.Laws.{checked}
use Rattle.semantics.specs.Database.Checked.{checked-words, checked-owners}
use Rattle.semantics.specs.Calls.{Request, LinearRequest, Reply, setting_of, search_outcome, direct_call, linear_call, stitched_outcome, stitched_call}
use Rattle.semantics.specs.Finding.{FindRequest, find_call}
use Rattle.semantics.specs.Entries.{graph_in, request_of, linear_request_of, name_request_of, direct_search, linear_search, stitched_search, find_name}
use Rattle.semantics.specs.Hidden.{sees, every_file, seen, seen_image, sees_owner, seen_slots}
use Rattle.semantics.proofs.Theorems.Hidden.Laws.{seen-checked}
use Rattle.semantics.proofs.Theorems.Hidden.All.{image-alike, image-every, slots-alike, slots-every}

-- TWO SETS that say the same of the image's files
module _ (w : ℕ → ℕ) (im : List ℕ) (see see' : ℕ → Bool) (alike : (g : Graph) → check_image w im ≡ ok g → (f : ℕ) → f < g.files → see f ≡ see' f) (bd : Bounds) where
  same-image : seen_image see (check_image w im) ≡ seen_image see' (check_image w im)
  same-image = image-alike w im see see' alike

  pub alike-direct : (reply : Reply) (q : Request) → direct_call bd reply (seen_image see (check_image w im)) q ≡ direct_call bd reply (seen_image see' (check_image w im)) q
  alike-direct reply q = ap (λ (a : Answer ImageRefusal Graph). direct_call bd reply a q) same-image

  pub alike-linear : (reply : Reply) (q : LinearRequest) → linear_call bd reply (seen_image see (check_image w im)) q ≡ linear_call bd reply (seen_image see' (check_image w im)) q
  alike-linear reply q = ap (λ (a : Answer ImageRefusal Graph). linear_call bd reply a q) same-image

  pub alike-name : (q : FindRequest) → find_call bd (seen_image see (check_image w im)) q ≡ find_call bd (seen_image see' (check_image w im)) q
  alike-name q = ap (λ (a : Answer ImageRefusal Graph). find_call bd a q) same-image

  -- the slots of a database that 35 and 34 let pass name the image's files and nobody
  owner-alike : (g : Graph) → check_image w im ≡ ok g → (f : ℕ) → (f < g.files) ⊎ (f ≡ nobody) → sees_owner see f ≡ sees_owner see' f
  owner-alike g e f (inl l) = ap (or (eqb f nobody)) (alike g e f l)
  owner-alike g e f (inr z) = ap (sees_owner see) z ∙ sym (ap (sees_owner see') z)

  outcome-alike : (g : Graph) → check_image w im ≡ ok g → (reply : Reply) (words : List ℕ) (q : Request)
      → stitched_outcome bd reply see (seen see' g) q (check_database bd known_owners (seen see' g) words) ≡ stitched_outcome bd reply see' (seen see' g) q (check_database bd known_owners (seen see' g) words)
  unfolding stitched_outcome
  outcome-alike g e reply words q = on (check_database bd known_owners (seen see' g) words) refl
    where
      on : (a : Answer DatabaseRefusal (List Slot)) → check_database bd known_owners (seen see' g) words ≡ a → stitched_outcome bd reply see (seen see' g) q a ≡ stitched_outcome bd reply see' (seen see' g) q a
      on (refuse r) k = refl
      on (ok db) k =
          let i : check_database bd known_owners g words ≡ ok db = sym (seen-checked bd known_owners see' g words) ∙ k in
          let owners = checked-owners bd g words (checked-words bd known_owners g words db i) in
          let z : seen_slots see (slots_in bd words) ≡ seen_slots see' (slots_in bd words) = slots-alike see see' (slots_in bd words) (λ f s t es m. owner-alike g e f (owners f s t es m)) in
          ap (λ (l : List Slot). search_outcome bd reply q (stitched bd q.limits.length (setting_of bd q) (view_of (seen see' g)) l q.node))
          (subst (λ (l : List Slot). seen_slots see l ≡ seen_slots see' l) (checked bd known_owners g words db i) z)

  pub alike-stitched : (reply : Reply) (words : List ℕ) (q : Request) → stitched_call bd reply known_owners see (seen_image see (check_image w im)) words q ≡ stitched_call bd reply known_owners see' (seen_image see' (check_image w im)) words q
  unfolding stitched_call seen_image
  alike-stitched reply words q = ap (λ (a : Answer ImageRefusal Graph). stitched_call bd reply known_owners see a words q) same-image ∙ on (check_image w im) refl
    where
      on : (a : Answer ImageRefusal Graph) → check_image w im ≡ a → stitched_call bd reply known_owners see (seen_image see' a) words q ≡ stitched_call bd reply known_owners see' (seen_image see' a) words q
      on (ok g) e = outcome-alike g e reply words q
      on (refuse r) e = refl

-- EVERY FILE VISIBLE
module _ (w : ℕ → ℕ) (im : List ℕ) (see : ℕ → Bool) (all : (g : Graph) → check_image w im ≡ ok g → (f : ℕ) → f < g.files → see f ≡ true) (bd : Bounds) where
  pub all_direct : (reply : Reply) (q : Request) → direct_call bd reply (seen_image see (check_image w im)) q ≡ direct_call bd reply (check_image w im) q
  all_direct reply q = alike-direct w im see every_file all bd reply q ∙ ap (λ (a : Answer ImageRefusal Graph). direct_call bd reply a q) (image-every (check_image w im))

  pub all-linear : (reply : Reply) (q : LinearRequest) → linear_call bd reply (seen_image see (check_image w im)) q ≡ linear_call bd reply (check_image w im) q
  all-linear reply q = alike-linear w im see every_file all bd reply q ∙ ap (λ (a : Answer ImageRefusal Graph). linear_call bd reply a q) (image-every (check_image w im))

  pub all-name : (q : FindRequest) → find_call bd (seen_image see (check_image w im)) q ≡ find_call bd (check_image w im) q
  all-name q = alike-name w im see every_file all bd q ∙ ap (λ (a : Answer ImageRefusal Graph). find_call bd a q) (image-every (check_image w im))

  pub all-stitched : (reply : Reply) (words : List ℕ) (q : Request) → stitched_call bd reply known_owners see (seen_image see (check_image w im)) words q ≡ stitched_call bd reply known_owners every_file (check_image w im) words q
  all-stitched reply words q = alike-stitched w im see every_file all bd reply words q ∙ ap (λ (a : Answer ImageRefusal Graph). stitched_call bd reply known_owners every_file a words q) (image-every (check_image w im))

-- and there every slot is searched
pub every-slot : (bd : Bounds) (reply : Reply) (g : Graph) (q : Request) (db : List Slot) → stitched_outcome bd reply every_file g q (ok db) ≡ search_outcome bd reply q (stitched bd q.limits.length (setting_of bd q) (view_of g) db q.node)
unfolding stitched_outcome
every-slot bd reply g q db = ap (λ (l : List Slot). search_outcome bd reply q (stitched bd q.limits.length (setting_of bd q) (view_of g) l q.node)) (slots-every db)

-- OF THE ENTRIES
module _ (im visible visible' : List ℕ) (alike : (g : Graph) → graph_in im ≡ ok g → (f : ℕ) → f < g.files → sees visible f ≡ sees visible' f) where
  pub sets-direct : (reply : Reply) (r : ℕ) (order : SearchOrder) (limits : SearchLimits) (ws rs : List ℕ) → direct_search reply im visible r order limits ws rs ≡ direct_search reply im visible' r order limits ws rs
  sets-direct reply r order limits ws rs = alike-direct symbol_bytes im (sees visible) (sees visible') alike base reply (request_of order limits ws rs r)

  pub sets-linear : (reply : Reply) (r : ℕ) (limits : SearchLimits) (rs : List ℕ) → linear_search reply im visible r limits rs ≡ linear_search reply im visible' r limits rs
  sets-linear reply r limits rs = alike-linear symbol_bytes im (sees visible) (sees visible') alike base reply (linear_request_of limits rs r)

  pub sets-stitched : (reply : Reply) (words : List ℕ) (r : ℕ) (order : SearchOrder) (limits : SearchLimits) (ws rs : List ℕ) → stitched_search reply im visible words r order limits ws rs ≡ stitched_search reply im visible' words r order limits ws rs
  sets-stitched reply words r order limits ws rs = alike-stitched symbol_bytes im (sees visible) (sees visible') alike base reply words (request_of order limits ws rs r)

  pub sets-name : (n : ℕ) (most : Limit) (ws rs : List ℕ) → find_name im visible n most ws rs ≡ find_name im visible' n most ws rs
  sets-name n most ws rs = alike-name symbol_bytes im (sees visible) (sees visible') alike base (name_request_of most ws rs n)

module _ (im visible : List ℕ) (all : (g : Graph) → graph_in im ≡ ok g → (f : ℕ) → f < g.files → sees visible f ≡ true) where
  pub whole-direct : (reply : Reply) (r : ℕ) (order : SearchOrder) (limits : SearchLimits) (ws rs : List ℕ) → direct_search reply im visible r order limits ws rs ≡ direct_call base reply (graph_in im) (request_of order limits ws rs r)
  whole-direct reply r order limits ws rs = all_direct symbol_bytes im (sees visible) all base reply (request_of order limits ws rs r)

  pub whole-linear : (reply : Reply) (r : ℕ) (limits : SearchLimits) (rs : List ℕ) → linear_search reply im visible r limits rs ≡ linear_call base reply (graph_in im) (linear_request_of limits rs r)
  whole-linear reply r limits rs = all-linear symbol_bytes im (sees visible) all base reply (linear_request_of limits rs r)

  pub whole-stitched : (reply : Reply) (words : List ℕ) (r : ℕ) (order : SearchOrder) (limits : SearchLimits) (ws rs : List ℕ)
      → stitched_search reply im visible words r order limits ws rs ≡ stitched_call base reply known_owners every_file (graph_in im) words (request_of order limits ws rs r)
  whole-stitched reply words r order limits ws rs = all-stitched symbol_bytes im (sees visible) all base reply words (request_of order limits ws rs r)

  pub whole-name : (n : ℕ) (most : Limit) (ws rs : List ℕ) → find_name im visible n most ws rs ≡ find_call base (graph_in im) (name_request_of most ws rs n)
  whole-name n most ws rs = all-name symbol_bytes im (sees visible) all base (name_request_of most ws rs n)
