-- Where no file of the graph is hidden, what is seen is the graph itself; and only the numbers below F matter.
-- Document 02, order 8: "numbers in it from F on change nothing".
use Rattle.std.specs.Prelude.{ℕ, suc, ◌<◌, ◌≡◌, Bool, true, eqb, ltb}
use Rattle.std.proofs.Math.Path.{refl, ap}
use Rattle.std.proofs.Common.{sym, ◌∙◌}
use Rattle.std.proofs.Math.Option.{Option, none, some}
use mathlib.Core.List.{List, [], ◌∷◌, map, Memᴰ}
use Rattle.std.proofs.Math.Dec.{ltb→lt}
use Rattle.semantics.specs.declared.graph.Node.{Node}
use Rattle.semantics.specs.declared.graph.Edge.{Edge}
use Rattle.semantics.specs.declared.graph.Edge.TheVariants as E
use Rattle.semantics.specs.Lists.{and}
use Rattle.semantics.specs.Lists.Laws.{and-true, or-true, eq→T}
use Rattle.semantics.specs.Graph.{Graph, view_of, file_of}
use Rattle.semantics.specs.Acceptance.{every_from, file_fits, place_fits, edge_fits, node_fits, count_fits, accepts}
use Rattle.semantics.proofs.Theorems.Acceptance.Laws.{suited}
use Rattle.semantics.specs.declared.refusal.ImageRefusal.{ImageRefusal}
use Rattle.semantics.specs.Answer.{Answer, ok, refuse}
use Rattle.semantics.specs.Limits.{nobody}
use Rattle.semantics.specs.Image.{check_image}
use Rattle.semantics.proofs.Theorems.Image.Laws.{image-accepted}
use Rattle.semantics.specs.PartialPaths.{Slot, dead, slot}
use Rattle.semantics.specs.Hidden.{every_file, sees_file, node_if, edge_if, seen_node, seen_edge, seen, seen_image, sees_owner, slot_if, seen_slot, seen_slots}

map-alike : {A : Type 0} (f h : A → A) (t : ℕ → A → Bool) (l : List A) (i : ℕ) → ((j : ℕ) (x : A) → t j x ≡ true → f x ≡ h x) → every_from t i l ≡ true → map f l ≡ map h l
map-alike f h t [] i k e = refl
map-alike f h t (x ∷ l) i k e =
    let a = and-true (t i x) (every_from t (suc i) l) e in
    let p = k i x a.0 in
    let q = map-alike f h t l (suc i) k a.1 in
    λ j. p j ∷ q j

module _ (g : Graph) (good : accepts g ≡ true) (see see' : ℕ → Bool) (alike : (f : ℕ) → f < g.files → see f ≡ see' f) where
  each : (every_from (λ i n. and (place_fits i n) (and (file_fits g.files (file_of n)) (node_fits (view_of g) n))) 0 g.nodes ≡ true)
  unfolding accepts
  each = (and-true _ (every_from (λ i e. edge_fits (view_of g) e) 0 g.edges) (and-true (count_fits g) _ good).1).0

  file-alike : (o : Option ℕ) → ((f : ℕ) → o ≡ some f → f < g.files) → sees_file see o ≡ sees_file see' o
  unfolding sees_file
  file-alike none h = refl
  file-alike (some f) h = alike f (h f refl)

  fits_below : (o : Option ℕ) → file_fits g.files o ≡ true → (f : ℕ) → o ≡ some f → f < g.files
  unfolding file_fits
  fits_below o h f e = ltb→lt f g.files (eq→T (ltb f g.files) (sym (ap (file_fits g.files) e) ∙ h))

  node_alike : (j : ℕ) (n : Node) → and (place_fits j n) (and (file_fits g.files (file_of n)) (node_fits (view_of g) n)) ≡ true → seen_node see n ≡ seen_node see' n
  unfolding seen_node
  node_alike j n h = ap (λ b. node_if b n) (file-alike (file_of n) (fits_below (file_of n) (and-true (file_fits g.files (file_of n)) _ (and-true (place_fits j n) _ h).1).0))

  end-alike : (n : ℕ) → sees_file see (file_of ((view_of g).node n)) ≡ sees_file see' (file_of ((view_of g).node n))
  end-alike n = file-alike (file_of ((view_of g).node n)) (λ f e. (suited g good).home n f e)

  edge-alike : (x : Edge) → seen_edge see (view_of g) x ≡ seen_edge see' (view_of g) x
  unfolding seen_edge
  edge-alike E.Removed = refl
  edge-alike (E.Live s t p) = rw (end-alike s.0, end-alike t.0)

  edges-alike : (l : List Edge) → map (seen_edge see (view_of g)) l ≡ map (seen_edge see' (view_of g)) l
  edges-alike [] = refl
  edges-alike (x ∷ l) = let p = edge-alike x in let q = edges-alike l in λ j. p j ∷ q j

  -- numbers from F on change nothing
  pub seen_alike : seen see g ≡ seen see' g
  unfolding seen
  seen_alike =
      let p = map-alike (seen_node see) (seen_node see') (λ i n. and (place_fits i n) (and (file_fits g.files (file_of n)) (node_fits (view_of g) n))) g.nodes 0 node_alike each in
      let q = edges-alike g.edges in
      λ j. record { files = g.files; nodes = p j; edges = q j }

-- EVERYTHING VISIBLE
seen-every : (g : Graph) → seen every_file g ≡ g
unfolding seen
seen-every g =
    let p = nodes-as g.nodes in
    let q = edges-as g.edges in
    λ j. record { files = g.files; nodes = p j; edges = q j }
  where
    file-seen : (o : Option ℕ) → sees_file every_file o ≡ true
    file-seen none = unfold sees_file in refl
    file-seen (some f) = unfold sees_file in refl

    node-as : (n : Node) → seen_node every_file n ≡ n
    node-as n = unfold seen_node node_if in ap (λ b. node_if b n) (file-seen (file_of n))

    edge-as : (x : Edge) → seen_edge every_file (view_of g) x ≡ x
    edge-as E.Removed = unfold seen_edge in refl
    edge-as (E.Live s t p) = unfold seen_edge edge_if in rw (file-seen (file_of ((view_of g).node s.0)), file-seen (file_of ((view_of g).node t.0)))

    nodes-as : (l : List Node) → map (seen_node every_file) l ≡ l
    nodes-as [] = refl
    nodes-as (x ∷ l) = let p = node-as x in let q = nodes-as l in λ j. p j ∷ q j

    edges-as : (l : List Edge) → map (seen_edge every_file (view_of g)) l ≡ l
    edges-as [] = refl
    edges-as (x ∷ l) = let p = edge-as x in let q = edges-as l in λ j. p j ∷ q j

-- a set that hides no file of an accepted graph: the graph as it is without hiding
pub seen_all : (g : Graph) → accepts g ≡ true → (see : ℕ → Bool) → ((f : ℕ) → f < g.files → see f ≡ true) → seen see g ≡ g
seen_all g good see h = seen_alike g good see every_file h ∙ seen-every g

-- OF AN IMAGE, accepted or not
pub image-alike : (w : ℕ → ℕ) (im : List ℕ) (see see' : ℕ → Bool) → ((g : Graph) → check_image w im ≡ ok g → (f : ℕ) → f < g.files → see f ≡ see' f) → seen_image see (check_image w im) ≡ seen_image see' (check_image w im)
image-alike w im see see' h = on (check_image w im) refl
  where
    on : (a : Answer ImageRefusal Graph) → check_image w im ≡ a → seen_image see a ≡ seen_image see' a
    on (ok g) e = unfold seen_image in ap ok (seen_alike g (image-accepted w im g e) see see' (h g e))
    on (refuse r) e = unfold seen_image in refl

pub image-every : (a : Answer ImageRefusal Graph) → seen_image every_file a ≡ a
unfolding seen_image
image-every (ok g) = ap ok (seen-every g)
image-every (refuse r) = refl

-- OF SLOTS: only the sets' say on the owners that the slots name counts
pub slots-alike : (see see' : ℕ → Bool) (db : List Slot) → ((f s t : ℕ) (es : List ℕ) → Memᴰ (slot f s t es) db → sees_owner see f ≡ sees_owner see' f) → seen_slots see db ≡ seen_slots see' db
slots-alike see see' [] h = refl
slots-alike see see' (dead ∷ db) h = ap (λ (l : List Slot). seen_slot see dead ∷ l) (slots-alike see see' db (λ f s t es m. h f s t es (Memᴰ.tail m))) ∙ (unfold seen_slot in refl)
slots-alike see see' (slot f s t es ∷ db) h =
    let p : seen_slot see (slot f s t es) ≡ seen_slot see' (slot f s t es) = unfold seen_slot in ap (λ b. slot_if b (slot f s t es)) (h f s t es (Memᴰ.head refl)) in
    let q = slots-alike see see' db (λ f s t es m. h f s t es (Memᴰ.tail m)) in
    λ j. p j ∷ q j

pub slots-every : (db : List Slot) → seen_slots every_file db ≡ db
slots-every [] = refl
slots-every (dead ∷ db) = let p : seen_slot every_file dead ≡ dead = unfold seen_slot in refl in let q = slots-every db in λ j. p j ∷ q j
slots-every (slot f s t es ∷ db) =
    let p : seen_slot every_file (slot f s t es) ≡ slot f s t es = unfold seen_slot in ap (λ b. slot_if b (slot f s t es)) (or-true (eqb f nobody)) in
    let q = slots-every db in
    λ j. p j ∷ q j
