-- NON-INTERFERENCE: two images and databases of which a desk sees the same give it the same answers and the same words, so it learns nothing of hidden
-- files. Document 02, order 8: "paths, statistics and refusals of the node or met during search coincide".
use Rattle.std.specs.Prelude.{ℕ, ◌≡◌, Bool, eqb}
use Rattle.std.proofs.Math.Path.{refl, sym, ap, fun_ext}
use Rattle.std.proofs.Common.{◌∙◌}
use Rattle.std.proofs.Math.Bool.{true, false}
use mathlib.Core.List.{List, [], ◌∷◌, Memᴰ}
use Rattle.semantics.specs.declared.search.SearchLimits.{SearchLimits}
use Rattle.semantics.specs.declared.search.SearchOrder.{SearchOrder}
use Rattle.semantics.specs.declared.refusal.SearchRefusal.{SearchRefusal}
use Rattle.semantics.specs.declared.refusal.SearchRefusal.TheVariants as Search
use Rattle.semantics.specs.Lists.{cons_if}
use Rattle.semantics.specs.Lists.Laws.{eqb_same}
use Rattle.semantics.specs.Limits.{Bounds, base, slot_words, Limit}
use Rattle.semantics.specs.Answer.{ok, and_then, wrap}
use Rattle.semantics.specs.Graph.{node_id, Graph, View, view_of, traits, is_definition, Lawful}
use Rattle.semantics.specs.Graph.Laws.{ascending-same, view_of-lawful}
use Rattle.semantics.specs.Path.{Path, from_reference}
use Rattle.semantics.specs.Enumeration.{Setting, Try, enumerate}
use Rattle.semantics.specs.PartialPaths.{Slot, dead, slot}
use Rattle.semantics.specs.Stitching.{judge_slot, slot_tries, stitched}
use Rattle.semantics.specs.Direct.{direct}
use Rattle.semantics.specs.Linear.{linear}
use Rattle.semantics.specs.Words.{whole_slots}
use Rattle.semantics.specs.Image.{symbol_bytes, check_image}
use Rattle.semantics.specs.Database.{check_database, known_owners}
use Rattle.semantics.specs.Calls.{Request, LinearRequest, Reply, setting_of, linear_setting_of, search_outcome, linear_outcome, direct_call, linear_call, stitched_outcome, stitched_call}
use Rattle.semantics.specs.Finding.{references_from, find_in, search_to, name_to, FindRequest, found_as, if_definition, unless_removed, find_call}
use Rattle.semantics.proofs.Theorems.Finding.Laws.{same_references}
use Rattle.semantics.specs.Entries.{request_of, linear_request_of, name_request_of, direct_search, linear_search, stitched_search, find_name}
use Rattle.semantics.specs.Hidden.{sees, seen, seen_image, seen_slots}
use Rattle.semantics.proofs.Theorems.Hidden.Laws.{seen-checked}

-- WHAT IS SEEN ALIKE

-- the same visible records under the same numbers: N, M, F and the records that are hidden, removed or not there may differ
pub record SameDesk (see : ℕ → Bool) (g h : Graph) : Type 0 where
  pub nodes : (n : ℕ) → (view_of (seen see g)).node n ≡ (view_of (seen see h)).node n
  pub edges : (e : ℕ) → (view_of (seen see g)).edge e ≡ (view_of (seen see h)).edge e

-- two accepted images with such graphs
pub record SameImages (w : ℕ → ℕ) (see : ℕ → Bool) (im im' : List ℕ) : Type 0 where
  pub graph : Graph
  pub graph' : Graph
  pub accepted : check_image w im ≡ ok graph
  pub accepted' : check_image w im' ≡ ok graph'
  pub desk : SameDesk see graph graph'

-- a partial path as stitching takes it: neither its owner, its end nor its number plays a part
pub record Piece : Type 0 where
  pub start : ℕ
  pub edges : List ℕ

-- the live slots in their order
unfoldable pub pieces : List Slot → List Piece
pieces [] = []
pieces (dead ∷ ss) = pieces ss
pieces (slot f s t es ∷ ss) = record { start = s; edges = es } ∷ pieces ss

-- two databases that 35 and 34 let pass, with the same visible partial paths in the same relative order
pub record SameDatabases (bd : Bounds) (known : ℕ → ℕ → Bool) (see : ℕ → Bool) (g h : Graph) (words words' : List ℕ) : Type 0 where
  pub slots : List Slot
  pub slots' : List Slot
  pub passed : check_database bd known g words ≡ ok slots
  pub passed' : check_database bd known h words' ≡ ok slots'
  pub visible : pieces (seen_slots see slots) ≡ pieces (seen_slots see slots')

-- VIEWS: two lawful ones with the same records are equal
pub same_view : (g h : View) → Lawful g → Lawful h → ((n : ℕ) → g.node n ≡ h.node n) → ((e : ℕ) → g.edge e ≡ h.edge e) → g ≡ h
same_view g h a b nodes edges = λ i. record { node = fun_ext nodes i; edge = fun_ext edges i; out = fun_ext outs i }
  where
    onward : (n x : ℕ) → Memᴰ x (g.out n) → Memᴰ x (h.out n)
    onward n x m = let k = a.live n x m in b.lists n x (node_id n) k.0 k.1 (sym (edges x) ∙ k.2) (eqb_same n)

    back : (n x : ℕ) → Memᴰ x (h.out n) → Memᴰ x (g.out n)
    back n x m = let k = b.live n x m in a.lists n x (node_id n) k.0 k.1 (edges x ∙ k.2) (eqb_same n)

    outs : (n : ℕ) → g.out n ≡ h.out n
    outs n = ascending-same (g.out n) (h.out n) (a.ascends n) (b.ascends n) (onward n) (back n)

-- SLOTS: only the pieces are tried
module _ (bd : Bounds) (lim : Limit) (g : View) where
  piece_tries : List Piece → Path → List (Try SearchRefusal Path)
  piece_tries [] p = []
  piece_tries (x ∷ xs) p = cons_if (eqb x.start p.end) (judge_slot bd lim g p x.edges) (piece_tries xs p)

  tries-pieces : (db : List Slot) (p : Path) → slot_tries bd lim g db p ≡ piece_tries (pieces db) p
  unfolding slot_tries pieces piece_tries
  tries-pieces [] p = refl
  tries-pieces (dead ∷ db) p = tries-pieces db p
  tries-pieces (slot f s t es ∷ db) p = ap (cons_if (eqb s p.end) (judge_slot bd lim g p es)) (tries-pieces db p)

  same-pieces : (db eb : List Slot) → pieces db ≡ pieces eb → slot_tries bd lim g db ≡ slot_tries bd lim g eb
  same-pieces db eb e = fun_ext (λ p. tries-pieces db p ∙ ap (λ (ps : List Piece). piece_tries ps p) e ∙ sym (tries-pieces eb p))

piece-stitched : (bd : Bounds) (lim : Limit) (c : Setting SearchRefusal) (g h : View) (db eb : List Slot) (r : ℕ) → g ≡ h → pieces db ≡ pieces eb → stitched bd lim c g db r ≡ stitched bd lim c h eb r
unfolding stitched
piece-stitched bd lim c g h db eb r e f =
    ap (λ (t : Path → List (Try SearchRefusal Path)). and_then (wrap Search.Path (from_reference g r)) (λ p. enumerate c t bd.expansions (p ∷ []))) (same-pieces bd lim g db eb f)
    ∙ ap (λ (v : View). stitched bd lim c v eb r) e

-- ON GRAPHS
module _ (see : ℕ → Bool) (g h : Graph) (desk : SameDesk see g h) where
  pub desk-view : view_of (seen see g) ≡ view_of (seen see h)
  desk-view = same_view (view_of (seen see g)) (view_of (seen see h)) (view_of-lawful (seen see g)) (view_of-lawful (seen see h)) desk.nodes desk.edges

  module _ (bd : Bounds) (reply : Reply) where
    graph-direct : (q : Request) → direct_call bd reply (ok (seen see g)) q ≡ direct_call bd reply (ok (seen see h)) q
    unfolding direct_call
    graph-direct q = ap (λ (v : View). search_outcome bd reply q (direct bd q.limits.length (setting_of bd q) v q.node)) desk-view

    graph-linear : (q : LinearRequest) → linear_call bd reply (ok (seen see g)) q ≡ linear_call bd reply (ok (seen see h)) q
    unfolding linear_call
    graph-linear q = ap (λ (v : View). linear_outcome bd reply q (linear bd q.limits.length (linear_setting_of bd q) v q.node)) desk-view

    graph-slots : (db eb : List Slot) → pieces (seen_slots see db) ≡ pieces (seen_slots see eb) → (q : Request) → stitched_outcome bd reply see (seen see g) q (ok db) ≡ stitched_outcome bd reply see (seen see h) q (ok eb)
    unfolding stitched_outcome
    graph-slots db eb e q = ap (search_outcome bd reply q) (piece-stitched bd q.limits.length (setting_of bd q) (view_of (seen see g)) (view_of (seen see h)) (seen_slots see db) (seen_slots see eb) q.node desk-view e)

    graph-stitched : (known : ℕ → ℕ → Bool) (words words' : List ℕ) → SameDatabases bd known see g h words words' → (q : Request) → stitched_call bd reply known see (ok (seen see g)) words q ≡ stitched_call bd reply known see (ok (seen see h)) words' q
    unfolding stitched_call
    graph-stitched known words words' b q =
        ap (stitched_outcome bd reply see (seen see g) q) (seen-checked bd known see g words ∙ b.passed)
        ∙ graph-slots b.slots b.slots' b.visible q
        ∙ sym (ap (stitched_outcome bd reply see (seen see h) q) (seen-checked bd known see h words' ∙ b.passed'))

  -- a name is sought from the same references, by the same searches
  module _ (bd : Bounds) (q : FindRequest) where
    same_name : (lim : Limit) (waiting results n : ℕ) → name_to bd lim waiting results (seen see g) n ≡ name_to bd lim waiting results (seen see h) n
    unfolding name_to
    same_name lim waiting results n =
        ap (find_in (search_to bd lim waiting results (view_of (seen see g))) n) (same_references (seen see g) (seen see h) desk.nodes)
        ∙ ap (λ (v : View). find_in (search_to bd lim waiting results v) n (references_from 0 (seen see h).nodes)) desk-view

    by_kind : (b : Bool) → if_definition bd b (seen see g) q ≡ if_definition bd b (seen see h) q
    unfolding if_definition
    by_kind true = ap (found_as bd q) (same_name q.length (whole_slots (slot_words bd) q.work) (whole_slots (slot_words bd) q.result) q.node)
    by_kind false = refl

    by-presence : (b : Bool) → unless_removed bd b (seen see g) q ≡ unless_removed bd b (seen see h) q
    unfolding unless_removed
    by-presence true = refl
    by-presence false =
        ap (λ x. if_definition bd (is_definition x) (seen see g) q) (desk.nodes q.node)
        ∙ by_kind (is_definition ((view_of (seen see h)).node q.node))

    graph-name : find_call bd (ok (seen see g)) q ≡ find_call bd (ok (seen see h)) q
    unfolding find_call
    graph-name =
        ap (λ x. unless_removed bd (traits x).removed (seen see g) q) (desk.nodes q.node)
        ∙ by-presence (traits ((view_of (seen see h)).node q.node)).removed

-- FROM BYTES AND WORDS: the same answer, and the same words of every area, whether the call is refused or not, for every reply
module _ (w : ℕ → ℕ) (see : ℕ → Bool) (im im' : List ℕ) (same : SameImages w see im im') where
  pub seen-is : seen_image see (check_image w im) ≡ ok (seen see same.graph)
  unfolding seen_image
  seen-is = ap (seen_image see) same.accepted

  pub seen-is' : seen_image see (check_image w im') ≡ ok (seen see same.graph')
  unfolding seen_image
  seen-is' = ap (seen_image see) same.accepted'

module _ (w : ℕ → ℕ) (see : ℕ → Bool) (im im' : List ℕ) (same : SameImages w see im im') (bd : Bounds) where
  pub desk-direct : (reply : Reply) (q : Request) → direct_call bd reply (seen_image see (check_image w im)) q ≡ direct_call bd reply (seen_image see (check_image w im')) q
  desk-direct reply q = rw (seen-is w see im im' same, seen-is' w see im im' same) (graph-direct see same.graph same.graph' same.desk bd reply q)

  pub desk-linear : (reply : Reply) (q : LinearRequest) → linear_call bd reply (seen_image see (check_image w im)) q ≡ linear_call bd reply (seen_image see (check_image w im')) q
  desk-linear reply q = rw (seen-is w see im im' same, seen-is' w see im im' same) (graph-linear see same.graph same.graph' same.desk bd reply q)

  pub desk-stitched : (reply : Reply) (known : ℕ → ℕ → Bool) (words words' : List ℕ) → SameDatabases bd known see same.graph same.graph' words words' → (q : Request)
      → stitched_call bd reply known see (seen_image see (check_image w im)) words q ≡ stitched_call bd reply known see (seen_image see (check_image w im')) words' q
  desk-stitched reply known words words' b q = rw (seen-is w see im im' same, seen-is' w see im im' same) (graph-stitched see same.graph same.graph' same.desk bd reply known words words' b q)

  pub desk-name : (q : FindRequest) → find_call bd (seen_image see (check_image w im)) q ≡ find_call bd (seen_image see (check_image w im')) q
  desk-name q = rw (seen-is w see im im' same, seen-is' w see im im' same) (graph-name see same.graph same.graph' same.desk bd q)

-- OF THE ENTRIES: equal visible files, node, order, areas and limits
module _ (visible im im' : List ℕ) (same : SameImages symbol_bytes (sees visible) im im') where
  pub desks-direct : (reply : Reply) (r : ℕ) (order : SearchOrder) (limits : SearchLimits) (ws rs : List ℕ) → direct_search reply im visible r order limits ws rs ≡ direct_search reply im' visible r order limits ws rs
  desks-direct reply r order limits ws rs = desk-direct symbol_bytes (sees visible) im im' same base reply (request_of order limits ws rs r)

  pub desks-linear : (reply : Reply) (r : ℕ) (limits : SearchLimits) (rs : List ℕ) → linear_search reply im visible r limits rs ≡ linear_search reply im' visible r limits rs
  desks-linear reply r limits rs = desk-linear symbol_bytes (sees visible) im im' same base reply (linear_request_of limits rs r)

  pub desks-stitched : (words words' : List ℕ) → SameDatabases base known_owners (sees visible) same.graph same.graph' words words' → (reply : Reply) (r : ℕ) (order : SearchOrder) (limits : SearchLimits) (ws rs : List ℕ)
      → stitched_search reply im visible words r order limits ws rs ≡ stitched_search reply im' visible words' r order limits ws rs
  desks-stitched words words' b reply r order limits ws rs = desk-stitched symbol_bytes (sees visible) im im' same base reply known_owners words words' b (request_of order limits ws rs r)

  pub desks-name : (n : ℕ) (most : Limit) (ws rs : List ℕ) → find_name im visible n most ws rs ≡ find_name im' visible n most ws rs
  desks-name n most ws rs = desk-name symbol_bytes (sees visible) im im' same base (name_request_of most ws rs n)
