-- The ends of the paths that a search has returned.
-- Serves document 02, order 11.
use Rattle.std.specs.Prelude.{ℕ, zero, suc, ◌+◌, ◌-◌, ◌*◌, ◌≤◌, ◌<◌, ◌≡◌, refl, Bool, true, false, ltb, get_or}
use Rattle.std.proofs.Common.{not-suc-le-zero, le_of_suc-le-suc, arith, sym, ap, ◌∙◌, ltb-true, ltb-false}
use mathlib.Core.List.{List, [], ◌∷◌, Memᴰ}
use Rattle.std.proofs.Math.ListN.{length}
use Rattle.semantics.specs.declared.graph.Edge.TheVariants as E
use Rattle.semantics.specs.declared.answer.Definitions.{Definitions}
use Rattle.semantics.specs.Limits.{base, max_edges, slot_length, Limit}
use Rattle.semantics.specs.Graph.{Graph, view_of}
use Rattle.semantics.specs.Path.{Path, is_complete}
use Rattle.semantics.proofs.Theorems.Path.Laws.{begun, replay-ok, append_all-bound}
use Rattle.semantics.specs.Demand.{Taken}
use Rattle.semantics.specs.Recorded.{edge_lists}
use Rattle.semantics.specs.Recorded.Laws.{mem-lists}
use Rattle.semantics.specs.Words.{zeros, area}
use Rattle.semantics.proofs.Theorems.Finding.Laws.{last_of, last-at, complete-ends}
use Rattle.semantics.specs.Directory.{definitions_of, ends_of}
use Rattle.semantics.proofs.Theorems.Directory.Laws.{all_one, several-of}
use Rattle.storage.specs.Index.{edge_row, Loaded}
use Rattle.reply.specs.Ends.{Stand}
use Rattle.reply.specs.EdgeLists.Paths.{length-lists}
use Rattle.reply.specs.ResultSlots.{count_of, edges_at, AllFitting, Held}
use Rattle.reply.specs.ResultSlots.Laws.{edges-length, edges_word, held_fits, held-edges, flat-held}
use Rattle.flow_directory.specs.Ends.{target_of, slot_end, Ending}

-- one end more that is the same
pub same_more : (end : ℕ → ℕ) (x i : ℕ) → ((j : ℕ) → j < i → end j ≡ x) → end i ≡ x → (j : ℕ) → j < i + 1 → end j ≡ x
same_more end x i b e j h = on (ltb j i) refl
  where
    on : (c : Bool) → ltb j i ≡ c → end j ≡ x
    on true k = b j (ltb-true j i k)
    on false k = let q : j ≡ i = omega (arith, h, ltb-false j i k) in ap end q ∙ e

-- what the code finds is what the definition says
pub ends-told : (end : ℕ → ℕ) (n : ℕ) (d : Definitions) → Ending end n d → (ns : List ℕ) → n ≡ length ns → ((j : ℕ) → j < length ns → end j ≡ get_or ns j 0) → d ≡ definitions_of ns
unfolding definitions_of
ends-told end n Definitions.Nothing e [] l a = refl
ends-told end n Definitions.Nothing e (m ∷ ns) l a = absurd (let z : n ≡ suc (length ns) = l in omega (arith, z, e))
ends-told end n (Definitions.One x) e ns l a = sym (all_one ns x (omega (arith, e.0, l)) (λ j h. sym (a j h) ∙ e.1 j (omega (arith, h, l))))
ends-told end n Definitions.Several e ns l a =
    let i = e.0 in
    let j = e.1 in
    let hi : i < length ns = omega (arith, e.2, l) in
    let hj : j < length ns = omega (arith, e.3, l) in
    sym (several-of ns i j hi hj (λ (q : get_or ns i 0 ≡ get_or ns j 0). e.4 (a i hi ∙ q ∙ sym (a j hj))))

-- ---- the paths in the slots

path-at : (ps : List Path) (j : ℕ) → j < length ps → (p : Path) × Memᴰ p ps × (get_or (edge_lists ps) j [] ≡ p.edges) × (get_or (ends_of ps) j 0 ≡ p.end)
path-at [] j h = absurd (not-suc-le-zero h)
path-at (p ∷ ps) zero h = (p, Memᴰ.head refl, refl, refl)
path-at (p ∷ ps) (suc j) h = let k = path-at ps j (le_of_suc-le-suc h) in (k.0, Memᴰ.tail k.1, k.2, k.3)

pub length-ends : (ps : List Path) → length (ends_of ps) ≡ length ps
length-ends [] = refl
length-ends (p ∷ ps) = ap suc (length-ends ps)

module _ (index : List ℕ) (g : Graph) (loaded : Loaded g index) (lim : Limit) (r : ℕ) (ps : List Path) (good : (p : Path) → Memᴰ p ps → Taken base lim (view_of g) r p.edges p × (is_complete (view_of g) p ≡ true)) (n : ℕ) (rs : List ℕ) (s : Stand slot_length n rs ps) where
  short : (es : List ℕ) → Memᴰ es (edge_lists ps) → length es < slot_length
  short es m =
      let a = mem-lists es ps m in
      let p = a.0 in
      let t = good p a.1 in
      let b = replay-ok base (view_of g) r p.edges p t.0.replayed in
      let z : length b.0.edges ≡ 0 = ap length (begun (view_of g) r b.0 b.1).edges in
      let h : length b.0.edges + length p.edges ≤ max_edges = append_all-bound base (view_of g) p.edges b.0 p (omega arith) b.2 in
      let q : length es ≡ length p.edges = ap length a.2 in
      omega arith

  held : Held slot_length (λ j. false) (edge_lists ps) rs
  unfolding area
  held = flat-held slot_length (edge_lists ps) rs (zeros (length rs - slot_length * length (edge_lists ps))) short s.words

  pub stand-fits : AllFitting slot_length n rs
  stand-fits j h = held_fits slot_length (λ i. false) (edge_lists ps) rs held j (omega (arith, h, s.count, length-lists ps))

  -- the last edge in a slot leads to where its path ends
  slot-end : (j : ℕ) → j < length ps → slot_end index rs j ≡ get_or (ends_of ps) j 0
  slot-end j h =
      let k = path-at ps j h in
      let p = k.0 in
      let t = good p k.1 in
      let c = complete-ends base (view_of g) r p.edges p t.0.replayed t.1 in
      let below : j < length (edge_lists ps) = omega (arith, h, length-lists ps) in
      let f = held_fits slot_length (λ i. false) (edge_lists ps) rs held j below in
      let list : edges_at slot_length j rs ≡ c.0 ∷ c.1 = held-edges slot_length (λ i. false) (edge_lists ps) rs held j below ∙ k.2 ∙ c.2 in
      let count : count_of slot_length (get_or rs (slot_length * j) 0) ≡ suc (length c.1) = sym (edges-length slot_length j rs f) ∙ ap length list in
      let place : slot_length * j + count_of slot_length (get_or rs (slot_length * j) 0) ≡ slot_length * j + 1 + length c.1 = omega (arith, count) in
      let word : get_or rs (slot_length * j + count_of slot_length (get_or rs (slot_length * j) 0)) 0 ≡ last_of c.0 c.1 =
      ap (λ (i : ℕ). get_or rs i 0) place ∙ sym (edges_word slot_length j rs f (length c.1) (omega (arith, count))) ∙ ap (λ (l : List ℕ). get_or l (length c.1) 0) list ∙ last-at c.0 c.1 in
      let lead = c.3 in
      let row : edge_row index (get_or rs (slot_length * j + count_of slot_length (get_or rs (slot_length * j) 0)) 0) ≡ E.Live lead.source lead.target lead.precedence = ap (edge_row index) word ∙ loaded.edge (last_of c.0 c.1) ∙ lead.found in
      ap target_of row ∙ sym lead.end ∙ sym k.3

  pub stand-definitions : (d : Definitions) → Ending (slot_end index rs) n d → d ≡ definitions_of (ends_of ps)
  stand-definitions d e = ends-told (slot_end index rs) n d e (ends_of ps) (s.count ∙ sym (length-ends ps)) (λ j h. slot-end j (omega (arith, h, length-ends ps)))
