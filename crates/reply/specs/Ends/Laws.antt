-- What a search does at its end, from the paths that it kept to those that it records and returns.
-- Document 01, "Answer": "`from_complete` drops copies, then every path shadowed by another recorded one".
use Prim.Native.Nat.{ℕ, ◌+◌, ◌≤◌, ◌<◌}
use Rattle.std.proofs.Common.{arith, sym, ◌∙◌, subst, ⊎_elim}
use Rattle.std.specs.Prelude.{◌≡◌, length}
use Rattle.std.proofs.Math.Path.{ap}
use mathlib.Core.List.Memᴰ
use mathlib.Core.List.{List, [], Memᴰ}
use Rattle.semantics.specs.declared.graph.Edge.{Edge}
use Rattle.semantics.specs.Limits.{Bounds, slot_words}
use Rattle.semantics.specs.Words.{area}
use Rattle.semantics.specs.Graph.{Graph, View, view_of}
use Rattle.semantics.specs.Path.{Path}
use Rattle.semantics.proofs.Theorems.Path.Laws.{replay-ok, append_all-bound}
use Rattle.semantics.proofs.Theorems.Path.Rules.{start-begins}
use Rattle.semantics.specs.Enumeration.{State}
use Rattle.semantics.specs.Recorded.{edge_lists, recorded, returned}
use Rattle.semantics.specs.Recorded.Laws.{mem-lists}
use Rattle.semantics.specs.Demand.{Once}
use Rattle.storage.specs.Index.{edge_row, Loaded}
use Rattle.path.specs.Shadows.{shadows_edges}
use Rattle.path.specs.Shadows.Laws.{JumpAt}
use Rattle.reply.specs.EdgeLists.{distinct_lists, unbeaten_lists}
use Rattle.reply.specs.EdgeLists.Laws.{distinct_from}
use Rattle.reply.specs.EdgeLists.Paths.{Replays, length-lists, recorded-kept, recorded-lists, returned-lists, recorded-all}
use Rattle.reply.specs.ResultSlots.{Lists, Leaves}
use Rattle.reply.specs.Ends.{Stand}

module _ (bd : Bounds) (g : View) where
  -- a path that was replayed has its place in a slot
  replayed-short : (ps : List Path) → Replays bd g ps → (es : List ℕ) → Memᴰ es (edge_lists ps) → length es < slot_words bd
  replayed-short ps k es m =
      let a = mem-lists es ps m in
      let p = a.0 in
      let r = k p a.1 in
      let b = replay-ok bd g r.0 p.edges p r.1 in
      let z : b.0.edges ≡ [] = ap (λ (x : Path). x.edges) (start-begins g r.0 b.0 b.1).1 in
      let none : length b.0.edges ≡ 0 = ap length z in
      let h : length b.0.edges + length p.edges ≤ bd.edges = append_all-bound bd g p.edges b.0 p (omega arith) b.2 in
      let e : length es ≡ length p.edges = ap length a.2 in
      omega arith

  -- what `drop_copies` and `drop_shadowed` ask of the area
  pub stand-lists : {n : ℕ} {rs : List ℕ} {ps : List Path} → Replays bd g ps → Stand (slot_words bd) n rs ps → Lists (slot_words bd) n rs
  stand-lists {ps} k s = record { lists = edge_lists ps; count = length-lists ps ∙ sym s.count; short = replayed-short ps k; holds = s.words }

  pub recorded-replays : (s : State Path) → Replays bd g s.kept → Replays bd g (recorded s)
  recorded-replays s k p m = k p (recorded-kept s p m)

-- what `drop_copies` leaves is what `drop_shadowed` asks for
pub copies-left : (L : ℕ) {n : ℕ} (r : ℕ) {ws : List ℕ} (ws' : List ℕ) → Lists L n ws → Leaves L n (distinct_lists []) ws r ws' → Lists L r ws'
copies-left L r ws' k h =
    let a = h.2 k in
    let ls : List (List ℕ) = distinct_lists [] k.lists in
    record {
      lists = ls;
      count = sym a.1;
      short = λ es m. k.short es (⊎_elim (λ z. absurd (Memᴰ.not-nil z)) (λ z. z) (distinct_from es k.lists [] m));
      holds = a.0 ∙ ap (λ (m : ℕ). area L m ls) (sym h.0);
    }

-- lists in an area that keeps its length
placed : (L : ℕ) {r : ℕ} (rs : List ℕ) {rs' : List ℕ} {ls : List (List ℕ)} (ps : List Path) → length rs' ≡ length rs → edge_lists ps ≡ ls → rs' ≡ area L (length rs) ls → r ≡ length ls → Stand L r rs' ps
placed L rs {rs'} {ls} ps n e q c = record {
  words = q ∙ ap (λ (k : ℕ). area L k ls) (sym n) ∙ ap (area L (length rs')) (sym e);
  count = c ∙ ap length (sym e) ∙ length-lists ps;
}

-- where no list was kept twice, the recorded paths stand already
pub once-recorded : (L : ℕ) {n : ℕ} {rs : List ℕ} (s : State Path) → Once (edge_lists s.kept) → Stand L n rs s.kept → Stand L n rs (recorded s)
once-recorded L {n} {rs} s o st = subst (Stand L n rs) (sym (recorded-all s o)) st

module _ (bd : Bounds) (g : Graph) (s : State Path) (k : Replays bd (view_of g) s.kept) {n : ℕ} (r : ℕ) {rs : List ℕ} (rs' : List ℕ) where
  -- after `drop_copies` the recorded paths stand
  pub copies-recorded : Stand (slot_words bd) n rs s.kept → Leaves (slot_words bd) n (distinct_lists []) rs r rs' → Stand (slot_words bd) r rs' (recorded s)
  unfolding stand-lists
  copies-recorded st h =
      let a = h.2 (stand-lists bd (view_of g) k st) in
      placed (slot_words bd) rs (recorded s) h.0 (recorded-lists s) a.0 a.1

  -- and after `drop_shadowed` the returned ones
  pub shadowed-returned : {index : List ℕ} → Loaded g index → JumpAt (view_of g) → Stand (slot_words bd) n rs (recorded s)
      → Leaves (slot_words bd) n (λ ls. unbeaten_lists (shadows_edges (edge_row index)) ls ls) rs r rs' → Stand (slot_words bd) r rs' (returned s)
  unfolding stand-lists
  shadowed-returned {index} loaded j st h =
      let ls : List (List ℕ) = edge_lists (recorded s) in
      let same : edge_row index ≡ (view_of g).edge = λ i x. loaded.edge x i in
      let a = h.2 (stand-lists bd (view_of g) (recorded-replays bd (view_of g) s k) st) in
      placed (slot_words bd) rs (returned s) h.0
      (returned-lists bd (view_of g) j s k ∙ ap (λ (f : ℕ → Edge). unbeaten_lists (shadows_edges f) ls ls) (sym same)) a.0 a.1
