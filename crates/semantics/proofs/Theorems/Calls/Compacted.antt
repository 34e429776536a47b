-- A compaction seen from the other calls: every stitched search gives the same before and after, demand 3's premises survive, and what a 33 tells.
-- Document 02, order 7.
use Prim.Native.Nat.{ℕ, ◌+◌, ◌≤◌, ◌<◌}
use Rattle.std.proofs.Math.Path.{◌≡◌, refl, sym, ap}
use Rattle.std.proofs.Common.{◌∙◌, subst, le-leb, leb-true, leb-false}
use Rattle.std.specs.Prelude.{Bool, Err, Ok}
use Rattle.std.proofs.Math.Bool.{true, false, true≢false}
use mathlib.Core.List.{List}
use Rattle.std.proofs.lemmas.Bool.{lt-leb}
use Rattle.std.proofs.Math.Dec.{leb}
use Rattle.std.proofs.Math.ListN.{length}
use Rattle.semantics.specs.declared.search.SearchLimits.{SearchLimits}
use Rattle.semantics.specs.declared.search.SearchOrder.{SearchOrder}
use Rattle.semantics.specs.declared.refusal.ImageRefusal.{ImageRefusal}
use Rattle.semantics.specs.declared.refusal.DatabaseRefusal.{DatabaseRefusal}
use Rattle.semantics.specs.declared.refusal.DatabaseRefusal.TheVariants.{Malformed, Outgrown}
use Rattle.semantics.specs.declared.refusal.PartialPathRefusal.{PartialPathRefusal}
use Rattle.semantics.specs.Lists.{and}
use Rattle.semantics.specs.Lists.Laws.{and-true}
use Rattle.semantics.specs.Limits.{Bounds}
use Rattle.semantics.specs.Answer.{Answer, ok, refuse, and_then, ok_if}
use Rattle.semantics.specs.Graph.{Graph, view_of}
use Rattle.semantics.specs.Enumeration.{State}
use Rattle.semantics.specs.PartialPaths.{Route, Slot, file_partials, alias_routes}
use Rattle.semantics.proofs.Theorems.PartialPaths.Laws.{same-holds}
use Rattle.semantics.specs.Hidden.{sees, seen, seen_slots}
use Rattle.semantics.proofs.Theorems.Hidden.Laws.{seen-live}
use Rattle.semantics.specs.Stitching.{stitched}
use Rattle.semantics.proofs.Theorems.Stitching.Laws.{same-stitched}
use Rattle.semantics.specs.Demand.{file_owners, all_owners}
use Rattle.semantics.specs.Database.{used_in, nodes_in, files_in, capacity, slots_in, well_formed, check_database, has_room, known_owners}
use Rattle.semantics.specs.Database.Compaction.{compact_words, compact_call}
use Rattle.semantics.proofs.Theorems.Database.Compaction.Laws.{Compacts, compact-done, compact-live, compact-formed, same_nodes, same-files, compact-used, compact-capacity}
use Rattle.semantics.specs.Calls.{Request, FileRequest, Outcome, Reply, setting_of, file_setting_of, search_outcome, stitched_outcome, stitched_call, filing_outcome, computation_outcome, replacement_outcome, replace_call, alias_outcome, alias_call}
use Rattle.semantics.specs.Calls.Whole.{Finished, stitched_recorded, Premises, AliasPremises}
use Rattle.semantics.specs.Entries.{seen_in, stitched_search, compact_database}
use Rattle.semantics.specs.PublicAnswers.{Replacement, Resolution}
use Rattle.semantics.specs.declared.answer.ReplacementRefusal.{ReplacementRefusal}

-- 35, 34 and the slots, each by itself
checked_by : Bool → Bool → List Slot → Answer DatabaseRefusal (List Slot)
checked_by formed grown db = and_then (ok_if formed Malformed db) (λ x. ok_if grown Outgrown db)

abbrev in_graph : Graph → ℕ → ℕ → Bool
in_graph g nodes files = and (leb nodes (length g.nodes)) (leb files g.files)

check-is : (bd : Bounds) (known : ℕ → ℕ → Bool) (g : Graph) (ws : List ℕ) → check_database bd known g ws ≡ checked_by (well_formed bd known ws) (in_graph g (nodes_in ws) (files_in ws)) (slots_in bd ws)
unfolding check_database checked_by ok_if
check-is bd known g ws = on (well_formed bd known ws)
  where
    on : (b : Bool) → and_then (ok_if b Malformed ws) (λ x. ok_if (in_graph g (nodes_in ws) (files_in ws)) Outgrown (slots_in bd ws)) ≡ and_then (ok_if b Malformed (slots_in bd ws)) (λ x. ok_if (in_graph g (nodes_in ws) (files_in ws)) Outgrown (slots_in bd ws))
    on true = refl
    on false = refl

-- the check after a compaction: that before it, of the slots that are left
check-after : (bd : Bounds) (known : ℕ → ℕ → Bool) (g : Graph) (ws : List ℕ) (len : ℕ)
    → check_database bd known g (compact_call bd known ws len).database ≡ checked_by (well_formed bd known ws) (in_graph g (nodes_in ws) (files_in ws)) (slots_in bd (compact_call bd known ws len).database)
check-after bd known g ws len =
    let w : List ℕ = (compact_call bd known ws len).database in
    check-is bd known g w
    ∙ ap (λ b. checked_by b (in_graph g (nodes_in w) (files_in w)) (slots_in bd w)) (compact-formed bd known ws len)
    ∙ ap (λ n. checked_by (well_formed bd known ws) (in_graph g n (files_in w)) (slots_in bd w)) (same_nodes bd known ws len)
    ∙ ap (λ n. checked_by (well_formed bd known ws) (in_graph g (nodes_in ws) n) (slots_in bd w)) (same-files bd known ws len)

-- EVERY STITCHED SEARCH, returned or recorded, refused or not: the answer and every word, whatever the compaction answered
pub compact-same : (bd : Bounds) (reply : Reply) (known : ℕ → ℕ → Bool) (see : ℕ → Bool) (image : Answer ImageRefusal Graph) (ws : List ℕ) (len : ℕ) (q : Request)
    → stitched_call bd reply known see image (compact_call bd known ws len).database q ≡ stitched_call bd reply known see image ws q
unfolding stitched_call
compact-same bd reply known see (refuse x) ws len q = refl
compact-same bd reply known see (ok g) ws len q =
    ap (stitched_outcome bd reply see g q) (check-after bd known g ws len)
    ∙ by (well_formed bd known ws) (in_graph g (nodes_in ws) (files_in ws))
    ∙ ap (stitched_outcome bd reply see g q) (sym (check-is bd known g ws))
  where
    searched : search_outcome bd reply q (stitched bd q.limits.length (setting_of bd q) (view_of g) (seen_slots see (slots_in bd (compact_call bd known ws len).database)) q.node) ≡ search_outcome bd reply q (stitched bd q.limits.length (setting_of bd q) (view_of g) (seen_slots see (slots_in bd ws)) q.node)
    searched = ap (search_outcome bd reply q) (sym (same-stitched bd q.limits.length (setting_of bd q) (view_of g) (seen_slots see (slots_in bd ws)) (seen_slots see (slots_in bd (compact_call bd known ws len).database)) q.node (seen-live see (slots_in bd ws) (slots_in bd (compact_call bd known ws len).database) (compact-live bd known ws len))))

    by : (b c : Bool) → stitched_outcome bd reply see g q (checked_by b c (slots_in bd (compact_call bd known ws len).database)) ≡ stitched_outcome bd reply see g q (checked_by b c (slots_in bd ws))
    by true true = unfold checked_by in unfold ok_if in unfold stitched_outcome in searched
    by true false = unfold checked_by in unfold ok_if in refl
    by false c = unfold checked_by in unfold ok_if in refl

-- of the entries
pub search-compacted : (reply : Reply) (im visible words list : List ℕ) (r : ℕ) (order : SearchOrder) (limits : SearchLimits) (ws rs : List ℕ)
    → stitched_search reply im visible (compact_database words list).database r order limits ws rs ≡ stitched_search reply im visible words r order limits ws rs
search-compacted reply im visible words list r order limits ws rs = compact-same _ reply known_owners (sees visible) (seen_in im visible) words (length list) _

-- THE PREMISES OF DEMAND 3 SURVIVE IT, those of order 5 too
module _ (w : ℕ → ℕ) (bd : Bounds) (see : ℕ → Bool) (im words : List ℕ) (q q' : Request) (len : ℕ) where
  still-finished : Finished (stitched_recorded w bd see im words q') → Finished (stitched_recorded w bd see im (compact_call bd known_owners words len).database q')
  still-finished f = subst (λ (o : Outcome Resolution). Finished o) (sym (compact-same bd _ known_owners see _ words len q')) f

  pub compact-premises : Premises w bd see im words q q' → Premises w bd see im (compact_call bd known_owners words len).database q q'
  compact-premises p = record {
    graph = p.graph;
    accepted = p.accepted;
    same-reference = p.same-reference;
    same-length-limit = p.same-length-limit;
    database-holds = same-holds (seen-live see (slots_in bd words) (slots_in bd (compact_call bd known_owners words len).database) (compact-live bd known_owners words len)) (file_owners (seen see p.graph)) bd (view_of (seen see p.graph)) p.database-holds;
    direct-finished = p.direct-finished;
    stitched-finished = still-finished p.stitched-finished;
  }

  pub compact-alias-premises : AliasPremises w bd see im words q q' → AliasPremises w bd see im (compact_call bd known_owners words len).database q q'
  compact-alias-premises p = record {
    graph = p.graph;
    accepted = p.accepted;
    same-reference = p.same-reference;
    same-length-limit = p.same-length-limit;
    database-holds = same-holds (seen-live see (slots_in bd words) (slots_in bd (compact_call bd known_owners words len).database) (compact-live bd known_owners words len)) (all_owners (seen see p.graph)) bd (view_of (seen see p.graph)) p.database-holds;
    direct-finished = p.direct-finished;
    stitched-finished = still-finished p.stitched-finished;
  }

-- A 33 DIRECTLY AFTER IT

-- the image is accepted, the database not outgrown, the computation done, and the live slots, also those being replaced, and the new ones together exceed the capacity
pub record Overfull (bd : Bounds) (image : Answer ImageRefusal Graph) (computation : Graph → Answer PartialPathRefusal (State Route)) (ws : List ℕ) (live : ℕ) : Type 0 where
  pub graph : Graph
  pub accepted : image ≡ ok graph
  pub fits : (nodes_in ws ≤ length graph.nodes) × (files_in ws ≤ graph.files)
  pub state : State Route
  pub computed : computation graph ≡ ok state
  pub exceeds : capacity bd ws < live + length state.kept

module _ (bd : Bounds) (g : Graph) (q : FileRequest) (words : List ℕ) where
  -- a computation ends with 33 exactly when it is done and there is no room
  full-computed : (a : Answer PartialPathRefusal (State Route)) → (computation_outcome bd g q words a).answer ≡ Err ReplacementRefusal.Full → (s : State Route) × (a ≡ ok s) × (has_room bd s words ≡ false)
  unfolding computation_outcome filing_outcome
  full-computed (refuse r) e = absurd (let z : ◌≡◌ {A = Bool} true false = cc in true≢false z)
  full-computed (ok s) e = on (has_room bd s words) refl e
    where
      on : (b : Bool) → has_room bd s words ≡ b → (filing_outcome bd b g q words s).answer ≡ Err ReplacementRefusal.Full → (t : State Route) × (◌≡◌ {A = Answer PartialPathRefusal (State Route)} (ok s) (ok t)) × (has_room bd t words ≡ false)
      on true h k = absurd (let z : ◌≡◌ {A = Bool} true false = cc in true≢false z)
      on false h k = (s, refl, h)

  computed-full : (s : State Route) → has_room bd s words ≡ false → (computation_outcome bd g q words (ok s)).answer ≡ Err ReplacementRefusal.Full
  unfolding computation_outcome filing_outcome
  computed-full s h = rw h

-- the check that stands before the computation
in_graph_lem : (g : Graph) (nodes files : ℕ) → in_graph g nodes files ≡ true → (nodes ≤ length g.nodes) × (files ≤ g.files)
in_graph_lem g nodes files h = let a = and-true (leb nodes (length g.nodes)) (leb files g.files) h in (leb-true nodes (length g.nodes) a.0, leb-true files g.files a.1)

graph-in : (g : Graph) (nodes files : ℕ) → nodes ≤ length g.nodes → files ≤ g.files → in_graph g nodes files ≡ true
graph-in g nodes files h k = rw (le-leb nodes (length g.nodes) h, le-leb files g.files k)

-- the computation for a file, and that for the alias set
abbrev pub of_file : Bounds → FileRequest → Graph → Answer PartialPathRefusal (State Route)
of_file bd q g = file_partials bd q.length (file_setting_of bd q) g q.file

abbrev pub of_aliases : Bounds → FileRequest → Graph → Answer PartialPathRefusal (State Route)
of_aliases bd q g = alias_routes bd q.length (file_setting_of bd q) g

-- both replace calls answer so, each with its computation
module _ (bd : Bounds) (known : ℕ → ℕ → Bool) (q : FileRequest) (words : List ℕ) where
  checked_answer : (Graph → Answer PartialPathRefusal (State Route)) → Graph → Answer DatabaseRefusal (List Slot) → Replacement
  checked_answer computation g (ok db) = (computation_outcome bd g q words (computation g)).answer
  checked_answer computation g (refuse r) = Err (ReplacementRefusal.Database r)

  replace_answer : (Graph → Answer PartialPathRefusal (State Route)) → Answer ImageRefusal Graph → Replacement
  replace_answer computation (ok g) = checked_answer computation g (check_database bd known g words)
  replace_answer computation (refuse x) = Err (ReplacementRefusal.Image x)

  file-answer : (image : Answer ImageRefusal Graph) → (replace_call bd known image q words).answer ≡ replace_answer (of_file bd q) image
  unfolding replace_call replacement_outcome replace_answer checked_answer
  file-answer (refuse x) = refl
  file-answer (ok g) = on (check_database bd known g words)
    where
      on : (a : Answer DatabaseRefusal (List Slot)) → (replacement_outcome bd g q words a).answer ≡ checked_answer (of_file bd q) g a
      on (ok db) = refl
      on (refuse r) = refl

  alias-answer : (image : Answer ImageRefusal Graph) → (alias_call bd known image q words).answer ≡ replace_answer (of_aliases bd q) image
  unfolding alias_call alias_outcome replace_answer checked_answer
  alias-answer (refuse x) = refl
  alias-answer (ok g) = on (check_database bd known g words)
    where
      on : (a : Answer DatabaseRefusal (List Slot)) → (alias_outcome bd g q words a).answer ≡ checked_answer (of_aliases bd q) g a
      on (ok db) = refl
      on (refuse r) = refl

module _ (bd : Bounds) (known : ℕ → ℕ → Bool) (ws : List ℕ) (len n : ℕ) (done : (compact_call bd known ws len).answer ≡ Ok n) where
  c : Compacts bd known ws len n
  c = compact-done bd known ws len n done

  -- there is room as far as the live slots and the new ones do not exceed the capacity
  pub compact-room : (s : State Route) → has_room bd s (compact_call bd known ws len).database ≡ leb (n + length s.kept) (capacity bd ws)
  unfolding has_room
  compact-room s =
      ap (λ (w : List ℕ). leb (used_in w + length s.kept) (capacity bd w)) c.words
      ∙ ap (λ m. leb (used_in (compact_words bd ws) + length s.kept) m) (compact-capacity bd known ws c.formed)
      ∙ ap (λ m. leb (m + length s.kept) (capacity bd ws)) (compact-used bd known ws c.formed ∙ sym c.live)

  no_room : (s : State Route) → has_room bd s (compact_call bd known ws len).database ≡ false → capacity bd ws < n + length s.kept
  no_room s h = leb-false (n + length s.kept) (capacity bd ws) (sym (compact-room s) ∙ h)

  room-less : (s : State Route) → capacity bd ws < n + length s.kept → has_room bd s (compact_call bd known ws len).database ≡ false
  room-less s h = compact-room s ∙ lt-leb (n + length s.kept) (capacity bd ws) h

  check-formed : (g : Graph) → check_database bd known g (compact_call bd known ws len).database ≡ checked_by true (in_graph g (nodes_in ws) (files_in ws)) (slots_in bd (compact_call bd known ws len).database)
  check-formed g = check-after bd known g ws len ∙ ap (λ b. checked_by b (in_graph g (nodes_in ws) (files_in ws)) (slots_in bd (compact_call bd known ws len).database)) c.formed

  module _ (q : FileRequest) where
    module _ (computation : Graph → Answer PartialPathRefusal (State Route)) where
      full-means : (image : Answer ImageRefusal Graph) → replace_answer bd known q (compact_call bd known ws len).database computation image ≡ Err ReplacementRefusal.Full → Overfull bd image computation ws n
      unfolding replace_answer checked_answer checked_by ok_if
      full-means (refuse x) e = absurd (let z : ◌≡◌ {A = Bool} true false = cc in true≢false z)
      full-means (ok g) e = on (in_graph g (nodes_in ws) (files_in ws)) refl (sym (ap (checked_answer bd known q (compact_call bd known ws len).database computation g) (check-formed g)) ∙ e)
        where
          on : (b : Bool) → in_graph g (nodes_in ws) (files_in ws) ≡ b → checked_answer bd known q (compact_call bd known ws len).database computation g (checked_by true b (slots_in bd (compact_call bd known ws len).database)) ≡ Err ReplacementRefusal.Full → Overfull bd (ok g) computation ws n
          on true h k =
              let f = full-computed bd g q (compact_call bd known ws len).database (computation g) k in
              record { graph = g; accepted = refl; fits = in_graph_lem g (nodes_in ws) (files_in ws) h; state = f.0; computed = f.1; exceeds = no_room f.0 f.2 }
          on false h k = absurd (let z : ◌≡◌ {A = Bool} true false = cc in true≢false z)

      means-full : (image : Answer ImageRefusal Graph) → Overfull bd image computation ws n → replace_answer bd known q (compact_call bd known ws len).database computation image ≡ Err ReplacementRefusal.Full
      unfolding replace_answer checked_answer checked_by ok_if
      means-full image o =
          let g = o.graph in
          let w : List ℕ = (compact_call bd known ws len).database in
          ap (replace_answer bd known q w computation) o.accepted
          ∙ ap (checked_answer bd known q w computation g) (check-formed g ∙ ap (λ b. checked_by true b (slots_in bd w)) (graph-in g (nodes_in ws) (files_in ws) o.fits.0 o.fits.1))
          ∙ ap (λ (a : Answer PartialPathRefusal (State Route)). (computation_outcome bd g q w a).answer) o.computed
          ∙ computed-full bd g q w o.state (room-less o.state o.exceeds)

    -- 33 EXACTLY WHEN the live slots, also those being replaced, and the new ones exceed the capacity: of a file
    pub file-full : (image : Answer ImageRefusal Graph) → (replace_call bd known image q (compact_call bd known ws len).database).answer ≡ Err ReplacementRefusal.Full → Overfull bd image (of_file bd q) ws n
    file-full image e = full-means (of_file bd q) image (sym (file-answer bd known q (compact_call bd known ws len).database image) ∙ e)

    pub full-file : (image : Answer ImageRefusal Graph) → Overfull bd image (of_file bd q) ws n → (replace_call bd known image q (compact_call bd known ws len).database).answer ≡ Err ReplacementRefusal.Full
    full-file image o = file-answer bd known q (compact_call bd known ws len).database image ∙ means-full (of_file bd q) image o

    -- and of the alias set
    pub aliases-full : (image : Answer ImageRefusal Graph) → (alias_call bd known image q (compact_call bd known ws len).database).answer ≡ Err ReplacementRefusal.Full → Overfull bd image (of_aliases bd q) ws n
    aliases-full image e = full-means (of_aliases bd q) image (sym (alias-answer bd known q (compact_call bd known ws len).database image) ∙ e)

    pub full-aliases : (image : Answer ImageRefusal Graph) → Overfull bd image (of_aliases bd q) ws n → (alias_call bd known image q (compact_call bd known ws len).database).answer ≡ Err ReplacementRefusal.Full
    full-aliases image o = alias-answer bd known q (compact_call bd known ws len).database image ∙ means-full (of_aliases bd q) image o
