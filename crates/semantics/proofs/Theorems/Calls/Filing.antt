-- A database in which every file was replaced on this graph, without limits and unrefused, meets the premise of demand 3: one that was fresh on
-- this graph, and one that was made and filed on earlier graphs, as brokers refile daily, as long as it holds no slot of the alias set. One in which
-- the alias set was replaced too meets that of order 5.
-- Document 01, "Partial paths", last paragraph, on the public calls and their words; document 02, order 5.
use Rattle.std.specs.Prelude.{ℕ, ◌<◌, Bool, leb, length, None, Ok}
use Rattle.std.proofs.Math.Path.{◌≡◌, refl, ap}
use Rattle.std.proofs.Common.{sym, ◌∙◌, subst}
use Rattle.std.proofs.Math.Bool.{true, false, true≢false}
use mathlib.Core.List.Memᴰ
use mathlib.Core.List.{List, [], ◌∷◌, Memᴰ}
use Rattle.semantics.specs.declared.search.SearchOrder.{SearchOrder}
use Rattle.semantics.specs.declared.search.PartialPathStats.{PartialPathStats}
use Rattle.semantics.specs.declared.refusal.DatabaseRefusal.{DatabaseRefusal}
use Rattle.semantics.specs.declared.refusal.PartialPathRefusal.{PartialPathRefusal}
use Rattle.semantics.specs.Limits.{Bounds, nobody}
use Rattle.semantics.specs.Answer.{Answer, ok, refuse}
use Rattle.semantics.specs.Graph.{Graph, view_of}
use Rattle.semantics.specs.Enumeration.{State}
use Rattle.semantics.specs.PartialPaths.{Route, Slot, slot, file_partials, alias_routes, replaced}
use Rattle.semantics.proofs.Theorems.PartialPaths.Laws.{file-partials, same_none}
use Rattle.semantics.specs.Demand.{file_owners, all_owners, OwnersIn, NoAliases, Computed, of-file, of-aliases, Built, given, after, closed, Holds}
use Rattle.semantics.proofs.Theorems.Demand.Aliases.{computed-sound}
use Rattle.semantics.proofs.Theorems.Demand.Filled.{built-visible, built-visible-all, kept-aliases, built-holds, built-holds-all}
use Rattle.semantics.proofs.Theorems.Hidden.Holds.{HoldsVisible}
use Rattle.semantics.specs.Acceptance.{accepts}
use Rattle.semantics.specs.Database.{slots_in, check_database, fresh_words, has_room, replace_words, known_owners}
use Rattle.semantics.specs.Database.Laws.{fresh-slots, slots-replaced, whole-records}
use Rattle.semantics.specs.Database.Checked.{Checked, checked-words, checked-owners}
use Rattle.semantics.proofs.Theorems.Database.Compaction.Laws.{compact-live, compact-checked}
use Rattle.semantics.specs.Calls.{FileRequest, file_setting_of, alias_request, creation_outcome, filing_outcome, computation_outcome, replacement_outcome, alias_outcome, fresh_call, replace_call, alias_call}
use Rattle.semantics.specs.Calls.Filing.{unlimited, Refiled, begun, refiled, aliased, compacted, Filed}

created-done : (b : Bool) (g : Graph) (words : List ℕ) → (creation_outcome b g words).answer ≡ Ok tt → (creation_outcome b g words).database ≡ fresh_words g (length words)
unfolding creation_outcome
created-done true g words e = refl
created-done false g words e = absurd (let z : ◌≡◌ {A = Bool} true false = cc in true≢false z)

-- what an unrefused call with this computation has done
record Replaced (bd : Bounds) (g : Graph) (q : FileRequest) (computation : Answer PartialPathRefusal (State Route)) (words new : List ℕ) : Type 0 where
  pub state : State Route
  pub computed : computation ≡ ok state
  pub written : replace_words bd g q.file state words ≡ new
  pub checked : Checked bd known_owners g words

module _ (bd : Bounds) (g : Graph) (q : FileRequest) (words : List ℕ) (t : PartialPathStats) where
  stored-done : (b : Bool) (s : State Route) → (filing_outcome bd b g q words s).answer ≡ Ok t → replace_words bd g q.file s words ≡ (filing_outcome bd b g q words s).database
  unfolding filing_outcome
  stored-done true s e = refl
  stored-done false s e = absurd (let z : ◌≡◌ {A = Bool} true false = cc in true≢false z)

  computed-done : (a : Answer PartialPathRefusal (State Route)) → Checked bd known_owners g words → (computation_outcome bd g q words a).answer ≡ Ok t → Replaced bd g q a words (computation_outcome bd g q words a).database
  unfolding computation_outcome
  computed-done (ok s) k e = record { state = s; computed = refl; written = stored-done (has_room bd s words) s e; checked = k }
  computed-done (refuse r) k e = absurd (let z : ◌≡◌ {A = Bool} true false = cc in true≢false z)

  abbrev of_file : Answer PartialPathRefusal (State Route)
  of_file = file_partials bd q.length (file_setting_of bd q) g q.file

  abbrev of_aliases : Answer PartialPathRefusal (State Route)
  of_aliases = alias_routes bd q.length (file_setting_of bd q) g

  replace-done : (replace_call bd known_owners (ok g) q words).answer ≡ Ok t → Replaced bd g q of_file words (replace_call bd known_owners (ok g) q words).database
  unfolding replace_call replacement_outcome
  replace-done e = on (check_database bd known_owners g words) refl e
    where
      on : (a : Answer DatabaseRefusal (List Slot)) → check_database bd known_owners g words ≡ a → (replacement_outcome bd g q words a).answer ≡ Ok t → Replaced bd g q of_file words (replacement_outcome bd g q words a).database
      on (ok db) k e = computed-done of_file (checked-words bd known_owners g words db k) e
      on (refuse r) k e = absurd (let z : ◌≡◌ {A = Bool} true false = cc in true≢false z)

  alias-done : (alias_call bd known_owners (ok g) q words).answer ≡ Ok t → Replaced bd g q of_aliases words (alias_call bd known_owners (ok g) q words).database
  unfolding alias_call alias_outcome
  alias-done e = on (check_database bd known_owners g words) refl e
    where
      on : (a : Answer DatabaseRefusal (List Slot)) → check_database bd known_owners g words ≡ a → (alias_outcome bd g q words a).answer ≡ Ok t → Replaced bd g q of_aliases words (alias_outcome bd g q words a).database
      on (ok db) k e = computed-done of_aliases (checked-words bd known_owners g words db k) e
      on (refuse r) k e = absurd (let z : ◌≡◌ {A = Bool} true false = cc in true≢false z)

module _ (bd : Bounds) (g : Graph) (good : accepts g ≡ true) where
  -- either call, on slots
  record Onward (f : ℕ) (words new : List ℕ) : Type 0 where
    pub state : State Route
    pub computed : Computed bd g f state
    pub slots : replaced f (slots_in bd words) state ≡ slots_in bd new
    pub checked : Checked bd known_owners g words

  -- a replacement on words is one on their slots
  onward : (q : FileRequest) (a : Answer PartialPathRefusal (State Route)) (words new : List ℕ) (r : Replaced bd g q a words new) → Computed bd g q.file r.state → Onward q.file words new
  onward q a words new r c = record {
    state = r.state;
    computed = c;
    slots = sym (slots-replaced bd g q.file r.state words (whole-records bd words r.checked.used) (λ x m. (computed-sound g good bd c x m).fits)) ∙ ap (slots_in bd) r.written;
    checked = r.checked;
  }

  file-onward : (order : SearchOrder) (work f : ℕ) (words : List ℕ) (t : PartialPathStats) → (replace_call bd known_owners (ok g) (unlimited order work f) words).answer ≡ Ok t → Onward f words (replace_call bd known_owners (ok g) (unlimited order work f) words).database
  file-onward order work f words t e =
      let q = unlimited order work f in
      let r = replace-done bd g q words t e in
      let p = file-partials bd None (file_setting_of bd q) g f r.state r.computed in
      onward q _ words _ r (of-file f (file_setting_of bd q) p.0 p.1 refl refl)

  alias-onward : (order : SearchOrder) (work : ℕ) (words : List ℕ) (t : PartialPathStats) → (alias_call bd known_owners (ok g) (alias_request order None None work) words).answer ≡ Ok t
      → Onward nobody words (alias_call bd known_owners (ok g) (alias_request order None None work) words).database
  alias-onward order work words t e =
      let q = alias_request order None None work in
      let r = alias-done bd g q words t e in
      onward q _ words _ r (of-aliases (file_setting_of bd q) r.computed refl refl)

  then-built : {f : ℕ} {words new done : List ℕ} → Onward f words new → Built bd g (slots_in bd words) done → Built bd g (slots_in bd new) (f ∷ done)
  then-built {f} {words} {new} {done} o b = subst (λ (db : List Slot). Built bd g db (f ∷ done)) o.slots (after f o.state b o.computed)

  refiled-built : {before words done : List ℕ} → OwnersIn g (slots_in bd before) → Refiled bd (ok g) before words done → Built bd g (slots_in bd words) done
  refiled-built known begun = given known
  refiled-built known (refiled {words = words} order work f t b e) = then-built (file-onward order work f words t e) (refiled-built known b)
  refiled-built known (aliased {words = words} order work t b e) = then-built (alias-onward order work words t e) (refiled-built known b)
  refiled-built known (compacted {words = words} len b) = closed (refiled-built known b) (compact-live bd known_owners words len)

  -- words that this graph takes, before or after any of the replacements, show that those at the beginning named only its files and nobody
  refiled-owners : {before words done : List ℕ} → Refiled bd (ok g) before words done → Checked bd known_owners g words → OwnersIn g (slots_in bd before)
  refiled-owners {before = before} begun k = checked-owners bd g before k
  refiled-owners (refiled {words = words} order work f t b e) k = refiled-owners b (file-onward order work f words t e).checked
  refiled-owners (aliased {words = words} order work t b e) k = refiled-owners b (alias-onward order work words t e).checked
  refiled-owners (compacted {words = words} len b) k = refiled-owners b (compact-checked bd known_owners g words len k)

  -- so does the first replacement
  first-owners : {before words done : List ℕ} → Refiled bd (ok g) before words done → (f : ℕ) → Memᴰ f done → OwnersIn g (slots_in bd before)
  first-owners begun f m = absurd (Memᴰ.not-nil m)
  first-owners (refiled {words = words} order work f t b e) f' m = refiled-owners b (file-onward order work f words t e).checked
  first-owners (aliased {words = words} order work t b e) f' m = refiled-owners b (alias-onward order work words t e).checked
  first-owners (compacted len b) f' m = first-owners b f' m

  -- replacements of files alone bring no slot of the alias set
  pub still-none : {before words done : List ℕ} → Refiled bd (ok g) before words done → NoAliases (slots_in bd before) → (Memᴰ nobody done → ⊥) → NoAliases (slots_in bd words)
  still-none begun none out = none
  still-none (refiled {words = words} order work f t b e) none out = λ s u es m.
      let o = file-onward order work f words t e in
      let ih = still-none b none (λ i. out (Memᴰ.tail i)) in
      ih s u es (kept-aliases f s u es (slots_in bd words) o.state (λ z. out (Memᴰ.head z)) (subst (λ (db : List Slot). Memᴰ (slot nobody s u es) db) (sym o.slots) m))
  still-none (aliased order work t b e) none out = absurd (out (Memᴰ.head refl))
  still-none (compacted {words = words} len b) none out = same_none (compact-live bd known_owners words len) (still-none b none out)

  fresh-none : (lent : List ℕ) → (fresh_call (ok g) lent).answer ≡ Ok tt → slots_in bd (fresh_call (ok g) lent).database ≡ []
  unfolding fresh_call
  fresh-none lent e = ap (slots_in bd) (created-done (leb 3 (length lent)) g lent e) ∙ fresh-slots bd g (length lent)

  fresh-owners : (lent : List ℕ) → (fresh_call (ok g) lent).answer ≡ Ok tt → OwnersIn g (slots_in bd (fresh_call (ok g) lent).database)
  fresh-owners lent e f s t es m = absurd (Memᴰ.not-nil (subst (λ (db : List Slot). Memᴰ (slot f s t es) db) (fresh-none lent e) m))

  fresh-aliases : (lent : List ℕ) → (fresh_call (ok g) lent).answer ≡ Ok tt → NoAliases (slots_in bd (fresh_call (ok g) lent).database)
  fresh-aliases lent e s t es m = Memᴰ.not-nil (subst (λ (db : List Slot). Memᴰ (slot nobody s t es) db) (fresh-none lent e) m)

  pub filed-none : (words done : List ℕ) → Filed bd (ok g) words done → (Memᴰ nobody done → ⊥) → NoAliases (slots_in bd words)
  filed-none words done b out = still-none b.replaced (fresh-aliases b.lent b.created) out

  module _ (before words done : List ℕ) (b : Refiled bd (ok g) before words done) (all : (f : ℕ) → f < g.files → Memᴰ f done) where
    -- WITHOUT THE ALIAS SET, from any words: if none of its slots is left they hold every file's partial paths and no others, unless they meet 35 or 34
    pub refiled-holds : NoAliases (slots_in bd words) → Checked bd known_owners g words → Holds (file_owners g) bd (view_of g) (slots_in bd words)
    refiled-holds none k = built-holds bd g good (slots_in bd words) done (refiled-built (refiled-owners b k) b) all none

    -- of a graph that has a file, the replacements themselves have seen to that
    pub refiled-some : NoAliases (slots_in bd words) → 0 < g.files → Holds (file_owners g) bd (view_of g) (slots_in bd words)
    refiled-some none some = built-holds bd g good (slots_in bd words) done (refiled-built (first-owners b 0 (all 0 some)) b) all none

    -- WITH IT, from any words: they hold every file's partial paths, the alias set and no others
    pub aliases-refiled : Memᴰ nobody done → Holds (all_owners g) bd (view_of g) (slots_in bd words)
    aliases-refiled set = built-holds-all bd g good (slots_in bd words) done (refiled-built (first-owners b nobody set) b) all set

  -- from a fresh database, without an alias call and with one
  module _ (words done : List ℕ) (b : Filed bd (ok g) words done) (all : (f : ℕ) → f < g.files → Memᴰ f done) where
    pub filed-holds : (Memᴰ nobody done → ⊥) → Holds (file_owners g) bd (view_of g) (slots_in bd words)
    filed-holds out = built-holds bd g good (slots_in bd words) done (refiled-built (fresh-owners b.lent b.created) b.replaced) all (filed-none words done b out)

    pub aliases-filed : Memᴰ nobody done → Holds (all_owners g) bd (view_of g) (slots_in bd words)
    aliases-filed set = aliases-refiled _ words done b.replaced all set

  -- WITH ONLY SOME FILES VISIBLE: it is enough that the visible ones were replaced
  module _ (see : ℕ → Bool) (before words done : List ℕ) (b : Refiled bd (ok g) before words done) (all : (f : ℕ) → f < g.files → see f ≡ true → Memᴰ f done) where
    pub refiled-visible : NoAliases (slots_in bd words) → Checked bd known_owners g words → HoldsVisible see g (file_owners g) bd (slots_in bd words)
    refiled-visible none k = built-visible bd g good see (slots_in bd words) done (refiled-built (refiled-owners b k) b) all none

    pub aliases-visible : Memᴰ nobody done → HoldsVisible see g (all_owners g) bd (slots_in bd words)
    aliases-visible set = built-visible-all bd g good see (slots_in bd words) done (refiled-built (first-owners b nobody set) b) all set

  module _ (see : ℕ → Bool) (words done : List ℕ) (b : Filed bd (ok g) words done) (all : (f : ℕ) → f < g.files → see f ≡ true → Memᴰ f done) where
    pub filed-visible : (Memᴰ nobody done → ⊥) → HoldsVisible see g (file_owners g) bd (slots_in bd words)
    filed-visible out = built-visible bd g good see (slots_in bd words) done (refiled-built (fresh-owners b.lent b.created) b.replaced) all (filed-none words done b out)
