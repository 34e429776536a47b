-- Every file of an image filed by the public calls, with the alias set or without it, whatever the words were before, and that such a database meets
-- the premise of demand 3. Document 01, "Partial paths", last paragraph; document 02, order 5.
use Prim.Native.Nat.{ℕ, zero, suc, ◌+◌, ◌-◌, ◌≤◌, ◌<◌}
use native.Mathlib.Omega.{arith}
use Rattle.std.specs.Prelude.{◌≡◌, ◌⊎◌, Bool, ltb, length, None, Err, Ok}
use Rattle.std.proofs.Math.Path.{refl, sym, ap, subst}
use Rattle.std.proofs.Common.{◌∙◌, ⊎_elim, true≢false, ltb-true, ltb-false}
use Rattle.std.proofs.Math.Bool.{true, false}
use mathlib.Core.List.Memᴰ
use mathlib.Core.List.{List, [], ◌∷◌, Memᴰ}
use Rattle.semantics.specs.Entries.{graph_in, fresh_database}
use Rattle.semantics.specs.declared.search.SearchOrder.{SearchOrder}
use Rattle.semantics.specs.declared.search.PartialPathStats.{PartialPathStats}
use Rattle.semantics.specs.Lists.{pick}
use Rattle.semantics.specs.Limits.{base, nobody}
use Rattle.semantics.specs.Answer.{Answer, ok}
use Rattle.semantics.specs.Graph.{Graph, view_of}
use Rattle.semantics.specs.declared.refusal.ImageRefusal.{ImageRefusal}
use Rattle.semantics.specs.Image.{symbol_bytes}
use Rattle.semantics.proofs.Theorems.Image.Laws.{image-accepted}
use Rattle.semantics.specs.Acceptance.{accepts}
use Rattle.semantics.proofs.Theorems.Acceptance.Laws.{few-files}
use Rattle.semantics.specs.Demand.{file_owners, all_owners, NoAliases, Holds}
use Rattle.semantics.specs.Database.{slots_in, known_owners}
use Rattle.semantics.specs.Database.Checked.{Checked}
use Rattle.semantics.specs.Calls.{Change, alias_request, replace_call, alias_call}
use Rattle.semantics.specs.Calls.Filing.{Refiled, Filed, begun, refiled, aliased, unlimited}
use Rattle.semantics.proofs.Theorems.Calls.Filing.{still-none, refiled-holds, refiled-some, aliases-refiled, filed-holds}
use Rattle.semantics.specs.PublicAnswers.{Creation, Replacement}
use Rattle.semantics.specs.declared.answer.CreationRefusal.{CreationRefusal}
use Rattle.semantics.specs.declared.answer.ReplacementRefusal.{ReplacementRefusal}

-- was the call answered with Done
abbrev pub is_created : Creation → Bool
is_created (Ok tt) = true
is_created (Err (CreationRefusal.Image r)) = false
is_created (Err CreationRefusal.Malformed) = false

abbrev pub is_replaced : Replacement → Bool
is_replaced (Ok stats) = true
is_replaced (Err (ReplacementRefusal.Image r)) = false
is_replaced (Err (ReplacementRefusal.Database r)) = false
is_replaced (Err (ReplacementRefusal.Refused r)) = false
is_replaced (Err ReplacementRefusal.Full) = false

-- a file replaced without limits
abbrev pub refiling : List ℕ → SearchOrder → ℕ → List ℕ → List ℕ → Change Replacement
refiling im order f work words = replace_call base known_owners (graph_in im) (unlimited order (length work) f) words

-- the alias set replaced without limits
abbrev pub aliasing : List ℕ → SearchOrder → List ℕ → List ℕ → Change Replacement
aliasing im order work words = alias_call base known_owners (graph_in im) (alias_request order None None (length work)) words

-- whether every call was answered with Done, and every word of the work area and of the database
pub record Filings : Type 0 where
  pub all : Bool
  pub work : List ℕ
  pub words : List ℕ

abbrev pub onward : Bool → Change Replacement → (List ℕ → List ℕ → Filings) → Filings
onward true c next = next c.work c.database
onward false c next = record { all = false; work = c.work; words = c.database }

abbrev pub filed_by : Change Replacement → Filings
filed_by c = record { all = is_replaced c.answer; work = c.work; words = c.database }

-- k files from file f on, replaced one after another; the first call that is refused ends it
unfoldable pub refilings : List ℕ → SearchOrder → ℕ → ℕ → List ℕ → List ℕ → Filings
refilings im order f zero work words = record { all = true; work = work; words = words }
refilings im order f (suc k) work words = onward (is_replaced (refiling im order f work words).answer) (refiling im order f work words) (refilings im order (suc f) k)

abbrev pub begun_with : Bool → List ℕ → List ℕ → (List ℕ → Filings) → Filings
begun_with true work words next = next words
begun_with false work words next = record { all = false; work = work; words = words }

-- the words made a fresh database, and every file filed in it
unfoldable pub filings : List ℕ → SearchOrder → ℕ → List ℕ → List ℕ → Filings
unfolding refilings
filings im order files work words =
    begun_with (is_created (fresh_database im words).answer) work (fresh_database im words).database (refilings im order 0 files work)

-- every file, then the alias set
unfoldable pub all_refilings : List ℕ → SearchOrder → ℕ → List ℕ → List ℕ → Filings
unfolding refilings
all_refilings im order files work words =
    let f = refilings im order 0 files work words in
    pick f.all (filed_by (aliasing im order f.work f.words)) f

-- THE PREMISE OF DEMAND 3, of the words that are left, for every graph of so many files that the image holds
abbrev pub Fills : List ℕ → ℕ → List ℕ → Type 0
Fills im files words = (g : Graph) → graph_in im ≡ ok g → files ≡ g.files → Holds (file_owners g) base (view_of g) (slots_in base words)

-- where the words began as any without a slot of the alias set: of a graph without files nothing was replaced, so that its check must have passed
abbrev pub Refills : List ℕ → ℕ → List ℕ → List ℕ → Type 0
Refills im files before words = (g : Graph) → graph_in im ≡ ok g → files ≡ g.files → NoAliases (slots_in base before) → (0 < g.files) ⊎ Checked base known_owners g words
    → Holds (file_owners g) base (view_of g) (slots_in base words)

-- WITH THE ALIAS SET, where they began as any at all
abbrev pub RefillsAll : List ℕ → ℕ → List ℕ → Type 0
RefillsAll im files words = (g : Graph) → graph_in im ≡ ok g → files ≡ g.files → Holds (all_owners g) base (view_of g) (slots_in base words)

-- THE LOOP
module _ (im : List ℕ) (order : SearchOrder) (files f : ℕ) (work words : List ℕ) where
  pub refilings-end : files ≤ f → record { all = true; work = work; words = words } ≡ refilings im order f (files - f) work words
  unfolding refilings
  refilings-end h = let z : files - f ≡ 0 = omega (arith, h) in ap (λ k. refilings im order f k work words) (sym z)

  module _ (more : f < files) where
    next-is : refilings im order f (files - f) work words ≡ onward (is_replaced (refiling im order f work words).answer) (refiling im order f work words) (refilings im order (suc f) (files - (f + 1)))
    unfolding refilings
    next-is = let z : files - f ≡ suc (files - (f + 1)) = omega (arith, more) in ap (λ k. refilings im order f k work words) z

    pub refilings-stop : is_replaced (refiling im order f work words).answer ≡ false → record { all = false; work = (refiling im order f work words).work; words = (refiling im order f work words).database } ≡ refilings im order f (files - f) work words
    refilings-stop h = sym (next-is ∙ ap (λ b. onward b (refiling im order f work words) (refilings im order (suc f) (files - (f + 1)))) h)

    pub refilings-next : is_replaced (refiling im order f work words).answer ≡ true → refilings im order (f + 1) (files - (f + 1)) (refiling im order f work words).work (refiling im order f work words).database ≡ refilings im order f (files - f) work words
    refilings-next h =
        let z : suc f ≡ f + 1 = omega arith in
        ap (λ k. refilings im order k (files - (f + 1)) (refiling im order f work words).work (refiling im order f work words).database) (sym z)
        ∙ sym (next-is ∙ ap (λ b. onward b (refiling im order f work words) (refilings im order (suc f) (files - (f + 1)))) h)

-- ALL WERE REPLACED
replaced-stats : (a : Replacement) → is_replaced a ≡ true → (t : PartialPathStats) × (a ≡ Ok t)
replaced-stats (Ok t) e = (t, refl)
replaced-stats (Err (ReplacementRefusal.Image r)) e = absurd (true≢false (sym e))
replaced-stats (Err (ReplacementRefusal.Database r)) e = absurd (true≢false (sym e))
replaced-stats (Err (ReplacementRefusal.Refused r)) e = absurd (true≢false (sym e))
replaced-stats (Err ReplacementRefusal.Full) e = absurd (true≢false (sym e))

created-done : (a : Creation) → is_created a ≡ true → a ≡ Ok tt
created-done (Ok tt) e = refl
created-done (Err (CreationRefusal.Image r)) e = absurd (true≢false (sym e))
created-done (Err CreationRefusal.Malformed) e = absurd (true≢false (sym e))

-- files below f were replaced
abbrev UpTo : ℕ → List ℕ → Type 0
UpTo f done = (x : ℕ) → x < f → Memᴰ x done

up_to : (f : ℕ) (done : List ℕ) → UpTo f done → UpTo (suc f) (f ∷ done)
up_to f done u x h = on (ltb x f) refl
  where
    on : (b : Bool) → ltb x f ≡ b → Memᴰ x (f ∷ done)
    on true e = Memᴰ.tail (u x (ltb-true x f e))
    on false e = let k = ltb-false x f e in let z : x ≡ f = omega (arith, h, k) in Memᴰ.head z

-- and no others
abbrev Below : ℕ → List ℕ → Type 0
Below f done = (x : ℕ) → Memᴰ x done → x < f

below : (f : ℕ) (done : List ℕ) → Below f done → Below (suc f) (f ∷ done)
below f done b x m = ⊎_elim (λ (e : x ≡ f). omega (arith, e)) (λ i. let z = b x i in omega (arith, z)) (Memᴰ.cases_cons m)

module _ (im : List ℕ) (order : SearchOrder) (before : List ℕ) where
  abbrev Replacing : ℕ → List ℕ → Type 0
  Replacing f words = (done : List ℕ) × Refiled base (graph_in im) before words done × UpTo f done × Below f done

  all-replaced : (k f : ℕ) (work words : List ℕ) → Replacing f words → (refilings im order f k work words).all ≡ true → Replacing (f + k) (refilings im order f k work words).words
  unfolding refilings
  all-replaced zero f work words r e = let z : f ≡ f + 0 = omega arith in subst (λ n. Replacing n words) z r
  all-replaced (suc k) f work words r e = on (is_replaced (refiling im order f work words).answer) refl e
      (λ r' a. all-replaced k (suc f) (refiling im order f work words).work (refiling im order f work words).database r' a)
    where
      on : (b : Bool) → is_replaced (refiling im order f work words).answer ≡ b → (onward b (refiling im order f work words) (refilings im order (suc f) k)).all ≡ true
          → (Replacing (suc f) (refiling im order f work words).database → (refilings im order (suc f) k (refiling im order f work words).work (refiling im order f work words).database).all ≡ true
          → Replacing (suc f + k) (refilings im order (suc f) k (refiling im order f work words).work (refiling im order f work words).database).words)
          → Replacing (f + suc k) (onward b (refiling im order f work words) (refilings im order (suc f) k)).words
      on true h a ih =
          let t = replaced-stats (refiling im order f work words).answer h in
          let z : suc f + k ≡ f + suc k = omega arith in
          subst (λ n. Replacing n (refilings im order (suc f) k (refiling im order f work words).work (refiling im order f work words).database).words) z
          (ih (f ∷ r.0, refiled order (length work) f t.0 r.1 t.1, up_to f r.0 r.2, below f r.0 r.3) a)
      on false h a ih = absurd (true≢false (sym a))

nothing_yet : {A : Type 0} {x : ℕ} → x < 0 → A
nothing_yet h = absurd (omega (arith, h))

-- all files, from none on
every-replaced : (im : List ℕ) (order : SearchOrder) (files : ℕ) (work words : List ℕ) → (refilings im order 0 files work words).all ≡ true → Replacing im order words files (refilings im order 0 files work words).words
every-replaced im order files work words e =
    let z : 0 + files ≡ files = omega arith in
    subst (λ n. Replacing im order words n (refilings im order 0 files work words).words) z (all-replaced im order words files 0 work words ([], begun, λ x k. nothing_yet k, λ x m. absurd (Memᴰ.not-nil m)) e)

accepted : (im : List ℕ) (g : Graph) → graph_in im ≡ ok g → accepts g ≡ true
accepted im g h = image-accepted symbol_bytes im g h

-- every file of the graph was replaced, and nobody was not
module _ (im : List ℕ) (g : Graph) (h : graph_in im ≡ ok g) (files : ℕ) (n : files ≡ g.files) (order : SearchOrder) (before : List ℕ) {words : List ℕ} (r : Replacing im order before files words) where
  on-graph : Refiled base (ok g) before words r.0
  on-graph = subst (λ (a : Answer ImageRefusal Graph). Refiled base a before words r.0) h r.1

  every-file : (f : ℕ) → f < g.files → Memᴰ f r.0
  every-file f k = r.2 f (omega (arith, k, n))

  not-nobody : Memᴰ nobody r.0 → ⊥
  not-nobody m = let z = r.3 nobody m in omega (arith, z, n, few-files g (accepted im g h))

-- from any words
pub refilings-fill : (im : List ℕ) (order : SearchOrder) (files : ℕ) (work words : List ℕ) → (refilings im order 0 files work words).all ≡ true → Refills im files words (refilings im order 0 files work words).words
refilings-fill im order files work words e g h n none ok-check =
    let good = accepted im g h in
    let r = every-replaced im order files work words e in
    let b = on-graph im g h files n order words r in
    let all = every-file im g h files n order words r in
    let left = still-none base g good b none (not-nobody im g h files n order words r) in
    ⊎_elim (λ k. refiled-some base g good words _ r.0 b all left k) (λ k. refiled-holds base g good words _ r.0 b all left k) ok-check

-- from any words, with the alias set
pub all-refilings-fill : (im : List ℕ) (order : SearchOrder) (files : ℕ) (work words : List ℕ) → (all_refilings im order files work words).all ≡ true → RefillsAll im files (all_refilings im order files work words).words
unfolding all_refilings
all-refilings-fill im order files work words e g h n = on (refilings im order 0 files work words).all refl e
  where
    f : Filings
    f = refilings im order 0 files work words

    set : Change Replacement
    set = aliasing im order f.work f.words

    on : (b : Bool) → f.all ≡ b → (pick b (filed_by set) f).all ≡ true → Holds (all_owners g) base (view_of g) (slots_in base (pick b (filed_by set) f).words)
    on true k a =
        let r = every-replaced im order files work words k in
        let t = replaced-stats set.answer a in
        let b = aliased order (length f.work) t.0 r.1 t.1 in
        aliases-refiled base g (accepted im g h) words _ (nobody ∷ r.0) (subst (λ (x : Answer ImageRefusal Graph). Refiled base x words set.database (nobody ∷ r.0)) h b)
        (λ y k. Memᴰ.tail (every-file im g h files n order words r y k)) (Memᴰ.head refl)
    on false k a = absurd (true≢false (sym a ∙ k))

-- from a fresh database
pub filings-fill : (im : List ℕ) (order : SearchOrder) (files : ℕ) (work words : List ℕ) → (filings im order files work words).all ≡ true → Fills im files (filings im order files work words).words
unfolding filings
filings-fill im order files work words e g h n = on (is_created (fresh_database im words).answer) refl e
  where
    new : List ℕ
    new = (fresh_database im words).database

    on : (b : Bool) → is_created (fresh_database im words).answer ≡ b → (begun_with b work new (refilings im order 0 files work)).all ≡ true
        → Holds (file_owners g) base (view_of g) (slots_in base (begun_with b work new (refilings im order 0 files work)).words)
    on true c a =
        let r = every-replaced im order files work new a in
        let filed : Filed base (graph_in im) (refilings im order 0 files work new).words r.0 = record { lent = words; created = created-done (fresh_database im words).answer c; replaced = r.1 } in
        filed-holds base g (accepted im g h) _ r.0 (subst (λ (x : Answer ImageRefusal Graph). Filed base x (refilings im order 0 files work new).words r.0) h filed)
        (every-file im g h files n order new r) (not-nobody im g h files n order new r)
    on false c a = absurd (true≢false (sym a))

-- THE TWO WAYS OF A FRESH START
module _ (im : List ℕ) (order : SearchOrder) (files : ℕ) (work words : List ℕ) where
  pub filings-fresh : is_created (fresh_database im words).answer ≡ true → refilings im order 0 files work (fresh_database im words).database ≡ filings im order files work words
  unfolding filings
  filings-fresh h = sym (ap (λ b. begun_with b work (fresh_database im words).database (refilings im order 0 files work)) h)

  pub filings-refused : is_created (fresh_database im words).answer ≡ false → record { all = false; work = work; words = (fresh_database im words).database } ≡ filings im order files work words
  unfolding filings
  filings-refused h = sym (ap (λ b. begun_with b work (fresh_database im words).database (refilings im order 0 files work)) h)

  -- AND THE TWO WAYS BEHIND THE FILES
  pub all-refilings-on : (refilings im order 0 files work words).all ≡ true → filed_by (aliasing im order (refilings im order 0 files work words).work (refilings im order 0 files work words).words) ≡ all_refilings im order files work words
  unfolding all_refilings
  all-refilings-on h = sym (ap (λ b. pick b (filed_by (aliasing im order (refilings im order 0 files work words).work (refilings im order 0 files work words).words)) (refilings im order 0 files work words)) h)

  pub all-refilings-off : (refilings im order 0 files work words).all ≡ false → refilings im order 0 files work words ≡ all_refilings im order files work words
  unfolding all_refilings
  all-refilings-off h = sym (ap (λ b. pick b (filed_by (aliasing im order (refilings im order 0 files work words).work (refilings im order 0 files work words).words)) (refilings im order 0 files work words)) h)
