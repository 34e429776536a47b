-- The kept paths in the result slots, one reference after another, and the call.
-- Serves document 02, order 1.
use Rattle.std.specs.Prelude.{ℕ, zero, suc, ◌+◌, ◌-◌, ◌*◌, ◌<◌, ◌≤◌, ◌≡◌, Bool, eqb, ltb, get_or, take, Ok, Err, Some, None}
use Rattle.std.proofs.Common.{mul-zero, mul-le-mul_left, not-suc-le-zero, le_of_suc-le-suc, add-one, arith, ◌∙◌, true≢false, ltb-true, ltb-false, drop_of_length-le, drop-drop, drop-cons}
use Rattle.std.proofs.Math.Path.{refl, sym, ap, ap₂, subst}
use Rattle.std.proofs.Math.Bool.{true, false}
use Rattle.std.proofs.Math.Option.{Option, none, some}
use mathlib.Core.List.{List, [], ◌∷◌, Memᴰ}
use Rattle.std.proofs.Math.ListN.{length, drop}
use Rattle.std.proofs.Math.Seq.{drop_at}
use Rattle.semantics.specs.declared.graph.Node.{Node}
use Rattle.semantics.specs.declared.graph.Node.TheVariants as N
use Rattle.semantics.specs.declared.graph.Edge.TheVariants as E
use Rattle.semantics.specs.declared.search.SearchOrder.TheVariants.{BreadthFirst}
use Rattle.semantics.specs.declared.refusal.ImageRefusal.{ImageRefusal}
use Rattle.semantics.specs.declared.refusal.SearchRefusal.{SearchRefusal}
use Rattle.semantics.specs.Lists.{cons_if}
use Rattle.semantics.specs.Limits.{base, max_edges, slot_length, Limit}
use Rattle.semantics.specs.Answer.{Answer, ok, refuse}
use Rattle.semantics.specs.Graph.{Graph, view_of, traits, is_reference, is_definition}
use Rattle.semantics.specs.Graph.Laws.{view_of-lawful}
use Rattle.semantics.specs.Path.{Path}
use Rattle.semantics.proofs.Theorems.Path.Laws.{begun, replay-ok, append_all-bound}
use Rattle.semantics.specs.Enumeration.{State, Setting}
use Rattle.semantics.specs.Recorded.{edge_lists}
use Rattle.semantics.specs.Recorded.Laws.{mem-lists}
use Rattle.semantics.specs.Direct.{search_setting}
use Rattle.semantics.specs.Words.{zeros, flat, area, whole_slots}
use Rattle.semantics.specs.Words.Laws.{area-none, length-flat}
use Rattle.semantics.specs.Finding.{Name, first_to, references_from, named, find_in, only_length, name_to, FindRequest, found_as, if_definition, unless_removed, find_call}
use Rattle.semantics.proofs.Theorems.Finding.Laws.{last_of, last-at, complete-ends, kept-taken, first-kept, one_on, one_found, one-refused}
use Rattle.words.specs.Slots.{SlotsIn, slot_at, put_slot}
use Rattle.storage.specs.Index.{edge_row, Loaded}
use Rattle.reply.specs.EdgeLists.Paths.{length-lists}
use Rattle.reply.specs.ResultSlots.{count_of, edges_at, AllFitting, slot_of, Held, Closing, clear_slots}
use Rattle.reply.specs.ResultSlots.Laws.{edges-length, edges_word, held_fits, held-edges, flat-held}
use Rattle.reply.specs.ResultSlots.ClosingUp.{closing-kept, closing_end}
use Rattle.search_state.specs.declared.search.Finished.{Finished}
use Rattle.search_state.specs.declared.state.SearchState.{SearchState}
use Rattle.search_state.specs.Reps.{Counts}
use Rattle.search_rounds.specs.Drives.{SearchEnd}
use Rattle.search_rounds.specs.Drives.{Ends}
use Rattle.search_rounds.specs.Finishes.{ends-over, ends-refused}
use Rattle.semantics.specs.Entries.{Does}
use Rattle.finding.specs.Names.{Tried, leads_to, slot_to, FirstIn, only_slot, Tells, search_of, tried_of, walked_of, answer_of, left_of, turned_back, loaded_of}
use Rattle.semantics.specs.PublicAnswers.{Finding}
use Rattle.semantics.specs.declared.answer.FindingRefusal.{FindingRefusal}

-- ---- the paths of a list by number

abbrev Nth : List Path → ℕ → Path → Type 0
Nth [] j p = ⊥
Nth (x ∷ xs) zero p = x ≡ p
Nth (x ∷ xs) (suc j) p = Nth xs j p

nth-mem : (ps : List Path) (j : ℕ) (p : Path) → Nth ps j p → Memᴰ p ps
nth-mem [] j p h = absurd h
nth-mem (x ∷ ps) zero p h = Memᴰ.head (sym h)
nth-mem (x ∷ ps) (suc j) p h = Memᴰ.tail (nth-mem ps j p h)

nth-below : (ps : List Path) (j : ℕ) (p : Path) → Nth ps j p → j < length ps
nth-below [] j p h = absurd h
nth-below (x ∷ ps) zero p h = omega arith
nth-below (x ∷ ps) (suc j) p h = omega (arith, nth-below ps j p h)

nth-list : (ps : List Path) (j : ℕ) (p : Path) → Nth ps j p → get_or (edge_lists ps) j [] ≡ p.edges
nth-list [] j p h = absurd h
nth-list (x ∷ ps) zero p h = ap (λ (y : Path). y.edges) h
nth-list (x ∷ ps) (suc j) p h = nth-list ps j p h

-- the first number whose test holds is that of the first path to the node
first_found : (n : ℕ) (ps : List Path) (test : ℕ → Bool) → ((j : ℕ) (p : Path) → Nth ps j p → test j ≡ eqb p.end n) → (r : ℕ) → ((j : ℕ) → j < r → test j ≡ false) → r < length ps → test r ≡ true
    → (p : Path) × (first_to n ps ≡ some p) × (get_or (edge_lists ps) r [] ≡ p.edges)
unfolding first_to
first_found n [] test h r b l t = absurd (not-suc-le-zero l)
first_found n (p ∷ ps) test h zero b l t = (p, rw (sym (h 0 p refl) ∙ t), refl)
first_found n (p ∷ ps) test h (suc r) b l t =
    let k = first_found n ps (λ j. test (suc j)) (λ j q i. h (suc j) q i) r (λ j i. b (suc j) (omega (arith, i))) (le_of_suc-le-suc l) t in
    (k.0, rw (sym (h 0 p refl) ∙ b 0 (omega arith)) k.1, k.2)

first-missing : (n : ℕ) (ps : List Path) (test : ℕ → Bool) → ((j : ℕ) (p : Path) → Nth ps j p → test j ≡ eqb p.end n) → ((j : ℕ) → j < length ps → test j ≡ false) → first_to n ps ≡ none
unfolding first_to
first-missing n [] test h b = refl
first-missing n (p ∷ ps) test h b = rw (sym (h 0 p refl) ∙ b 0 (omega arith)) (first-missing n ps (λ j. test (suc j)) (λ j q i. h (suc j) q i) (λ j i. b (suc j) (omega (arith, i))))

-- one number more for which the test does not hold
pub before_more : (test : ℕ → Bool) (i : ℕ) → ((j : ℕ) → j < i → test j ≡ false) → test i ≡ false → (j : ℕ) → j < i + 1 → test j ≡ false
before_more test i b e j h = on1 (ltb j i) refl
  where
    on1 : (c : Bool) → ltb j i ≡ c → test j ≡ false
    on1 true k = b j (ltb-true j i k)
    on1 false k = let q : j ≡ i = omega (arith, h, ltb-false j i k) in ap test q ∙ e

-- ---- one slot of those that hold lists becomes the only one

only-area : (L n i : ℕ) (ls : List (List ℕ)) (ws : List ℕ) → Held L (λ j. false) ls ws → drop (L * n) ws ≡ zeros (length ws - L * n) → length ls ≡ n → i < n → only_slot L i n ws ≡ area L (length ws) (get_or ls i [] ∷ [])
unfolding only_slot slot_of flat
only-area L n i ls ws k z e h = closing_end L n 1 (es ∷ []) ws ws' c₂ fits z
  where
    es : List ℕ
    es = get_or ls i []

    ws' : List ℕ
    ws' = put_slot L 0 (slot_at L i ws) ws

    fits : SlotsIn L n ws
    fits = subst (λ (m : ℕ). SlotsIn L m ws) e k.inside

    c₀ : Closing L n i 0 [] ws ws
    c₀ = record { kept = refl; before = omega arith; within = omega arith; same_length = refl; front = ap (λ (m : ℕ). take m ws) (mul-zero L); rest = refl }

    c₁ : Closing L n (i + 1) 1 (es ∷ []) ws ws'
    c₁ = closing-kept L n i 0 [] ws ws c₀ h fits es (k.slot i (omega arith))

    d : ℕ
    d = L * n - L * (i + 1)

    le : L * (i + 1) ≤ L * n
    le = mul-le-mul_left L (let y : i + 1 ≤ n = omega arith in y)

    far : L * (i + 1) + d ≡ L * n
    far = omega (arith, le)

    c₂ : Closing L n n 1 (es ∷ []) ws ws'
    c₂ = record {
      kept = c₁.kept;
      before = omega arith;
      within = omega arith;
      same_length = c₁.same_length;
      front = c₁.front;
      rest = ap (λ (m : ℕ). drop m ws') (sym far) ∙ sym (drop-drop d (L * (i + 1)) ws') ∙ ap (drop d) c₁.rest ∙ drop-drop d (L * (i + 1)) ws ∙ ap (λ (m : ℕ). drop m ws) far;
    }

-- and where none is to stay, all are cleared
none-area : (L n : ℕ) (ws : List ℕ) → SlotsIn L n ws → drop (L * n) ws ≡ zeros (length ws - L * n) → clear_slots L 0 n ws ≡ zeros (length ws)
unfolding flat
none-area L n ws fits z =
    closing_end L n 0 [] ws ws (record { kept = refl; before = omega arith; within = omega arith; same_length = refl; front = ap (λ (m : ℕ). take m ws) (mul-zero L); rest = refl }) fits z ∙ area-none L (length ws)

-- ---- A SEARCH THAT HAS ENDED
module _ (index : List ℕ) (g : Graph) (loaded : Loaded g index) (lim : Limit) (w o n r : ℕ) where
  abbrev setting_to : Setting SearchRefusal
  setting_to = search_setting BreadthFirst (only_length lim) (whole_slots slot_length w) (whole_slots slot_length o)

  module _ (d : SearchEnd) (rs : List ℕ) (ends : Ends d rs (search_of g lim w o r)) where
    pub tried-refused : (x : SearchRefusal) → d ≡ Err x → (rs' : List ℕ) → Tells (Err x) rs' (tried_of g lim w o n r true)
    unfolding find_in
    tried-refused x e rs' = rw (ends-refused d rs (search_of g lim w o r) x ends e) refl

    module _ (fin : Finished) (e : d ≡ Ok fin) where
      abbrev st : SearchState
      st = fin.state

      over : (u : State Path) × (search_of g lim w o r ≡ ok u) × Counts fin.state rs u × (fin.waited ≡ u.tally.waited)
      over = ends-over d rs (search_of g lim w o r) fin ends e

      abbrev kept_of : List Path
      kept_of = over.0.kept

      kept-short : (es : List ℕ) → Memᴰ es (edge_lists kept_of) → length es < slot_length
      kept-short es m =
          let a = mem-lists es kept_of m in
          let p = a.0 in
          let t = kept-taken base lim setting_to (view_of g) (view_of-lawful g) r over.0 over.1 p a.1 in
          let b = replay-ok base (view_of g) r p.edges p t.0.replayed in
          let z : length b.0.edges ≡ 0 = ap length (begun (view_of g) r b.0 b.1).edges in
          let h : length b.0.edges + length p.edges ≤ max_edges = append_all-bound base (view_of g) p.edges b.0 p (omega arith) b.2 in
          let q : length es ≡ length p.edges = ap length a.2 in
          omega arith

      held : Held slot_length (λ j. false) (edge_lists kept_of) rs
      unfolding area
      held = flat-held slot_length (edge_lists kept_of) rs (zeros (length rs - slot_length * length (edge_lists kept_of))) kept-short over.2.words

      many : length (edge_lists kept_of) ≡ st.kept
      many = length-lists kept_of ∙ sym over.2.kept

      pub over-fitting : AllFitting slot_length st.kept rs
      over-fitting j h = held_fits slot_length (λ i. false) (edge_lists kept_of) rs held j (omega (arith, many, h))

      pub over-slots : SlotsIn slot_length st.kept rs
      over-slots = omega (arith, held.inside, many)

      kept_test : (j : ℕ) (p : Path) → Nth kept_of j p → slot_to index rs n j ≡ eqb p.end n
      kept_test j p h =
          let t = kept-taken base lim setting_to (view_of g) (view_of-lawful g) r over.0 over.1 p (nth-mem kept_of j p h) in
          let c = complete-ends base (view_of g) r p.edges p t.0.replayed t.1 in
          let below : j < length (edge_lists kept_of) = omega (arith, nth-below kept_of j p h, length-lists kept_of) in
          let f = held_fits slot_length (λ i. false) (edge_lists kept_of) rs held j below in
          let list : edges_at slot_length j rs ≡ c.0 ∷ c.1 = held-edges slot_length (λ i. false) (edge_lists kept_of) rs held j below ∙ nth-list kept_of j p h ∙ c.2 in
          let count : count_of slot_length (get_or rs (slot_length * j) 0) ≡ suc (length c.1) = sym (edges-length slot_length j rs f) ∙ ap length list in
          let place : slot_length * j + count_of slot_length (get_or rs (slot_length * j) 0) ≡ slot_length * j + 1 + length c.1 = omega (arith, count) in
          let word : get_or rs (slot_length * j + count_of slot_length (get_or rs (slot_length * j) 0)) 0 ≡ last_of c.0 c.1 =
          ap (λ (k : ℕ). get_or rs k 0) place ∙ sym (edges_word slot_length j rs f (length c.1) (omega (arith, count))) ∙ ap (λ (l : List ℕ). get_or l (length c.1) 0) list ∙ last-at c.0 c.1 in
          let lead = c.3 in
          let row : edge_row index (get_or rs (slot_length * j + count_of slot_length (get_or rs (slot_length * j) 0)) 0) ≡ E.Live lead.source lead.target lead.precedence = ap (edge_row index) word ∙ loaded.edge (last_of c.0 c.1) ∙ lead.found in
          ap (leads_to n) row ∙ ap (λ (k : ℕ). eqb k n) (sym lead.end)

      behind-kept : drop (slot_length * st.kept) rs ≡ zeros (length rs - slot_length * st.kept)
      unfolding area
      behind-kept =
          ap (λ (k : ℕ). drop (slot_length * k) rs) (sym many) ∙ ap (drop (slot_length * length (edge_lists kept_of))) over.2.words
          ∙ drop_at (flat slot_length (edge_lists kept_of)) (zeros (length rs - slot_length * length (edge_lists kept_of))) (slot_length * length (edge_lists kept_of)) (length-flat slot_length (edge_lists kept_of))
          ∙ ap (λ (k : ℕ). zeros (length rs - slot_length * k)) many

      module _ (at : ℕ) (f : FirstIn (slot_to index rs n) st.kept at) where
        pub tried-without : st.kept ≤ at → (rs' : List ℕ) → length rs' ≡ length rs → rs' ≡ clear_slots slot_length 0 st.kept rs → Tells (Ok None) rs' (tried_of g lim w o n r true)
        unfolding find_in named
        tried-without h rs' len q =
            let z : first_to n kept_of ≡ none = first-missing n kept_of (slot_to index rs n) kept_test (λ j i. f.before j (omega (arith, i, h, over.2.kept))) in
            let y : rs' ≡ zeros (length rs') = q ∙ none-area slot_length st.kept rs over-slots behind-kept ∙ ap zeros (sym len) in
            rw (over.1, first-kept n base lim setting_to (view_of g) (view_of-lawful g) r over.0 over.1, z) y

        pub tried-found : at < st.kept → (rs' : List ℕ) → length rs' ≡ length rs → rs' ≡ only_slot slot_length at st.kept rs → Tells (Ok (Some r)) rs' (tried_of g lim w o n r true)
        unfolding find_in named area
        tried-found h rs' len q =
            let z = first_found n kept_of (slot_to index rs n) kept_test at f.before (omega (arith, h, over.2.kept)) (f.here h) in
            let x : rs' ≡ area slot_length (length rs) (get_or (edge_lists kept_of) at [] ∷ []) = q ∙ only-area slot_length st.kept at (edge_lists kept_of) rs held behind-kept many h in
            let y : rs' ≡ area slot_length (length rs') (z.0.edges ∷ []) = x ∙ ap₂ (λ (m : ℕ) (l : List ℕ). area slot_length m (l ∷ [])) (sym len) z.2 in
            rw (over.1, first-kept n base lim setting_to (view_of g) (view_of-lawful g) r over.0 over.1, z.1) (refl, y)

-- ---- what is told, turned round

tells-found : (r : ℕ) (rs : List ℕ) (t : Answer SearchRefusal (Option Name)) → Tells (Ok (Some r)) rs t → (m : Name) × (t ≡ ok (some m)) × (r ≡ m.reference) × (rs ≡ area slot_length (length rs) (m.edges ∷ []))
tells-found r rs (ok (some m)) h = (m, refl, h.0, h.1)
tells-found r rs (ok none) h = absurd h
tells-found r rs (refuse y) h = absurd h

tells-without : (rs : List ℕ) (t : Answer SearchRefusal (Option Name)) → Tells (Ok None) rs t → (t ≡ ok none) × (rs ≡ zeros (length rs))
tells-without rs (ok (some m)) h = absurd h
tells-without rs (ok none) h = (refl, h)
tells-without rs (refuse y) h = absurd h

pub tells-cleared : (rs : List ℕ) (t : Answer SearchRefusal (Option Name)) → Tells (Ok None) rs t → rs ≡ zeros (length rs)
tells-cleared rs t h = (tells-without rs t h).1

tells-refused : (x : SearchRefusal) (rs : List ℕ) (t : Answer SearchRefusal (Option Name)) → Tells (Err x) rs t → t ≡ refuse x
tells-refused x rs (ok (some m)) h = absurd h
tells-refused x rs (ok none) h = absurd h
tells-refused x rs (refuse y) h = ap refuse (sym h)

-- the same in areas of the same lengths
pub told_here : (g : Graph) (lim : Limit) (w w' o o' n r : ℕ) (b : Bool) (rs : List ℕ) → w ≡ w' → o ≡ o' → (s t : Tried) → s ≡ t → Tells s rs (tried_of g lim w o n r b) → Tells t rs (tried_of g lim w' o' n r b)
told_here g lim w w' o o' n r b rs x y s t e h =
    subst (λ (i : ℕ). Tells t rs (tried_of g lim i o' n r b)) x (subst (λ (i : ℕ). Tells t rs (tried_of g lim w i n r b)) y (subst (λ (q : Tried). Tells q rs (tried_of g lim w o n r b)) e h))

-- ---- a node that is no reference
pub passed_over : (g : Graph) (lim : Limit) (w o n r : ℕ) (b : Bool) → b ≡ false → (rs : List ℕ) → rs ≡ zeros (length rs) → Tells (Ok None) rs (tried_of g lim w o n r b)
unfolding find_in
passed_over g lim w o n r b e rs z = rw e z

-- ---- ONE NODE AFTER ANOTHER
module _ (g : Graph) (lim : Limit) (w o n : ℕ) where
  -- what is left decides
  abbrev pub Left : ℕ → Type 0
  Left i = find_in (search_of g lim w o) n (references_from i (drop i g.nodes)) ≡ walked_of g lim w o n

  module _ (i : ℕ) (left : Left i) (h : i < length g.nodes) (rs : List ℕ) where
    abbrev is_one : Bool
    is_one = is_reference ((view_of g).node i)

    here : find_in (search_of g lim w o) n (cons_if is_one i (references_from (suc i) (drop (suc i) g.nodes))) ≡ walked_of g lim w o n
    unfolding references_from view_of
    here = ap (λ (l : List Node). find_in (search_of g lim w o) n (references_from i l)) (sym (drop-cons g.nodes i N.Removed h)) ∙ left

    pub walk-again : Tells (Ok None) rs (tried_of g lim w o n i is_one) → Left (i + 1)
    walk-again t = rw add-one (sym (one_on (search_of g lim w o) n i (references_from (suc i) (drop (suc i) g.nodes)) is_one (tells-without rs (tried_of g lim w o n i is_one) t).0) ∙ here)

    pub walk-found : (r : ℕ) → Tells (Ok (Some r)) rs (tried_of g lim w o n i is_one) → Tells (Ok (Some r)) rs (walked_of g lim w o n)
    walk-found r t =
        let k = tells-found r rs (tried_of g lim w o n i is_one) t in
        let z : walked_of g lim w o n ≡ ok (some k.0) = sym here ∙ one_found (search_of g lim w o) n i (references_from (suc i) (drop (suc i) g.nodes)) is_one k.0 k.1 in
        subst (λ (a : Answer SearchRefusal (Option Name)). Tells (Ok (Some r)) rs a) (sym z) (k.2, k.3)

    pub walk_refused : (x : SearchRefusal) → Tells (Err x) rs (tried_of g lim w o n i is_one) → Tells (Err x) rs (walked_of g lim w o n)
    walk_refused x t =
        let k = tells-refused x rs (tried_of g lim w o n i is_one) t in
        let z : walked_of g lim w o n ≡ refuse x = sym here ∙ one-refused (search_of g lim w o) n i (references_from (suc i) (drop (suc i) g.nodes)) is_one x k in
        subst (λ (a : Answer SearchRefusal (Option Name)). Tells (Err x) rs a) (sym z) refl

  pub walk_end : (i : ℕ) → Left i → length g.nodes ≤ i → (rs : List ℕ) → rs ≡ zeros (length rs) → Tells (Ok None) rs (walked_of g lim w o n)
  unfolding find_in references_from
  walk_end i left h rs clear =
      let z : walked_of g lim w o n ≡ ok none = sym left ∙ ap (λ (l : List Node). find_in (search_of g lim w o) n (references_from i l)) (drop_of_length-le g.nodes h) in
      subst (λ (a : Answer SearchRefusal (Option Name)). Tells (Ok None) rs a) (sym z) clear

-- ---- THE CALL
definition-there : (x : Node) → is_definition x ≡ true → (traits x).removed ≡ false
definition-there N.Removed e = absurd (true≢false (sym e))
definition-there N.Root e = refl
definition-there N.JumpToScope e = refl
definition-there (N.Scope f y) e = refl
definition-there (N.Push f s r) e = refl
definition-there (N.Pop f s d) e = refl
definition-there (N.PushScoped f s a r) e = refl
definition-there (N.PopScoped f s d) e = refl
definition-there (N.DropScopes f) e = refl

module _ (g : Graph) (q : FindRequest) where
  found-does : (t : Tried) (rs : List ℕ) → length rs ≡ q.result → Tells t rs (walked_of g q.length q.work q.result q.node) → (a : Finding) (ws' rs' : List ℕ) → a ≡ answer_of t → ws' ≡ zeros q.work → rs' ≡ left_of t rs
      → Does (found_as base q (walked_of g q.length q.work q.result q.node)) a ws' rs'
  unfolding found_as
  found-does (Ok (Some r)) rs l t a ws' rs' e w h =
      let k = tells-found r rs (walked_of g q.length q.work q.result q.node) t in
      rw k.1 (e ∙ ap (λ (i : ℕ). Ok (Some (record { 0 = i }))) k.2, w, h ∙ k.3 ∙ ap (λ (m : ℕ). area slot_length m (k.0.edges ∷ [])) l)
  found-does (Ok None) rs l t a ws' rs' e w h = let k = tells-without rs (walked_of g q.length q.work q.result q.node) t in rw k.0 (e, w, h ∙ k.1 ∙ ap zeros l)
  found-does (Err x) rs l t a ws' rs' e w h = rw (tells-refused x rs (walked_of g q.length q.work q.result q.node) t) (e, w, h ∙ ap zeros l)

  module _ (b : Bool) (is : b ≡ is_definition ((view_of g).node q.node)) where
    pub definition-does : b ≡ true → (t : Tried) (rs : List ℕ) → length rs ≡ q.result → Tells t rs (walked_of g q.length q.work q.result q.node) → (a : Finding) (ws' rs' : List ℕ) → a ≡ answer_of t → ws' ≡ zeros q.work → rs' ≡ left_of t rs
        → Does (loaded_of g q) a ws' rs'
    unfolding find_call unless_removed if_definition name_to
    definition-does e t rs l h a ws' rs' x y z =
        let k : is_definition ((view_of g).node q.node) ≡ true = sym is ∙ e in
        rw (definition-there ((view_of g).node q.node) k, k) (found-does t rs l h a ws' rs' x y z)

    pub other-does : b ≡ false → (a : Finding) (ws' rs' : List ℕ) → a ≡ turned_back q.node ((view_of g).node q.node) → ws' ≡ zeros q.work → rs' ≡ zeros q.result → Does (loaded_of g q) a ws' rs'
    unfolding find_call unless_removed if_definition
    other-does e a ws' rs' x y z = on1 (traits ((view_of g).node q.node)).removed refl
      where
        on1 : (c : Bool) → (traits ((view_of g).node q.node)).removed ≡ c → Does (loaded_of g q) a ws' rs'
        on1 true k = let v = rw k at x in rw k (v, y, z)
        on1 false k = let v = rw k at x in rw (k, sym is ∙ e) (v, y, z)

module _ (q : FindRequest) (y : Answer ImageRefusal Graph) where
  pub image-refused : (x : ImageRefusal) → y ≡ refuse x → (ws rs : List ℕ) → ws ≡ zeros q.work → rs ≡ zeros q.result → Does (find_call base y q) (Err (FindingRefusal.Image x)) ws rs
  unfolding find_call
  image-refused x e ws rs w r = rw e (refl, w, r)

  pub image_does : (g : Graph) → y ≡ ok g → (a : Finding) (ws rs : List ℕ) → Does (loaded_of g q) a ws rs → Does (find_call base y q) a ws rs
  image_does g e a ws rs h = rw e h
