-- Where one edge more is above the limit, and no edge of the path leaves its end, all edges from the end on are too long: none is a cycle cut.
-- Serves document 01, "Answer": "Per edge: cycle, length".
use Rattle.std.specs.Prelude.{ℕ, zero, suc, ◌+◌, ◌-◌, ◌<◌, ◌≤◌, ◌≡◌, refl, Bool, true, false, not, ltb, length, get_or, drop}
use Rattle.std.proofs.Common.{arith, add-one, sym, ap, subst, ◌∙◌, true≢false, ne_eqb, ltb-true, ltb-false, drop_of_length-le, drop-cons}
use Rattle.std.proofs.lemmas.Bool.{false≢true}
use mathlib.Core.List.{List, [], ◌∷◌, Memᴰ}
use Rattle.semantics.specs.ReplayedPaths.{step_at}
use Rattle.semantics.specs.declared.graph.Edge.{Edge}
use Rattle.semantics.specs.Lists.{pick, has}
use Rattle.semantics.specs.Lists.Laws.{eqb_same, or-false}
use Rattle.semantics.specs.Limits.{within, max_edges}
use Rattle.semantics.specs.Graph.{view_of}
use Rattle.semantics.specs.Graph.Laws.{view_of-lawful}
use Rattle.storage.specs.Index.{EDGES, node_row, edge_row, next_row}
use Rattle.storage.specs.Index.Use.{left, runs-next, runs-follow}
use Rattle.stepping.specs.Judged.{judged_of}
use Rattle.path_budget.specs.declared.budget.Budget.{Budget}
use Rattle.search_state.specs.declared.dead_ends.DeadEnds.{DeadEnds}
use Rattle.search_state.specs.Passes.{nothing_passed, passed_length}
use Rattle.edge_trial.specs.Trials.Laws.{trial-overlong}
use Rattle.direct_search.specs.declared.direct.Pass.{Pass}
use Rattle.direct_search.specs.Passes.{is_from, leaves_by, all_too_long, all_passed, Passing, Passes}
use Rattle.direct_search.specs.Passes.Laws.{Over, over-start, over-less, over-more}

-- ---- the loop over the path's edges

module _ (edge : ℕ → Edge) (n : ℕ) (es : List ℕ) (i : ℕ) where
  pub leaves-here : i < length es → is_from n (edge (get_or es i 0)) ≡ true → leaves_by edge n (drop i es) ≡ true
  unfolding leaves_by
  leaves-here h f = rw (drop-cons es i 0 h, f)

  pub leaves_later : i < length es → is_from n (edge (get_or es i 0)) ≡ false → leaves_by edge n (drop (i + 1) es) ≡ leaves_by edge n (drop i es)
  unfolding leaves_by
  leaves_later h f = rw (drop-cons es i 0 h, f, add-one)

  pub leaves_none : length es ≤ i → leaves_by edge n (drop i es) ≡ false
  unfolding leaves_by
  leaves_none h = rw (drop_of_length-le es h)

-- ---- the test

module _ (index steps edges : List ℕ) (b : Budget) where
  pub short-enough : within (length edges + 1) b.max_length ≡ true → false ≡ all_too_long index steps edges b
  short-enough h = rw h

  pub too-long-unless : within (length edges + 1) b.max_length ≡ false → (before : Bool) → before ≡ leaves_by (edge_row index) (step_at steps (length edges)).end edges → not before ≡ all_too_long index steps edges b
  too-long-unless h before q = rw (h, q)

-- ---- no cycle cut

-- an edge that leaves a node is not among edges of which none does
not-among : (edge : ℕ → Edge) (n e : ℕ) (es : List ℕ) → is_from n (edge e) ≡ true → leaves_by edge n es ≡ false → has e es ≡ false
unfolding leaves_by has
not-among edge n e [] f h = refl
not-among edge n e (x ∷ es) f h =
    let o = or-false (is_from n (edge x)) (leaves_by edge n es) h in
    rw (ne_eqb e x (λ q. true≢false (sym f ∙ ap (λ (y : ℕ). is_from n (edge y)) q ∙ o.0))) (not-among edge n e es f o.1)

-- ---- the run of edges that are all too long

module _ (index steps edges : List ℕ) (b : Budget) (first : ℕ) (x : Passing index steps edges b first) (all : all_too_long index steps edges b ≡ true) where
  abbrev end : ℕ
  end = x.v.path.end

  above : (within (length edges + 1) b.max_length ≡ false) × (leaves_by (edge_row index) (step_at steps (length edges)).end edges ≡ false)
  above = on (within (length edges + 1) b.max_length) (leaves_by (edge_row index) (step_at steps (length edges)).end edges) refl refl all
    where
      on : (w l : Bool) → within (length edges + 1) b.max_length ≡ w → leaves_by (edge_row index) (step_at steps (length edges)).end edges ≡ l → pick w false (not l) ≡ true
          → (within (length edges + 1) b.max_length ≡ false) × (leaves_by (edge_row index) (step_at steps (length edges)).end edges ≡ false)
      on true l p q h = absurd (false≢true h)
      on false true p q h = absurd (false≢true h)
      on false false p q h = (p, q)

  end_is : (step_at steps (length edges)).end ≡ end
  end_is = ap (λ (n : ℕ). (step_at steps n).end) (ap length x.edges_are ∙ x.v.count) ∙ x.v.stepped.end

  no_cut : (e : ℕ) → Memᴰ e ((view_of x.v.graph).out end) → has e edges ≡ false
  no_cut e m =
      let l = (view_of-lawful x.v.graph).live end e m in
      let f : is_from end (edge_row index e) ≡ true = ap (is_from end) (x.v.loaded.edge e ∙ l.2) ∙ eqb_same end in
      not-among (edge_row index) end e edges f (ap (λ (n : ℕ). leaves_by (edge_row index) n edges) (sym end_is) ∙ above.1)

  abbrev Overˣ : DeadEnds → ℕ → Type 0
  Overˣ p link = Over x p link

  one-long : (p : DeadEnds) (link : ℕ) → 0 < link → Overˣ p link → Overˣ (passed_length p) (next_row index (link - 1))
  one-long p link h m =
      let r = runs-next index link m.rest h m.runs in
      let c = no_cut (link - 1) (m.leaving (link - 1) (subst (Memᴰ (link - 1)) (sym r.1) (Memᴰ.head refl))) in
      over-more x p link m h
      (trial-overlong (node_row index) (within (length edges + 1) b.max_length) (ltb (length edges) max_edges) (judged_of (node_row index) steps (length edges) (link - 1) (edge_row index (link - 1))) c above.0)
      (passed_length p) refl {link' = next_row index (link - 1)} refl

  -- the flag is set once: the edges behind the first add nothing
  abbrev flagged : DeadEnds
  flagged = passed_length nothing_passed

  behind-one : (link : ℕ) (more : Bool) → ltb 0 link ≡ more → Overˣ flagged link → (0 < link → Overˣ flagged (next_row index (link - 1)) → Overˣ flagged 0) → Overˣ flagged 0
  behind-one link true e m onward = onward (ltb-true 0 link e) (one-long flagged link (ltb-true 0 link e) m)
  behind-one link false e m onward = let z : link ≡ 0 = omega (arith, ltb-false 0 link e) in subst (Overˣ flagged) z m

  behind-all : (n link : ℕ) → left index link ≤ n → Overˣ flagged link → Overˣ flagged 0
  behind-all zero link l m = behind-one link (ltb 0 link) refl m (λ h o. let d = over-less x flagged link m h in absurd (omega (arith, d, l)))
  behind-all (suc n) link l m = behind-one link (ltb 0 link) refl m (λ h o. let d = over-less x flagged link m h in behind-all n (next_row index (link - 1)) (omega (arith, d, l)) o)

  all-long : (more : Bool) → ltb 0 first ≡ more → Overˣ (record { cycles = 0; rejected = 0; overlong = more }) 0
  all-long true e = behind-all (left index (next_row index (first - 1))) (next_row index (first - 1)) (omega arith) (one-long nothing_passed first (ltb-true 0 first e) (over-start x))
  all-long false e = let z : first ≡ 0 = omega (arith, ltb-false 0 first e) in subst (Overˣ nothing_passed) z (over-start x)

  over-all : Passes index steps edges b first x (all_passed first)
  over-all =
      let n : left index 0 ≡ 0 = ap length (runs-follow index EDGES 0 [] refl (omega arith)) in
      record { mid = all-long (ltb 0 first) refl; led = refl; less = omega (arith, n) }

  pub passed-all : (r : Pass) → r ≡ all_passed first → Passes index steps edges b first x r
  passed-all r e = subst (Passes index steps edges b first x) (sym e) over-all
