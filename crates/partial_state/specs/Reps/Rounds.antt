-- The top of a round: the computation is over, or the next route in the order of taking is to be expanded, or it would be one expansion too many.
-- Serves document 01, "Budget and frontier"; 36 of "Turned back".
use Rattle.std.specs.Prelude.{ℕ, ◌+◌, ◌*◌, ◌<◌, ◌≤◌, ◌≡◌, ◌⊎◌, Bool, Option, Some, None}
use Rattle.std.proofs.Common.{arith, ◌∙◌, inl, inr, ⊎_elim, leb→le}
use Rattle.std.proofs.Math.Path.{refl, sym, ap, subst}
use Rattle.std.proofs.Math.Bool.{true, false, not}
use mathlib.Core.List.Memᴰ
use mathlib.Core.List.{List, [], ◌∷◌, map, Memᴰ}
use Rattle.std.proofs.Math.Dec.{T, leb, nleb→lt}
use Rattle.std.proofs.Math.ListN.{length}
use Rattle.semantics.specs.declared.search.SearchOrder.{SearchOrder}
use Rattle.semantics.specs.declared.search.SearchOrder.TheVariants.{BreadthFirst, DepthFirst}
use Rattle.semantics.specs.declared.search.SearchStats.{SearchStats}
use Rattle.semantics.specs.Lists.{pick}
use Rattle.semantics.specs.declared.refusal.PartialPathRefusal.{PartialPathRefusal}
use Rattle.semantics.specs.declared.refusal.PartialPathRefusal.TheVariants.{TooManyExpansions}
use Rattle.semantics.specs.Limits.{below, max_expansions, slot_length}
use Rattle.semantics.specs.Graph.{View}
use Rattle.semantics.specs.PartialPaths.{Route}
use Rattle.semantics.specs.Enumeration.{State, Turn, over, expand, turn, popped, admit, merge, add_expanded, flag_count}
use Rattle.path_frontier.specs.declared.frontier.Frontier.{Frontier}
use Rattle.path_budget.specs.Budget.{expansion}
use Rattle.path_budget.specs.Budget.Laws.{expansion-allowed, expansion-limits, expansion-granted, expansion-refused}
use Rattle.path_frontier.specs.Frontier.{merged, greatest_in, Waits}
use Rattle.path_frontier.specs.Frontier.Laws.{merge-is, pop-frame}
use Rattle.path_frontier.specs.Frontier.Stands.{stands-item, stands-empty}
use Rattle.partial_state.specs.declared.filing.Filing.{Filing}
use Rattle.partial_state.specs.Routes.{held, Waiting}
use Rattle.partial_state.specs.Extractions.{Computation, Opening, closing, opening, refusing, with_budget, with_frontier, counting, opening_of, Taking}
use Rattle.partial_state.specs.Reps.{Counts, frame_of, setting_of, Rep}

mem-merged : (o : SearchOrder) (xs ys : List Route) (r : Route) → Memᴰ r (merged o xs ys) → Memᴰ r xs ⊎ Memᴰ r ys
mem-merged BreadthFirst xs ys r h = Memᴰ.append_cases xs h
mem-merged DepthFirst xs ys r h = ⊎_elim (λ (a : Memᴰ r ys). inr a) (λ (a : Memᴰ r xs). inl a) (Memᴰ.append_cases ys h)

module _ (g : View) (f : Filing) (origin : List ℕ) (x : Computation) (ws db : List ℕ) (m : State Route) (was : Rep g f origin x ws db m) where
  abbrev pub round_of : Turn Route
  round_of = turn (setting_of (frame_of x)) (merge x.frontier.order m)

  -- the round opens with a route to be expanded
  pub record Opened (item ws' : List ℕ) (n : Computation) : Type 0 where
    pub route : Route
    pub model : State Route
    pub round : round_of ≡ expand route model
    pub words : item ≡ held n.frontier.length route
    pub good : Waiting g f.file n.frontier.length route
    pub frame : frame_of n ≡ frame_of x
    pub rep : Rep g f origin n ws' db model
    pub tally : model.tally ≡ m.tally
    pub expanded : n.budget.expanded ≡ x.budget.expanded + 1
    pub before : x.budget.expanded < max_expansions

  -- it ends the computation
  pub record Ended (n : Computation) : Type 0 where
    pub model : State Route
    pub round : round_of ≡ over model
    pub counts : Counts n model
    pub kept : model.kept ≡ m.kept
    pub waited : greatest_in n.frontier ≡ model.tally.waited

  -- it would be one expansion too many
  pub record Exceeded : Type 0 where
    pub route : Route
    pub model : State Route
    pub round : round_of ≡ expand route model
    pub before : max_expansions ≤ x.budget.expanded

  abbrev Rounds : Opening → List ℕ → List ℕ → Type 0
  Rounds (closing n) item ws' = Ended n
  Rounds (opening n) item ws' = Opened item ws' n
  Rounds (refusing r) item ws' = (r ≡ TooManyExpansions) × Exceeded

  abbrev opened : State Route
  opened = record { rest = merged x.frontier.order m.rest m.pending; pending = []; kept = m.kept; stats = m.stats; tally = m.tally }

  counted : m.stats.expanded ≡ x.budget.expanded
  counted = ap (λ (t : SearchStats). t.expanded) (sym was.counts.stats)

  module _ (w : Route) (us : List Route) (taken : (merge x.frontier.order m).rest ≡ w ∷ us) where
    first : merged x.frontier.order m.rest m.pending ≡ w ∷ us
    first = ap (λ (u : State Route). u.rest) (sym (merge-is x.frontier.order m)) ∙ taken

    asked_is : (b : Bool) → (expansion x.budget).allowed ≡ b → round_of ≡ admit b opened w us
    unfolding turn popped
    asked_is b e =
        ap (turn (setting_of (frame_of x))) (merge-is x.frontier.order m)
        ∙ ap (popped (setting_of (frame_of x)) opened) first
        ∙ ap (λ (y : Bool). admit y opened w us) (ap (λ (y : ℕ). below y x.budget.max_paths) counted ∙ sym (expansion-allowed x.budget) ∙ e)

    is_below : (b : Bool) → (expansion x.budget).allowed ≡ b → below x.budget.expanded x.budget.max_paths ≡ b
    is_below b e = sym (expansion-allowed x.budget) ∙ e

    good-first : Waiting g f.file x.frontier.length w
    good-first = was.traced w (mem-merged x.frontier.order m.rest m.pending w (subst (λ (l : List Route). Memᴰ w l) (sym first) (Memᴰ.head refl)))

    good_others : (r : Route) → Memᴰ r us → Waiting g f.file x.frontier.length r
    good_others r h = was.traced r (mem-merged x.frontier.order m.rest m.pending r (subst (λ (l : List Route). Memᴰ r l) (sym first) (Memᴰ.tail h)))

    onward : (n : Frontier) (item ws' : List ℕ) → n.order ≡ x.frontier.order → n.capacity ≡ x.frontier.capacity → n.length ≡ x.frontier.length → length ws' ≡ length ws → held x.frontier.length w ≡ item → Waits n ws' (map (held x.frontier.length) us) [] → greatest_in n ≡ m.tally.waited
        → (expansion x.budget).allowed ≡ true → x.budget.expanded < max_expansions
        → Opened item ws' (with_frontier n (with_budget (expansion x.budget).budget x))
    unfolding admit expansion
    onward n item ws' o c l s e v y a h = record {
      route = w;
      model = record { rest = us; pending = []; kept = m.kept; stats = add_expanded m.stats; tally = m.tally };
      round = asked_is true a;
      words = sym e ∙ ap (λ (y : ℕ). held y w) (sym l);
      good = subst (λ (y : ℕ). Waiting g f.file y w) (sym l) good-first;
      frame = λ i. record { order = o i; length = (expansion-limits x.budget i).length; expansions = (expansion-limits x.budget i).expansions; waiting = c i; slot = l i };
      rep = record {
        sized = record { start = omega (arith, l, was.sized.start); most = omega (arith, l, was.sized.most); room = subst (λ (y : ℕ). slot_length * y ≤ length ws') (sym c) (omega (arith, s, was.sized.room)) };
        stands = (subst (λ (y : ℕ). Waits n ws' (map (held y) us) []) (sym l) v, y);
        counts = record {
          stats = ap (counting x.found) (expansion-granted x.budget 0 x.cycles (is_below true a)) ∙ ap add_expanded was.counts.stats;
          found = was.counts.found;
        };
        few = record { complete = was.few.complete; cycles = was.few.cycles };
        filed = was.filed;
        traced = λ r k. subst (λ (z : ℕ). Waiting g f.file z r) (sym l) (⊎_elim (λ (y : Memᴰ r us). good_others r y) (λ (y : Memᴰ r []). absurd (not-nil y)) k);
      };
      tally = refl;
      expanded = ap (λ (t : SearchStats). t.expanded) (expansion-granted x.budget 0 0 (is_below true a));
      before = h;
    }
      where
        not-nil : {r : Route} → Memᴰ r [] → ⊥
        not-nil h = Memᴰ.not-nil h

    ended : (expansion x.budget).allowed ≡ false → Ended (with_budget (expansion x.budget).budget x)
    unfolding admit
    ended a = record {
      model = record { rest = us; pending = []; kept = m.kept; stats = flag_count m.stats; tally = m.tally };
      round = asked_is false a;
      counts = record {
        stats = ap (counting x.found) (expansion-refused x.budget 0 x.cycles (is_below false a)) ∙ ap flag_count was.counts.stats;
        found = was.counts.found;
      };
      kept = refl;
      waited = was.stands.1;
    }

    exceeded : (expansion x.budget).allowed ≡ true → max_expansions ≤ x.budget.expanded → Exceeded
    unfolding admit
    exceeded a h = record { route = w; model = record { rest = us; pending = []; kept = m.kept; stats = add_expanded m.stats; tally = m.tally }; round = asked_is true a; before = h }

  pub round-tells : (a : Opening) (item ws' : List ℕ) → Taking x ws a item ws' → Rounds a item ws'
  unfolding turn popped
  round-tells a item ws' t = subst (λ (y : Opening). Rounds y item ws') (sym t.is) (on t.popped refl)
    where
      on : (p : Option Frontier) → t.popped ≡ p → Rounds (opening_of x p) item ws'
      on None e = record {
        model = opened;
        round =
            ap (turn (setting_of (frame_of x))) (merge-is x.frontier.order m)
            ∙ ap (popped (setting_of (frame_of x)) opened) (ap (λ (u : State Route). u.rest) (sym (merge-is x.frontier.order m)) ∙ stands-empty (held x.frontier.length) x.frontier ws m t.popped item ws' t.pops was.stands e);
        counts = record { stats = was.counts.stats; found = was.counts.found };
        kept = refl;
        waited = was.stands.1;
      }
      on (Some n) e = told (expansion x.budget).allowed (leb max_expansions x.budget.expanded) refl refl
        where
          told : (b d : Bool) → (expansion x.budget).allowed ≡ b → leb max_expansions x.budget.expanded ≡ d
              → Rounds (pick b (pick d (refusing TooManyExpansions) (opening (with_frontier n (with_budget (expansion x.budget).budget x)))) (closing (with_budget (expansion x.budget).budget x))) item ws'
          told b d a h =
              let v = stands-item (held x.frontier.length) x.frontier ws m t.popped item ws' t.pops was.stands n e in
              let k = (pop-frame x.frontier ws t.popped item ws' t.pops n e).0.kept in
              by b d a h v.0 v.1 v.2 v.3 v.4 v.5 k.order k.capacity k.length
            where
              by : (b d : Bool) → (expansion x.budget).allowed ≡ b → leb max_expansions x.budget.expanded ≡ d
                  → (w : Route) (us : List Route) → (merge x.frontier.order m).rest ≡ w ∷ us → held x.frontier.length w ≡ item → Waits n ws' (map (held x.frontier.length) us) [] → greatest_in n ≡ m.tally.waited → n.order ≡ x.frontier.order → n.capacity ≡ x.frontier.capacity → n.length ≡ x.frontier.length
                  → Rounds (pick b (pick d (refusing TooManyExpansions) (opening (with_frontier n (with_budget (expansion x.budget).budget x)))) (closing (with_budget (expansion x.budget).budget x))) item ws'
              by false d a h w us u i v y o c l = ended w us u a
              by true true a h w us u i v y o c l = (refl, exceeded w us u a (leb→le max_expansions x.budget.expanded (subst T (sym h) tt)))
              by true false a h w us u i v y o c l = onward w us u n item ws' o c l t.pops.same_length i v y a (nleb→lt max_expansions x.budget.expanded (subst T (sym (ap not h)) tt))

  -- ---- what a caller draws from the answer

  pub round-over : (a : Opening) (item ws' : List ℕ) (n : Computation) → Taking x ws a item ws' → a ≡ closing n → Ended n
  round-over a item ws' n t e = subst (λ (y : Opening). Rounds y item ws') e (round-tells a item ws' t)

  pub round-expand : (a : Opening) (item ws' : List ℕ) (n : Computation) → Taking x ws a item ws' → a ≡ opening n → Opened item ws' n
  round-expand a item ws' n t e = subst (λ (y : Opening). Rounds y item ws') e (round-tells a item ws' t)

  pub round-many : (a : Opening) (item ws' : List ℕ) (r : PartialPathRefusal) → Taking x ws a item ws' → a ≡ refusing r → (r ≡ TooManyExpansions) × Exceeded
  round-many a item ws' r t e = subst (λ (y : Opening). Rounds y item ws') e (round-tells a item ws' t)
