-- The top of a round: the search is over, or the next path in the order of taking is to be expanded, or it would be one expansion too many.
-- Serves document 01, "Budget and frontier"; 36 of "Turned back".
use Rattle.std.specs.Prelude.{Ok, Err, ℕ, ◌+◌, ◌<◌, ◌≤◌, ◌≡◌, ◌⊎◌, Bool, not, T, leb, length, Option, Some, None}
use Rattle.std.proofs.Math.Path.{refl, sym, ap, subst}
use Rattle.std.proofs.Common.{◌∙◌, inl, inr, arith, leb→le}
use Rattle.std.proofs.Math.Logic.{⊎_elim}
use Rattle.std.proofs.Math.Bool.{true, false}
use mathlib.Core.List.Memᴰ
use mathlib.Core.List.{List, [], ◌∷◌, map, Memᴰ}
use Rattle.std.proofs.Math.Dec.{nleb→lt}
use Rattle.semantics.specs.declared.search.SearchOrder.{SearchOrder}
use Rattle.semantics.specs.declared.search.SearchOrder.TheVariants.{BreadthFirst, DepthFirst}
use Rattle.semantics.specs.declared.search.SearchStats.{SearchStats}
use Rattle.semantics.specs.declared.refusal.SearchRefusal.{SearchRefusal}
use Rattle.semantics.specs.declared.refusal.SearchRefusal.TheVariants as Search
use Rattle.semantics.specs.Lists.{pick}
use Rattle.semantics.specs.Limits.{below, max_expansions, slot_length}
use Rattle.semantics.specs.Graph.{View}
use Rattle.semantics.specs.Path.{Path}
use Rattle.semantics.specs.Enumeration.{State, Turn, over, expand, turn, popped, admit, merge, add_expanded, flag_count}
use Rattle.words.specs.Slots.{padded}
use Rattle.path_frontier.specs.declared.frontier.Frontier.{Frontier}
use Rattle.path_budget.specs.Budget.{expansion}
use Rattle.path_budget.specs.Budget.Laws.{expansion-allowed, expansion-limits, expansion-granted, expansion-refused}
use Rattle.path_frontier.specs.Frontier.{merged, greatest_in, Waits}
use Rattle.path_frontier.specs.Frontier.Laws.{merge-is, pop-frame}
use Rattle.path_frontier.specs.Frontier.Stands.{stands-item, stands-empty}
use Rattle.search_state.specs.declared.search.Finished.{Finished}
use Rattle.search_state.specs.declared.search.Search as S
use Rattle.search_state.specs.declared.search.Round.TheVariants.{Over, Expand}
use Rattle.search_state.specs.States.{with_budget}
use Rattle.search_state.specs.Searches.{Taken, taken_of, over_by, Taking}
use Rattle.search_state.specs.Items.Laws.{encode-longer}
use Rattle.search_state.specs.Progresses.{frame_of}
use Rattle.search_state.specs.Reps.{slot_in, slot_of, Counts, setting_of, Replayed, Rep}

mem-merged : (o : SearchOrder) (xs ys : List Path) (p : Path) → Memᴰ p (merged o xs ys) → Memᴰ p xs ⊎ Memᴰ p ys
mem-merged BreadthFirst xs ys p h = Memᴰ.append_cases xs h
mem-merged DepthFirst xs ys p h = ⊎_elim (λ (a : Memᴰ p ys). inr a) (λ (a : Memᴰ p xs). inl a) (Memᴰ.append_cases ys h)

module _ (g : View) (r : ℕ) (s : S.Search) (ws rs : List ℕ) (m : State Path) (was : Rep g r s ws rs m) where
  abbrev pub round_of : Turn Path
  round_of = turn (setting_of (frame_of s)) (merge s.frontier.order m)

  -- the round opens with a path to be expanded
  pub record Opened (item ws' : List ℕ) (n : S.Search) : Type 0 where
    pub path : Path
    pub model : State Path
    pub round : round_of ≡ expand path model
    pub words : item ≡ slot_of path
    pub good : Replayed g r path
    pub fits : length path.edges < n.frontier.length
    pub frame : frame_of n ≡ frame_of s
    pub rep : Rep g r n ws' rs model
    pub tally : model.tally ≡ m.tally
    pub expanded : n.state.budget.expanded ≡ s.state.budget.expanded + 1
    pub before : s.state.budget.expanded < max_expansions

  -- it ends the search
  pub record Ended (n : Finished) : Type 0 where
    pub model : State Path
    pub round : round_of ≡ over model
    pub counts : Counts n.state rs model
    pub waited : n.waited ≡ model.tally.waited

  -- it would be one expansion too many
  pub record Exceeded : Type 0 where
    pub path : Path
    pub model : State Path
    pub round : round_of ≡ expand path model
    pub before : max_expansions ≤ s.state.budget.expanded

  abbrev Rounds : Taken → List ℕ → List ℕ → Type 0
  Rounds (Ok (Over n)) item ws' = Ended n
  Rounds (Ok (Expand n)) item ws' = Opened item ws' n
  Rounds (Err x) item ws' = (x ≡ Search.TooManyExpansions) × Exceeded

  abbrev opened : State Path
  opened = record { rest = merged s.frontier.order m.rest m.pending; pending = []; kept = m.kept; stats = m.stats; tally = m.tally }

  counted : m.stats.expanded ≡ s.state.budget.expanded
  counted = ap (λ (t : SearchStats). t.expanded) (sym was.counts.stats)

  module _ (w : Path) (us : List Path) (taken : (merge s.frontier.order m).rest ≡ w ∷ us) where
    first : merged s.frontier.order m.rest m.pending ≡ w ∷ us
    first = ap (λ (u : State Path). u.rest) (sym (merge-is s.frontier.order m)) ∙ taken

    asked_is : (b : Bool) → (expansion s.state.budget).allowed ≡ b → round_of ≡ admit b opened w us
    unfolding turn popped
    asked_is b e =
        ap (turn (setting_of (frame_of s))) (merge-is s.frontier.order m)
        ∙ ap (popped (setting_of (frame_of s)) opened) first
        ∙ ap (λ (x : Bool). admit x opened w us) (ap (λ (x : ℕ). below x s.state.budget.max_paths) counted ∙ sym (expansion-allowed s.state.budget) ∙ e)

    is_below : (b : Bool) → (expansion s.state.budget).allowed ≡ b → below s.state.budget.expanded s.state.budget.max_paths ≡ b
    is_below b e = sym (expansion-allowed s.state.budget) ∙ e

    its : Memᴰ w m.rest ⊎ Memᴰ w m.pending
    its = mem-merged s.frontier.order m.rest m.pending w (subst (λ (l : List Path). Memᴰ w l) (sym first) (Memᴰ.head refl))

    good-first : Replayed g r w
    good-first = was.replays w its

    fits-first : length w.edges < s.frontier.length
    fits-first = was.sized.fits w its

    others : (p : Path) → Memᴰ p us → Memᴰ p m.rest ⊎ Memᴰ p m.pending
    others p h = mem-merged s.frontier.order m.rest m.pending p (subst (λ (l : List Path). Memᴰ p l) (sym first) (Memᴰ.tail h))

    onward : (f : Frontier) (item ws' : List ℕ) → f.order ≡ s.frontier.order → f.capacity ≡ s.frontier.capacity → f.length ≡ s.frontier.length → length ws' ≡ length ws → slot_of w ≡ item → Waits f ws' (map (slot_in s.frontier.length) us) [] → greatest_in f ≡ m.tally.waited
        → (expansion s.state.budget).allowed ≡ true → s.state.budget.expanded < max_expansions
        → Opened item ws' (record { frontier = f; state = with_budget (expansion s.state.budget).budget s.state })
    unfolding admit expansion
    onward f item ws' o c l n e v y a h = record {
      path = w;
      model = record { rest = us; pending = []; kept = m.kept; stats = add_expanded m.stats; tally = m.tally };
      round = asked_is true a;
      words = sym e;
      good = good-first;
      fits = let h = fits-first in omega (arith, h, l);
      frame = λ i. record { order = o i; limits = expansion-limits s.state.budget i; waiting = c i; results = s.state.results };
      rep = record {
        sized = record { wider = record { longer = omega (arith, l, was.sized.wider.longer); room = omega (arith, c, n, was.sized.wider.room) }; fits = λ p k. let q = was.sized.fits p (only p k) in omega (arith, q, l) };
        stands = (subst (λ (L : ℕ). Waits f ws' (map (slot_in L) us) []) (sym l) v, y);
        counts = record {
          stats = expansion-granted s.state.budget s.state.rejected s.state.cycles (is_below true a) ∙ ap add_expanded was.counts.stats;
          kept = was.counts.kept;
          fits = was.counts.fits;
          room = was.counts.room;
          words = was.counts.words;
        };
        few = record { complete = was.few.complete; rejected = was.few.rejected; cycles = was.few.cycles };
        replays = λ p k. was.replays p (only p k);
      };
      tally = refl;
      expanded = ap (λ (t : SearchStats). t.expanded) (expansion-granted s.state.budget 0 0 (is_below true a));
      before = h;
    }
      where
        only : (p : Path) → Memᴰ p us ⊎ Memᴰ p [] → Memᴰ p m.rest ⊎ Memᴰ p m.pending
        only p k = ⊎_elim (λ (x : Memᴰ p us). others p x) (λ (x : Memᴰ p []). absurd (Memᴰ.not-nil x)) k

    ended : (expansion s.state.budget).allowed ≡ false → Ended (record { state = with_budget (expansion s.state.budget).budget s.state; waited = greatest_in s.frontier })
    unfolding admit
    ended a = record {
      model = record { rest = us; pending = []; kept = m.kept; stats = flag_count m.stats; tally = m.tally };
      round = asked_is false a;
      counts = record {
        stats = expansion-refused s.state.budget s.state.rejected s.state.cycles (is_below false a) ∙ ap flag_count was.counts.stats;
        kept = was.counts.kept;
        fits = was.counts.fits;
        room = was.counts.room;
        words = was.counts.words;
      };
      waited = was.stands.1;
    }

    exceeded : (expansion s.state.budget).allowed ≡ true → max_expansions ≤ s.state.budget.expanded → Exceeded
    unfolding admit
    exceeded a h = record { path = w; model = record { rest = us; pending = []; kept = m.kept; stats = add_expanded m.stats; tally = m.tally }; round = asked_is true a; before = h }

  pub round-tells : (a : Taken) (item ws' : List ℕ) → Taking s ws a item ws' → Rounds a item ws'
  unfolding turn popped
  round-tells a item ws' x = subst (λ (y : Taken). Rounds y item ws') (sym x.is) (on x.popped refl)
    where
      on : (p : Option Frontier) → x.popped ≡ p → Rounds (taken_of s p) item ws'
      on None e = record {
        model = opened;
        round = ap (turn (setting_of (frame_of s))) (merge-is s.frontier.order m) ∙ ap (popped (setting_of (frame_of s)) opened) (ap (λ (u : State Path). u.rest) (sym (merge-is s.frontier.order m)) ∙ stands-empty (slot_in s.frontier.length) s.frontier ws m x.popped x.pops.words ws' x.pops.pops was.stands e);
        counts = record { stats = was.counts.stats; kept = was.counts.kept; fits = was.counts.fits; room = was.counts.room; words = was.counts.words };
        waited = was.stands.1;
      }
      on (Some f) e = told (expansion s.state.budget).allowed (leb max_expansions s.state.budget.expanded) refl refl
        where
          -- the popped slot with zeros behind
          whole : (w : Path) (us : List Path) → (merge s.frontier.order m).rest ≡ w ∷ us → slot_in s.frontier.length w ≡ x.pops.words → slot_of w ≡ item
          whole w us t i = sym (encode-longer s.frontier.length slot_length w.edges (fits-first w us t) was.sized.wider.longer) ∙ ap (padded slot_length) i ∙ sym x.pops.laid

          told : (b d : Bool) → (expansion s.state.budget).allowed ≡ b → leb max_expansions s.state.budget.expanded ≡ d
              → Rounds (pick b (pick d (Err Search.TooManyExpansions) (Ok (Expand (record { frontier = f; state = with_budget (expansion s.state.budget).budget s.state })))) (Ok (over_by s.frontier (with_budget (expansion s.state.budget).budget s.state)))) item ws'
          told b d a h =
              let v = stands-item (slot_in s.frontier.length) s.frontier ws m x.popped x.pops.words ws' x.pops.pops was.stands f e in
              let k = (pop-frame s.frontier ws x.popped x.pops.words ws' x.pops.pops f e).0.kept in
              by b d a h v.0 v.1 v.2 v.3 v.4 v.5 k.order k.capacity k.length
            where
              by : (b d : Bool) → (expansion s.state.budget).allowed ≡ b → leb max_expansions s.state.budget.expanded ≡ d
                  → (w : Path) (us : List Path) → (merge s.frontier.order m).rest ≡ w ∷ us → slot_in s.frontier.length w ≡ x.pops.words → Waits f ws' (map (slot_in s.frontier.length) us) [] → greatest_in f ≡ m.tally.waited → f.order ≡ s.frontier.order → f.capacity ≡ s.frontier.capacity → f.length ≡ s.frontier.length
                  → Rounds (pick b (pick d (Err Search.TooManyExpansions) (Ok (Expand (record { frontier = f; state = with_budget (expansion s.state.budget).budget s.state })))) (Ok (over_by s.frontier (with_budget (expansion s.state.budget).budget s.state)))) item ws'
              by false d a h w us t i v y o c l = ended w us t a
              by true true a h w us t i v y o c l = (refl, exceeded w us t a (leb→le max_expansions s.state.budget.expanded (subst T (sym h) tt)))
              by true false a h w us t i v y o c l = onward w us t f item ws' o c l x.pops.pops.same_length (whole w us t i) v y a (nleb→lt max_expansions s.state.budget.expanded (subst T (sym (ap not h)) tt))

  -- ---- what a caller draws from the answer

  pub round-over : (a : Taken) (item ws' : List ℕ) (n : Finished) → Taking s ws a item ws' → a ≡ Ok (Over n) → Ended n
  round-over a item ws' n x e = subst (λ (y : Taken). Rounds y item ws') e (round-tells a item ws' x)

  pub round-expand : (a : Taken) (item ws' : List ℕ) (n : S.Search) → Taking s ws a item ws' → a ≡ Ok (Expand n) → Opened item ws' n
  round-expand a item ws' n x e = subst (λ (y : Taken). Rounds y item ws') e (round-tells a item ws' x)

  pub round-many : (a : Taken) (item ws' : List ℕ) (y : SearchRefusal) → Taking s ws a item ws' → a ≡ Err y → (y ≡ Search.TooManyExpansions) × Exceeded
  round-many a item ws' y x e = subst (λ (y : Taken). Rounds y item ws') e (round-tells a item ws' x)
