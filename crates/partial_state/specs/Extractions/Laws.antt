-- Outcomes of the operations on a computation: what is handed on in code, put into its frame, is the whole computation after the operation.
-- Serves document 01, "Partial paths" and "Budget and frontier".
use Rattle.std.specs.Prelude.{ℕ, ◌+◌, ◌<◌, ◌≤◌, ◌^◌, ◌≡◌, Bool, List, Option, Some, None}
use Rattle.std.proofs.Math.Path.{refl}
use Rattle.std.proofs.Common.{sym, ap, subst, ◌∙◌, le-leb}
use Rattle.std.proofs.Math.Bool.{true, false}
use Rattle.std.proofs.lemmas.Bool.{lt-leb}
use Rattle.semantics.specs.declared.refusal.PartialPathRefusal.TheVariants.{NoWaitingSlot, TooManyExpansions}
use Rattle.semantics.specs.Limits.{within, below, max_expansions}
use Rattle.path_budget.specs.declared.budget.Budget.{Budget}
use Rattle.path_budget.specs.declared.budget.Admitted.{Admitted}
use Rattle.path_frontier.specs.declared.frontier.Frontier.{Frontier}
use Rattle.path_budget.specs.Budget.{answer_by, one_expanded, refused_count, refused_length, expansion, lengthening}
use Rattle.words.specs.Slots.{IsSlot}
use Rattle.path_frontier.specs.Frontier.{Framed, Pushes, Pops, Wider, Widens}
use Rattle.path_frontier.specs.Frontier.Laws.{push-frame, pop-frame}
use Rattle.partial_state.specs.declared.extraction.Config.{Config}
use Rattle.partial_state.specs.declared.extraction.ExtractionFrame.{ExtractionFrame}
use Rattle.partial_state.specs.declared.extraction.Extraction.{Extraction}
use Rattle.partial_state.specs.Extractions.{Computation, goes, stops, closing, opening, refusing, frame_with, nothing_yet, at, new_computation, counted_by, placed_by, with_budget, with_frontier, course_of, opening_of, Extends, Taking, slotted_by, Grows}

module _ (fr : ExtractionFrame) (p : Extraction) where
  -- ---- what is left behind by a frontier, and by a budget
  placed-is : (n : Frontier) → n.order ≡ fr.order → n.length ≡ fr.slot → n.capacity ≡ fr.waiting → at fr (placed_by n p) ≡ with_frontier n (at fr p)
  placed-is n o l c = λ i. record { frontier = record { order = sym o i; length = sym l i; first = n.first; count = n.count; pending = n.pending; capacity = sym c i; most = n.most }; budget = (at fr p).budget; cycles = p.cycles; found = p.found }

  expanded-is : at fr (counted_by (expansion (at fr p).budget).budget p) ≡ with_budget (expansion (at fr p).budget).budget (at fr p)
  unfolding expansion
  expanded-is = on (below p.expanded fr.expansions)
    where
      on : (t : Bool) → at fr (counted_by (answer_by t (one_expanded (at fr p).budget) (refused_count (at fr p).budget)).budget p) ≡ with_budget (answer_by t (one_expanded (at fr p).budget) (refused_count (at fr p).budget)).budget (at fr p)
      on true = refl
      on false = refl

  lengthened-is : (n : ℕ) → at fr (counted_by (lengthening n (at fr p).budget).budget p) ≡ with_budget (lengthening n (at fr p).budget).budget (at fr p)
  unfolding lengthening
  lengthened-is n = on (within n fr.length)
    where
      on : (t : Bool) → at fr (counted_by (answer_by t (at fr p).budget (refused_length (at fr p).budget)).budget p) ≡ with_budget (answer_by t (at fr p).budget (refused_length (at fr p).budget)).budget (at fr p)
      on true = refl
      on false = refl

  -- a question for the length, put to the budget as it stands, and what it leaves
  module _ (n : ℕ) {b : Budget} (same : b ≡ (at fr p).budget) {d : Admitted} (asked : d ≡ lengthening n b) where
    pub length-asked : d ≡ lengthening n (at fr p).budget
    length-asked = asked ∙ ap (lengthening n) same

    pub length-left : {q : Extraction} → q ≡ counted_by d.budget p → at fr q ≡ with_budget d.budget (at fr p)
    length-left made = ap (at fr) made ∙ subst (λ (y : Admitted). at fr (counted_by y.budget p) ≡ with_budget y.budget (at fr p)) (sym length-asked) (lengthened-is n)

  -- ---- what the frontier and the budget are asked with
  pub frontier-given : {f : Frontier} → f ≡ (at fr p).frontier → (ws item : List ℕ) → Framed (at fr p).frontier ws × IsSlot fr.slot item → Framed f ws × IsSlot f.length item
  frontier-given is ws item h = subst (λ (y : Frontier). Framed y ws × IsSlot y.length item) (sym is) h

  pub expansion-given : {b : Budget} → b ≡ (at fr p).budget → p.expanded + 1 < 2 ^ 64 → b.expanded + 1 < 2 ^ 64
  expansion-given is h = subst (λ (y : Budget). y.expanded + 1 < 2 ^ 64) (sym is) h

  -- ---- a push
  module _ {f : Frontier} (is : f ≡ (at fr p).frontier) {ws item : List ℕ} {a : Option Frontier} {ws' : List ℕ} (h : Pushes f ws item a ws') where
    pushes : Pushes (at fr p).frontier ws item a ws'
    pushes = subst (λ (y : Frontier). Pushes y ws item a ws') is h

    pub push_goes : (n : Frontier) → a ≡ Some n → {q : Extraction} → q ≡ placed_by n p → Extends (at fr p) ws item (goes (at fr q)) ws'
    push_goes n e made =
        let k = (push-frame (at fr p).frontier ws item a ws' pushes n e).1 in
        let w : at fr (placed_by n p) ≡ with_frontier n (at fr p) = placed-is n (ap (λ (y : Frontier). y.order) k) (ap (λ (y : Frontier). y.length) k) (ap (λ (y : Frontier). y.capacity) k) in
        record { pushed = a; pushes = pushes; is = ap (λ (y : Computation). goes y) (ap (at fr) made ∙ w) ∙ sym (ap (course_of (at fr p)) e) }

    pub push-stops : a ≡ None → Extends (at fr p) ws item (stops NoWaitingSlot) ws'
    push-stops e = record { pushed = a; pushes = pushes; is = sym (ap (course_of (at fr p)) e) }

  -- ---- the top of a round
  module _ {f : Frontier} (is : f ≡ (at fr p).frontier) {ws : List ℕ} {a : Option Frontier} {item ws' : List ℕ} (h : Pops f ws a item ws') where
    pops : Pops (at fr p).frontier ws a item ws'
    pops = subst (λ (y : Frontier). Pops y ws a item ws') is h

    pub take-empty : a ≡ None → Taking (at fr p) ws (closing (at fr p)) item ws'
    take-empty e = record { popped = a; pops = pops; is = sym (ap (opening_of (at fr p)) e) }

    module _ (n : Frontier) (e : a ≡ Some n) {b : Budget} (same : b ≡ (at fr p).budget) {d : Admitted} (asked : d ≡ expansion b) {q : Extraction} (made : q ≡ counted_by d.budget p) where
      admitted : d ≡ expansion (at fr p).budget
      admitted = asked ∙ ap expansion same

      answers : {t : Bool} → d.allowed ≡ t → (expansion (at fr p).budget).allowed ≡ t
      answers k = ap (λ (y : Admitted). y.allowed) (sym admitted) ∙ k

      after_is : at fr q ≡ with_budget (expansion (at fr p).budget).budget (at fr p)
      after_is = ap (at fr) (made ∙ ap (λ (y : Admitted). counted_by y.budget p) admitted) ∙ expanded-is

      pub take-many : d.allowed ≡ true → max_expansions ≤ p.expanded → Taking (at fr p) ws (refusing TooManyExpansions) item ws'
      take-many k m = record { popped = a; pops = pops; is = rw (e, answers k, le-leb max_expansions p.expanded m) }

      pub take-over : d.allowed ≡ false → Taking (at fr p) ws (closing (at fr q)) item ws'
      take-over k = record { popped = a; pops = pops; is = rw (e, answers k) (ap (λ (y : Computation). closing y) after_is) }

module _ (fr : ExtractionFrame) (p : Extraction) {f : Frontier} (is : f ≡ (at fr p).frontier) {ws : List ℕ} {a : Option Frontier} {item ws' : List ℕ} (h : Pops f ws a item ws') (n : Frontier) (e : a ≡ Some n) {b : Budget} (same : b ≡ (at fr p).budget) {d : Admitted} (asked : d ≡ expansion b) {q : Extraction}
    (made : q ≡ counted_by d.budget p) where
  pub take-expand : d.allowed ≡ true → p.expanded < max_expansions → {r : Extraction} → r ≡ placed_by n q → Taking (at fr p) ws (opening (at fr r)) item ws'
  take-expand k m {r} put =
      let g = (pop-frame (at fr p).frontier ws a item ws' (pops fr p is h) n e).0.kept in
      let w : at fr (placed_by n q) ≡ with_frontier n (at fr q) = placed-is fr q n g.order g.length g.capacity in
      let u : at fr r ≡ with_frontier n (with_budget (expansion (at fr p).budget).budget (at fr p)) = ap (at fr) put ∙ w ∙ ap (with_frontier n) (after_is fr p is h n e same asked made) in
      record { popped = a; pops = pops fr p is h; is = rw (e, answers fr p is h n e same asked made k, lt-leb max_expansions p.expanded m) (ap (λ (y : Computation). opening y) u) }

-- ---- longer slots
module _ (fr : ExtractionFrame) (p : Extraction) {f : Frontier} (is : f ≡ (at fr p).frontier) {ws : List ℕ} {L : ℕ} where
  pub widen-given : Wider (at fr p).frontier ws L → Framed (at fr p).frontier ws → Framed f ws × Wider f ws L
  widen-given w ok = subst (λ (y : Frontier). Framed y ws × Wider y ws L) (sym is) (ok, w)

  pub widened-grows : {n : Frontier} {ws' : List ℕ} → Widens f ws L n ws' → {r : ExtractionFrame} → r ≡ slotted_by L fr → Grows (at fr p) ws L (at r p) ws'
  widened-grows {n} {ws'} w e =
      let v : Widens (at fr p).frontier ws L n ws' = subst (λ (y : Frontier). Widens y ws L n ws') is w in
      record { frontier = n; widens = v; is = ap (λ (y : ExtractionFrame). at y p) e ∙ sym (ap (λ (y : Frontier). with_frontier y (at fr p)) v.is) }

-- ---- the beginning
pub new_is : (c : Config) (waiting : ℕ) {fr : ExtractionFrame} {p : Extraction} → fr ≡ frame_with c waiting → p ≡ nothing_yet → at fr p ≡ new_computation c waiting
new_is c waiting {p} e q = ap (λ (y : ExtractionFrame). at y p) e ∙ ap (at (frame_with c waiting)) q
