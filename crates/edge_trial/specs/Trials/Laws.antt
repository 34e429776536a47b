-- The judgement in code is that of the definitions, and so is a trial.
-- Serves document 01, "Answer", and document 02, order 4.
use Rattle.std.specs.Prelude.{ℕ, suc, ◌+◌, ◌<◌, ◌≤◌, ◌≡◌, refl, Bool, List, ltb, length, Err, Ok}
use Rattle.std.proofs.Common.{arith, sym, subst, ◌∙◌, ltb→lt}
use Rattle.std.proofs.Math.Path.{ap}
use Rattle.std.proofs.Math.Bool.{true, false}
use Rattle.std.proofs.Math.Dec.{T}
use Rattle.semantics.specs.declared.graph.Node.{Node}
use Rattle.semantics.specs.Lists.{has}
use Rattle.semantics.specs.Limits.{base, within, max_edges, steps_length, Limit}
use Rattle.semantics.specs.Answer.{ok}
use Rattle.semantics.specs.Graph.{Graph, View, view_of, is_reference}
use Rattle.semantics.specs.Path.{Path, append, is_complete}
use Rattle.semantics.proofs.Theorems.Path.Laws.{append-ok}
use Rattle.semantics.specs.Judgement.{judgement}
use Rattle.semantics.proofs.Theorems.Judgement.Laws.{judgement_of, judgement-append, judged-refused, judged-extends}
use Rattle.semantics.specs.Enumeration.{cut, overlong, reject, stop, go, tested}
use Rattle.semantics.specs.Direct.{extended, judge}
use Rattle.storage.specs.Index.{node_row, edge_row, Loaded}
use Rattle.semantics.specs.declared.replayed.Step.{Step}
use Rattle.stepping.specs.Steps.{Effect}
use Rattle.std.specs.Prelude.{Ok, Err}
use Rattle.stepping.specs.StepWords.{with_step}
use Rattle.stepping.specs.StepWords.Laws.{step_same}
use Rattle.stepping.specs.Judged.{Stepped, judged_of, complete_step}
use Rattle.stepping.specs.Judged.Laws.{complete-is}
use Rattle.path.specs.Replays.Laws.{nodes-are}
use Rattle.path_budget.specs.declared.budget.Budget.{Budget}
use Rattle.path_budget.specs.declared.budget.Admitted.{Admitted}
use Rattle.path_budget.specs.Budget.{lengthening}
use Rattle.path_budget.specs.Budget.Laws.{lengthening-allowed}
use Rattle.search_state.specs.Retraces.Laws.{effect-done, effect-refused}
use Rattle.edge_trial.specs.declared.trial.EdgeTrial.{EdgeTrial}
use Rattle.edge_trial.specs.declared.trial.EdgeTrial.TheVariants.{Cut, Overlong, Rejected, TooLong, Extended}
use Rattle.edge_trial.specs.Trials.{judgement_by, tried_by, trial_by}
use Rattle.semantics.specs.PublicAnswers.{EdgeJudgement}

-- ---- outcomes in code

module _ (nodes : ℕ → Node) {cycle : Bool} (short room : Bool) (x : Effect) where
  pub trial-cut : cycle ≡ true → Cut ≡ trial_by nodes cycle short room x
  trial-cut h = rw h

  pub trial-overlong : cycle ≡ false → short ≡ false → Overlong ≡ trial_by nodes cycle short room x
  trial-overlong h k = rw (h, k)

  pub trial-bound : cycle ≡ false → short ≡ true → room ≡ false → TooLong ≡ trial_by nodes cycle short room x
  trial-bound h k l = rw (h, k, l)

  pub trial-tried : cycle ≡ false → short ≡ true → room ≡ true → tried_by (judgement_by nodes x) ≡ trial_by nodes cycle short room x
  trial-tried h k l = rw (h, k, l)

-- the budget's answer to a length
pub asked-within : {a : Admitted} (n : ℕ) (b : Budget) {t : Bool} → a ≡ lengthening n b → a.allowed ≡ t → within n b.max_length ≡ t
asked-within n b is e = sym (lengthening-allowed n b) ∙ ap (λ (x : Admitted). x.allowed) (sym is) ∙ e

-- ---- against the definition

module _ {R : Type 0} (too_long : R) (lim : Limit) (g : View) (p : Path) (e : ℕ) where
  -- what a trial says of the judgement
  abbrev pub Judged : EdgeTrial → Type 0
  Judged Cut = judge too_long base lim g p e ≡ cut
  Judged Overlong = (judge too_long base lim g p e ≡ overlong) × (within (suc (length p.edges)) lim ≡ false)
  Judged Rejected = judge too_long base lim g p e ≡ reject
  Judged TooLong = judge too_long base lim g p e ≡ stop too_long
  Judged (Extended b) = (q : Path) × (judge too_long base lim g p e ≡ go b q) × (append g p e ≡ ok q) × (ltb (length p.edges) max_edges ≡ true)

module _ {g : Graph} {index : List ℕ} (loaded : Loaded g index) {ws : List ℕ} {k : ℕ} {p : Path} (st : Stepped ws k p) (long : steps_length ≤ length ws) (below : k < max_edges)
    (starts : is_reference ((view_of g).node p.start) ≡ true) (e : ℕ) where
  complete-same : {q : Path} (s : Step) → append (view_of g) p e ≡ ok q → Stepped (with_step ws (k + 1) s) (k + 1) q → complete_step (node_row index) s ≡ is_complete (view_of g) q
  complete-same {q} s a t =
      ap (λ (f : ℕ → Node). complete_step f s) (nodes-are g index loaded)
      ∙ ap (complete_step (view_of g).node) (sym (step_same ws (k + 1) s (omega (arith, long, below))))
      ∙ sym (complete-is (view_of g) (with_step ws (k + 1) s) (k + 1) q t (ap (λ (n : ℕ). is_reference ((view_of g).node n)) (append-ok (view_of g) p q e a).added.start ∙ starts))

  -- THE JUDGEMENT IN CODE: of a path that stands in steps, below the bound, and of every edge number
  pub judgement-is : judgement_by (node_row index) (judged_of (node_row index) ws k e (edge_row index e)) ≡ judgement (view_of g) p e
  judgement-is = on (judged_of (node_row index) ws k e (edge_row index e)) refl ∙ sym (judgement-append (view_of g) p e)
    where
      on : (x : Effect) → x ≡ judged_of (node_row index) ws k e (edge_row index e) → judgement_by (node_row index) x ≡ judgement_of (view_of g) (append (view_of g) p e)
      on (Err z) is = sym (ap (judgement_of (view_of g)) (effect-refused loaded st (omega (arith, long, below)) e is z refl))
      on (Ok s) is =
          let n = effect-done loaded st (omega (arith, long, below)) e is s refl in
          ap Ok (complete-same s n.appended n.stepped) ∙ sym (ap (judgement_of (view_of g)) n.appended)

module _ {R : Type 0} (too_long : R) (lim : Limit) {g : Graph} {index : List ℕ} (loaded : Loaded g index) {ws : List ℕ} {p : Path} (st : Stepped ws (length p.edges) p) (long : steps_length ≤ length ws)
    (starts : is_reference ((view_of g).node p.start) ≡ true) (e : ℕ) where
  abbrev effect : Effect
  effect = judged_of (node_row index) ws (length p.edges) e (edge_row index e)

  judged : has e p.edges ≡ false → within (suc (length p.edges)) lim ≡ true → ltb (length p.edges) max_edges ≡ true → (j : EdgeJudgement) → judgement (view_of g) p e ≡ j → Judged too_long lim (view_of g) p e (tried_by j)
  unfolding judge tested extended
  judged h k l (Err z) is = rw (h, k, l, judged-refused (view_of g) p e z is)
  judged h k l (Ok b) is =
      let x = judged-extends (view_of g) p e b is in
      (x.path, rw (h, k, l, x.appended) (ap (λ (c : Bool). go c x.path) x.is-complete), x.appended, l)

  pub trial-tells : {t : EdgeTrial} → t ≡ trial_by (node_row index) (has e p.edges) (within (length p.edges + 1) lim) (ltb (length p.edges) max_edges) effect → Judged too_long lim (view_of g) p e t
  trial-tells is = subst (Judged too_long lim (view_of g) p e) (sym is) (on (has e p.edges) (within (length p.edges + 1) lim) (ltb (length p.edges) max_edges) refl refl refl)
    where
      n : length p.edges + 1 ≡ suc (length p.edges)
      n = omega arith

      on : (a b c : Bool) → has e p.edges ≡ a → within (length p.edges + 1) lim ≡ b → ltb (length p.edges) max_edges ≡ c → Judged too_long lim (view_of g) p e (trial_by (node_row index) a b c effect)
      on true b c x y z = unfold judge tested in rw x
      on false false c x y z = (unfold judge tested in rw (x, ap (λ (m : ℕ). within m lim) (sym n) ∙ y), ap (λ (m : ℕ). within m lim) (sym n) ∙ y)
      on false true false x y z = unfold judge tested in rw (x, ap (λ (m : ℕ). within m lim) (sym n) ∙ y, z)
      on false true true x y z =
          judged x (ap (λ (m : ℕ). within m lim) (sym n) ∙ y) z (judgement_by (node_row index) effect) (sym (judgement-is loaded st long (ltb→lt (length p.edges) max_edges (subst T (sym z) tt)) starts e))
