-- A trial in code is the judgement of the definitions: the scan for a shared edge, the edges appended in a loop, and each outcome.
-- Serves document 01, "Answer"; 12 and 30 of "Turned back".
use Prim.Native.Nat.{ℕ, suc, ◌+◌, ◌*◌, ◌<◌, ◌≤◌}
use native.Mathlib.Omega.{arith}
use Rattle.std.proofs.Common.{add-one, add-zero, ◌∙◌, drop_of_length-le, drop-cons}
use Rattle.std.specs.Prelude.{◌≡◌, refl, Bool, false, ltb, leb, drop, get_or, Result, Ok, Err}
use Rattle.std.proofs.Math.Path.{sym, ap, subst}
use Rattle.std.proofs.Math.Bool.{true}
use mathlib.Core.List.{List, [], ◌∷◌}
use borrow.Author.Tests.{lt-ltb, le-leb, lt-leb}
use Rattle.std.proofs.Math.ListN.{length}
use Rattle.semantics.specs.ReplayedPaths.{step_at}
use Rattle.semantics.specs.declared.graph.Node.{Node}
use Rattle.semantics.specs.declared.refusal.PathRefusal.{PathRefusal}
use Rattle.semantics.specs.declared.refusal.PathRefusal.TheVariants as P
use Rattle.semantics.specs.declared.refusal.ReplayRefusal.TheVariants as Replay
use Rattle.semantics.specs.declared.refusal.SearchRefusal.{SearchRefusal}
use Rattle.semantics.specs.declared.refusal.SearchRefusal.TheVariants as Search
use Rattle.semantics.specs.Lists.{has, shares}
use Rattle.semantics.specs.Limits.{base, within, max_edges, step_length, Limit}
use Rattle.semantics.specs.Answer.{ok, refuse}
use Rattle.semantics.specs.Graph.{View, view_of, is_reference}
use Rattle.semantics.specs.Path.{Path, append, append_under, append_all, is_complete}
use Rattle.semantics.proofs.Theorems.Path.Laws.{append-ok, append_under-ok, append_under-is}
use Rattle.semantics.specs.Answer.Laws.{ok-inj, and_then-ok}
use Rattle.semantics.specs.Enumeration.{go, tested}
use Rattle.semantics.specs.Stitching.{ended, extended, joined, judge_slot}
use Rattle.storage.specs.Index.{node_row, edge_row}
use Rattle.semantics.specs.declared.replayed.Step.{Step}
use Rattle.stepping.specs.Steps.{Effect}
use Rattle.std.specs.Prelude.{Ok, Err}
use Rattle.stepping.specs.StepWords.{with_step}
use Rattle.stepping.specs.Judged.{Ready, Stepped, judged_of, words_after, complete_step}
use Rattle.stepping.specs.Judged.Laws.{complete-is}
use Rattle.path.specs.Replays.Laws.{nodes-are}
use Rattle.path_budget.specs.declared.budget.Budget.{Budget}
use Rattle.path_budget.specs.declared.budget.Admitted.{Admitted}
use Rattle.path_budget.specs.Budget.{lengthening}
use Rattle.path_budget.specs.Budget.Laws.{lengthening-allowed}
use Rattle.search_state.specs.Retraces.Laws.{stepped_kept, ready_of, effect-done, effect-refused}
use Rattle.stitching_trial.specs.declared.trial.StitchTrial.{StitchTrial}
use Rattle.stitching_trial.specs.declared.trial.StitchTrial.TheVariants.{Cut, Overlong, Extended}
use Rattle.stitching_trial.specs.Trials.{ended_by, KeptTo, Appends, AppendedBy, AppendsTo, Judged, Judging, JudgedAs}

-- ---- the scan for a shared edge

module _ (es l : List ℕ) (i : ℕ) where
  pub shares-hit : i < length es → has (get_or es i 0) l ≡ true → shares (drop i es) l ≡ true
  unfolding shares
  shares-hit h e = rw (drop-cons es i 0 h, e)

  pub shares-miss : i < length es → has (get_or es i 0) l ≡ false → shares (drop i es) l ≡ shares (drop (i + 1) es) l
  unfolding shares
  shares-miss h e = rw (drop-cons es i 0 h, e, add-one)

  pub shares-end : length es ≤ i → shares (drop i es) l ≡ false
  unfolding shares
  shares-end h = rw (drop_of_length-le es h)

-- ---- edges appended one after another

module _ (g : View) (p : Path) (e : ℕ) (es : List ℕ) (room : ltb (length p.edges) max_edges ≡ true) where
  all_more : (q : Path) → append g p e ≡ ok q → append_all base g p (e ∷ es) ≡ append_all base g q es
  unfolding append_all
  all_more q a = rw (append_under-is base g p e room, a)

  all-refused : (z : PathRefusal) → append g p e ≡ refuse z → append_all base g p (e ∷ es) ≡ refuse (Replay.Path z)
  unfolding append_all
  all-refused z a = rw (append_under-is base g p e room, a)

module _ {index ws₀ : List ℕ} {k : ℕ} {edges : List ℕ} (v : Appends index ws₀ k edges) where
  -- at the head of the loop: the others are still to be appended
  pub record Mid (ws : List ℕ) (i : ℕ) : Type 0 where
    pub path : Path
    pub stepped : Stepped ws (k + i) path
    pub kept : KeptTo k ws₀ ws
    pub same : append_all base (view_of v.graph) path (drop i edges) ≡ append_all base (view_of v.graph) v.path edges

  pub mid_start : Mid ws₀ 0
  mid_start = record { path = v.path; stepped = subst (λ (n : ℕ). Stepped ws₀ n v.path) (sym (add-zero k)) v.stepped; kept = λ j p l s. s; same = refl }

  module _ {ws : List ℕ} (long : length ws ≡ length ws₀) {i : ℕ} (mid : Mid ws i) where
    pub mid-room : i < length edges → step_length * (k + i + 1) + step_length ≤ length ws
    mid-room h = omega (arith, h, v.few, v.long, long)

    pub mid-ready : i < length edges → Ready ws (k + i)
    mid-ready h = ready_of mid.stepped (omega (arith, h, v.few)) (omega (arith, h, v.few, v.long, long))

    module _ (h : i < length edges) {x : Effect} (is : x ≡ judged_of (node_row index) ws (k + i) (get_or edges i 0) (edge_row index (get_or edges i 0))) where
      short : ltb (length mid.path.edges) max_edges ≡ true
      short = lt-ltb (length mid.path.edges) max_edges (omega (arith, mid.stepped.count, h, v.few))

      split : drop i edges ≡ get_or edges i 0 ∷ drop (i + 1) edges
      split = drop-cons edges i 0 h ∙ ap (λ (n : ℕ). get_or edges i 0 ∷ drop n edges) (let z : suc i ≡ i + 1 = omega arith in z)

      pub mid-refused : (z : PathRefusal) → x ≡ Err z → {ws' : List ℕ} → ws' ≡ words_after ws (k + i + 1) x → AppendsTo index ws₀ k edges v x ws'
      unfolding words_after
      mid-refused z d {ws'} w =
          let a = effect-refused v.loaded mid.stepped (mid-room h) (get_or edges i 0) is z d in
          let y : ws' ≡ ws = w ∙ ap (words_after ws (k + i + 1)) d in
          let r : append_all base (view_of v.graph) v.path edges ≡ refuse (Replay.Path z) =
          sym mid.same ∙ ap (append_all base (view_of v.graph) mid.path) split ∙ all-refused (view_of v.graph) mid.path (get_or edges i 0) (drop (i + 1) edges) short z a in
          record { appended = subst (λ (t : Effect). AppendedBy index ws₀ k edges v t ws') (sym d) r; kept = subst (λ (l : List ℕ). KeptTo k ws₀ l) (sym y) mid.kept }

      pub mid-again : (s : Step) → x ≡ Ok s → {ws' : List ℕ} → ws' ≡ words_after ws (k + i + 1) x → Mid ws' (i + 1)
      unfolding words_after
      mid-again s d {ws'} w =
          let n = effect-done v.loaded mid.stepped (mid-room h) (get_or edges i 0) is s d in
          let y : ws' ≡ with_step ws (k + i + 1) s = w ∙ ap (words_after ws (k + i + 1)) d in
          let c : k + i + 1 ≡ k + (i + 1) = omega arith in
          record {
            path = n.path;
            stepped = subst (λ (m : ℕ). Stepped ws' m n.path) c (subst (λ (l : List ℕ). Stepped l (k + i + 1) n.path) (sym y) n.stepped);
            kept = λ j p l t. subst (λ (z : List ℕ). Stepped z j p) (sym y) (stepped_kept (k + i + 1) s (omega (arith, l)) (mid.kept j p l t));
            same = sym (sym mid.same ∙ ap (append_all base (view_of v.graph) mid.path) split ∙ all_more (view_of v.graph) mid.path (get_or edges i 0) (drop (i + 1) edges) short n.path n.appended);
          }

    pub mid-end : i ≤ length edges → length edges ≤ i → {s : Step} → s ≡ step_at ws (k + length edges) → AppendsTo index ws₀ k edges v (Ok s) ws
    unfolding append_all
    mid-end a b e =
        let n : i ≡ length edges = omega (arith, a, b) in
        record {
          appended = (mid.path, sym mid.same ∙ ap (append_all base (view_of v.graph) mid.path) (drop_of_length-le edges b), subst (λ (m : ℕ). Stepped ws (k + m) mid.path) n mid.stepped, e);
          kept = mid.kept;
        }

-- ---- what the answer tells

done_refused : (s : Step) (z : PathRefusal) → ◌≡◌ {A = Effect} (Ok s) (Err z) → ⊥
done_refused s z e = let y : ◌≡◌ {A = ℕ} 0 1 = cc in omega arith

appended-done : {index ws : List ℕ} {k : ℕ} {edges : List ℕ} (v : Appends index ws k edges) {x : Effect} (ws' : List ℕ) (s : Step) → AppendedBy index ws k edges v x ws' → x ≡ Ok s
    → (q : Path) × (append_all base (view_of v.graph) v.path edges ≡ ok q) × Stepped ws' (k + length edges) q × (s ≡ step_at ws' (k + length edges))
appended-done {index} {ws} {k} {edges} v ws' s h e = subst (λ (y : Effect). AppendedBy index ws k edges v y ws') e h

appended-refused : {index ws : List ℕ} {k : ℕ} {edges : List ℕ} (v : Appends index ws k edges) {x : Effect} (ws' : List ℕ) (z : PathRefusal) → AppendedBy index ws k edges v x ws' → x ≡ Err z
    → append_all base (view_of v.graph) v.path edges ≡ refuse (Replay.Path z)
appended-refused {index} {ws} {k} {edges} v ws' z h e = subst (λ (y : Effect). AppendedBy index ws k edges v y ws') e h

-- the budget's answer to a length
pub asked-within : {a : Admitted} (n : ℕ) (b : Budget) {t : Bool} → a ≡ lengthening n b → a.allowed ≡ t → within n b.max_length ≡ t
asked-within n b is e = sym (lengthening-allowed n b) ∙ ap (λ (x : Admitted). x.allowed) (sym is) ∙ e

all_start : (g : View) (es : List ℕ) (p q : Path) → append_all base g p es ≡ ok q → q.start ≡ p.start
unfolding append_all
all_start g [] p q h = ap (λ (x : Path). x.start) (sym (ok-inj p q h))
all_start g (e ∷ es) p q h =
    let a = and_then-ok (append_under base g p e) (λ y. append_all base g y es) q h in
    all_start g es a.0 q a.2 ∙ (append-ok g p a.0 e (append_under-ok base g p a.0 e a.1).1).added.start

-- ---- against the definition

module _ (lim : Limit) (g : View) (p : Path) (es : List ℕ) where
  -- 12 stops, every other refusal of the path rules is a rejection
  ended-judged : (z : PathRefusal) → judge_slot base lim g p es ≡ ended (Replay.Path z) → Judged lim g p es (ended_by z)
  unfolding ended ended_by
  ended-judged (P.UnknownNode n) e = e
  ended-judged (P.NotReference n) e = e
  ended-judged (P.UnknownEdge n) e = e
  ended-judged (P.IncorrectSource x y) e = e
  ended-judged (P.EmptySymbolStack n) e = e
  ended-judged (P.IncorrectPoppedSymbol n) e = e
  ended-judged (P.UnexpectedAttachedScopes n) e = e
  ended-judged (P.MissingAttachedScopes n) e = e
  ended-judged (P.EmptyScopeStack n) e = e
  ended-judged (P.UnknownAttachedScope n) e = e

module _ {index ws path edges : List ℕ} (v : Judging index ws path edges) (lim : Limit) where
  abbrev cycle : Bool
  cycle = shares edges path

  abbrev g : View
  g = view_of v.graph

  shared : {b : Bool} → cycle ≡ b → shares edges v.on.edges ≡ b
  shared e = ap (shares edges) (sym v.are) ∙ e

  counted : length v.on.edges ≡ length path
  counted = ap length (sym v.are)

  measured : {b : Bool} → within (length path + length edges) lim ≡ b → within (length v.on.edges + length edges) lim ≡ b
  measured e = ap (λ (n : ℕ). within (n + length edges) lim) counted ∙ e

  same-words : KeptTo (length path) ws ws
  same-words j p l s = s

  pub judge-cut : cycle ≡ true → JudgedAs index ws path edges v lim (Ok Cut) ws
  unfolding judge_slot joined tested
  judge-cut c = record { says = rw (shared c); kept = same-words }

  module _ (c : cycle ≡ false) where
    pub judge-overlong : within (length path + length edges) lim ≡ false → JudgedAs index ws path edges v lim (Ok Overlong) ws
    unfolding judge_slot joined tested
    judge-overlong w = record { says = (rw (shared c, measured w), measured w); kept = same-words }

    module _ (w : within (length path + length edges) lim ≡ true) where
      pub judge-bound : max_edges < length path + length edges → JudgedAs index ws path edges v lim (Err Search.TooLong) ws
      unfolding judge_slot joined tested
      judge-bound h = record { says = rw (shared c, measured w, lt-leb (length v.on.edges + length edges) max_edges (let n = counted in omega (arith, h, n))); kept = same-words }

      module _ (h : length path + length edges ≤ max_edges) where
        pub judge-appends : Appends index ws (length path) edges
        judge-appends = record { graph = v.graph; loaded = v.loaded; path = v.on; stepped = v.stepped; few = h; long = v.long }

        roomy : leb (length v.on.edges + length edges) max_edges ≡ true
        roomy = le-leb (length v.on.edges + length edges) max_edges (let n = counted in omega (arith, h, n))

        module _ {x : Effect} {ws' : List ℕ} (t : AppendsTo index ws (length path) edges judge-appends x ws') where
          pub judge-refused : (z : PathRefusal) → x ≡ Err z → {r : Result StitchTrial SearchRefusal} → r ≡ ended_by z → JudgedAs index ws path edges v lim r ws'
          unfolding judge_slot joined tested extended judge-appends
          judge-refused z e q =
              let a = appended-refused judge-appends ws' z t.appended e in
              let j : judge_slot base lim g v.on edges ≡ ended (Replay.Path z) = rw (shared c, measured w, roomy, a) in
              record { says = subst (λ (y : Result StitchTrial SearchRefusal). Judged lim g v.on edges y) (sym q) (ended-judged lim g v.on edges z j); kept = t.kept }

          pub judge-extended : (s : Step) → x ≡ Ok s → {b : Bool} → b ≡ complete_step (node_row index) s → JudgedAs index ws path edges v lim (Ok (Extended b)) ws'
          unfolding judge_slot joined tested extended judge-appends
          judge-extended s e {b} q =
              let a = appended-done judge-appends ws' s t.appended e in
              let r : is_reference (g.node a.0.start) ≡ true = ap (λ (n : ℕ). is_reference (g.node n)) (all_start g edges v.on a.0 a.1) ∙ v.starts in
              let k : b ≡ is_complete g a.0 =
              q ∙ ap (λ (f : ℕ → Node). complete_step f s) (nodes-are v.graph index v.loaded) ∙ ap (complete_step g.node) a.3 ∙ sym (complete-is g ws' (length path + length edges) a.0 a.2 r) in
              let j : judge_slot base lim g v.on edges ≡ go (is_complete g a.0) a.0 = rw (shared c, measured w, roomy, a.1) in
              record { says = (a.0, j ∙ ap (λ (y : Bool). go y a.0) (sym k), a.1, let n = counted in omega (arith, h, n)); kept = t.kept }
