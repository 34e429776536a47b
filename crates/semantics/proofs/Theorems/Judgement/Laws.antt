-- The judgement of an edge says what `append` says, for every view, every path and every edge number.
-- Document 02, order 4.
use Rattle.std.specs.Prelude.{ℕ, ◌≡◌, Bool, eqb, ℤ, Err, Ok}
use Rattle.std.proofs.Math.Path.{refl, ap}
use Rattle.std.proofs.Common.{sym, ◌∙◌, true≢false}
use Rattle.std.proofs.Math.Bool.{true, false}
use Rattle.std.proofs.lemmas.Bool.{false≢true}
use mathlib.Core.List.{List, [], ◌∷◌, ◌++◌}
use Rattle.semantics.specs.declared.graph.Node.{Node}
use Rattle.semantics.specs.declared.graph.Node.TheVariants as N
use Rattle.semantics.specs.declared.graph.Edge.{Edge}
use Rattle.semantics.specs.declared.graph.Edge.TheVariants as E
use Rattle.semantics.specs.declared.refusal.PathRefusal.{PathRefusal}
use Rattle.semantics.specs.declared.refusal.PathRefusal.TheVariants.{UnknownAttachedScope}
use Rattle.semantics.specs.Lists.{and, pick}
use Rattle.semantics.specs.Answer.{Answer, ok, refuse, and_then}
use Rattle.semantics.specs.Graph.{node_id, View, is_reference, is_definition, is_exported}
use Rattle.semantics.specs.Path.{Stacks, along, Path, apply, jump_to, jump_top, land, extend, append_from, append_edge, append, is_empty, is_complete}
use Rattle.semantics.specs.Judgement.{complete_at, judge_jump, judge_landing, judge_applied, judge_from, judge_edge, judgement}
use Rattle.semantics.specs.PublicAnswers.{EdgeJudgement}

-- what `append` says, with the extension built and then asked whether it is complete
abbrev pub judgement_of : View → Answer PathRefusal Path → EdgeJudgement
judgement_of g (ok q) = Ok (is_complete g q)
judgement_of g (refuse r) = Err r

-- an exported scope is no definition
exported-none : (n : Node) → is_exported n ≡ true → is_definition n ≡ false
exported-none N.Removed h = refl
exported-none N.Root h = refl
exported-none N.JumpToScope h = refl
exported-none (N.Scope f x) h = refl
exported-none (N.Push f s r) h = refl
exported-none (N.Pop f s d) h = absurd (false≢true h)
exported-none (N.PushScoped f s a r) h = refl
exported-none (N.PopScoped f s d) h = absurd (false≢true h)
exported-none (N.DropScopes f) h = refl

and-false : (b : Bool) → and b false ≡ false
and-false true = refl
and-false false = refl

module _ (g : View) (t : ℕ) (x : Path) (at : x.end ≡ t) where
  jump-same : (l : List ℕ) → judge_jump g t l ≡ judgement_of g (jump_top g t l x)
  unfolding judge_jump jump_top jump_to is_complete
  jump-same [] = refl
  jump-same (s ∷ l) = on (is_exported (g.node s)) refl
    where
      on : (b : Bool) → is_exported (g.node s) ≡ b → pick b (Ok false) (Err (UnknownAttachedScope (node_id s))) ≡ judgement_of g (jump_to b s l x)
      on true h = unfold jump_to in unfold is_complete in ap Ok (sym (ap (λ d. and (is_reference (g.node x.start)) (and d (and (is_empty x.stacks.symbols) (is_empty l)))) (exported-none (g.node s) h) ∙ and-false (is_reference (g.node x.start))))
      on false h = unfold jump_to in refl

  stays : Ok (complete_at g x.start t x.stacks) ≡ judgement_of g (ok x)
  unfolding complete_at is_complete
  stays = ap (λ n. Ok (and (is_reference (g.node x.start)) (and (is_definition (g.node n)) (and (is_empty x.stacks.symbols) (is_empty x.stacks.scopes))))) (sym at)

  land-same : (n : Node) → judge_landing g x.start t n x.stacks ≡ judgement_of g (land g t n x)
  unfolding judge_landing land
  land-same N.Removed = stays
  land-same N.Root = stays
  land-same N.JumpToScope = jump-same x.stacks.scopes
  land-same (N.Scope f y) = stays
  land-same (N.Push f s r) = stays
  land-same (N.Pop f s d) = stays
  land-same (N.PushScoped f s a r) = stays
  land-same (N.PopScoped f s d) = stays
  land-same (N.DropScopes f) = stays

-- THE THEOREM: the refusal that append gives, or none, and then whether the extension is complete
pub judgement-append : (g : View) (p : Path) (e : ℕ) → judgement g p e ≡ judgement_of g (append g p e)
unfolding judgement append
judgement-append g p e = by-edge (g.edge e)
  where
    applied : (t : ℕ) (pr : ℤ) (a : Answer PathRefusal Stacks) → judge_applied g p.start t (g.node t) a
        ≡ judgement_of g (and_then a (λ st. land g t (g.node t) (record { start = p.start; end = t; edges = p.edges ++ (e ∷ []); steps = p.steps ++ (along e p.end pr ∷ []); stacks = st })))
    applied t pr (ok st) = unfold judge_applied in land-same g t (record { start = p.start; end = t; edges = p.edges ++ (e ∷ []); steps = p.steps ++ (along e p.end pr ∷ []); stacks = st }) refl (g.node t)
    applied t pr (refuse r) = unfold judge_applied in refl

    from : (b : Bool) (s t : ℕ) (pr : ℤ) → judge_from b g p s t ≡ judgement_of g (append_from b g p e s t pr)
    from true s t pr = unfold judge_from in unfold append_from in unfold extend in applied t pr (apply g t (g.node t) p.stacks)
    from false s t pr = unfold judge_from in unfold append_from in refl

    by-edge : (x : Edge) → judge_edge g p e x ≡ judgement_of g (append_edge g p e x)
    by-edge E.Removed = unfold judge_edge in unfold append_edge in refl
    by-edge (E.Live s t pr) = unfold judge_edge in unfold append_edge in from (eqb s.0 p.end) s.0 t.0 pr

-- what it tells of `append`: the refusal whole, or an extension that is complete or not
pub record Extension (g : View) (p : Path) (e : ℕ) (complete : Bool) : Type 0 where
  pub path : Path
  pub appended : append g p e ≡ ok path
  pub is-complete : is_complete g path ≡ complete

refused-inj : {r x : PathRefusal} → ◌≡◌ {A = EdgeJudgement} (Err r) (Err x) → r ≡ x
refused-inj h = cc

extends-inj : {a b : Bool} → ◌≡◌ {A = EdgeJudgement} (Ok a) (Ok b) → a ≡ b
extends-inj h = cc

extends-refused : {b : Bool} {r : PathRefusal} → ◌≡◌ {A = EdgeJudgement} (Ok b) (Err r) → ⊥
extends-refused h = let z : ◌≡◌ {A = Bool} true false = cc in true≢false z

pub judged-refused : (g : View) (p : Path) (e : ℕ) (r : PathRefusal) → judgement g p e ≡ Err r → append g p e ≡ refuse r
judged-refused g p e r h = on (append g p e) refl
  where
    on : (a : Answer PathRefusal Path) → append g p e ≡ a → append g p e ≡ refuse r
    on (ok q) k = absurd (extends-refused (ap (judgement_of g) (sym k) ∙ sym (judgement-append g p e) ∙ h))
    on (refuse x) k = k ∙ ap refuse (refused-inj (ap (judgement_of g) (sym k) ∙ sym (judgement-append g p e) ∙ h))

pub judged-extends : (g : View) (p : Path) (e : ℕ) (b : Bool) → judgement g p e ≡ Ok b → Extension g p e b
judged-extends g p e b h = on (append g p e) refl
  where
    on : (a : Answer PathRefusal Path) → append g p e ≡ a → Extension g p e b
    on (ok q) k = record { path = q; appended = k; is-complete = extends-inj (ap (judgement_of g) (sym k) ∙ sym (judgement-append g p e) ∙ h) }
    on (refuse x) k = absurd (extends-refused (sym (ap (judgement_of g) (sym k) ∙ sym (judgement-append g p e) ∙ h)))
