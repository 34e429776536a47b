-- `append` gives a path exactly when the rules step, with the same end and stacks, and refuses exactly when a premise fails, with that refusal.
-- Document 01: "the paper settles the stack rules".
use Rattle.std.specs.Prelude.{ℕ, ◌⊎◌, Bool, ℤ}
use Rattle.std.proofs.Math.Path.{◌≡◌, refl, ap, subst}
use Rattle.std.proofs.Common.{sym, ◌∙◌, inl, inr, ⊎_elim, true≢false}
use Rattle.std.proofs.Math.Bool.{true, false}
use Rattle.std.proofs.lemmas.Bool.{false≢true}
use Rattle.std.proofs.Math.Option.{Option, none, some}
use mathlib.Core.List.{List, [], ◌∷◌, ◌++◌}
use Rattle.std.proofs.Math.Dec.{T, eqb}
use Rattle.semantics.specs.declared.graph.NodeId.{NodeId}
use Rattle.semantics.specs.declared.graph.Node.{Node}
use Rattle.semantics.specs.declared.graph.Node.TheVariants as N
use Rattle.semantics.specs.declared.graph.Edge.{Edge}
use Rattle.semantics.specs.declared.graph.Edge.TheVariants as E
use Rattle.semantics.specs.declared.graph.FileId.{FileId}
use Rattle.semantics.specs.declared.refusal.PathRefusal.{PathRefusal}
use Rattle.semantics.specs.declared.refusal.PathRefusal.TheVariants.{UnknownNode, NotReference, UnknownEdge, IncorrectSource, EmptySymbolStack, IncorrectPoppedSymbol, UnexpectedAttachedScopes, MissingAttachedScopes, EmptyScopeStack, UnknownAttachedScope}
use Rattle.semantics.specs.Lists.Laws.{eqb-true, eqb_same, bool_false}
use Rattle.semantics.specs.Answer.{Answer, ok, refuse, and_then}
use Rattle.semantics.specs.Answer.Laws.{ok-inj, refuse-ok, refuse-inj, ok-refuse, and_then-ok, and_then-refuse}
use Rattle.semantics.specs.Graph.{node_id, edge_id, View, traits, is_reference, is_exported}
use Rattle.semantics.specs.Path.{Symbol, Stacks, no_stacks, Path, from_reference, start_unless, start_reference, along, without_scopes, with_scopes, pop_equal, pop_top, push_attached, apply, jump_to, jump_top, land, extend, append_from, append_edge, append}
use Rattle.semantics.specs.Rules.{bare, attached, with, Applies, root, jump, scope, push, push-scoped, pop, pop-scoped, drop-scopes, Pops, plain, scoped, Fails, removed, unknown-scope, empty, other, unexpected, missing, Steps, onto, through, Stops, unknown-edge, wrong-source, target, no-scope, lost-scope, Begins, at-reference, NoBegin, unknown-node, no-reference, failed}

differ : (m n : ℕ) → (m ≡ n → ⊥) → eqb m n ≡ false
differ m n h = bool_false (eqb m n) (λ e. h (eqb-true m n e))

differ-not : (m n : ℕ) → eqb m n ≡ false → m ≡ n → ⊥
differ-not m n e h = true≢false (sym (eqb_same n) ∙ ap (λ x. eqb x n) (sym h) ∙ e)

-- ONE NODE
pub applies-apply : (g : View) (n : ℕ) (k : Node) (S T : Stacks) → Applies g k S T → apply g n k S ≡ ok T
unfolding apply pop_top pop_equal without_scopes with_scopes push_attached
applies-apply g n k S T root = refl
applies-apply g n k S T jump = refl
applies-apply g n k S T scope = refl
applies-apply g n k S T push = refl
applies-apply g n k S T (push-scoped e) = rw e
applies-apply g n k S T (pop {x = x}) = rw (eqb_same x)
applies-apply g n k S T (pop-scoped {x = x}) = rw (eqb_same x)
applies-apply g n k S T drop-scopes = refl

module _ (g : View) (n : ℕ) where
  same-applies : (k : Node) (S T U : Stacks) → Applies g k S T → ◌≡◌ {A = Answer PathRefusal Stacks} (ok T) (ok U) → Applies g k S U
  same-applies k S T U a e = subst (Applies g k S) (ok-inj T U e) a

  pop-applies : (f : FileId) (x : ℕ) (d : Bool) (X : List Symbol) (Y : List ℕ) (T : Stacks) → pop_top n x (without_scopes n (with X Y)) X ≡ ok T → Applies g (N.Pop f x d) (with X Y) T
  unfolding pop_top pop_equal without_scopes
  pop-applies f x d [] Y T e = absurd (refuse-ok (EmptySymbolStack (node_id n)) T e)
  pop-applies f x d (y ∷ X) Y T e = on (eqb y.symbol x) y.scopes refl e
    where
      on : (b : Bool) (o : Option (List ℕ)) → eqb y.symbol x ≡ b → pop_equal b n (without_scopes n (with (y ∷ X) Y) X o) ≡ ok T → Applies g (N.Pop f x d) (with (record { symbol = y.symbol; scopes = o } ∷ X) Y) T
      on true none h k = same-applies (N.Pop f x d) (with (bare y.symbol ∷ X) Y) (with X Y) T (subst (λ z. Applies g (N.Pop f x d) (with (bare z ∷ X) Y) (with X Y)) (sym (eqb-true y.symbol x h)) pop) k
      on true (some l) h k = absurd (refuse-ok (UnexpectedAttachedScopes (node_id n)) T k)
      on false o h k = absurd (refuse-ok (IncorrectPoppedSymbol (node_id n)) T k)

  pop-scoped-applies : (f : FileId) (x : ℕ) (d : Bool) (X : List Symbol) (Y : List ℕ) (T : Stacks) → pop_top n x (with_scopes n (with X Y)) X ≡ ok T → Applies g (N.PopScoped f x d) (with X Y) T
  unfolding pop_top pop_equal with_scopes
  pop-scoped-applies f x d [] Y T e = absurd (refuse-ok (EmptySymbolStack (node_id n)) T e)
  pop-scoped-applies f x d (y ∷ X) Y T e = on (eqb y.symbol x) y.scopes refl e
    where
      on : (b : Bool) (o : Option (List ℕ)) → eqb y.symbol x ≡ b → pop_equal b n (with_scopes n (with (y ∷ X) Y) X o) ≡ ok T → Applies g (N.PopScoped f x d) (with (record { symbol = y.symbol; scopes = o } ∷ X) Y) T
      on true none h k = absurd (refuse-ok (MissingAttachedScopes (node_id n)) T k)
      on true (some l) h k = same-applies (N.PopScoped f x d) (with (attached y.symbol l ∷ X) Y) (with X l) T (subst (λ z. Applies g (N.PopScoped f x d) (with (attached z l ∷ X) Y) (with X l)) (sym (eqb-true y.symbol x h)) pop-scoped) k
      on false o h k = absurd (refuse-ok (IncorrectPoppedSymbol (node_id n)) T k)

  push-scoped-applies : (f : FileId) (x : ℕ) (s : NodeId) (r : Bool) (S T : Stacks) → push_attached (is_exported (g.node s.0)) x s.0 S ≡ ok T → Applies g (N.PushScoped f x s r) S T
  unfolding push_attached
  push-scoped-applies f x s r S T e = on (is_exported (g.node s.0)) refl e
    where
      on : (b : Bool) → is_exported (g.node s.0) ≡ b → push_attached b x s.0 S ≡ ok T → Applies g (N.PushScoped f x s r) S T
      on true h k = same-applies (N.PushScoped f x s r) S _ T (push-scoped h) k
      on false h k = absurd (refuse-ok (UnknownAttachedScope (node_id s.0)) T k)

  pub apply-applies : (k : Node) (S T : Stacks) → apply g n k S ≡ ok T → Applies g k S T
  unfolding apply
  apply-applies N.Removed S T e = absurd (refuse-ok (UnknownNode (node_id n)) T e)
  apply-applies N.Root S T e = same-applies N.Root S S T root e
  apply-applies N.JumpToScope S T e = same-applies N.JumpToScope S S T jump e
  apply-applies (N.Scope f x) S T e = same-applies (N.Scope f x) S S T scope e
  apply-applies (N.Push f x r) S T e = same-applies (N.Push f x r) S _ T push e
  apply-applies (N.Pop f x d) S T e = pop-applies f x d S.symbols S.scopes T e
  apply-applies (N.PushScoped f x s r) S T e = push-scoped-applies f x s r S T e
  apply-applies (N.PopScoped f x d) S T e = pop-scoped-applies f x d S.symbols S.scopes T e
  apply-applies (N.DropScopes f) S T e = same-applies (N.DropScopes f) S _ T drop-scopes e

  -- a premise fails exactly where the node is refused, with that refusal
  pops-empty : (k : Node) (x : ℕ) (Y : List ℕ) → Pops k x → apply g n k (with [] Y) ≡ refuse (EmptySymbolStack (node_id n))
  unfolding apply pop_top
  pops-empty k x Y plain = refl
  pops-empty k x Y scoped = refl

  pops-other : (k : Node) (x : ℕ) (y : Symbol) (X : List Symbol) (Y : List ℕ) → Pops k x → (y.symbol ≡ x → ⊥) → apply g n k (with (y ∷ X) Y) ≡ refuse (IncorrectPoppedSymbol (node_id n))
  unfolding apply pop_top pop_equal
  pops-other k x y X Y plain h = rw (differ y.symbol x h)
  pops-other k x y X Y scoped h = rw (differ y.symbol x h)

  pub fails-apply : (k : Node) (S : Stacks) (r : PathRefusal) → Fails g n k S r → apply g n k S ≡ refuse r
  unfolding apply pop_top pop_equal without_scopes with_scopes push_attached
  fails-apply k S r removed = refl
  fails-apply k S r (unknown-scope e) = rw e
  fails-apply k S r (empty {k = k'} {x = x} {Y = Y} p) = pops-empty k' x Y p
  fails-apply k S r (other {k = k'} {x = x} {y = y} {X = X} {Y = Y} p h) = pops-other k' x y X Y p h
  fails-apply k S r (unexpected {x = x}) = rw (eqb_same x)
  fails-apply k S r (missing {x = x}) = rw (eqb_same x)

  same-fails : (k : Node) (S : Stacks) (r q : PathRefusal) → Fails g n k S r → ◌≡◌ {A = Answer PathRefusal Stacks} (refuse r) (refuse q) → Fails g n k S q
  same-fails k S r q a e = subst (Fails g n k S) (refuse-inj {A = Stacks} r q e) a

  pop-fails : (f : FileId) (x : ℕ) (d : Bool) (X : List Symbol) (Y : List ℕ) (r : PathRefusal) → pop_top n x (without_scopes n (with X Y)) X ≡ refuse r → Fails g n (N.Pop f x d) (with X Y) r
  unfolding pop_top pop_equal without_scopes
  pop-fails f x d [] Y r e = same-fails (N.Pop f x d) (with [] Y) _ r (empty plain) e
  pop-fails f x d (y ∷ X) Y r e = on (eqb y.symbol x) y.scopes refl e
    where
      on : (b : Bool) (o : Option (List ℕ)) → eqb y.symbol x ≡ b → pop_equal b n (without_scopes n (with (y ∷ X) Y) X o) ≡ refuse r → Fails g n (N.Pop f x d) (with (record { symbol = y.symbol; scopes = o } ∷ X) Y) r
      on true none h k = absurd (ok-refuse r (with X Y) k)
      on true (some l) h k = same-fails (N.Pop f x d) (with (attached y.symbol l ∷ X) Y) _ r (subst (λ z. Fails g n (N.Pop f x d) (with (attached z l ∷ X) Y) (UnexpectedAttachedScopes (node_id n))) (sym (eqb-true y.symbol x h)) unexpected) k
      on false o h k = same-fails (N.Pop f x d) (with (record { symbol = y.symbol; scopes = o } ∷ X) Y) _ r (other plain (differ-not y.symbol x h)) k

  pop-scoped-fails : (f : FileId) (x : ℕ) (d : Bool) (X : List Symbol) (Y : List ℕ) (r : PathRefusal) → pop_top n x (with_scopes n (with X Y)) X ≡ refuse r → Fails g n (N.PopScoped f x d) (with X Y) r
  unfolding pop_top pop_equal with_scopes
  pop-scoped-fails f x d [] Y r e = same-fails (N.PopScoped f x d) (with [] Y) _ r (empty scoped) e
  pop-scoped-fails f x d (y ∷ X) Y r e = on (eqb y.symbol x) y.scopes refl e
    where
      on : (b : Bool) (o : Option (List ℕ)) → eqb y.symbol x ≡ b → pop_equal b n (with_scopes n (with (y ∷ X) Y) X o) ≡ refuse r → Fails g n (N.PopScoped f x d) (with (record { symbol = y.symbol; scopes = o } ∷ X) Y) r
      on true none h k = same-fails (N.PopScoped f x d) (with (bare y.symbol ∷ X) Y) _ r (subst (λ z. Fails g n (N.PopScoped f x d) (with (bare z ∷ X) Y) (MissingAttachedScopes (node_id n))) (sym (eqb-true y.symbol x h)) missing) k
      on true (some l) h k = absurd (ok-refuse r (with X l) k)
      on false o h k = same-fails (N.PopScoped f x d) (with (record { symbol = y.symbol; scopes = o } ∷ X) Y) _ r (other scoped (differ-not y.symbol x h)) k

  push-scoped-fails : (f : FileId) (x : ℕ) (s : NodeId) (rf : Bool) (S : Stacks) (r : PathRefusal) → push_attached (is_exported (g.node s.0)) x s.0 S ≡ refuse r → Fails g n (N.PushScoped f x s rf) S r
  unfolding push_attached
  push-scoped-fails f x s rf S r e = on (is_exported (g.node s.0)) refl e
    where
      on : (b : Bool) → is_exported (g.node s.0) ≡ b → push_attached b x s.0 S ≡ refuse r → Fails g n (N.PushScoped f x s rf) S r
      on true h k = absurd (ok-refuse r _ k)
      on false h k = same-fails (N.PushScoped f x s rf) S _ r (unknown-scope h) k

  pub apply-fails : (k : Node) (S : Stacks) (r : PathRefusal) → apply g n k S ≡ refuse r → Fails g n k S r
  unfolding apply
  apply-fails N.Removed S r e = same-fails N.Removed S _ r removed e
  apply-fails N.Root S r e = absurd (ok-refuse r S e)
  apply-fails N.JumpToScope S r e = absurd (ok-refuse r S e)
  apply-fails (N.Scope f x) S r e = absurd (ok-refuse r S e)
  apply-fails (N.Push f x rf) S r e = absurd (ok-refuse r _ e)
  apply-fails (N.Pop f x d) S r e = pop-fails f x d S.symbols S.scopes r e
  apply-fails (N.PushScoped f x s rf) S r e = push-scoped-fails f x s rf S r e
  apply-fails (N.PopScoped f x d) S r e = pop-scoped-fails f x d S.symbols S.scopes r e
  apply-fails (N.DropScopes f) S r e = absurd (ok-refuse r _ e)

is-jump : (k : Node) → (k ≡ N.JumpToScope) ⊎ (k ≡ N.JumpToScope → ⊥)
is-jump N.Removed = inr (λ z. let y : ◌≡◌ {A = Bool} true false = cc in true≢false y)
is-jump N.Root = inr (λ z. let y : ◌≡◌ {A = Bool} true false = cc in true≢false y)
is-jump N.JumpToScope = inl refl
is-jump (N.Scope f x) = inr (λ z. let y : ◌≡◌ {A = Bool} true false = cc in true≢false y)
is-jump (N.Push f x r) = inr (λ z. let y : ◌≡◌ {A = Bool} true false = cc in true≢false y)
is-jump (N.Pop f x d) = inr (λ z. let y : ◌≡◌ {A = Bool} true false = cc in true≢false y)
is-jump (N.PushScoped f x s r) = inr (λ z. let y : ◌≡◌ {A = Bool} true false = cc in true≢false y)
is-jump (N.PopScoped f x d) = inr (λ z. let y : ◌≡◌ {A = Bool} true false = cc in true≢false y)
is-jump (N.DropScopes f) = inr (λ z. let y : ◌≡◌ {A = Bool} true false = cc in true≢false y)

-- ONE EDGE
module _ (g : View) (p : Path) (e : ℕ) where
  -- the path behind the edge, before a jump
  abbrev behind : ℕ → ℤ → Stacks → Path
  behind t pr S = record { start = p.start; end = t; edges = p.edges ++ (e ∷ []); steps = p.steps ++ (along e p.end pr ∷ []); stacks = S }

  is-extend : (t : NodeId) (pr : ℤ) → g.edge e ≡ E.Live (node_id p.end) t pr → append g p e ≡ extend g p e t.0 pr
  unfolding append append_edge append_from
  is-extend t pr h = rw (h, eqb_same p.end)

  land-other : (k : Node) (n : ℕ) (x : Path) → (k ≡ N.JumpToScope → ⊥) → land g n k x ≡ ok x
  unfolding land
  land-other N.Removed n x h = refl
  land-other N.Root n x h = refl
  land-other N.JumpToScope n x h = absurd (h refl)
  land-other (N.Scope f y) n x h = refl
  land-other (N.Push f s r) n x h = refl
  land-other (N.Pop f s d) n x h = refl
  land-other (N.PushScoped f s a r) n x h = refl
  land-other (N.PopScoped f s d) n x h = refl
  land-other (N.DropScopes f) n x h = refl

  -- what an extension comes to at a jump, by the scope stack
  at-jump : (t : ℕ) (pr : ℤ) (X : List Symbol) (Y : List ℕ) → g.node t ≡ N.JumpToScope → p.stacks ≡ with X Y → extend g p e t pr ≡ jump_top g t Y (behind t pr (with X Y))
  unfolding extend apply land
  at-jump t pr X Y k s = rw (k, s)

  pub steps-append : (n : ℕ) (S : Stacks) → Steps g p.end p.stacks e n S → (q : Path) × (append g p e ≡ ok q) × (q.end ≡ n) × (q.stacks ≡ S)
  unfolding extend jump_top jump_to
  steps-append n S (onto {t = t} {pr = pr} {T = S'} h j a) =
      (behind t.0 pr S', is-extend t pr h ∙ ap (λ z. and_then z (λ st. land g t.0 (g.node t.0) (behind t.0 pr st))) (applies-apply g t.0 (g.node t.0) p.stacks S' a) ∙ land-other (g.node t.0) t.0 (behind t.0 pr S') j, refl, refl)
  steps-append n S (through {t = t} {pr = pr} {X = X} {Y = Y} {s = s} h j k x) =
      (_, is-extend t pr h ∙ at-jump t.0 pr X (s ∷ Y) j k ∙ ap (λ b. jump_to b s Y (behind t.0 pr (with X (s ∷ Y)))) x, refl, refl)

  pub append-steps : (q : Path) → append g p e ≡ ok q → Steps g p.end p.stacks e q.end q.stacks
  unfolding append append_edge append_from
  append-steps q h = by-edge (g.edge e) refl h
    where
      jumped-to : (t : NodeId) (pr : ℤ) (s : ℕ) (X : List Symbol) (Y : List ℕ) → g.edge e ≡ E.Live (node_id p.end) t pr → g.node t.0 ≡ N.JumpToScope → p.stacks ≡ with X (s ∷ Y) → (b : Bool) → is_exported (g.node s) ≡ b → jump_to b s Y (behind t.0 pr (with X (s ∷ Y))) ≡ ok q → Steps g p.end p.stacks e q.end q.stacks
      jumped-to t pr s X Y f j k true x l = unfold jump_to in subst (λ (z : Path). Steps g p.end p.stacks e z.end z.stacks) (ok-inj _ q l) (through f j k x)
      jumped-to t pr s X Y f j k false x l = absurd (refuse-ok (UnknownAttachedScope (node_id s)) q (unfold jump_to in l))

      at-scopes : (t : NodeId) (pr : ℤ) (X : List Symbol) (Y : List ℕ) → g.edge e ≡ E.Live (node_id p.end) t pr → g.node t.0 ≡ N.JumpToScope → p.stacks ≡ with X Y → jump_top g t.0 Y (behind t.0 pr (with X Y)) ≡ ok q → Steps g p.end p.stacks e q.end q.stacks
      at-scopes t pr X [] f j k l = absurd (refuse-ok (EmptyScopeStack t) q (unfold jump_top in l))
      at-scopes t pr X (s ∷ Y) f j k l = jumped-to t pr s X Y f j k (is_exported (g.node s)) refl (unfold jump_top in l)

      by_kind : (t : NodeId) (pr : ℤ) → g.edge e ≡ E.Live (node_id p.end) t pr → (g.node t.0 ≡ N.JumpToScope) ⊎ (g.node t.0 ≡ N.JumpToScope → ⊥) → extend g p e t.0 pr ≡ ok q → Steps g p.end p.stacks e q.end q.stacks
      by_kind t pr f (inl j) k = at-scopes t pr p.stacks.symbols p.stacks.scopes f j refl (sym (at-jump t.0 pr p.stacks.symbols p.stacks.scopes j refl) ∙ k)
      by_kind t pr f (inr j) k =
          let a = and_then-ok (apply g t.0 (g.node t.0) p.stacks) (λ st. land g t.0 (g.node t.0) (behind t.0 pr st)) q (unfold extend in k) in
          subst (λ (z : Path). Steps g p.end p.stacks e z.end z.stacks) (ok-inj (behind t.0 pr a.0) q (sym (land-other (g.node t.0) t.0 (behind t.0 pr a.0) j) ∙ a.2)) (onto f j (apply-applies g t.0 (g.node t.0) p.stacks a.0 a.1))

      by-source : (s t : NodeId) (pr : ℤ) → g.edge e ≡ E.Live s t pr → (b : Bool) → eqb s.0 p.end ≡ b → append_from b g p e s.0 t.0 pr ≡ ok q → Steps g p.end p.stacks e q.end q.stacks
      by-source s t pr f true l k = by_kind t pr (f ∙ ap (λ n. E.Live (node_id n) t pr) (eqb-true s.0 p.end l)) (is-jump (g.node t.0)) k
      by-source s t pr f false l k = absurd (refuse-ok (IncorrectSource (node_id p.end) s) q k)

      by-edge : (x : Edge) → g.edge e ≡ x → append_edge g p e x ≡ ok q → Steps g p.end p.stacks e q.end q.stacks
      by-edge E.Removed f k = absurd (refuse-ok (UnknownEdge (edge_id e)) q k)
      by-edge (E.Live s t pr) f k = by-source s t pr f (eqb s.0 p.end) refl k

  pub stops-append : (r : PathRefusal) → Stops g p.end p.stacks e r → append g p e ≡ refuse r
  unfolding append append_edge append_from extend jump_top jump_to
  stops-append r (unknown-edge h) = rw h
  stops-append r (wrong-source {s = s} h n) = rw (h, differ s.0 p.end n)
  stops-append r (target {t = t} {pr = pr} {r = r'} h f) = is-extend t pr h ∙ ap (λ z. and_then z (λ st. land g t.0 (g.node t.0) (behind t.0 pr st))) (fails-apply g t.0 (g.node t.0) p.stacks r' f)
  stops-append r (no-scope {t = t} {pr = pr} {X = X} h j k) = is-extend t pr h ∙ at-jump t.0 pr X [] j k
  stops-append r (lost-scope {t = t} {pr = pr} {X = X} {Y = Y} {s = s} h j k x) = is-extend t pr h ∙ at-jump t.0 pr X (s ∷ Y) j k ∙ ap (λ b. jump_to b s Y (behind t.0 pr (with X (s ∷ Y)))) x

  same-stops : (r q : PathRefusal) → Stops g p.end p.stacks e r → ◌≡◌ {A = Answer PathRefusal Path} (refuse r) (refuse q) → Stops g p.end p.stacks e q
  same-stops r q a h = subst (Stops g p.end p.stacks e) (refuse-inj {A = Path} r q h) a

  pub append-stops : (r : PathRefusal) → append g p e ≡ refuse r → Stops g p.end p.stacks e r
  unfolding append append_edge append_from jump_top jump_to extend
  append-stops r h = by-edge (g.edge e) refl h
    where
      jumped-to : (t : NodeId) (pr : ℤ) (s : ℕ) (X : List Symbol) (Y : List ℕ) → g.edge e ≡ E.Live (node_id p.end) t pr → g.node t.0 ≡ N.JumpToScope → p.stacks ≡ with X (s ∷ Y) → (b : Bool) → is_exported (g.node s) ≡ b → jump_to b s Y (behind t.0 pr (with X (s ∷ Y))) ≡ refuse r → Stops g p.end p.stacks e r
      jumped-to t pr s X Y f j k true x l = absurd (ok-refuse r _ l)
      jumped-to t pr s X Y f j k false x l = same-stops _ r (lost-scope f j k x) l

      at-scopes : (t : NodeId) (pr : ℤ) (X : List Symbol) (Y : List ℕ) → g.edge e ≡ E.Live (node_id p.end) t pr → g.node t.0 ≡ N.JumpToScope → p.stacks ≡ with X Y → jump_top g t.0 Y (behind t.0 pr (with X Y)) ≡ refuse r → Stops g p.end p.stacks e r
      at-scopes t pr X [] f j k l = same-stops (EmptyScopeStack t) r (no-scope f j k) l
      at-scopes t pr X (s ∷ Y) f j k l = jumped-to t pr s X Y f j k (is_exported (g.node s)) refl l

      by_kind : (t : NodeId) (pr : ℤ) → g.edge e ≡ E.Live (node_id p.end) t pr → (g.node t.0 ≡ N.JumpToScope) ⊎ (g.node t.0 ≡ N.JumpToScope → ⊥) → extend g p e t.0 pr ≡ refuse r → Stops g p.end p.stacks e r
      by_kind t pr f (inl j) k = at-scopes t pr p.stacks.symbols p.stacks.scopes f j refl (sym (at-jump t.0 pr p.stacks.symbols p.stacks.scopes j refl) ∙ k)
      by_kind t pr f (inr j) k =
          ⊎_elim (λ (a : apply g t.0 (g.node t.0) p.stacks ≡ refuse r). target f (apply-fails g t.0 (g.node t.0) p.stacks r a))
          (λ a. absurd (ok-refuse r (behind t.0 pr a.0) (sym (land-other (g.node t.0) t.0 (behind t.0 pr a.0) j) ∙ a.2)))
          (and_then-refuse (apply g t.0 (g.node t.0) p.stacks) (λ st. land g t.0 (g.node t.0) (behind t.0 pr st)) r k)

      by-source : (s t : NodeId) (pr : ℤ) → g.edge e ≡ E.Live s t pr → (b : Bool) → eqb s.0 p.end ≡ b → append_from b g p e s.0 t.0 pr ≡ refuse r → Stops g p.end p.stacks e r
      by-source s t pr f true l k = by_kind t pr (f ∙ ap (λ n. E.Live (node_id n) t pr) (eqb-true s.0 p.end l)) (is-jump (g.node t.0)) k
      by-source s t pr f false l k = same-stops _ r (wrong-source f (differ-not s.0 p.end l)) k

      by-edge : (x : Edge) → g.edge e ≡ x → append_edge g p e x ≡ refuse r → Stops g p.end p.stacks e r
      by-edge E.Removed f k = same-stops _ r (unknown-edge f) k
      by-edge (E.Live s t pr) f k = by-source s t pr f (eqb s.0 p.end) refl k

-- THE START
removed-is : (k : Node) → (traits k).removed ≡ true → k ≡ N.Removed
removed-is N.Removed e = refl
removed-is N.Root e = absurd (false≢true e)
removed-is N.JumpToScope e = absurd (false≢true e)
removed-is (N.Scope f x) e = absurd (false≢true e)
removed-is (N.Push f s r) e = absurd (false≢true e)
removed-is (N.Pop f s d) e = absurd (false≢true e)
removed-is (N.PushScoped f s a r) e = absurd (false≢true e)
removed-is (N.PopScoped f s d) e = absurd (false≢true e)
removed-is (N.DropScopes f) e = absurd (false≢true e)

reference-live : (k : Node) → is_reference k ≡ true → (traits k).removed ≡ false
reference-live N.Removed e = absurd (false≢true e)
reference-live N.Root e = refl
reference-live N.JumpToScope e = refl
reference-live (N.Scope f x) e = refl
reference-live (N.Push f s r) e = refl
reference-live (N.Pop f s d) e = refl
reference-live (N.PushScoped f s a r) e = refl
reference-live (N.PopScoped f s d) e = refl
reference-live (N.DropScopes f) e = refl

module _ (g : View) (r : ℕ) where
  abbrev beginning : Stacks → Path
  beginning S = record { start = r; end = r; edges = []; steps = []; stacks = S }

  is-start : is_reference (g.node r) ≡ true → from_reference g r ≡ and_then (apply g r (g.node r) no_stacks) (λ st. ok (beginning st))
  unfolding from_reference start_unless start_reference
  is-start h = rw (reference-live (g.node r) h, h)

  pub begins-start : (S : Stacks) → Begins g r S → from_reference g r ≡ ok (beginning S)
  begins-start S (at-reference h a) = is-start h ∙ ap (λ x. and_then x (λ st. ok (beginning st))) (applies-apply g r (g.node r) no_stacks S a)

  pub no-begin-start : (x : PathRefusal) → NoBegin g r x → from_reference g r ≡ refuse x
  unfolding from_reference start_unless start_reference
  no-begin-start x (unknown-node h) = rw h
  no-begin-start x (no-reference l h) = rw (bool_false (traits (g.node r)).removed (λ e. l (removed-is (g.node r) e)), h)
  no-begin-start x (failed h f) = is-start h ∙ ap (λ y. and_then y (λ st. ok (beginning st))) (fails-apply g r (g.node r) no_stacks x f)

  pub start-begins : (p : Path) → from_reference g r ≡ ok p → Begins g r p.stacks × (p ≡ beginning p.stacks)
  unfolding from_reference start_unless start_reference
  start-begins p h = on (traits (g.node r)).removed h
    where
      on2 : (b : Bool) → is_reference (g.node r) ≡ b → start_reference b g r ≡ ok p → Begins g r p.stacks × (p ≡ beginning p.stacks)
      on2 true e k =
          let a = and_then-ok (apply g r (g.node r) no_stacks) (λ st. ok (beginning st)) p k in
          subst (λ (y : Path). Begins g r y.stacks × (y ≡ beginning y.stacks)) (ok-inj (beginning a.0) p a.2) (at-reference e (apply-applies g r (g.node r) no_stacks a.0 a.1), refl)
      on2 false e k = absurd (refuse-ok (NotReference (node_id r)) p k)

      on : (b : Bool) → start_unless b g r ≡ ok p → Begins g r p.stacks × (p ≡ beginning p.stacks)
      on true k = absurd (refuse-ok (UnknownNode (node_id r)) p k)
      on false k = on2 (is_reference (g.node r)) refl k

  pub start-no-begin : (x : PathRefusal) → from_reference g r ≡ refuse x → NoBegin g r x
  unfolding from_reference start_unless start_reference
  start-no-begin x h = on (traits (g.node r)).removed refl h
    where
      same : (y : PathRefusal) → NoBegin g r y → ◌≡◌ {A = Answer PathRefusal Path} (refuse y) (refuse x) → NoBegin g r x
      same y n k = subst (NoBegin g r) (refuse-inj {A = Path} y x k) n

      live-not : (traits (g.node r)).removed ≡ false → g.node r ≡ N.Removed → ⊥
      live-not f e = true≢false (sym (ap (λ (k : Node). (traits k).removed) e) ∙ f)

      on2 : (b : Bool) → (traits (g.node r)).removed ≡ false → is_reference (g.node r) ≡ b → start_reference b g r ≡ refuse x → NoBegin g r x
      on2 true f e k = ⊎_elim (λ (a : apply g r (g.node r) no_stacks ≡ refuse x). failed e (apply-fails g r (g.node r) no_stacks x a)) (λ a. absurd (ok-refuse x (beginning a.0) a.2)) (and_then-refuse (apply g r (g.node r) no_stacks) (λ st. ok (beginning st)) x k)
      on2 false f e k = same (NotReference (node_id r)) (no-reference (live-not f) e) k

      on : (b : Bool) → (traits (g.node r)).removed ≡ b → start_unless b g r ≡ refuse x → NoBegin g r x
      on true f k = same (UnknownNode (node_id r)) (unknown-node (removed-is (g.node r) f)) k
      on false f k = on2 (is_reference (g.node r)) f refl k
