-- What an append that is not refused says, appending one list after another, where an edge leads.
-- Serves demand 3.
use Rattle.std.specs.Prelude.{ℕ, ◌+◌, ◌≤◌, ◌<◌, ◌≡◌, refl, Bool, true, false, List, [], ◌∷◌, ◌++◌, eqb, ltb, length, ℤ}
use Rattle.std.proofs.Common.{arith, sym, ◌∙◌, ap, subst, true≢false, append-nil, append_assoc, ltb→lt, length-append}
use Rattle.std.proofs.Math.Option.{some}
use Rattle.semantics.specs.declared.graph.NodeId.{NodeId}
use Rattle.semantics.specs.declared.graph.Node.{Node}
use Rattle.semantics.specs.declared.graph.Node.TheVariants as N
use Rattle.semantics.specs.declared.graph.Edge.{Edge}
use Rattle.semantics.specs.declared.graph.Edge.TheVariants as E
use Rattle.semantics.specs.declared.refusal.PathRefusal.{PathRefusal}
use Rattle.semantics.specs.declared.refusal.PathRefusal.TheVariants.{UnknownNode, NotReference, UnknownEdge, IncorrectSource, EmptyScopeStack, UnknownAttachedScope}
use Rattle.semantics.specs.declared.refusal.ReplayRefusal.TheVariants as Replay
use Rattle.semantics.specs.Lists.Laws.{eq→T, and-true}
use Rattle.semantics.specs.Limits.{Bounds}
use Rattle.semantics.specs.Answer.{Answer, ok, wrap}
use Rattle.semantics.specs.Answer.Laws.{ok-inj, refuse-ok, and_then-ok, wrap-ok}
use Rattle.semantics.specs.Graph.{node_id, edge_id, View, traits, file_of, is_reference, is_definition, is_exported}
use Rattle.semantics.specs.Graph.Laws.{reference-only}
use Rattle.semantics.specs.Path.{Path, Stacks, along, apply, land, jump_top, jump_to, extend, append_from, append_edge, append, append_if, append_under, append_all, replay, from_reference, start_unless, start_reference, is_empty, is_complete}

-- what an append leaves: the start stays, the edge is added at the end
pub record Added (p q : Path) (e : ℕ) : Type 0 where
  pub start : q.start ≡ p.start
  pub edges : q.edges ≡ p.edges ++ (e ∷ [])

added-at : (p x q : Path) (e : ℕ) → Added p x e → x ≡ q → Added p q e
added-at p x q e a h = subst (λ y. Added p y e) h a

jump_to-added : (b : Bool) (s : ℕ) (rest : List ℕ) (p x q : Path) (e : ℕ) → Added p x e → jump_to b s rest x ≡ ok q → Added p q e
unfolding jump_to
jump_to-added true s rest p x q e a h = added-at p _ q e (record { start = a.start; edges = a.edges }) (ok-inj _ q h)
jump_to-added false s rest p x q e a h = absurd (refuse-ok (UnknownAttachedScope (node_id s)) q h)

jump_top-added : (g : View) (n : ℕ) (l : List ℕ) (p x q : Path) (e : ℕ) → Added p x e → jump_top g n l x ≡ ok q → Added p q e
unfolding jump_top
jump_top-added g n [] p x q e a h = absurd (refuse-ok (EmptyScopeStack (node_id n)) q h)
jump_top-added g n (s ∷ rest) p x q e a h = jump_to-added (is_exported (g.node s)) s rest p x q e a h

land-added : (g : View) (n : ℕ) (k : Node) (p x q : Path) (e : ℕ) → Added p x e → land g n k x ≡ ok q → Added p q e
unfolding land
land-added g n N.Removed p x q e a h = added-at p x q e a (ok-inj x q h)
land-added g n N.Root p x q e a h = added-at p x q e a (ok-inj x q h)
land-added g n N.JumpToScope p x q e a h = jump_top-added g n x.stacks.scopes p x q e a h
land-added g n (N.Scope f y) p x q e a h = added-at p x q e a (ok-inj x q h)
land-added g n (N.Push f s r) p x q e a h = added-at p x q e a (ok-inj x q h)
land-added g n (N.Pop f s d) p x q e a h = added-at p x q e a (ok-inj x q h)
land-added g n (N.PushScoped f s c r) p x q e a h = added-at p x q e a (ok-inj x q h)
land-added g n (N.PopScoped f s d) p x q e a h = added-at p x q e a (ok-inj x q h)
land-added g n (N.DropScopes f) p x q e a h = added-at p x q e a (ok-inj x q h)

pub record Appended (g : View) (p q : Path) (e : ℕ) : Type 0 where
  pub source : NodeId
  pub target : NodeId
  pub precedence : ℤ
  pub found : g.edge e ≡ E.Live source target precedence
  pub leaves : eqb source.0 p.end ≡ true
  pub extended : extend g p e target.0 precedence ≡ ok q
  pub added : Added p q e

extend-added : (g : View) (p q : Path) (e t : ℕ) (pr : ℤ) → extend g p e t pr ≡ ok q → Added p q e
unfolding extend
extend-added g p q e t pr h =
    let k = and_then-ok (apply g t (g.node t) p.stacks) _ q h in
    land-added g t (g.node t) p _ q e (record { start = refl; edges = refl }) k.2

pub append-ok : (g : View) (p q : Path) (e : ℕ) → append g p e ≡ ok q → Appended g p q e
unfolding append append_edge append_from
append-ok g p q e h = on (g.edge e) refl h
  where
    on2 : (b : Bool) (s t : NodeId) (pr : ℤ) → g.edge e ≡ E.Live s t pr → eqb s.0 p.end ≡ b → append_from b g p e s.0 t.0 pr ≡ ok q → Appended g p q e
    on2 true s t pr f l k = record { source = s; target = t; precedence = pr; found = f; leaves = l; extended = k; added = extend-added g p q e t.0 pr k }
    on2 false s t pr f l k = absurd (refuse-ok (IncorrectSource (node_id p.end) (node_id s.0)) q k)

    on : (x : Edge) → g.edge e ≡ x → append_edge g p e x ≡ ok q → Appended g p q e
    on E.Removed f k = absurd (refuse-ok (UnknownEdge (edge_id e)) q k)
    on (E.Live s t pr) f k = on2 (eqb s.0 p.end) s t pr f refl k

pub append_under-ok : (bd : Bounds) (g : View) (p q : Path) (e : ℕ) → append_under bd g p e ≡ ok q → (ltb (length p.edges) bd.edges ≡ true) × (append g p e ≡ ok q)
unfolding append_under append_if
append_under-ok bd g p q e h = on (ltb (length p.edges) bd.edges) refl h
  where
    on : (b : Bool) → ltb (length p.edges) bd.edges ≡ b → append_if b g p e ≡ ok q → (ltb (length p.edges) bd.edges ≡ true) × (append g p e ≡ ok q)
    on true f k = (f, wrap-ok Replay.Path (append g p e) q k)
    on false f k = absurd (refuse-ok Replay.TooLong q k)

pub append_under-is : (bd : Bounds) (g : View) (p : Path) (e : ℕ) → ltb (length p.edges) bd.edges ≡ true → append_under bd g p e ≡ wrap Replay.Path (append g p e)
unfolding append_under append_if
append_under-is bd g p e h = rw h

pub append_all-append : (bd : Bounds) (g : View) (l m : List ℕ) (p q x : Path) → append_all bd g p l ≡ ok q → append_all bd g q m ≡ ok x → append_all bd g p (l ++ m) ≡ ok x
unfolding append_all
append_all-append bd g [] m p q x e f = rw (ok-inj p q e) f
append_all-append bd g (y ∷ l) m p q x e f =
    let k = and_then-ok (append_under bd g p y) (λ z. append_all bd g z l) q e in
    rw k.1 (append_all-append bd g l m k.0 q x k.2 f)

-- a replay is the start and then the edges
pub replay-ok : (bd : Bounds) (g : View) (r : ℕ) (l : List ℕ) (q : Path) → replay bd g r l ≡ ok q → (p : Path) × (from_reference g r ≡ ok p) × (append_all bd g p l ≡ ok q)
unfolding replay
replay-ok bd g r l q h =
    let a = and_then-ok (wrap Replay.Path (from_reference g r)) (λ p. append_all bd g p l) q h in
    (a.0, wrap-ok Replay.Path (from_reference g r) a.0 a.1, a.2)

pub replay-of : (bd : Bounds) (g : View) (r : ℕ) (l : List ℕ) (p q : Path) → from_reference g r ≡ ok p → append_all bd g p l ≡ ok q → replay bd g r l ≡ ok q
unfolding replay
replay-of bd g r l p q f a = rw f a

pub replay-append : (bd : Bounds) (g : View) (r : ℕ) (l m : List ℕ) (p q : Path) → replay bd g r l ≡ ok p → append_all bd g p m ≡ ok q → replay bd g r (l ++ m) ≡ ok q
replay-append bd g r l m p q h k = let a = replay-ok bd g r l p h in replay-of bd g r (l ++ m) a.0 q a.1 (append_all-append bd g l m a.0 p q a.2 k)

pub replay_snoc : (bd : Bounds) (g : View) (r e : ℕ) (l : List ℕ) (p q : Path) → replay bd g r l ≡ ok p → append_under bd g p e ≡ ok q → replay bd g r (l ++ (e ∷ [])) ≡ ok q
unfolding append_all
replay_snoc bd g r e l p q h k = replay-append bd g r l (e ∷ []) p q h (rw k)

-- the initial path has no edge and starts and ends at the reference, which is one
pub record Begun (g : View) (r : ℕ) (p : Path) : Type 0 where
  pub start : p.start ≡ r
  pub end : p.end ≡ r
  pub edges : p.edges ≡ []
  pub reference : is_reference (g.node r) ≡ true

pub begun : (g : View) (r : ℕ) (p : Path) → from_reference g r ≡ ok p → Begun g r p
unfolding from_reference start_unless start_reference
begun g r p h = on (traits (g.node r)).removed h
  where
    on2 : (b : Bool) → is_reference (g.node r) ≡ b → start_reference b g r ≡ ok p → Begun g r p
    on2 true e k =
        let a = and_then-ok (apply g r (g.node r) _) _ p k in
        subst (λ x. Begun g r x) (ok-inj _ p a.2) (record { start = refl; end = refl; edges = refl; reference = e })
    on2 false e k = absurd (refuse-ok (NotReference (node_id r)) p k)

    on : (b : Bool) → start_unless b g r ≡ ok p → Begun g r p
    on true k = absurd (refuse-ok (UnknownNode (node_id r)) p k)
    on false k = on2 (is_reference (g.node r)) refl k

-- the initial path is not complete
pub begun-incomplete : (g : View) (r : ℕ) (p : Path) → Begun g r p → is_complete g p ≡ true → ⊥
unfolding is_complete
begun-incomplete g r p b e =
    let k = and-true (is_reference (g.node p.start)) _ e in
    let j = and-true (is_definition (g.node p.end)) _ k.1 in
    true≢false (sym j.0 ∙ ap (λ n. is_definition (g.node n)) b.end ∙ reference-only (g.node r) b.reference)

pub append_all-edges : (bd : Bounds) (g : View) (es : List ℕ) (p q : Path) → append_all bd g p es ≡ ok q → q.edges ≡ p.edges ++ es
unfolding append_all
append_all-edges bd g [] p q h = ap (λ (x : Path). x.edges) (sym (ok-inj p q h)) ∙ sym (append-nil p.edges)
append_all-edges bd g (e ∷ es) p q h =
    let a = and_then-ok (append_under bd g p e) (λ x. append_all bd g x es) q h in
    let k = append-ok g p a.0 e (append_under-ok bd g p a.0 e a.1).1 in
    append_all-edges bd g es a.0 q a.2 ∙ ap (λ y. y ++ es) k.added.edges ∙ append_assoc p.edges (e ∷ []) es

-- where an edge leads: to root, through jump to an exported scope, or to a node of a file
pub data Arrival (g : View) (t : ℕ) (q : Path) : Type 0 where
  at-root : g.node t ≡ N.Root → q.end ≡ t → Arrival g t q
  at-jump : g.node t ≡ N.JumpToScope → is_exported (g.node q.end) ≡ true → Arrival g t q
  in-file : (f : ℕ) → file_of (g.node t) ≡ some f → q.end ≡ t → Arrival g t q

jump-exported : (g : View) (n : ℕ) (l : List ℕ) (p q : Path) → jump_top g n l p ≡ ok q → is_exported (g.node q.end) ≡ true
unfolding jump_top jump_to
jump-exported g n [] p q h = absurd (refuse-ok (EmptyScopeStack (node_id n)) q h)
jump-exported g n (s ∷ rest) p q h = on (is_exported (g.node s)) refl h
  where
    on : (b : Bool) → is_exported (g.node s) ≡ b → jump_to b s rest p ≡ ok q → is_exported (g.node q.end) ≡ true
    on true e k = subst (λ (x : Path). is_exported (g.node x.end) ≡ true) (ok-inj _ q k) e
    on false e k = absurd (refuse-ok (UnknownAttachedScope (node_id s)) q k)

pub arrives : (g : View) (p q : Path) (e t : ℕ) (pr : ℤ) → extend g p e t pr ≡ ok q → Arrival g t q
unfolding extend land apply
arrives g p q e t pr h = on (g.node t) refl k.0 _ k.1 k.2 refl
  where
    k : (st : Stacks) × (apply g t (g.node t) p.stacks ≡ ok st) × (land g t (g.node t) (record { start = p.start; end = t; edges = p.edges ++ (e ∷ []); steps = p.steps ++ (along e p.end pr ∷ []); stacks = st }) ≡ ok q)
    k = and_then-ok (apply g t (g.node t) p.stacks) _ q h

    ends : (x : Path) → x.end ≡ t → ◌≡◌ {A = Answer PathRefusal Path} (ok x) (ok q) → q.end ≡ t
    ends x f l = ap (λ (y : Path). y.end) (sym (ok-inj x q l)) ∙ f

    on : (n : Node) → g.node t ≡ n → (st : Stacks) (x : Path) → apply g t n p.stacks ≡ ok st → land g t n x ≡ ok q → x.end ≡ t → Arrival g t q
    on N.Removed f st x a l z = absurd (refuse-ok (UnknownNode (node_id t)) st a)
    on N.Root f st x a l z = at-root f (ends x z l)
    on N.JumpToScope f st x a l z = at-jump f (jump-exported g t x.stacks.scopes x q l)
    on (N.Scope i y) f st x a l z = in-file i.0 (ap file_of f) (ends x z l)
    on (N.Push i s r) f st x a l z = in-file i.0 (ap file_of f) (ends x z l)
    on (N.Pop i s d) f st x a l z = in-file i.0 (ap file_of f) (ends x z l)
    on (N.PushScoped i s c r) f st x a l z = in-file i.0 (ap file_of f) (ends x z l)
    on (N.PopScoped i s d) f st x a l z = in-file i.0 (ap file_of f) (ends x z l)
    on (N.DropScopes i) f st x a l z = in-file i.0 (ap file_of f) (ends x z l)

-- a list that was appended under the bound keeps it
pub append_all-bound : (bd : Bounds) (g : View) (es : List ℕ) (p q : Path) → length p.edges ≤ bd.edges → append_all bd g p es ≡ ok q → length p.edges + length es ≤ bd.edges
unfolding append_all
append_all-bound bd g [] p q l h = omega arith
append_all-bound bd g (e ∷ es) p q l h =
    let a = and_then-ok (append_under bd g p e) (λ x. append_all bd g x es) q h in
    let u = append_under-ok bd g p a.0 e a.1 in
    let k = append-ok g p a.0 e u.1 in
    let n : length a.0.edges ≡ length p.edges + 1 = ap length k.added.edges ∙ length-append p.edges (e ∷ []) in
    let r : length p.edges < bd.edges = ltb→lt (length p.edges) bd.edges (eq→T (ltb (length p.edges) bd.edges) u.0) in
    let j = append_all-bound bd g es a.0 q (omega arith) a.2 in
    omega arith

-- complete (document 01, demand 3): from a reference to a definition with both stacks empty
pub record Complete (g : View) (p : Path) : Type 0 where
  pub reference : is_reference (g.node p.start) ≡ true
  pub definition : is_definition (g.node p.end) ≡ true
  pub no-symbols : p.stacks.symbols ≡ []
  pub no-scopes : p.stacks.scopes ≡ []

empty-is : {A : Type 0} (l : List A) → is_empty l ≡ true → l ≡ []
unfolding is_empty
empty-is [] e = refl
empty-is (x ∷ l) e = absurd (true≢false (sym e))

pub complete-is : (g : View) (p : Path) → is_complete g p ≡ true → Complete g p
unfolding is_complete
complete-is g p e =
    let a = and-true (is_reference (g.node p.start)) _ e in
    let b = and-true (is_definition (g.node p.end)) _ a.1 in
    let c = and-true (is_empty p.stacks.symbols) (is_empty p.stacks.scopes) b.1 in
    record { reference = a.0; definition = b.0; no-symbols = empty-is p.stacks.symbols c.0; no-scopes = empty-is p.stacks.scopes c.1 }

pub is-complete : (g : View) (p : Path) → Complete g p → is_complete g p ≡ true
unfolding is_complete is_empty
is-complete g p c = rw (c.reference, c.definition, c.no-symbols, c.no-scopes)
