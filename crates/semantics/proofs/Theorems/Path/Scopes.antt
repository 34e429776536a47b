-- What the scopes on the two stacks keep along a path: on an accepted graph they are exported, so 19 never arises; and attached lists stay short.
-- Document 01, "Path": "hence attached lists have at most" half the edges and one more, which document 02, order 6, makes 32; 19 of "Turned back".
use Rattle.std.specs.Prelude.{ℕ, ◌+◌, ◌*◌, ◌≤◌, refl, Bool, ltb}
use Rattle.std.proofs.Common.{arith, sym, ◌∙◌}
use Rattle.std.proofs.Math.Path.{◌≡◌, ap, subst}
use Rattle.std.proofs.Math.Logic.{⊎_elim}
use Rattle.std.proofs.Math.Bool.{true, false, true≢false}
use Rattle.std.proofs.Math.Option.{none, some}
use mathlib.Core.List.Memᴰ
use mathlib.Core.List.{List, [], ◌∷◌, Memᴰ}
use Rattle.std.proofs.Math.ListN.{length, length-append}
use Rattle.semantics.specs.declared.graph.NodeId.{NodeId}
use Rattle.semantics.specs.declared.graph.Node.{Node}
use Rattle.semantics.specs.declared.refusal.PathRefusal.{PathRefusal}
use Rattle.semantics.specs.declared.refusal.PathRefusal.TheVariants.{UnknownNode, NotReference, UnknownAttachedScope}
use Rattle.semantics.specs.declared.refusal.ReplayRefusal.TheVariants as Replay
use Rattle.semantics.specs.Limits.{Bounds, base}
use Rattle.semantics.specs.Answer.{Answer, ok, refuse, wrap}
use Rattle.semantics.specs.Answer.Laws.{ok-inj, refuse-ok, refuse-inj, ok-refuse, and_then-ok, and_then-refuse, wrap-ok}
use Rattle.semantics.specs.Graph.{node_id, Graph, View, view_of, traits, is_reference, is_exported}
use Rattle.semantics.specs.Acceptance.{accepts}
use Rattle.semantics.proofs.Theorems.Acceptance.Laws.{scope-exported}
use Rattle.semantics.specs.Path.{Symbol, Stacks, no_stacks, Path, apply, from_reference, start_unless, start_reference, append, append_if, append_under, append_all, replay}
use Rattle.semantics.proofs.Theorems.Path.Laws.{append-ok, append_under-ok, append_all-edges, append_all-bound, begun, replay-ok}
use Rattle.semantics.proofs.Theorems.Path.Rules.{apply-applies, apply-fails, append-steps, append-stops}
use Rattle.semantics.specs.Rules.{with, Applies, root, jump, scope, push, push-scoped, pop, pop-scoped, drop-scopes, Fails, removed, unknown-scope, empty, other, unexpected, missing, Steps, onto, through, Stops, unknown-edge, wrong-source, target, no-scope, lost-scope}

-- every list that is attached to a symbol has the property
abbrev pub Attached : (List ℕ → Type 0) → List Symbol → Type 0
Attached B [] = Unit {0}
Attached B (x ∷ X) = ((Z : List ℕ) → x.scopes ≡ some Z → B Z) × Attached B X

-- the scope stack has the one property, every attached list the other
pub record Scoped (A B : List ℕ → Type 0) (S : Stacks) : Type 0 where
  pub stack : A S.scopes
  pub lists : Attached B S.symbols

-- how the two properties before a node lead to those after it
pub record Carries (g : View) (A B A' B' : List ℕ → Type 0) : Type 0 where
  pub stays : (Y : List ℕ) → A Y → A' Y
  pub keeps : (Z : List ℕ) → B Z → B' Z
  pub attaches : (s : ℕ) (Y : List ℕ) → is_exported (g.node s) ≡ true → A Y → B' (s ∷ Y)
  pub takes : (Z : List ℕ) → B Z → A' Z
  pub clears : A' []
  pub lands : (s : ℕ) (Y : List ℕ) → A (s ∷ Y) → A' Y

attached-keeps : (B B' : List ℕ → Type 0) → ((Z : List ℕ) → B Z → B' Z) → (X : List Symbol) → Attached B X → Attached B' X
attached-keeps B B' f [] a = tt
attached-keeps B B' f (x ∷ X) a = ((λ Z e. f Z (a.0 Z e)), attached-keeps B B' f X a.1)

none-some : (Z : List ℕ) → none ≡ some Z → ⊥
none-some Z e = let z : ◌≡◌ {A = Bool} true false = cc in true≢false z

some_inj : (Y Z : List ℕ) → some Y ≡ some Z → Y ≡ Z
some_inj Y Z e = cc

module _ (g : View) (A B A' B' : List ℕ → Type 0) (c : Carries g A B A' B') where
  applies-scoped : (k : Node) (S T : Stacks) → Applies g k S T → Scoped A B S → Scoped A' B' T
  applies-scoped k S T (root {X = X} {Y = Y}) s = record { stack = c.stays Y s.stack; lists = attached-keeps B B' c.keeps X s.lists }
  applies-scoped k S T (jump {X = X} {Y = Y}) s = record { stack = c.stays Y s.stack; lists = attached-keeps B B' c.keeps X s.lists }
  applies-scoped k S T (scope {X = X} {Y = Y}) s = record { stack = c.stays Y s.stack; lists = attached-keeps B B' c.keeps X s.lists }
  applies-scoped k S T (push {X = X} {Y = Y}) s = record { stack = c.stays Y s.stack; lists = ((λ Z e. absurd (none-some Z e)), attached-keeps B B' c.keeps X s.lists) }
  applies-scoped k S T (push-scoped {s = n} {X = X} {Y = Y} x) s =
      record { stack = c.stays Y s.stack; lists = ((λ Z e. subst B' (some_inj (n.0 ∷ Y) Z e) (c.attaches n.0 Y x s.stack)), attached-keeps B B' c.keeps X s.lists) }
  applies-scoped k S T (pop {X = X} {Y = Y}) s = record { stack = c.stays Y s.stack; lists = attached-keeps B B' c.keeps X s.lists.1 }
  applies-scoped k S T (pop-scoped {X = X} {Z = Z}) s = record { stack = c.takes Z (s.lists.0 Z refl); lists = attached-keeps B B' c.keeps X s.lists.1 }
  applies-scoped k S T (drop-scopes {X = X}) s = record { stack = c.clears; lists = attached-keeps B B' c.keeps X s.lists }

  steps-scoped : (p : Path) (e n : ℕ) (T : Stacks) → Steps g p.end p.stacks e n T → Scoped A B p.stacks → Scoped A' B' T
  steps-scoped p e n T (onto {t = t} h j a) s = applies-scoped (g.node t.0) p.stacks T a s
  steps-scoped p e n T (through {X = X} {Y = Y} {s = m} h j k x) s =
      let u : Scoped A B (with X (m ∷ Y)) = subst (Scoped A B) k s in
      record { stack = c.lands m Y u.stack; lists = attached-keeps B B' c.keeps X u.lists }

  pub append-scoped : (p q : Path) (e : ℕ) → append g p e ≡ ok q → Scoped A B p.stacks → Scoped A' B' q.stacks
  append-scoped p q e h s = steps-scoped p e q.end q.stacks (append-steps g p e q h) s

  pub begun-scoped : (r : ℕ) (p : Path) → from_reference g r ≡ ok p → A [] → Scoped A' B' p.stacks
  unfolding from_reference start_unless start_reference
  begun-scoped r p h a = on (traits (g.node r)).removed h
    where
      on2 : (b : Bool) → start_reference b g r ≡ ok p → Scoped A' B' p.stacks
      on2 true k =
          let x = and_then-ok (apply g r (g.node r) no_stacks) _ p k in
          subst (λ (y : Path). Scoped A' B' y.stacks) (ok-inj _ p x.2) (applies-scoped (g.node r) no_stacks x.0 (apply-applies g r (g.node r) no_stacks x.0 x.1) (record { stack = a; lists = tt }))
      on2 false k = absurd (refuse-ok (NotReference (node_id r)) p k)

      on : (b : Bool) → start_unless b g r ≡ ok p → Scoped A' B' p.stacks
      on true k = absurd (refuse-ok (UnknownNode (node_id r)) p k)
      on false k = on2 (is_reference (g.node r)) k

-- ATTACHED LISTS STAY SHORT: twice as many nodes as scopes were passed
abbrev Deep : ℕ → List ℕ → Type 0
Deep n Y = 2 * length Y ≤ n

deeper : (g : View) (n : ℕ) → Carries g (Deep n) (Deep (n + 1)) (Deep (n + 1)) (Deep (n + 1 + 1))
deeper g n = record { stays = λ Y h. omega (arith, h); keeps = λ Z h. omega (arith, h); attaches = λ s Y x h. omega (arith, h); takes = λ Z h. h; clears = omega arith; lands = λ s Y h. omega (arith, h) }

-- with k edges a path passed k + 1 nodes
abbrev Shallow : ℕ → Stacks → Type 0
Shallow k S = Scoped (Deep (k + 1)) (Deep (k + 1 + 1)) S

module _ (bd : Bounds) (g : View) where
  all-shallow : (es : List ℕ) (p q : Path) → append_all bd g p es ≡ ok q → Shallow (length p.edges) p.stacks → Shallow (length q.edges) q.stacks
  unfolding append_all
  all-shallow [] p q h s = subst (λ (x : Path). Shallow (length x.edges) x.stacks) (ok-inj p q h) s
  all-shallow (e ∷ es) p q h s =
      let a = and_then-ok (append_under bd g p e) (λ x. append_all bd g x es) q h in
      let k = (append_under-ok bd g p a.0 e a.1).1 in
      let n : length a.0.edges ≡ length p.edges + 1 = ap length (append-ok g p a.0 e k).added.edges ∙ length-append p.edges (e ∷ []) in
      all-shallow es a.0 q a.2 (subst (λ m. Shallow m a.0.stacks) (sym n) (append-scoped g (Deep (length p.edges + 1)) (Deep (length p.edges + 1 + 1)) (Deep (length p.edges + 1 + 1)) (Deep (length p.edges + 1 + 1 + 1)) (deeper g (length p.edges + 1)) p a.0 e k s))

  -- a list that is attached to a symbol of a replayed path; the scope stack is as short
  pub attached-short : (r : ℕ) (es : List ℕ) (q : Path) → replay bd g r es ≡ ok q → (x : Symbol) → Memᴰ x q.stacks.symbols → (Z : List ℕ) → x.scopes ≡ some Z → 2 * length Z ≤ bd.edges + 2
  attached-short r es q h x m Z e =
      let a = replay-ok bd g r es q h in
      let b = begun g r a.0 a.1 in
      let z : length a.0.edges ≡ 0 = ap length b.edges in
      let s : Shallow (length a.0.edges) a.0.stacks = subst (λ k. Shallow k a.0.stacks) (sym z) (begun-scoped g (Deep 0) (Deep (0 + 1)) (Deep (0 + 1)) (Deep (0 + 1 + 1)) (deeper g 0) r a.0 a.1 (omega arith)) in
      let t = all-shallow es a.0 q a.2 s in
      let l = append_all-bound bd g es a.0 q (omega (arith, z)) a.2 in
      let n : length q.edges ≡ length a.0.edges + length es = ap length (append_all-edges bd g es a.0 q a.2) ∙ length-append a.0.edges es in
      omega (arith, each q.stacks.symbols t.lists m, l, z, n)
    where
      each : (X : List Symbol) → Attached (Deep (length q.edges + 1 + 1)) X → Memᴰ x X → 2 * length Z ≤ length q.edges + 1 + 1
      each [] l k = absurd (Memᴰ.not-nil k)
      each (y ∷ X) l k = ⊎_elim (λ (i : x ≡ y). l.0 Z (ap (λ (v : Symbol). v.scopes) (sym i) ∙ e)) (λ j. each X l.1 j) (Memᴰ.cases_cons k)

-- with 63 edges, at most 32 scopes
pub attached-base : (g : View) (r : ℕ) (es : List ℕ) (q : Path) → replay base g r es ≡ ok q → (x : Symbol) → Memᴰ x q.stacks.symbols → (Z : List ℕ) → x.scopes ≡ some Z → length Z ≤ 32
attached-base g r es q h x m Z e = omega (arith, attached-short base g r es q h x m Z e)

-- 19 NEVER ARISES: on an accepted graph every scope on the stacks is exported
abbrev pub Exported : View → List ℕ → Type 0
Exported g [] = Unit {0}
Exported g (s ∷ Y) = (is_exported (g.node s) ≡ true) × Exported g Y

pub exporting : (g : View) → Carries g (Exported g) (Exported g) (Exported g) (Exported g)
exporting g = record { stays = λ Y h. h; keeps = λ Z h. h; attaches = λ s Y x h. (x, h); takes = λ Z h. h; clears = tt; lands = λ s Y h. h.1 }

module _ (g : Graph) (good : accepts g ≡ true) (n : NodeId) where
  -- no node fails with it
  fails-not : (m : ℕ) (k : Node) (S : Stacks) (r : PathRefusal) → (view_of g).node m ≡ k → Fails (view_of g) m k S r → r ≡ UnknownAttachedScope n → ⊥
  fails-not m k S r h removed e = let z : ◌≡◌ {A = Bool} true false = cc in true≢false z
  fails-not m k S r h (unknown-scope {f = f} {x = x} {s = s} {reference = d} u) e = true≢false (sym (scope-exported g good m f x s d h) ∙ u)
  fails-not m k S r h (empty q) e = let z : ◌≡◌ {A = Bool} true false = cc in true≢false z
  fails-not m k S r h (other q d) e = let z : ◌≡◌ {A = Bool} true false = cc in true≢false z
  fails-not m k S r h unexpected e = let z : ◌≡◌ {A = Bool} true false = cc in true≢false z
  fails-not m k S r h missing e = let z : ◌≡◌ {A = Bool} true false = cc in true≢false z

  stops-not : (p : Path) (e : ℕ) (r : PathRefusal) → Scoped (Exported (view_of g)) (Exported (view_of g)) p.stacks → Stops (view_of g) p.end p.stacks e r → r ≡ UnknownAttachedScope n → ⊥
  stops-not p e r s (unknown-edge h) i = let z : ◌≡◌ {A = Bool} true false = cc in true≢false z
  stops-not p e r s (wrong-source h d) i = let z : ◌≡◌ {A = Bool} true false = cc in true≢false z
  stops-not p e r s (target {t = t} {r = r'} h f) i = fails-not t.0 ((view_of g).node t.0) p.stacks r' refl f i
  stops-not p e r s (no-scope h j k) i = let z : ◌≡◌ {A = Bool} true false = cc in true≢false z
  stops-not p e r s (lost-scope {X = X} {Y = Y} {s = m} h j k x) i =
      let u : Scoped (Exported (view_of g)) (Exported (view_of g)) (with X (m ∷ Y)) = subst (Scoped (Exported (view_of g)) (Exported (view_of g))) k s in
      true≢false (sym u.stack.0 ∙ x)

  append-not : (p : Path) (e : ℕ) → Scoped (Exported (view_of g)) (Exported (view_of g)) p.stacks → append (view_of g) p e ≡ refuse (UnknownAttachedScope n) → ⊥
  append-not p e s h = stops-not p e (UnknownAttachedScope n) s (append-stops (view_of g) p e (UnknownAttachedScope n) h) refl

  start-not : (r : ℕ) → from_reference (view_of g) r ≡ refuse (UnknownAttachedScope n) → ⊥
  unfolding from_reference start_unless start_reference
  start-not r h = on (traits ((view_of g).node r)).removed h
    where
      other-refusal : (x : PathRefusal) → (x ≡ UnknownAttachedScope n → ⊥) → ◌≡◌ {A = Answer PathRefusal Path} (refuse x) (refuse (UnknownAttachedScope n)) → ⊥
      other-refusal x d k = d (refuse-inj {A = Path} x (UnknownAttachedScope n) k)

      on2 : (b : Bool) → start_reference b (view_of g) r ≡ refuse (UnknownAttachedScope n) → ⊥
      on2 true k = ⊎_elim (λ (a : apply (view_of g) r ((view_of g).node r) no_stacks ≡ refuse (UnknownAttachedScope n)). fails-not r ((view_of g).node r) no_stacks (UnknownAttachedScope n) refl (apply-fails (view_of g) r ((view_of g).node r) no_stacks (UnknownAttachedScope n) a) refl)
          (λ a. ok-refuse (UnknownAttachedScope n) _ a.2) (and_then-refuse (apply (view_of g) r ((view_of g).node r) no_stacks) _ (UnknownAttachedScope n) k)
      on2 false k = other-refusal (NotReference (node_id r)) (λ e. let z : ◌≡◌ {A = Bool} true false = cc in true≢false z) k

      on : (b : Bool) → start_unless b (view_of g) r ≡ refuse (UnknownAttachedScope n) → ⊥
      on true k = other-refusal (UnknownNode (node_id r)) (λ e. let z : ◌≡◌ {A = Bool} true false = cc in true≢false z) k
      on false k = on2 (is_reference ((view_of g).node r)) k

  wrapped-not : {A : Type 0} (a : Answer PathRefusal A) → (a ≡ refuse (UnknownAttachedScope n) → ⊥) → wrap Replay.Path a ≡ refuse (Replay.Path (UnknownAttachedScope n)) → ⊥
  wrapped-not (ok x) d h = ok-refuse (Replay.Path (UnknownAttachedScope n)) x h
  wrapped-not {A} (refuse x) d h = d (let e : Replay.Path x ≡ Replay.Path (UnknownAttachedScope n) = refuse-inj {A = A} (Replay.Path x) (Replay.Path (UnknownAttachedScope n)) h in let z : x ≡ UnknownAttachedScope n = cc in ap refuse z)

  module _ (bd : Bounds) where
    under-not : (p : Path) (e : ℕ) → Scoped (Exported (view_of g)) (Exported (view_of g)) p.stacks → append_under bd (view_of g) p e ≡ refuse (Replay.Path (UnknownAttachedScope n)) → ⊥
    unfolding append_under append_if
    under-not p e s h = on (ltb (length p.edges) bd.edges) h
      where
        on : (b : Bool) → append_if b (view_of g) p e ≡ refuse (Replay.Path (UnknownAttachedScope n)) → ⊥
        on true k = wrapped-not (append (view_of g) p e) (append-not p e s) k
        on false k = let e : Replay.TooLong ≡ Replay.Path (UnknownAttachedScope n) = refuse-inj {A = Path} Replay.TooLong (Replay.Path (UnknownAttachedScope n)) k in let z : ◌≡◌ {A = Bool} true false = cc in true≢false z

    all-not : (es : List ℕ) (p : Path) → Scoped (Exported (view_of g)) (Exported (view_of g)) p.stacks → append_all bd (view_of g) p es ≡ refuse (Replay.Path (UnknownAttachedScope n)) → ⊥
    unfolding append_all
    all-not [] p s h = ok-refuse (Replay.Path (UnknownAttachedScope n)) p h
    all-not (e ∷ es) p s h =
        ⊎_elim (λ k. under-not p e s k)
        (λ a. all-not es a.0 (append-scoped (view_of g) _ _ _ _ (exporting (view_of g)) p a.0 e (append_under-ok bd (view_of g) p a.0 e a.1).1 s) a.2)
        (and_then-refuse (append_under bd (view_of g) p e) (λ x. append_all bd (view_of g) x es) (Replay.Path (UnknownAttachedScope n)) h)

    -- a replay on an accepted graph, and so every path that a search appends
    pub never-19 : (r : ℕ) (es : List ℕ) → replay bd (view_of g) r es ≡ refuse (Replay.Path (UnknownAttachedScope n)) → ⊥
    unfolding replay
    never-19 r es h =
        ⊎_elim (λ k. wrapped-not (from_reference (view_of g) r) (start-not r) k)
        (λ a. all-not es a.0 (begun-scoped (view_of g) _ _ _ _ (exporting (view_of g)) r a.0 (wrap-ok Replay.Path (from_reference (view_of g) r) a.0 a.1) tt) a.2)
        (and_then-refuse (wrap Replay.Path (from_reference (view_of g) r)) (λ p. append_all bd (view_of g) p es) (Replay.Path (UnknownAttachedScope n)) h)
