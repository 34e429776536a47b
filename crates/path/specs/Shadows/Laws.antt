-- The walk over edge lists is `shadows` of the definitions, for paths that were replayed on an accepted graph.
-- Document 01, "Path".
use Rattle.std.specs.Prelude.{ℕ, ◌+◌, ◌≤◌, ◌<◌, ◌≡◌, Bool, eqb, length, get_or, drop, ℤ}
use Rattle.std.proofs.Math.Path.{refl, sym, ap, ap₂}
use Rattle.std.proofs.Common.{◌∙◌, subst, true≢false, add-one, drop_of_length-le, eq-eqb, ne_eqb}
use Rattle.std.proofs.Math.Bool.{true, false}
use mathlib.Core.List.{List, [], ◌∷◌, ◌++◌, append-nil, append_assoc}
use Rattle.std.proofs.Math.Seq.{drop-cons}
use Rattle.std.specs.Int.Signed.{lt_z}
use Rattle.semantics.specs.declared.graph.NodeId.{NodeId}
use Rattle.semantics.specs.declared.graph.Node.{Node}
use Rattle.semantics.specs.declared.graph.Node.TheVariants as N
use Rattle.semantics.specs.declared.graph.Edge.{Edge}
use Rattle.semantics.specs.declared.graph.Edge.TheVariants as E
use Rattle.semantics.specs.Lists.{pick}
use Rattle.semantics.specs.Limits.{Bounds}
use Rattle.semantics.specs.declared.refusal.PathRefusal.{PathRefusal}
use Rattle.semantics.specs.declared.refusal.PathRefusal.TheVariants.{UnknownNode, EmptyScopeStack, UnknownAttachedScope}
use Rattle.semantics.specs.Answer.{Answer, ok}
use Rattle.semantics.specs.Answer.Laws.{ok-inj, refuse-ok, and_then-ok}
use Rattle.semantics.specs.Graph.{node_id, View, traits, is_exported}
use Rattle.semantics.specs.Path.{Step, along, jumped, Stacks, Path, apply, jump_to, jump_top, land, extend, append_under, append_all, replay, source_of, precedence_of, if_greater, if_same_source, shadowing, shadows}
use Rattle.semantics.proofs.Theorems.Path.Laws.{append-ok, append_under-ok, replay-ok}
use Rattle.semantics.proofs.Theorems.Path.Rules.{start-begins}
use Rattle.semantics.specs.Lists.Laws.{eqb-true}
use Rattle.std.specs.Prelude.{Some, None, ◌⊎◌}
use Rattle.std.proofs.Common.{inl, inr}
use Rattle.path.specs.Shadows.{Met, alike, meet, after, shadows_edges}

-- jump is node 1 and no other
pub record JumpAt (g : View) : Type 0 where
  pub there : g.node 1 ≡ N.JumpToScope
  pub only : (n : ℕ) → g.node n ≡ N.JumpToScope → n ≡ 1

-- the steps of a path from a node along edges
pub data Trail (g : View) : ℕ → List ℕ → List Step → Type 0 where
  nil : {n : ℕ} → Trail g n [] []
  onto : {n e : ℕ} {t : NodeId} {es : List ℕ} {ss : List Step} (p : ℤ) → g.edge e ≡ E.Live (node_id n) t p → eqb t.0 1 ≡ false → Trail g t.0 es ss → Trail g n (e ∷ es) (along e n p ∷ ss)
  through : {n e s : ℕ} {t : NodeId} {es : List ℕ} {ss : List Step} (p : ℤ) → g.edge e ≡ E.Live (node_id n) t p → eqb t.0 1 ≡ true → Trail g s es ss → Trail g n (e ∷ es) (along e n p ∷ jumped s ∷ ss)

module _ {g : View} (j : JumpAt g) where
  -- behind an edge that does not jump, the next step does not leave node 1
  apart : {n : ℕ} (s : ℕ) {es : List ℕ} {ss : List Step} (right : List Step) → eqb n 1 ≡ false → Trail g n es ss → shadowing ss (jumped s ∷ right) ≡ false
  unfolding shadowing source_of if_same_source
  apart s right h nil = refl
  apart s right h (onto p e k t) = rw h
  apart s right h (through p e k t) = rw h

  eqb-flip : (a b : ℕ) → eqb a b ≡ false → eqb b a ≡ false
  eqb-flip a b h = ne_eqb b a (λ e. true≢false (sym (eq-eqb a b (sym e)) ∙ h))

  apart-left : {n : ℕ} (s : ℕ) {es : List ℕ} (left : List Step) {ss : List Step} → eqb n 1 ≡ false → Trail g n es ss → shadowing (jumped s ∷ left) ss ≡ false
  unfolding shadowing source_of if_same_source
  apart-left s left h nil = refl
  apart-left {n} s left h (onto p e k t) = rw (eqb-flip n 1 h)
  apart-left {n} s left h (through p e k t) = rw (eqb-flip n 1 h)

  -- one pair of steps, and what comes behind it
  first-pair : (x y : ℕ) (n m : ℕ) (p q : ℤ) (left right : List Step) → shadowing (along x n p ∷ left) (along y m q ∷ right) ≡ pick (eqb n m) (pick (lt_z q p) true (shadowing left right)) false
  unfolding shadowing source_of precedence_of if_same_source if_greater
  first-pair x y n m p q left right = on (eqb n m) (lt_z q p)
    where
      on : (a b : Bool) → if_same_source a (if_greater b (shadowing left right)) ≡ pick a (pick b true (shadowing left right)) false
      on true true = refl
      on true false = refl
      on false b = refl

  jump-pair : (s t : ℕ) (left right : List Step) → shadowing (jumped s ∷ left) (jumped t ∷ right) ≡ shadowing left right
  unfolding shadowing source_of precedence_of if_same_source if_greater
  jump-pair s t left right = refl

  -- the pair of edges, by how both go on
  paired : (n m : ℕ) (t b : NodeId) (p q : ℤ) (x y : ℕ) {c d : Bool} (rest : Bool) {steps : Bool} → g.edge x ≡ E.Live (node_id n) t p → g.edge y ≡ E.Live (node_id m) b q → eqb t.0 1 ≡ c → eqb b.0 1 ≡ d
      → steps ≡ after (alike c d) rest → pick (eqb n m) (pick (lt_z q p) true steps) false ≡ after (meet (g.edge x) (g.edge y)) rest
  unfolding meet
  paired n m t b p q x y rest {steps} h k i l e =
      on (eqb n m) (lt_z q p) ∙ ap₂ (λ (u v : Edge). after (meet u v) rest) (sym h) (sym k)
    where
      on : (a z : Bool) → pick a (pick z true steps) false ≡ after (pick a (pick z (Some true) (alike (eqb t.0 1) (eqb b.0 1))) (Some false)) rest
      on true true = refl
      on true false = e ∙ ap₂ (λ (u v : Bool). after (alike u v) rest) (sym i) (sym l)
      on false z = refl

  -- THE WALK
  pub walk_is : {l m : List ℕ} {ss : List Step} (tt : List Step) {a b : ℕ} → Trail g a l ss → Trail g b m tt → shadowing ss tt ≡ shadows_edges g.edge l m
  unfolding shadows_edges shadowing
  walk_is tt nil v = refl
  walk_is tt (onto p h i u) nil = refl
  walk_is tt (through p h i u) nil = refl
  walk_is tt {a} {b} (onto {e = x} {t = t} {es = es} {ss = left} p h i u) (onto {e = y} {t = c} {es = fs} {ss = right} q k o v) =
      first-pair x y a b p q left right ∙ paired a b t c p q x y (shadows_edges g.edge es fs) h k i o (walk_is right u v)
  walk_is tt {a} {b} (onto {e = x} {t = t} {es = es} {ss = left} p h i u) (through {e = y} {s = s} {t = c} {es = fs} {ss = right} q k o v) =
      first-pair x y a b p q left (jumped s ∷ right) ∙ paired a b t c p q x y (shadows_edges g.edge es fs) h k i o (apart s right i u)
  walk_is tt {a} {b} (through {e = x} {s = s} {t = t} {es = es} {ss = left} p h i u) (onto {e = y} {t = c} {es = fs} {ss = right} q k o v) =
      first-pair x y a b p q (jumped s ∷ left) right ∙ paired a b t c p q x y (shadows_edges g.edge es fs) h k i o (apart-left s left o v)
  walk_is tt {a} {b} (through {e = x} {s = s} {t = t} {es = es} {ss = left} p h i u) (through {e = y} {s = z} {t = c} {es = fs} {ss = right} q k o v) =
      first-pair x y a b p q (jumped s ∷ left) (jumped z ∷ right) ∙ paired a b t c p q x y (shadows_edges g.edge es fs) h k i o (jump-pair s z left right ∙ walk_is right u v)

-- THE STEPS THAT AN APPEND ADDS
pub data Went (g : View) (p q : Path) (e t : ℕ) (pr : ℤ) : Type 0 where
  plainly : (g.node t ≡ N.JumpToScope → ⊥) → q.end ≡ t → q.steps ≡ p.steps ++ (along e p.end pr ∷ []) → Went g p q e t pr
  jumping : g.node t ≡ N.JumpToScope → q.steps ≡ p.steps ++ (along e p.end pr ∷ jumped q.end ∷ []) → Went g p q e t pr

jump-went : (g : View) (n : ℕ) (l : List ℕ) (p x q : Path) → jump_top g n l x ≡ ok q → q.steps ≡ x.steps ++ (jumped q.end ∷ [])
unfolding jump_top jump_to
jump-went g n [] p x q h = absurd (refuse-ok (EmptyScopeStack (node_id n)) q h)
jump-went g n (s ∷ rest) p x q h = on (is_exported (g.node s)) h
  where
    on : (b : Bool) → jump_to b s rest x ≡ ok q → q.steps ≡ x.steps ++ (jumped q.end ∷ [])
    on true k = subst (λ (y : Path). y.steps ≡ x.steps ++ (jumped y.end ∷ [])) (ok-inj _ q k) refl
    on false k = absurd (refuse-ok (UnknownAttachedScope (node_id s)) q k)

kind-differs : {n m : Node} → n ≡ m → (traits n).shared ≡ false → m ≡ N.JumpToScope → ⊥
kind-differs e f h = true≢false (sym (ap (λ (x : Node). (traits x).shared) (e ∙ h)) ∙ f)

root-differs : {n : Node} → n ≡ N.Root → n ≡ N.JumpToScope → ⊥
root-differs e h = let z : ◌≡◌ {A = Bool} true false = cc in true≢false z

pub went : (g : View) (p q : Path) (e t : ℕ) (pr : ℤ) → extend g p e t pr ≡ ok q → Went g p q e t pr
unfolding extend land apply
went g p q e t pr h = on (g.node t) refl k.0 k.1 k.2
  where
    behind : Stacks → Path
    behind st = record { start = p.start; end = t; edges = p.edges ++ (e ∷ []); steps = p.steps ++ (along e p.end pr ∷ []); stacks = st }

    k : (st : Stacks) × (apply g t (g.node t) p.stacks ≡ ok st) × (land g t (g.node t) (behind st) ≡ ok q)
    k = and_then-ok (apply g t (g.node t) p.stacks) _ q h

    stayed : (n : Node) → g.node t ≡ n → (n ≡ N.JumpToScope → ⊥) → (st : Stacks) → ◌≡◌ {A = Answer PathRefusal Path} (ok (behind st)) (ok q) → Went g p q e t pr
    stayed n f d st l =
        let z = ok-inj (behind st) q l in
        plainly (λ i. d (sym f ∙ i)) (ap (λ (y : Path). y.end) (sym z)) (ap (λ (y : Path). y.steps) (sym z))

    on : (n : Node) → g.node t ≡ n → (st : Stacks) → apply g t n p.stacks ≡ ok st → land g t n (behind st) ≡ ok q → Went g p q e t pr
    on N.Removed f st a l = absurd (refuse-ok (UnknownNode (node_id t)) st a)
    on N.Root f st a l = stayed N.Root f (root-differs {n = N.Root} refl) st l
    on N.JumpToScope f st a l = jumping f (jump-went g t st.scopes p (behind st) q l ∙ append_assoc p.steps (along e p.end pr ∷ []) (jumped q.end ∷ []))
    on (N.Scope i y) f st a l = stayed (N.Scope i y) f (λ z. kind-differs {n = N.Scope i y} refl refl z) st l
    on (N.Push i s r) f st a l = stayed (N.Push i s r) f (λ z. kind-differs {n = N.Push i s r} refl refl z) st l
    on (N.Pop i s d) f st a l = stayed (N.Pop i s d) f (λ z. kind-differs {n = N.Pop i s d} refl refl z) st l
    on (N.PushScoped i s c r) f st a l = stayed (N.PushScoped i s c r) f (λ z. kind-differs {n = N.PushScoped i s c r} refl refl z) st l
    on (N.PopScoped i s d) f st a l = stayed (N.PopScoped i s d) f (λ z. kind-differs {n = N.PopScoped i s d} refl refl z) st l
    on (N.DropScopes i) f st a l = stayed (N.DropScopes i) f (λ z. kind-differs {n = N.DropScopes i} refl refl z) st l

module _ {g : View} (j : JumpAt g) (bd : Bounds) where
  -- the steps that a list adds are a trail
  pub all-trail : (es : List ℕ) (p q : Path) → append_all bd g p es ≡ ok q → (ss : List Step) × (q.steps ≡ p.steps ++ ss) × Trail g p.end es ss
  unfolding append_all
  all-trail [] p q h = ([], ap (λ (x : Path). x.steps) (sym (ok-inj p q h)) ∙ sym (append-nil p.steps), nil)
  all-trail (e ∷ es) p q h =
      let a = and_then-ok (append_under bd g p e) (λ x. append_all bd g x es) q h in
      let k = append-ok g p a.0 e (append_under-ok bd g p a.0 e a.1).1 in
      let f : g.edge e ≡ E.Live (node_id p.end) k.target k.precedence = k.found ∙ ap (λ n. E.Live (node_id n) k.target k.precedence) (eqb-true k.source.0 p.end k.leaves) in
      let r = all-trail es a.0 q a.2 in
      joined k.target k.precedence a.0 f (went g p a.0 e k.target.0 k.precedence k.extended) r.0 r.1 r.2
    where
      joined : (t : NodeId) (pr : ℤ) (m : Path) → g.edge e ≡ E.Live (node_id p.end) t pr → Went g p m e t.0 pr → (ss : List Step) → q.steps ≡ m.steps ++ ss → Trail g m.end es ss → (us : List Step) × (q.steps ≡ p.steps ++ us) × Trail g p.end (e ∷ es) us
      joined t pr m f (plainly d en st) ss u v = (
        along e p.end pr ∷ ss,
        u ∙ ap (λ (l : List Step). l ++ ss) st ∙ append_assoc p.steps (along e p.end pr ∷ []) ss,
        onto pr f (ne_eqb t.0 1 (λ z. d (ap g.node z ∙ j.there))) (subst (λ n. Trail g n es ss) en v),
      )
      joined t pr m f (jumping i st) ss u v = (
        along e p.end pr ∷ jumped m.end ∷ ss,
        u ∙ ap (λ (l : List Step). l ++ ss) st ∙ append_assoc p.steps (along e p.end pr ∷ jumped m.end ∷ []) ss,
        through pr f (eq-eqb t.0 1 (j.only t.0 i)) v,
      )

  pub replay-trail : (r : ℕ) (l : List ℕ) (q : Path) → replay bd g r l ≡ ok q → Trail g r l q.steps
  replay-trail r l q h =
      let a = replay-ok bd g r l q h in
      let b = start-begins g r a.0 a.1 in
      let t = all-trail l a.0 q a.2 in
      let z : a.0.steps ≡ [] = ap (λ (x : Path). x.steps) b.1 in
      let y : a.0.end ≡ r = ap (λ (x : Path). x.end) b.1 in
      subst (Trail g r l) (sym (t.1 ∙ ap (λ (x : List Step). x ++ t.0) z)) (subst (λ n. Trail g n l t.0) y t.2)

  -- `shadows` of two replayed paths, on their edges
  pub shadows-edges : (r s : ℕ) (l m : List ℕ) (p q : Path) → replay bd g r l ≡ ok p → replay bd g s m ≡ ok q → shadows p q ≡ shadows_edges g.edge l m
  unfolding shadows
  shadows-edges r s l m p q h k = walk_is j q.steps (replay-trail r l p h) (replay-trail s m q k)

-- THE LOOP: what is left to walk
module _ (edges : ℕ → Edge) {l r l' r' : List ℕ} {x y : ℕ} (h : l ≡ x ∷ l') (k : r ≡ y ∷ r') {m : Met} (is : m ≡ meet (edges x) (edges y)) where
  walk-one : shadows_edges edges l r ≡ after m (shadows_edges edges l' r')
  unfolding shadows_edges
  walk-one = ap₂ (shadows_edges edges) h k ∙ ap (λ (z : Met). after z (shadows_edges edges l' r')) (sym is)

  pub walk-decided : (b : Bool) → m ≡ Some b → b ≡ shadows_edges edges l r
  walk-decided b e = sym (walk-one ∙ ap (λ (z : Met). after z (shadows_edges edges l' r')) e)

  pub walk-onward : m ≡ None → shadows_edges edges l' r' ≡ shadows_edges edges l r
  walk-onward e = sym (walk-one ∙ ap (λ (z : Met). after z (shadows_edges edges l' r')) e)

pub walk-over : (edges : ℕ → Edge) {l r : List ℕ} → (l ≡ []) ⊎ (r ≡ []) → false ≡ shadows_edges edges l r
unfolding shadows_edges
walk-over edges {l} {r} (inl h) = sym (ap (λ (z : List ℕ). shadows_edges edges z r) h)
walk-over edges {l} {r} (inr h) = sym (ap (shadows_edges edges l) h ∙ on l)
  where
    on : (z : List ℕ) → shadows_edges edges z [] ≡ false
    on [] = refl
    on (w ∷ z) = refl

-- TWO LIVE EDGES, by outcome
module _ (s a t b : ℕ) (p q : ℤ) where
  pub meet-apart : (s ≡ a → ⊥) → Some false ≡ meet (E.Live (node_id s) (node_id t) p) (E.Live (node_id a) (node_id b) q)
  unfolding meet
  meet-apart h = rw (ne_eqb s a h)

  pub meet-greater : s ≡ a → lt_z q p ≡ true → Some true ≡ meet (E.Live (node_id s) (node_id t) p) (E.Live (node_id a) (node_id b) q)
  unfolding meet
  meet-greater h k = rw (eq-eqb s a h, k)

  pub meet-on : s ≡ a → lt_z q p ≡ false → alike (eqb t 1) (eqb b 1) ≡ meet (E.Live (node_id s) (node_id t) p) (E.Live (node_id a) (node_id b) q)
  unfolding meet
  meet-on h k = rw (eq-eqb s a h, k)
