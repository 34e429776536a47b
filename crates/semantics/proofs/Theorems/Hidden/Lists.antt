-- The lists that the path rules take on what a desk sees are those that they take on the whole graph and whose edges are all visible. So demand 3 on what is
-- seen concerns visible edges only. Document 02, order 8.
use Rattle.std.specs.Prelude.{ℕ, ◌≡◌, Bool, eqb, ltb, length, ℤ}
use Rattle.std.proofs.Math.Path.{refl, sym, ap, subst}
use Rattle.std.proofs.Common.{◌∙◌}
use Rattle.std.proofs.Math.Logic.{⊎_elim}
use Rattle.std.proofs.Math.Bool.{true, false}
use Rattle.std.proofs.Math.Option.{Option, none, some}
use mathlib.Core.List.{List, [], ◌∷◌, ◌++◌, Memᴰ}
use Rattle.semantics.specs.declared.graph.NodeId.{NodeId}
use Rattle.semantics.specs.declared.graph.FileId.{FileId}
use Rattle.semantics.specs.declared.graph.Node.{Node}
use Rattle.semantics.specs.declared.graph.Node.TheVariants as N
use Rattle.semantics.specs.declared.graph.Edge.TheVariants as E
use Rattle.semantics.specs.declared.refusal.PathRefusal.{PathRefusal}
use Rattle.semantics.specs.declared.refusal.PathRefusal.TheVariants.{UnknownAttachedScope}
use Rattle.semantics.specs.Lists.Laws.{eqb-true}
use Rattle.semantics.specs.Limits.{Bounds, Limit}
use Rattle.semantics.specs.Answer.{Answer, ok, and_then}
use Rattle.semantics.specs.Answer.Laws.{refuse-ok, and_then-ok}
use Rattle.semantics.specs.Graph.{node_id, Graph, View, view_of, traits, file_of, is_reference, is_definition, is_exported}
use Rattle.semantics.specs.Path.{Stacks, Path, along, no_stacks, push_attached, apply, start_reference, start_unless, from_reference, jump_to, jump_top, land, extend, append_from, append_edge, append, append_under, append_all, replay, is_complete}
use Rattle.semantics.proofs.Theorems.Path.Laws.{append-ok, append_under-ok, append_under-is, begun, replay-ok, replay-of, complete-is, is-complete}
use Rattle.semantics.proofs.Theorems.Path.Scopes.{Scoped, Exported, exporting, append-scoped, begun-scoped}
use Rattle.semantics.specs.PartialPaths.{belongs, is_fileless}
use Rattle.semantics.proofs.Theorems.PartialPaths.Laws.{belongs-cases, belongs-source, belongs-target}
use Rattle.semantics.specs.Demand.{Valid, NoFileless, Demand}
use Rattle.semantics.proofs.Theorems.Demand.Laws.{AllLive, valid-live}
use Rattle.semantics.proofs.Theorems.Demand.Rules.{all_start}
use Rattle.semantics.proofs.Theorems.Finding.Laws.{last_of, complete-ends}
use Rattle.semantics.specs.Acceptance.{accepts}
use Rattle.semantics.proofs.Theorems.Acceptance.Laws.{scope-exported}
use Rattle.semantics.proofs.Theorems.Image.Laws.{image-accepted}
use Rattle.semantics.specs.Calls.{Request}
use Rattle.semantics.specs.Calls.Whole.{recorded_set, direct_recorded, stitched_recorded, Premises, AliasPremises}
use Rattle.semantics.proofs.Theorems.Calls.Whole.{demand-3, demand-aliases}
use Rattle.semantics.specs.Hidden.{sees_file, seen}
use Rattle.semantics.proofs.Theorems.Hidden.Laws.{seen_test, seen-accepted}
use Rattle.semantics.proofs.Theorems.Hidden.Holds.{Sees, node-same, edge-was, edge_same}

-- an edge is visible if every file that it belongs to is
abbrev pub Visible : (ℕ → Bool) → Graph → ℕ → Type 0
Visible see g e = (f : ℕ) → belongs (view_of g) f e ≡ true → see f ≡ true

abbrev pub AllVisible : (ℕ → Bool) → Graph → List ℕ → Type 0
AllVisible see g [] = Unit {0}
AllVisible see g (e ∷ es) = Visible see g e × AllVisible see g es

module _ (see : ℕ → Bool) (g : Graph) where
  abbrev whole_view : View
  whole_view = view_of g

  abbrev seen_view : View
  seen_view = view_of (seen see g)

  -- the ends of a visible edge are seen
  ends-seen : (e : ℕ) (s t : NodeId) (p : ℤ) → whole_view.edge e ≡ E.Live s t p → Visible see g e → Sees see g s.0 × Sees see g t.0
  ends-seen e s t p h visible = (
    by (file_of (whole_view.node s.0)) (λ f k. visible f (belongs-source whole_view f e s t p h k)),
    by (file_of (whole_view.node t.0)) (λ f k. visible f (belongs-target whole_view f e s t p h k)),
  )
    where
      by : (o : Option ℕ) → ((f : ℕ) → o ≡ some f → see f ≡ true) → sees_file see o ≡ true
      by none k = unfold sees_file in refl
      by (some f) k = unfold sees_file in k f refl

  -- an edge of what is seen is visible
  seen-visible : (e : ℕ) (s t : NodeId) (p : ℤ) → seen_view.edge e ≡ E.Live s t p → Visible see g e
  unfolding sees_file
  seen-visible e s t p h f b =
      let k = edge-was see g e s t p h in
      ⊎_elim (λ (x : file_of (whole_view.node s.0) ≡ some f). sym (ap (sees_file see) x) ∙ k.1) (λ (x : file_of (whole_view.node t.0) ≡ some f). sym (ap (sees_file see) x) ∙ k.2) (belongs-cases whole_view f e s t p k.0 b)

  exported-was : (n : ℕ) → is_exported (seen_view.node n) ≡ true → is_exported (whole_view.node n) ≡ true
  exported-was n e = (seen_test see g is_exported refl n e).1

-- a path that goes on to a node of this kind
abbrev on_to : View → Path → ℕ → ℕ → Node → ℤ → Answer PathRefusal Path
on_to x p e t k pr =
    and_then (apply x t k p.stacks) (λ st. land x t k (record { start = p.start; end = t; edges = p.edges ++ (e ∷ []); steps = p.steps ++ (along e p.end pr ∷ []); stacks = st }))

-- two views go on alike where the one holds those scopes to be exported that the other does, of the one that the node attaches and the one on top of the stack
module _ (x y : View) where
  abbrev Agreeing : ℕ → Type 0
  Agreeing n = is_exported (x.node n) ≡ true → is_exported (y.node n) ≡ true

  attached-alike : (n symbol : ℕ) (st st' : Stacks) → Agreeing n → push_attached (is_exported (x.node n)) symbol n st ≡ ok st' → push_attached (is_exported (y.node n)) symbol n st ≡ ok st'
  unfolding push_attached
  attached-alike n symbol st st' same h = on (is_exported (x.node n)) refl h
    where
      on : (b : Bool) → is_exported (x.node n) ≡ b → push_attached b symbol n st ≡ ok st' → push_attached (is_exported (y.node n)) symbol n st ≡ ok st'
      on true i k = rw (same i) k
      on false i k = absurd (refuse-ok (UnknownAttachedScope (node_id n)) st' k)

  landed-alike : (t : ℕ) (l : List ℕ) (p q : Path) → ((s : ℕ) (rest : List ℕ) → l ≡ s ∷ rest → Agreeing s) → jump_top x t l p ≡ ok q → jump_top y t l p ≡ ok q
  unfolding jump_top jump_to
  landed-alike t [] p q same h = h
  landed-alike t (s ∷ rest) p q same h = on (is_exported (x.node s)) refl h
    where
      on : (b : Bool) → is_exported (x.node s) ≡ b → jump_to b s rest p ≡ ok q → jump_to (is_exported (y.node s)) s rest p ≡ ok q
      on true i k = rw (same s rest refl i) k
      on false i k = absurd (refuse-ok (UnknownAttachedScope (node_id s)) q k)

  on_to-alike : (p q : Path) (e t : ℕ) (k : Node) (pr : ℤ) → ((f : FileId) (s : ℕ) (a : NodeId) (b : Bool) → k ≡ N.PushScoped f s a b → Agreeing a.0) → ((s : ℕ) (rest : List ℕ) → p.stacks.scopes ≡ s ∷ rest → Agreeing s)
      → on_to x p e t k pr ≡ ok q → on_to y p e t k pr ≡ ok q
  unfolding apply land
  on_to-alike p q e t N.Removed pr attached top h = h
  on_to-alike p q e t N.Root pr attached top h = h
  on_to-alike p q e t N.JumpToScope pr attached top h = landed-alike t p.stacks.scopes _ q top h
  on_to-alike p q e t (N.Scope f b) pr attached top h = h
  on_to-alike p q e t (N.Push f s b) pr attached top h = h
  on_to-alike p q e t (N.Pop f s b) pr attached top h = h
  on_to-alike p q e t (N.PushScoped f s a b) pr attached top h =
      let i = and_then-ok (push_attached (is_exported (x.node a.0)) s a.0 p.stacks) _ q h in
      rw (attached-alike a.0 s p.stacks i.0 (attached f s a b refl) i.1) i.2
  on_to-alike p q e t (N.PopScoped f s b) pr attached top h = h
  on_to-alike p q e t (N.DropScopes f) pr attached top h = h

  -- so an edge is appended alike, where both have it and its target
  append-alike : (p q : Path) (e : ℕ) (s t : NodeId) (pr : ℤ) → x.edge e ≡ E.Live s t pr → y.edge e ≡ E.Live s t pr → x.node t.0 ≡ y.node t.0
      → ((f : FileId) (s : ℕ) (a : NodeId) (b : Bool) → y.node t.0 ≡ N.PushScoped f s a b → Agreeing a.0) → ((s : ℕ) (rest : List ℕ) → p.stacks.scopes ≡ s ∷ rest → Agreeing s)
      → append x p e ≡ ok q → append y p e ≡ ok q
  unfolding append append_edge append_from extend
  append-alike p q e s t pr i j same attached top h = rw j (on (eqb s.0 p.end) (sym (ap (append_edge x p e) i) ∙ h))
    where
      on : (b : Bool) → append_from b x p e s.0 t.0 pr ≡ ok q → append_from b y p e s.0 t.0 pr ≡ ok q
      on true k = on_to-alike p q e t.0 (y.node t.0) pr attached top (sym (ap (λ n. on_to x p e t.0 n pr) same) ∙ k)
      on false k = absurd (refuse-ok _ q k)

  -- and a reference begun alike
  begun-alike : (r : ℕ) (p : Path) → x.node r ≡ y.node r → ((f : FileId) (s : ℕ) (a : NodeId) (b : Bool) → y.node r ≡ N.PushScoped f s a b → Agreeing a.0) → from_reference x r ≡ ok p → from_reference y r ≡ ok p
  unfolding from_reference start_unless start_reference
  begun-alike r p same attached h = rw (← same) (on (traits (x.node r)).removed h)
    where
      applied : (k : Node) (st st' : Stacks) → ((f : FileId) (s : ℕ) (a : NodeId) (b : Bool) → k ≡ N.PushScoped f s a b → Agreeing a.0) → apply x r k st ≡ ok st' → apply y r k st ≡ ok st'
      applied N.Removed st st' g h = unfold apply in h
      applied N.Root st st' g h = unfold apply in h
      applied N.JumpToScope st st' g h = unfold apply in h
      applied (N.Scope f b) st st' g h = unfold apply in h
      applied (N.Push f s b) st st' g h = unfold apply in h
      applied (N.Pop f s b) st st' g h = unfold apply in h
      applied (N.PushScoped f s a b) st st' g h = unfold apply in attached-alike a.0 s st st' (g f s a b refl) h
      applied (N.PopScoped f s b) st st' g h = unfold apply in h
      applied (N.DropScopes f) st st' g h = unfold apply in h

      on2 : (b : Bool) → start_reference b x r ≡ ok p → start_reference b y r ≡ ok p
      on2 true k =
          let i = and_then-ok (apply x r (x.node r) no_stacks) _ p k in
          rw (applied (y.node r) no_stacks i.0 attached (sym (ap (λ (n : Node). apply x r n no_stacks) same) ∙ i.1)) i.2
      on2 false k = absurd (refuse-ok _ p k)

      on : (b : Bool) → start_unless b x r ≡ ok p → start_unless b y r ≡ ok p
      on true k = absurd (refuse-ok _ p k)
      on false k = subst (λ (n : Node). start_reference (is_reference n) y r ≡ ok p) same (on2 (is_reference (x.node r)) k)

module _ (see : ℕ → Bool) (g : Graph) (bd : Bounds) where
  under_of : (x : View) (p q : Path) (e : ℕ) → ltb (length p.edges) bd.edges ≡ true → append x p e ≡ ok q → append_under bd x p e ≡ ok q
  under_of x p q e l h = append_under-is bd x p e l ∙ (rw h)

  -- WHAT IS SEEN IS TAKEN ON THE WHOLE GRAPH
  all-was : (es : List ℕ) (p q : Path) → append_all bd (seen_view see g) p es ≡ ok q → (append_all bd (whole_view see g) p es ≡ ok q) × AllVisible see g es
  unfolding append_all
  all-was [] p q h = (h, tt)
  all-was (e ∷ es) p q h =
      let a = and_then-ok (append_under bd (seen_view see g) p e) (λ x. append_all bd (seen_view see g) x es) q h in
      let u = append_under-ok bd (seen_view see g) p a.0 e a.1 in
      let k = append-ok (seen_view see g) p a.0 e u.1 in
      let i = edge-was see g e k.source k.target k.precedence k.found in
      let n = append-alike (seen_view see g) (whole_view see g) p a.0 e k.source k.target k.precedence k.found i.0 (node-same see g k.target.0 i.2) (λ f s c b z. exported-was see g c.0) (λ s rest z. exported-was see g s) u.1 in
      let r = all-was es a.0 q a.2 in
      (rw (under_of (whole_view see g) p a.0 e u.0 n) r.0, (seen-visible see g e k.source k.target k.precedence k.found, r.1))

  begun-was : (r : ℕ) (p : Path) → from_reference (seen_view see g) r ≡ ok p → Sees see g r
  begun-was r p h = (seen_test see g is_reference refl r (begun (seen_view see g) r p h).reference).0

  -- WHAT IS TAKEN ON THE WHOLE GRAPH AND VISIBLE IS SEEN
  module _ (good : accepts g ≡ true) where
    -- the scope that a seen node attaches is seen to be exported
    attached-seen : (n : ℕ) → Sees see g n → (f : FileId) (s : ℕ) (a : NodeId) (b : Bool) → (seen_view see g).node n ≡ N.PushScoped f s a b → is_exported ((seen_view see g).node a.0) ≡ true
    attached-seen n visible f s a b e = scope-exported (seen see g) (seen-accepted see g good) n f s a b e

    all_seen : (es : List ℕ) (p q : Path) → AllVisible see g es → Scoped (Exported (seen_view see g)) (Exported (seen_view see g)) p.stacks → append_all bd (whole_view see g) p es ≡ ok q → append_all bd (seen_view see g) p es ≡ ok q
    unfolding append_all
    all_seen [] p q visible scoped h = h
    all_seen (e ∷ es) p q visible scoped h =
        let a = and_then-ok (append_under bd (whole_view see g) p e) (λ x. append_all bd (whole_view see g) x es) q h in
        let u = append_under-ok bd (whole_view see g) p a.0 e a.1 in
        let k = append-ok (whole_view see g) p a.0 e u.1 in
        let i = ends-seen see g e k.source k.target k.precedence k.found visible.0 in
        let j = edge_same see g e k.source k.target k.precedence k.found i.0 i.1 in
        let n = append-alike (whole_view see g) (seen_view see g) p a.0 e k.source k.target k.precedence k.found j (sym (node-same see g k.target.0 i.1)) (λ f s c b z was. attached-seen k.target.0 i.1 f s c b z)
        (λ s rest z was. (subst (Exported (seen_view see g)) z scoped.stack).0) u.1 in
        rw (under_of (seen_view see g) p a.0 e u.0 n) (all_seen es a.0 q visible.1 (append-scoped (seen_view see g) _ _ _ _ (exporting (seen_view see g)) p a.0 e n scoped) a.2)

    replay-seen : (r : ℕ) (l : List ℕ) (q : Path) → Sees see g r → AllVisible see g l → replay bd (whole_view see g) r l ≡ ok q → replay bd (seen_view see g) r l ≡ ok q
    replay-seen r l q seen_r visible h =
        let a = replay-ok bd (whole_view see g) r l q h in
        let b = begun-alike (whole_view see g) (seen_view see g) r a.0 (sym (node-same see g r seen_r)) (λ f s c b z was. attached-seen r seen_r f s c b z) a.1 in
        replay-of bd (seen_view see g) r l a.0 q b (all_seen l a.0 q visible (begun-scoped (seen_view see g) _ _ _ _ (exporting (seen_view see g)) r a.0 b tt) a.2)

    -- a reference from which a visible edge leaves is seen
    first-seen : (r e : ℕ) (es : List ℕ) (q : Path) → AllVisible see g (e ∷ es) → replay bd (whole_view see g) r (e ∷ es) ≡ ok q → Sees see g r
    unfolding append_all
    first-seen r e es q visible h =
        let a = replay-ok bd (whole_view see g) r (e ∷ es) q h in
        let b = and_then-ok (append_under bd (whole_view see g) a.0 e) (λ x. append_all bd (whole_view see g) x es) q a.2 in
        let k = append-ok (whole_view see g) a.0 b.0 e (append_under-ok bd (whole_view see g) a.0 b.0 e b.1).1 in
        subst (Sees see g) (eqb-true k.source.0 a.0.end k.leaves ∙ (begun (whole_view see g) r a.0 a.1).end) (ends-seen see g e k.source k.target k.precedence k.found visible.0).0

  replay-was : (r : ℕ) (l : List ℕ) (q : Path) → replay bd (seen_view see g) r l ≡ ok q → (replay bd (whole_view see g) r l ≡ ok q) × AllVisible see g l
  replay-was r l q h =
      let a = replay-ok bd (seen_view see g) r l q h in
      let b = begun-alike (seen_view see g) (whole_view see g) r a.0 (node-same see g r (begun-was r a.0 a.1)) (λ f s c b z. exported-was see g c.0) a.1 in
      let k = all-was l a.0 q a.2 in
      (replay-of bd (whole_view see g) r l a.0 q b k.0, k.1)

-- COMPLETE PATHS
module _ (see : ℕ → Bool) (g : Graph) where
  complete-was : (q : Path) → is_complete (seen_view see g) q ≡ true → is_complete (whole_view see g) q ≡ true
  complete-was q c =
      let k = complete-is (seen_view see g) q c in
      is-complete (whole_view see g) q (record { reference = (seen_test see g is_reference refl q.start k.reference).1; definition = (seen_test see g is_definition refl q.end k.definition).1; no-symbols = k.no-symbols; no-scopes = k.no-scopes })

  complete-seen : (q : Path) → Sees see g q.start → Sees see g q.end → is_complete (whole_view see g) q ≡ true → is_complete (seen_view see g) q ≡ true
  complete-seen q a b c =
      let k = complete-is (whole_view see g) q c in
      is-complete (seen_view see g) q (record { reference = ap is_reference (node-same see g q.start a) ∙ k.reference; definition = ap is_definition (node-same see g q.end b) ∙ k.definition; no-symbols = k.no-symbols; no-scopes = k.no-scopes })

  last-visible : (e : ℕ) (es : List ℕ) → AllVisible see g (e ∷ es) → Visible see g (last_of e es)
  unfolding last_of
  last-visible e [] a = a.0
  last-visible e (f ∷ es) a = last-visible f es a.1

  -- THE LISTS
  module _ (bd : Bounds) (lim : Limit) (r : ℕ) (l : List ℕ) where
    pub valid-was : Valid bd lim (view_of (seen see g)) r l → Valid bd lim (view_of g) r l × AllVisible see g l
    valid-was x =
        let k = replay-was see g bd r l x.path x.taken.replayed in
        (record { path = x.path; taken = record { replayed = k.0; distinct = x.taken.distinct; short = x.taken.short }; complete = complete-was x.path x.complete }, k.1)

    pub valid-seen : accepts g ≡ true → Valid bd lim (view_of g) r l → AllVisible see g l → Valid bd lim (view_of (seen see g)) r l
    valid-seen good x visible =
        let q = x.path in
        let c = complete-ends bd (view_of g) r l q x.taken.replayed x.complete in
        let d : AllVisible see g (c.0 ∷ c.1) = subst (AllVisible see g) c.2 visible in
        let h : replay bd (view_of g) r (c.0 ∷ c.1) ≡ ok q = subst (λ (m : List ℕ). replay bd (view_of g) r m ≡ ok q) c.2 x.taken.replayed in
        let seen_r = first-seen see g bd good r c.0 c.1 q d h in
        let t = c.3 in
        let seen_end : Sees see g q.end = subst (Sees see g) (sym t.end) (ends-seen see g (last_of c.0 c.1) t.source t.target t.precedence t.found (last-visible c.0 c.1 d)).1 in
        let a = replay-ok bd (view_of g) r l q x.taken.replayed in
        let start : q.start ≡ r = all_start bd (view_of g) l a.0 q a.2 ∙ (begun (view_of g) r a.0 a.1).start in
        record {
          path = q;
          taken = record { replayed = replay-seen see g bd good r l q seen_r visible x.taken.replayed; distinct = x.taken.distinct; short = x.taken.short };
          complete = complete-seen q (subst (Sees see g) (sym start) seen_r) seen_end x.complete;
        }

  -- an edge of what is seen lacks files there exactly when it does in the graph
  fileless-same : (e : ℕ) (s t : NodeId) (p : ℤ) → (seen_view see g).edge e ≡ E.Live s t p → is_fileless (seen_view see g) ((seen_view see g).edge e) ≡ is_fileless (whole_view see g) ((whole_view see g).edge e)
  unfolding is_fileless
  fileless-same e s t p h =
      let k = edge-was see g e s t p h in
      ap (is_fileless (seen_view see g)) h ∙ (rw (node-same see g s.0 k.1, node-same see g t.0 k.2) refl) ∙ sym (ap (is_fileless (whole_view see g)) k.0)

  filed-was : (l : List ℕ) → AllLive (seen_view see g) l → NoFileless (seen_view see g) l → NoFileless (whole_view see g) l
  filed-was [] a n = tt
  filed-was (e ∷ l) a n = let k = a.0 in (sym (fileless-same e k.0 k.1 k.2 k.3) ∙ n.0, filed-was l a.1 n.1)

  filed-seen : (l : List ℕ) → AllLive (seen_view see g) l → NoFileless (whole_view see g) l → NoFileless (seen_view see g) l
  filed-seen [] a n = tt
  filed-seen (e ∷ l) a n = let k = a.0 in (fileless-same e k.0 k.1 k.2 k.3 ∙ n.0, filed-seen l a.1 n.1)

-- DEMAND 3 AND ORDER 5 IN THE LISTS OF THE WHOLE GRAPH
module _ (widths : ℕ → ℕ) (bd : Bounds) (see : ℕ → Bool) (im words : List ℕ) (q q' : Request) where
  abbrev D : List (List ℕ)
  D = recorded_set bd (direct_recorded widths bd see im q)

  abbrev S : List (List ℕ)
  S = recorded_set bd (stitched_recorded widths bd see im words q')

  -- a valid list of the graph, with visible edges only
  abbrev pub VisibleList : Graph → List ℕ → Type 0
  VisibleList g l = Valid bd q.limits.length (view_of g) q.node l × AllVisible see g l

  module _ (p : Premises widths bd see im words q q') where
    d : Demand bd (view_of (seen see p.graph)) q.node q.limits.length D S
    d = demand-3 widths bd see im words q q' p

    good : accepts p.graph ≡ true
    good = image-accepted widths im p.graph p.accepted

    pub direct-visible : (l : List ℕ) → (Memᴰ l D → VisibleList p.graph l) × (VisibleList p.graph l → Memᴰ l D)
    direct-visible l = ((λ m. valid-was see p.graph bd _ _ l ((d.direct l).0 m)), (λ x. (d.direct l).1 (valid-seen see p.graph bd _ _ l good x.0 x.1)))

    pub stitched-visible : (l : List ℕ) → (Memᴰ l S → VisibleList p.graph l × NoFileless (view_of p.graph) l) × (VisibleList p.graph l × NoFileless (view_of p.graph) l → Memᴰ l S)
    stitched-visible l = (
      (λ m.
          let k = (d.stitched l).0 m in
          (valid-was see p.graph bd _ _ l k.0, filed-was see p.graph l (valid-live bd _ _ _ l k.0) k.1)),
      (λ x.
          let k = valid-seen see p.graph bd _ _ l good x.0.0 x.0.1 in
          (d.stitched l).1 (k, filed-seen see p.graph l (valid-live bd _ _ _ l k) x.1)),
    )

  module _ (p : AliasPremises widths bd see im words q q') where
    pub both-visible : (l : List ℕ) → (Memᴰ l D → VisibleList p.graph l) × (VisibleList p.graph l → Memᴰ l D) × (Memᴰ l S → VisibleList p.graph l) × (VisibleList p.graph l → Memᴰ l S)
    both-visible l =
        let d = demand-aliases widths bd see im words q q' p in
        let good = image-accepted widths im p.graph p.accepted in (
          (λ m. valid-was see p.graph bd _ _ l ((d.direct l).0 m)),
          (λ x. (d.direct l).1 (valid-seen see p.graph bd _ _ l good x.0 x.1)),
          (λ m. valid-was see p.graph bd _ _ l ((d.stitched l).0 m)),
          (λ x. (d.stitched l).1 (valid-seen see p.graph bd _ _ l good x.0 x.1)),
        )
