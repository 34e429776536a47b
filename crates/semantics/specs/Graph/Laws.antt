-- The view of every graph is lawful; what the kinds of nodes have to do with one another.
-- Document 01, "Graph image": `outgoing`; serves demand 3.
use Rattle.std.specs.Prelude.{ℕ, zero, suc, ◌+◌, ◌<◌, ◌≡◌, refl, ◌⊎◌, Bool, true, false, eqb, get_or, ℤ}
use Rattle.std.proofs.Common.{add-zero, zero-add, add-suc, suc-add, arith, sym, ◌∙◌, ap, inl, inr, ⊎_elim, true≢false}
use Rattle.std.proofs.lemmas.Bool.{false≢true}
use Rattle.std.proofs.Math.Option.{some}
use mathlib.Core.List.Memᴰ
use mathlib.Core.List.{List, [], ◌∷◌, Memᴰ}
use Rattle.semantics.specs.declared.graph.NodeId.{NodeId}
use Rattle.semantics.specs.declared.graph.Node.{Node}
use Rattle.semantics.specs.declared.graph.Node.TheVariants as N
use Rattle.semantics.specs.declared.graph.Edge.{Edge}
use Rattle.semantics.specs.declared.graph.Edge.TheVariants as E
use Rattle.semantics.specs.Lists.{cons_if, or}
use Rattle.semantics.specs.Lists.Laws.{eqb-true, cons_if-tail, cons_if-cases, or-true}
use Rattle.semantics.specs.Graph.{node_id, Graph, view_of, outgoing, traits, file_of, lacks_file, is_reference, is_definition, is_exported, is_start, is_endpoint, Ascending, Lawful}

out-has : (n i k : ℕ) (s t : NodeId) (p : ℤ) (es : List Edge) → get_or es k E.Removed ≡ E.Live s t p → eqb s.0 n ≡ true → Memᴰ (i + k) (outgoing n i es)
unfolding outgoing
out-has n i k s t p [] e h = absurd (let z : ◌≡◌ {A = Bool} true false = cc in true≢false z)
out-has n i zero s t p (E.Removed ∷ es) e h = absurd (let z : ◌≡◌ {A = Bool} true false = cc in true≢false z)
out-has n i (suc k) s t p (E.Removed ∷ es) e h = rw (add-suc i k, ← suc-add i k) (out-has n (suc i) k s t p es e h)
out-has n i zero s t p (E.Live s' t' p' ∷ es) e h =
    let q : s' ≡ s = cc in
    rw (add-zero, q, h) (Memᴰ.head refl)
out-has n i (suc k) s t p (E.Live s' t' p' ∷ es) e h = cons_if-tail (eqb s'.0 n) i (i + suc k) _ (rw (add-suc i k, ← suc-add i k) (out-has n (suc i) k s t p es e h))

record Outgoing (es : List Edge) (n i e : ℕ) : Type 0 where
  pub place : ℕ
  pub target : NodeId
  pub precedence : ℤ
  pub number : e ≡ i + place
  pub found : get_or es place E.Removed ≡ E.Live (node_id n) target precedence

out-later : (x : Edge) (es : List Edge) (n i e : ℕ) → Outgoing es n (suc i) e → Outgoing (x ∷ es) n i e
out-later x es n i e o = record { place = suc o.place; target = o.target; precedence = o.precedence; number = o.number ∙ suc-add i o.place ∙ sym (add-suc i o.place); found = o.found }

out-is : (n i e : ℕ) (es : List Edge) → Memᴰ e (outgoing n i es) → Outgoing es n i e
unfolding outgoing
out-is n i e [] m = absurd (Memᴰ.not-nil m)
out-is n i e (E.Removed ∷ es) m = out-later E.Removed es n i e (out-is n (suc i) e es m)
out-is n i e (E.Live s t p ∷ es) m =
    ⊎_elim (λ h. record { place = 0; target = t; precedence = p; number = h.0 ∙ sym (add-zero i); found = ap (λ x. E.Live (node_id x) t p) (eqb-true s.0 n h.1) })
    (λ k. out-later (E.Live s t p) es n i e (out-is n (suc i) e es k)) (cons_if-cases (eqb s.0 n) i e (outgoing n (suc i) es) m)

pub cons_if-ascends : (b : Bool) (x : ℕ) (l : List ℕ) → ((y : ℕ) → Memᴰ y l → x < y) → Ascending l → Ascending (cons_if b x l)
cons_if-ascends true x l h a = (h, a)
cons_if-ascends false x l h a = a

out-ascends : (n i : ℕ) (es : List Edge) → Ascending (outgoing n i es)
unfolding outgoing
out-ascends n i [] = tt
out-ascends n i (E.Removed ∷ es) = out-ascends n (suc i) es
out-ascends n i (E.Live s t p ∷ es) = cons_if-ascends (eqb s.0 n) i (outgoing n (suc i) es) (λ y m. let o = out-is n (suc i) y es m in omega (arith, o.number)) (out-ascends n (suc i) es)

pub view_of-lawful : (g : Graph) → Lawful (view_of g)
unfolding view_of
view_of-lawful g = record {
  lists = λ n e s t p f h. rw zero-add at (out-has n 0 e s t p g.edges f h);
  live = λ n e m.
      let o = out-is n 0 e g.edges m in
      let k : e ≡ o.place = o.number ∙ zero-add o.place in
      (o.target, o.precedence, ap (λ x. get_or g.edges x E.Removed) k ∙ o.found);
  ascends = λ n. out-ascends n 0 g.edges;
}

-- kinds of nodes
pub reference-only : (n : Node) → is_reference n ≡ true → is_definition n ≡ false
reference-only N.Removed e = refl
reference-only N.Root e = refl
reference-only N.JumpToScope e = refl
reference-only (N.Scope f x) e = refl
reference-only (N.Push f s r) e = refl
reference-only (N.Pop f s d) e = absurd (false≢true e)
reference-only (N.PushScoped f s a r) e = refl
reference-only (N.PopScoped f s d) e = absurd (false≢true e)
reference-only (N.DropScopes f) e = refl

pub exported-start : (n : Node) → is_exported n ≡ true → (f : ℕ) × (file_of n ≡ some f) × (is_start n ≡ true)
exported-start N.Removed e = absurd (false≢true e)
exported-start N.Root e = absurd (false≢true e)
exported-start N.JumpToScope e = absurd (false≢true e)
exported-start (N.Scope f x) e = (f.0, refl, rw e)
exported-start (N.Push f s r) e = absurd (false≢true e)
exported-start (N.Pop f s d) e = absurd (false≢true e)
exported-start (N.PushScoped f s a r) e = absurd (false≢true e)
exported-start (N.PopScoped f s d) e = absurd (false≢true e)
exported-start (N.DropScopes f) e = absurd (false≢true e)

pub reference-start : (n : Node) → is_reference n ≡ true → (f : ℕ) × (file_of n ≡ some f) × (is_start n ≡ true)
reference-start N.Removed e = absurd (false≢true e)
reference-start N.Root e = absurd (false≢true e)
reference-start N.JumpToScope e = absurd (false≢true e)
reference-start (N.Scope f x) e = absurd (false≢true e)
reference-start (N.Push f s r) e = (f.0, refl, e)
reference-start (N.Pop f s d) e = absurd (false≢true e)
reference-start (N.PushScoped f s a r) e = (f.0, refl, e)
reference-start (N.PopScoped f s d) e = absurd (false≢true e)
reference-start (N.DropScopes f) e = absurd (false≢true e)

pub definition-endpoint : (n : Node) → is_definition n ≡ true → is_endpoint n ≡ true
definition-endpoint n e = rw e (ap (or (traits n).shared) (or-true (traits n).exported) ∙ or-true (traits n).shared)

-- the endpoints are root, jump, the exported scopes and the definitions, and no others
pub endpoint-cases : (n : Node) → is_endpoint n ≡ true → (n ≡ N.Root) ⊎ (n ≡ N.JumpToScope) ⊎ (is_exported n ≡ true) ⊎ (is_definition n ≡ true)
endpoint-cases N.Removed e = absurd (false≢true e)
endpoint-cases N.Root e = inl refl
endpoint-cases N.JumpToScope e = inr (inl refl)
endpoint-cases (N.Scope f x) e = inr (inr (inl (exported-alone x e)))
  where
    exported-alone : (x : Bool) → or x false ≡ true → x ≡ true
    exported-alone true e = refl
    exported-alone false e = e
endpoint-cases (N.Push f s r) e = absurd (false≢true e)
endpoint-cases (N.Pop f s d) e = inr (inr (inr e))
endpoint-cases (N.PushScoped f s a r) e = absurd (false≢true e)
endpoint-cases (N.PopScoped f s d) e = inr (inr (inr e))
endpoint-cases (N.DropScopes f) e = absurd (false≢true e)

pub exported-endpoint : (n : Node) → is_exported n ≡ true → is_endpoint n ≡ true
exported-endpoint n e = rw e (or-true (traits n).shared)

-- of live nodes only root and jump lack a file
pub fileless-shared : (n : Node) → (traits n).removed ≡ false → lacks_file (file_of n) ≡ true → (n ≡ N.Root) ⊎ (n ≡ N.JumpToScope)
unfolding lacks_file
fileless-shared N.Removed l e = absurd (false≢true (sym l))
fileless-shared N.Root l e = inl refl
fileless-shared N.JumpToScope l e = inr refl
fileless-shared (N.Scope f x) l e = absurd (false≢true e)
fileless-shared (N.Push f s r) l e = absurd (false≢true e)
fileless-shared (N.Pop f s d) l e = absurd (false≢true e)
fileless-shared (N.PushScoped f s a r) l e = absurd (false≢true e)
fileless-shared (N.PopScoped f s d) l e = absurd (false≢true e)
fileless-shared (N.DropScopes f) l e = absurd (false≢true e)

-- ascending lists with the same numbers are equal
pub ascending-same : (l m : List ℕ) → Ascending l → Ascending m → ((x : ℕ) → Memᴰ x l → Memᴰ x m) → ((x : ℕ) → Memᴰ x m → Memᴰ x l) → l ≡ m
ascending-same [] [] a b f g = refl
ascending-same [] (y ∷ m) a b f g = absurd (Memᴰ.not-nil (g y (Memᴰ.head refl)))
ascending-same (x ∷ l) [] a b f g = absurd (Memᴰ.not-nil (f x (Memᴰ.head refl)))
ascending-same (x ∷ l) (y ∷ m) a b f g = joined (ascending-same l m a.1 b.1 onward back)
  where
    heads : x ≡ y
    heads = ⊎_elim (λ e. e) (λ k. ⊎_elim (λ (e : y ≡ x). sym e) (λ j. absurd (let p = b.0 x k in let q = a.0 y j in omega (arith, p, q))) (Memᴰ.cases_cons (g y (Memᴰ.head refl)))) (Memᴰ.cases_cons (f x (Memᴰ.head refl)))

    onward : (z : ℕ) → Memᴰ z l → Memᴰ z m
    onward z k = ⊎_elim (λ (e : z ≡ y). absurd (let p = a.0 z k in omega (arith, p, e, heads))) (λ j. j) (Memᴰ.cases_cons (f z (Memᴰ.tail k)))

    back : (z : ℕ) → Memᴰ z m → Memᴰ z l
    back z k = ⊎_elim (λ (e : z ≡ x). absurd (let p = b.0 z k in omega (arith, p, e, heads))) (λ j. j) (Memᴰ.cases_cons (g z (Memᴰ.tail k)))

    joined : l ≡ m → x ∷ l ≡ y ∷ m
    joined e = let h = heads in cc
