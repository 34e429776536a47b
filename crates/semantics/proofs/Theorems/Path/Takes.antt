-- A list is replayed exactly when the rules take it and it is within the bound, to the same end and stacks.
-- Document 01, "Partial paths": "path rules take a list from a reference when its edges, appended in order under "Path", meet no refusal".
use Rattle.std.specs.Prelude.{ℕ, ◌<◌, ◌≤◌, ◌≡◌}
use Rattle.std.proofs.Common.{arith, sym, ◌∙◌, lt-ltb}
use Rattle.std.proofs.Math.Path.{refl, ap, subst}
use mathlib.Core.List.{List, [], ◌∷◌, ◌++◌, append-nil, append_assoc}
use Rattle.std.proofs.Math.ListN.{length, length-append}
use Rattle.semantics.specs.Limits.{Bounds}
use Rattle.semantics.specs.Answer.{Answer, ok, wrap}
use Rattle.semantics.specs.Answer.Laws.{ok-inj, and_then-ok}
use Rattle.semantics.specs.Graph.{View}
use Rattle.semantics.specs.declared.refusal.ReplayRefusal.TheVariants as Replay
use Rattle.semantics.specs.declared.refusal.PathRefusal.{PathRefusal}
use Rattle.semantics.specs.Path.{Stacks, Path, append_under, append_all, replay}
use Rattle.semantics.proofs.Theorems.Path.Laws.{append_under-ok, append_under-is, append_all-edges, append_all-bound, begun, replay-ok, replay-of, replay_snoc}
use Rattle.semantics.proofs.Theorems.Path.Rules.{steps-append, append-steps, begins-start, start-begins}
use Rattle.semantics.specs.Rules.{Steps, Takes, nothing, one_more}

-- a replayed path ends so, with these stacks and with just these edges
pub record Ends (bd : Bounds) (g : View) (r : ℕ) (l : List ℕ) (n : ℕ) (S : Stacks) : Type 0 where
  pub path : Path
  pub replayed : replay bd g r l ≡ ok path
  pub end : path.end ≡ n
  pub stacks : path.stacks ≡ S

module _ (bd : Bounds) (g : View) (r : ℕ) where
  pub replay-edges : (l : List ℕ) (q : Path) → replay bd g r l ≡ ok q → q.edges ≡ l
  replay-edges l q h =
      let a = replay-ok bd g r l q h in
      let b = begun g r a.0 a.1 in
      append_all-edges bd g l a.0 q a.2 ∙ ap (λ (x : List ℕ). x ++ l) b.edges

  pub takes-replay : (l : List ℕ) (n : ℕ) (S : Stacks) → Takes g r l n S → length l ≤ bd.edges → Ends bd g r l n S
  unfolding append_all
  takes-replay l n S (nothing {S = T} b) few = record { path = _; replayed = replay-of bd g r [] _ _ (begins-start g r T b) refl; end = refl; stacks = refl }
  takes-replay l m T (one_more {l = l'} {n = n} {e = e} {m = m'} {S = S} {T = T'} t s) few =
      let k : length l' < bd.edges = omega (arith, few, length-append l' (e ∷ [])) in
      let p = takes-replay l' n S t (omega (arith, k)) in
      let q = steps-append g p.path e m' T' (subst (λ x. Steps g x p.path.stacks e m' T') (sym p.end) (subst (λ (x : Stacks). Steps g n x e m' T') (sym p.stacks) s)) in
      let z : length p.path.edges ≡ length l' = ap length (replay-edges l' p.path p.replayed) in
      let u : append_under bd g p.path e ≡ ok q.0 = append_under-is bd g p.path e (lt-ltb (length p.path.edges) bd.edges (omega (arith, z, k))) ∙ ap (λ (a : Answer PathRefusal Path). wrap Replay.Path a) q.1 in
      record { path = q.0; replayed = replay_snoc bd g r e l' p.path q.0 p.replayed u; end = q.2; stacks = q.3 }

  -- what is appended is taken
  all-takes : (es l : List ℕ) (p q : Path) → Takes g r l p.end p.stacks → append_all bd g p es ≡ ok q → Takes g r (l ++ es) q.end q.stacks
  unfolding append_all
  all-takes [] l p q t h = subst (λ (x : List ℕ). Takes g r x q.end q.stacks) (sym (append-nil l)) (subst (λ (x : Path). Takes g r l x.end x.stacks) (ok-inj p q h) t)
  all-takes (e ∷ es) l p q t h =
      let a = and_then-ok (append_under bd g p e) (λ x. append_all bd g x es) q h in
      let u = append_under-ok bd g p a.0 e a.1 in
      subst (λ (x : List ℕ). Takes g r x q.end q.stacks) (append_assoc l (e ∷ []) es) (all-takes es (l ++ (e ∷ [])) a.0 q (one_more t (append-steps g p e a.0 u.1)) a.2)

  pub replay-takes : (l : List ℕ) (q : Path) → replay bd g r l ≡ ok q → Takes g r l q.end q.stacks × (length l ≤ bd.edges)
  replay-takes l q h =
      let a = replay-ok bd g r l q h in
      let b = begun g r a.0 a.1 in
      let s = start-begins g r a.0 a.1 in
      let z : length a.0.edges ≡ 0 = ap length b.edges in
      let m = append_all-bound bd g l a.0 q (omega (arith, z)) a.2 in
      (all-takes l [] a.0 q (subst (λ x. Takes g r [] x a.0.stacks) (sym b.end) (nothing s.0)) a.2, omega (arith, m, z))

  -- EXACTLY: replayed, to this end and these stacks, where the rules take the list there and it is within the bound
  pub replay-exactly : (l : List ℕ) (n : ℕ) (S : Stacks) → (Ends bd g r l n S → Takes g r l n S × (length l ≤ bd.edges)) × (Takes g r l n S × (length l ≤ bd.edges) → Ends bd g r l n S)
  replay-exactly l n S = (to, λ t. takes-replay l n S t.0 t.1)
    where
      to : Ends bd g r l n S → Takes g r l n S × (length l ≤ bd.edges)
      to e = let k = replay-takes l e.path e.replayed in (subst (λ (x : Stacks). Takes g r l n x) e.stacks (subst (λ x. Takes g r l x e.path.stacks) e.end k.0), k.1)
