-- Demand 3 on graphs and slots: what direct and stitched search record, and when the two sets agree.
-- The third demand.
use Rattle.std.specs.Prelude.{ℕ, ◌≡◌, ◌⊎◌, Bool, List, [], ◌∷◌, ℤ}
use Rattle.std.proofs.Math.Path.{refl}
use Rattle.std.proofs.Common.{sym, ◌∙◌, ap, inl, inr, true≢false}
use Rattle.std.proofs.Math.Bool.{true, false}
use Rattle.std.proofs.Math.Option.{Option, none, some}
use Rattle.semantics.specs.declared.graph.NodeId.{NodeId}
use Rattle.semantics.specs.declared.graph.Edge.{Edge}
use Rattle.semantics.specs.declared.graph.Edge.TheVariants as E
use Rattle.semantics.specs.declared.refusal.SearchRefusal.{SearchRefusal}
use Rattle.semantics.specs.Lists.{and}
use Rattle.semantics.specs.Limits.{Bounds, Limit}
use Rattle.semantics.specs.Answer.{ok}
use Rattle.semantics.specs.Answer.Laws.{and_then-ok}
use Rattle.semantics.specs.Graph.{Graph, View, view_of, file_of, lacks_file, Lawful}
use Rattle.semantics.specs.Graph.Laws.{view_of-lawful}
use Rattle.semantics.specs.Path.{Path, append_under, append_all}
use Rattle.semantics.proofs.Theorems.Path.Laws.{append-ok, append_under-ok, replay-ok}
use Rattle.semantics.specs.Enumeration.{Setting, State}
use Rattle.semantics.specs.Recorded.{edge_lists, recorded}
use Rattle.semantics.specs.Direct.{direct}
use Rattle.semantics.proofs.Theorems.Direct.Laws.{direct-exact}
use Rattle.semantics.specs.PartialPaths.{Slot, belongs, is_of_file, is_fileless}
use Rattle.semantics.proofs.Theorems.PartialPaths.Laws.{belongs-cases, belongs-source, belongs-target}
use Rattle.semantics.specs.Stitching.{stitched}
use Rattle.semantics.proofs.Theorems.Stitching.Laws.{AllOwned, stitched-exact}
use Rattle.semantics.specs.Demand.{Agree, NoFileless, Valid, Owners, file_owners, Owned, Suited, Holds, Demand}

abbrev pub AllLive : View → List ℕ → Type 0
AllLive g [] = Unit {0}
AllLive g (e ∷ es) = ((s : NodeId) × (t : NodeId) × (p : ℤ) × (g.edge e ≡ E.Live s t p)) × AllLive g es

taken_live : (bd : Bounds) (g : View) (es : List ℕ) (p q : Path) → append_all bd g p es ≡ ok q → AllLive g es
unfolding append_all
taken_live bd g [] p q h = tt
taken_live bd g (e ∷ es) p q h =
    let a = and_then-ok (append_under bd g p e) (λ x. append_all bd g x es) q h in
    let k = append-ok g p a.0 e (append_under-ok bd g p a.0 e a.1).1 in
    ((k.source, k.target, k.precedence, k.found), taken_live bd g es a.0 q a.2)

-- every edge of a valid list is live
pub valid-live : (bd : Bounds) (lim : Limit) (g : View) (r : ℕ) (l : List ℕ) → Valid bd lim g r l → AllLive g l
valid-live bd lim g r l v =
    let a = replay-ok bd g r l v.path v.taken.replayed in
    taken_live bd g l a.0 v.path a.2

-- WITH THE FILES AS OWNERS an edge has an owner exactly when one of its ends has a file
module _ (g : Graph) (suited : Suited (view_of g) (file_owners g)) where
  owned-of : (e : ℕ) (s t : NodeId) (p : ℤ) → (view_of g).edge e ≡ E.Live s t p → is_fileless (view_of g) (E.Live s t p) ≡ false → Owned (file_owners g) e
  unfolding is_fileless lacks_file
  owned-of e s t p h n = on1 (file_of ((view_of g).node s.0)) refl n
    where
      on2 : (o : Option ℕ) → file_of ((view_of g).node t.0) ≡ o → lacks_file o ≡ false → Owned (file_owners g) e
      on2 none k m = absurd (true≢false m)
      on2 (some f) k m = (f, suited.home t.0 f k, belongs-target (view_of g) f e s t p h k)

      on1 : (o : Option ℕ) → file_of ((view_of g).node s.0) ≡ o → and (lacks_file o) (lacks_file (file_of ((view_of g).node t.0))) ≡ false → Owned (file_owners g) e
      on1 none k m = on2 (file_of ((view_of g).node t.0)) refl m
      on1 (some f) k m = (f, suited.home s.0 f k, belongs-source (view_of g) f e s t p h k)

  owned-not : (e : ℕ) → Owned (file_owners g) e → is_fileless (view_of g) ((view_of g).edge e) ≡ false
  unfolding belongs is_fileless lacks_file is_of_file
  owned-not e fd = on1 ((view_of g).edge e) refl
    where
      ends : (s t : NodeId) → (file_of ((view_of g).node s.0) ≡ some fd.0) ⊎ (file_of ((view_of g).node t.0) ≡ some fd.0) → and (lacks_file (file_of ((view_of g).node s.0))) (lacks_file (file_of ((view_of g).node t.0))) ≡ false
      ends s t (inl k) = rw k
      ends s t (inr k) = rw k (and-false (lacks_file (file_of ((view_of g).node s.0))))
        where
          and-false : (b : Bool) → and b false ≡ false
          and-false true = refl
          and-false false = refl

      on1 : (x : Edge) → (view_of g).edge e ≡ x → is_fileless (view_of g) x ≡ false
      on1 E.Removed k = refl
      on1 (E.Live s t p) k = ends s t (belongs-cases (view_of g) fd.0 e s t p k fd.2)

  none-fileless : (l : List ℕ) → AllOwned (file_owners g) l → NoFileless (view_of g) l
  none-fileless [] a = tt
  none-fileless (e ∷ l) a = (owned-not e a.0, none-fileless l a.1)

  all-owned : (l : List ℕ) → AllLive (view_of g) l → NoFileless (view_of g) l → AllOwned (file_owners g) l
  all-owned [] a n = tt
  all-owned (e ∷ l) a n = let k = a.0 in (owned-of e k.0 k.1 k.2 k.3 (ap (is_fileless (view_of g)) (sym k.3) ∙ n.0), all-owned l a.1 n.1)

-- WHAT THE TWO SEARCHES RECORD, for any owners and any lawful view
module _ (O : Owners) (g : View) (suited : Suited g O) (lawful : Lawful g) (bd : Bounds) (lim : Limit) (c c' : Setting SearchRefusal) (r : ℕ) (db : List Slot) (holds : Holds O bd g db) (d s : State Path)
    (hd : direct bd lim c g r ≡ ok d) (dn : d.stats.count_limited ≡ false) (dk : d.stats.complete_limited ≡ false)
    (hs : stitched bd lim c' g db r ≡ ok s) (sn : s.stats.count_limited ≡ false) (sk : s.stats.complete_limited ≡ false) where
  -- the two agree exactly when every edge of a valid list has an owner
  pub agreement : (Agree (edge_lists (recorded d)) (edge_lists (recorded s)) → (l : List ℕ) → Valid bd lim g r l → AllOwned O l)
      × (((l : List ℕ) → Valid bd lim g r l → AllOwned O l) → Agree (edge_lists (recorded d)) (edge_lists (recorded s)))
  agreement =
      let x = direct-exact bd lim c g lawful r d hd in
      let y = stitched-exact O bd lim c' g r db s holds suited hs in (
        (λ ag l v. (y.sound l (ag.to l (x.whole dn dk l v))).1),
        (λ all. record { to = λ l m. let v = x.sound l m in y.whole sn sk l v (all l v); from = λ l m. x.whole dn dk l (y.sound l m).0 }),
      )

-- DEMAND 3 on a graph and slots
module _ (g : Graph) (suited : Suited (view_of g) (file_owners g)) (bd : Bounds) (lim : Limit) (c c' : Setting SearchRefusal) (r : ℕ) (db : List Slot) (holds : Holds (file_owners g) bd (view_of g) db) (d s : State Path)
    (hd : direct bd lim c (view_of g) r ≡ ok d) (dn : d.stats.count_limited ≡ false) (dk : d.stats.complete_limited ≡ false)
    (hs : stitched bd lim c' (view_of g) db r ≡ ok s) (sn : s.stats.count_limited ≡ false) (sk : s.stats.complete_limited ≡ false) where
  pub demand-slots : Demand bd (view_of g) r lim (edge_lists (recorded d)) (edge_lists (recorded s))
  demand-slots =
      let x = direct-exact bd lim c (view_of g) (view_of-lawful g) r d hd in
      let y = stitched-exact (file_owners g) bd lim c' (view_of g) r db s holds suited hs in
      let z = agreement (file_owners g) (view_of g) suited (view_of-lawful g) bd lim c c' r db holds d s hd dn dk hs sn sk in
      record {
        direct = λ l. (x.sound l, x.whole dn dk l);
        direct-once = x.once;
        stitched = λ l. ((λ m. let k = y.sound l m in (k.0, none-fileless g suited l k.1)), (λ v. y.whole sn sk l v.0 (all-owned g suited l (valid-live bd lim (view_of g) r l v.0) v.1)));
        stitched-once = y.once;
        agree = ((λ ag l v. none-fileless g suited l (z.0 ag l v)), (λ all. z.1 (λ l v. all-owned g suited l (valid-live bd lim (view_of g) r l v) (all l v))));
      }

-- both orders of taking record the same set
pub orders-agree : (bd : Bounds) (lim : Limit) (c c' : Setting SearchRefusal) (g : View) (lawful : Lawful g) (r : ℕ) (u v : State Path) → direct bd lim c g r ≡ ok u → direct bd lim c' g r ≡ ok v
    → u.stats.count_limited ≡ false → u.stats.complete_limited ≡ false → v.stats.count_limited ≡ false → v.stats.complete_limited ≡ false → Agree (edge_lists (recorded u)) (edge_lists (recorded v))
orders-agree bd lim c c' g lawful r u v hu hv un uk vn vk =
    let x = direct-exact bd lim c g lawful r u hu in
    let y = direct-exact bd lim c' g lawful r v hv in
    record { to = λ l m. y.whole vn vk l (x.sound l m); from = λ l m. x.whole un uk l (y.sound l m) }
