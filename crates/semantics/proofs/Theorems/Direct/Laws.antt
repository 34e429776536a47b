-- What direct search records: every list of distinct edges within the length limit that the path rules take from the reference
-- to a definition with both stacks empty, no other, none twice. Demand 3 for direct search.
use Rattle.std.specs.Prelude.{ℕ, suc, Bool, ltb, length}
use Rattle.std.proofs.Common.{arith, sym, ◌∙◌, ⊎_elim}
use Rattle.std.proofs.Math.Path.{◌≡◌, refl, ap, subst}
use Rattle.std.proofs.Math.Bool.{true, false, true≢false}
use mathlib.Core.List.Memᴰ
use mathlib.Core.List.{List, [], ◌∷◌, ◌++◌, append_assoc, Memᴰ}
use Rattle.std.proofs.Math.ListN.{length-append}
use Rattle.semantics.specs.declared.refusal.PathRefusal.{PathRefusal}
use Rattle.semantics.specs.declared.refusal.ReplayRefusal.TheVariants as Replay
use Rattle.semantics.specs.declared.refusal.SearchRefusal.{SearchRefusal}
use Rattle.semantics.specs.declared.refusal.SearchRefusal.TheVariants as Search
use Rattle.semantics.specs.Lists.{has, Distinct}
use Rattle.semantics.specs.Lists.Laws.{distinct_snoc, distinct-split, map-mem, mem-map, length-snoc}
use Rattle.semantics.specs.Limits.{Bounds, within, Limit}
use Rattle.semantics.proofs.Theorems.Limits.Laws.{within-le, within-zero}
use Rattle.semantics.specs.Answer.{Answer, ok, refuse, wrap}
use Rattle.semantics.specs.Answer.Laws.{ok-inj, and_then-ok, wrap-ok}
use Rattle.semantics.specs.Graph.{View, Lawful}
use Rattle.semantics.specs.Path.{Path, append, append_under, append_all, replay, is_complete, from_reference}
use Rattle.semantics.proofs.Theorems.Path.Laws.{append-ok, begun, begun-incomplete, append_under-ok, append_under-is, replay-ok, replay_snoc, append_all-edges}
use Rattle.semantics.specs.Enumeration.{go, Setting, State, enumerate, tested}
use Rattle.semantics.specs.Enumeration.Laws.{Leads, here, on, enumerate-full, enumerate-sound, tested-go}
use Rattle.semantics.specs.Enumeration.Statistics.{Balanced, enumerate-balanced}
use Rattle.semantics.specs.Recorded.{edge_lists, distinct, recorded}
use Rattle.semantics.specs.Recorded.Laws.{Deduped, distinct-is, mem-lists}
use Rattle.semantics.specs.Direct.{extended, judge, tries, direct}
use Rattle.semantics.specs.Demand.{Taken, Valid, Once}

module _ {R : Type 0} (too_long : R) (bd : Bounds) (lim : Limit) (g : View) where
  -- the tests that an edge passed
  pub record Passed (p q : Path) (e : ℕ) (b : Bool) : Type 0 where
    pub fresh : has e p.edges ≡ false
    pub short : within (suc (length p.edges)) lim ≡ true
    pub room : ltb (length p.edges) bd.edges ≡ true
    pub appended : append g p e ≡ ok q
    pub complete : b ≡ is_complete g q

  pub judge-go : (p q : Path) (e : ℕ) (b : Bool) → judge too_long bd lim g p e ≡ go b q → Passed p q e b
  unfolding judge extended
  judge-go p q e b h =
      let t = tested-go (has e p.edges) (within (suc (length p.edges)) lim) (ltb (length p.edges) bd.edges) too_long (extended g (append g p e)) b q h in
      on t (append g p e) refl t.3
    where
      on : (has e p.edges ≡ false) × (within (suc (length p.edges)) lim ≡ true) × (ltb (length p.edges) bd.edges ≡ true) × (extended {R = R} g (append g p e) ≡ go b q) → (a : Answer PathRefusal Path) → append g p e ≡ a → extended {R = R} g a ≡ go b q → Passed p q e b
      on t (ok x) a k = record { fresh = t.0; short = t.1; room = t.2; appended = let z : x ≡ q = cc in a ∙ ap ok z; complete = cc }
      on t (refuse r) a k = absurd (let z : ◌≡◌ {A = Bool} true false = cc in true≢false z)

  pub judge-passed : (p q : Path) (e : ℕ) → has e p.edges ≡ false → within (suc (length p.edges)) lim ≡ true → ltb (length p.edges) bd.edges ≡ true → append g p e ≡ ok q → judge too_long bd lim g p e ≡ go (is_complete g q) q
  unfolding judge tested extended
  judge-passed p q e f w l a = rw (f, w, l, a)

module _ {R : Type 0} (too_long : R) (bd : Bounds) (lim : Limit) (g : View) (lawful : Lawful g) (r : ℕ) where
  pub step-taken : (p q : Path) (b : Bool) → Taken bd lim g r p.edges p → Memᴰ (go b q) (tries too_long bd lim g p) → Taken bd lim g r q.edges q × (b ≡ is_complete g q)
  unfolding tries
  step-taken p q b t m =
      let k = mem-map (judge too_long bd lim g p) (go b q) (g.out p.end) m in
      let h = judge-go too_long bd lim g p q k.0 b (sym k.2) in
      let a = append-ok g p q k.0 h.appended in (
        subst (λ l. Taken bd lim g r l q) (sym a.added.edges)
            (record {
              replayed = replay_snoc bd g r k.0 p.edges p q t.replayed (append_under-is bd g p k.0 h.room ∙ ap (wrap Replay.Path) h.appended);
              distinct = distinct_snoc p.edges k.0 t.distinct h.fresh;
              short = rw (length-snoc p.edges k.0) h.short;
            }),
        h.complete,
      )

  leads-taken : (p q : Path) → Taken bd lim g r p.edges p → Leads (tries too_long bd lim g) p q → Taken bd lim g r q.edges q × (is_complete g q ≡ true)
  leads-taken p q t (here m) = let k = step-taken p q true t m in (k.0, sym k.1)
  leads-taken p q t (on {u = x} b m l) = leads-taken x q (step-taken p x b t m).0 l

  first-try : (es : List ℕ) (e : ℕ) (p x : Path) → append_under bd g p e ≡ ok x → Distinct (p.edges ++ (e ∷ es)) → within (length (p.edges ++ (e ∷ es))) lim ≡ true → Memᴰ (go (is_complete g x) x) (tries too_long bd lim g p)
  unfolding tries
  first-try es e p x h d w =
      let a = append_under-ok bd g p x e h in
      let k = append-ok g p x e a.1 in
      let n = lawful.lists p.end e k.source k.target k.precedence k.found k.leaves in
      let s : within (suc (length p.edges)) lim ≡ true = within-le lim (suc (length p.edges)) (length (p.edges ++ (e ∷ es))) (omega (arith, length-append p.edges (e ∷ es))) w in
      rw (← judge-passed too_long bd lim g p x e (distinct-split p.edges e es d) s a.0 a.1) (map-mem (judge too_long bd lim g p) e (g.out p.end) n)

  leads-of : (es : List ℕ) (e : ℕ) (p q : Path) → append_all bd g p (e ∷ es) ≡ ok q → Distinct (p.edges ++ (e ∷ es)) → within (length (p.edges ++ (e ∷ es))) lim ≡ true → is_complete g q ≡ true → Leads (tries too_long bd lim g) p q
  unfolding append_all
  leads-of [] e p q h d w c =
      let a = and_then-ok (append_under bd g p e) (λ x. append_all bd g x []) q h in
      let z : a.0 ≡ q = ok-inj a.0 q a.2 in
      here (subst (λ b. Memᴰ (go b q) (tries too_long bd lim g p)) c (first-try [] e p q (a.1 ∙ ap ok z) d w))
  leads-of (f ∷ es) e p q h d w c =
      let a = and_then-ok (append_under bd g p e) (λ x. append_all bd g x (f ∷ es)) q h in
      let k = append-ok g p a.0 e (append_under-ok bd g p a.0 e a.1).1 in
      let l : a.0.edges ++ (f ∷ es) ≡ p.edges ++ (e ∷ f ∷ es) = ap (λ y. y ++ (f ∷ es)) k.added.edges ∙ append_assoc p.edges (e ∷ []) (f ∷ es) in
      on (is_complete g a.0) (first-try (f ∷ es) e p a.0 a.1 d w)
      (leads-of es f a.0 q a.2 (subst Distinct (sym l) d) (subst (λ y. within (length y) lim ≡ true) (sym l) w) c)

  -- from the initial path the search leads to the valid lists, and to no others
  pub led-valid : (p q : Path) → from_reference g r ≡ ok p → Leads (tries too_long bd lim g) p q → Valid bd lim g r q.edges
  unfolding replay append_all
  led-valid p q f l =
      let b = begun g r p f in
      let t : Taken bd lim g r p.edges p = subst (λ y. Taken bd lim g r y p) (sym b.edges) (record { replayed = rw f; distinct = tt; short = within-zero lim }) in
      let k = leads-taken p q t l in
      record { path = q; taken = k.0; complete = k.1 }

  pub valid-led : (l : List ℕ) → (v : Valid bd lim g r l) → (p : Path) × (from_reference g r ≡ ok p) × Leads (tries too_long bd lim g) p v.path × (v.path.edges ≡ l)
  unfolding replay append_all
  valid-led [] v =
      let a = replay-ok bd g r [] v.path v.taken.replayed in
      absurd (begun-incomplete g r v.path (begun g r v.path (a.1 ∙ ap ok (ok-inj a.0 v.path a.2))) v.complete)
  valid-led (e ∷ es) v =
      let a = replay-ok bd g r (e ∷ es) v.path v.taken.replayed in
      let b = begun g r a.0 a.1 in
      let k : a.0.edges ++ (e ∷ es) ≡ e ∷ es = ap (λ y. y ++ (e ∷ es)) b.edges in (
        a.0,
        a.1,
        leads-of es e a.0 v.path a.2 (subst Distinct (sym k) v.taken.distinct) (subst (λ y. within (length y) lim ≡ true) (sym k) v.taken.short) v.complete,
        append_all-edges bd g (e ∷ es) a.0 v.path a.2 ∙ k,
      )

pub direct-ok : (bd : Bounds) (lim : Limit) (c : Setting SearchRefusal) (g : View) (r : ℕ) (u : State Path) → direct bd lim c g r ≡ ok u → (p : Path) × (from_reference g r ≡ ok p) × (enumerate c (tries Search.TooLong bd lim g) bd.expansions (p ∷ []) ≡ ok u)
unfolding direct
direct-ok bd lim c g r u h =
    let a = and_then-ok (wrap Search.Path (from_reference g r)) (λ p. enumerate c (tries Search.TooLong bd lim g) bd.expansions (p ∷ [])) u h in
    (a.0, wrap-ok Search.Path (from_reference g r) a.0 a.1, a.2)

-- DEMAND 3, DIRECT SEARCH
pub record Exact (bd : Bounds) (lim : Limit) (g : View) (r : ℕ) (u : State Path) : Type 0 where
  pub sound : (l : List ℕ) → Memᴰ l (edge_lists (recorded u)) → Valid bd lim g r l
  pub whole : u.stats.count_limited ≡ false → u.stats.complete_limited ≡ false → (l : List ℕ) → Valid bd lim g r l → Memᴰ l (edge_lists (recorded u))
  pub once : Once (edge_lists (recorded u))

pub direct-exact : (bd : Bounds) (lim : Limit) (c : Setting SearchRefusal) (g : View) (lawful : Lawful g) (r : ℕ) (u : State Path) → direct bd lim c g r ≡ ok u → Exact bd lim g r u
unfolding direct recorded
direct-exact bd lim c g lawful r u h = record {
  sound = λ l m.
      let x = mem-lists l (distinct [] u.kept) m in
      let n : Memᴰ x.0 u.kept = ⊎_elim (λ z. absurd (Memᴰ.not-nil z)) (λ z. z) (d.old x.0 x.1) in
      let s = enumerate-sound c (tries Search.TooLong bd lim g) bd.expansions (a.0 ∷ []) u a.2 x.0 n in
      let w : s.0 ≡ a.0 = ⊎_elim (λ z. z) (λ z. absurd (Memᴰ.not-nil z)) (Memᴰ.cases_cons s.1) in
      subst (Valid bd lim g r) (sym x.2) (led-valid Search.TooLong bd lim g lawful r a.0 x.0 a.1 (subst (λ y. Leads (tries Search.TooLong bd lim g) y x.0) w s.2));
  whole = λ nc nk l v.
      let k = valid-led Search.TooLong bd lim g lawful r l v in
      let w : k.0 ≡ a.0 = ok-inj k.0 a.0 (sym k.1 ∙ a.1) in
      let n = enumerate-full c (tries Search.TooLong bd lim g) bd.expansions (a.0 ∷ []) u a.2 nc nk a.0 v.path (Memᴰ.head refl) (subst (λ y. Leads (tries Search.TooLong bd lim g) y v.path) w k.2) in
      subst (λ y. Memᴰ y (edge_lists (distinct [] u.kept))) k.3 (d.all v.path n);
  once = d.once tt;
}
  where
    a : (p : Path) × (from_reference g r ≡ ok p) × (enumerate c (tries Search.TooLong bd lim g) bd.expansions (p ∷ []) ≡ ok u)
    a = direct-ok bd lim c g r u h

    d : Deduped [] u.kept (distinct [] u.kept)
    d = distinct-is u.kept []

-- the two identities of document 01, "Budget and frontier"
pub direct-balanced : (bd : Bounds) (lim : Limit) (c : Setting SearchRefusal) (g : View) (r : ℕ) (u : State Path) → direct bd lim c g r ≡ ok u → Balanced 1 u
direct-balanced bd lim c g r u h = let a = direct-ok bd lim c g r u h in enumerate-balanced c (tries Search.TooLong bd lim g) bd.expansions (a.0 ∷ []) u a.2
