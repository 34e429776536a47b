-- Direct search keeps no list twice, so its complete count is how many lists the path rules take to a complete path.
-- Document 02, order 9: "how many lists of distinct edges reach a complete path".
use Rattle.std.specs.Prelude.{ℕ, ◌+◌, ◌<◌, ◌≡◌, refl, Bool, true, false, length}
use Rattle.std.proofs.Common.{arith, sym, ◌∙◌, ap, subst, ⊎_elim, length-append}
use mathlib.Core.List.Memᴰ
use mathlib.Core.List.{List, [], ◌∷◌, ◌++◌, map, Memᴰ}
use Rattle.semantics.specs.declared.refusal.SearchRefusal.{SearchRefusal}
use Rattle.semantics.specs.declared.refusal.SearchRefusal.TheVariants as Search
use Rattle.semantics.specs.Lists.Laws.{mem-map, map-mem}
use Rattle.semantics.specs.Limits.{Bounds, Limit}
use Rattle.semantics.specs.Answer.{ok}
use Rattle.semantics.specs.Graph.{View, Lawful, Ascending}
use Rattle.semantics.specs.Path.{Path}
use Rattle.semantics.proofs.Theorems.Path.Laws.{append-ok}
use Rattle.semantics.specs.Enumeration.{Try, cut, overlong, reject, stop, go, Setting, State}
use Rattle.semantics.specs.Enumeration.Laws.{new_of, pushed_of, news, pushes}
use Rattle.semantics.specs.Enumeration.Once.{enumerate-once}
use Rattle.semantics.specs.Direct.{judge, tries, direct}
use Rattle.semantics.proofs.Theorems.Direct.Laws.{judge-go, direct-ok}
use Rattle.semantics.specs.Demand.{Once}

abbrev key_of : Path → List ℕ
key_of p = p.edges

snoc-last : (k : List ℕ) (e d : ℕ) → k ++ (e ∷ []) ≡ k ++ (d ∷ []) → e ≡ d
snoc-last [] e d q = cc
snoc-last (x ∷ k) e d q = snoc-last k e d (tail_of q)
  where
    tail_of : x ∷ (k ++ (e ∷ [])) ≡ x ∷ (k ++ (d ∷ [])) → k ++ (e ∷ []) ≡ k ++ (d ∷ [])
    tail_of z = cc

module _ {R : Type 0} (too_long : R) (bd : Bounds) (lim : Limit) (g : View) (p : Path) where
  grows : (e : ℕ) (b : Bool) (q : Path) → judge too_long bd lim g p e ≡ go b q → q.edges ≡ p.edges ++ (e ∷ [])
  grows e b q h = (append-ok g p q e (judge-go too_long bd lim g p q e b h).appended).added.edges

  pushed-one : (e : ℕ) (t : Try R Path) → judge too_long bd lim g p e ≡ t → (q : Path) → Memᴰ q (pushed_of t) → q.edges ≡ p.edges ++ (e ∷ [])
  pushed-one e cut h q m = absurd (Memᴰ.not-nil m)
  pushed-one e overlong h q m = absurd (Memᴰ.not-nil m)
  pushed-one e reject h q m = absurd (Memᴰ.not-nil m)
  pushed-one e (stop r) h q m = absurd (Memᴰ.not-nil m)
  pushed-one e (go b x) h q m = ⊎_elim (λ (z : q ≡ x). ap (λ (y : Path). y.edges) z ∙ grows e b x h) (λ n. absurd (Memᴰ.not-nil n)) (Memᴰ.cases_cons m)

  -- each is the path with one of these edges more
  pushed_of_lem : (es : List ℕ) (q : Path) → Memᴰ q (pushes (map (judge too_long bd lim g p) es)) → (e : ℕ) × Memᴰ e es × (q.edges ≡ p.edges ++ (e ∷ []))
  pushed_of_lem [] q m = absurd (Memᴰ.not-nil m)
  pushed_of_lem (e ∷ es) q m =
      ⊎_elim (λ k. (e, Memᴰ.head refl, pushed-one e (judge too_long bd lim g p e) refl q k)) (λ k. let h = pushed_of_lem es q k in (h.0, Memᴰ.tail h.1, h.2))
      (Memᴰ.append_cases (pushed_of (judge too_long bd lim g p e)) m)

  new-pushed : (t : Try R Path) (q : Path) → Memᴰ q (new_of t) → Memᴰ q (pushed_of t)
  new-pushed cut q m = m
  new-pushed overlong q m = m
  new-pushed reject q m = m
  new-pushed (stop r) q m = m
  new-pushed (go true x) q m = m
  new-pushed (go false x) q m = absurd (Memᴰ.not-nil m)

  news-in : (es : List ℕ) (q : Path) → Memᴰ q (news (map (judge too_long bd lim g p) es)) → Memᴰ q (pushes (map (judge too_long bd lim g p) es))
  news-in [] q m = m
  news-in (e ∷ es) q m =
      ⊎_elim (λ k. Memᴰ.append_left (pushes (map (judge too_long bd lim g p) es)) (new-pushed (judge too_long bd lim g p e) q k))
      (λ k. Memᴰ.append_right (pushed_of (judge too_long bd lim g p e)) (news-in es q k)) (Memᴰ.append_cases (new_of (judge too_long bd lim g p e)) m)

  -- what stands behind an edge has a greater one
  fresh : (e : ℕ) (es : List ℕ) → ((y : ℕ) → Memᴰ y es → e < y) → (q : Path) → q.edges ≡ p.edges ++ (e ∷ []) → Memᴰ q.edges (map key_of (pushes (map (judge too_long bd lim g p) es))) → ⊥
  fresh e es h q k m =
      let a = mem-map key_of q.edges (pushes (map (judge too_long bd lim g p) es)) m in
      let b = pushed_of_lem es a.0 a.1 in
      let z : e ≡ b.0 = snoc-last p.edges e b.0 (sym k ∙ a.2 ∙ b.2) in
      let w = h b.0 b.1 in
      omega (arith, w, z)

  pushes-once : (es : List ℕ) → Ascending es → Once (map key_of (pushes (map (judge too_long bd lim g p) es)))
  pushes-once [] a = tt
  pushes-once (e ∷ es) a = on (judge too_long bd lim g p e) refl (pushes-once es a.1)
    where
      on : (t : Try R Path) → judge too_long bd lim g p e ≡ t → Once (map key_of (pushes (map (judge too_long bd lim g p) es))) → Once (map key_of (pushed_of t ++ pushes (map (judge too_long bd lim g p) es)))
      on cut h o = o
      on overlong h o = o
      on reject h o = o
      on (stop r) h o = o
      on (go b q) h o = ((λ m. fresh e es a.0 q (grows e b q h) m), o)

  news-once : (es : List ℕ) → Ascending es → Once (map key_of (news (map (judge too_long bd lim g p) es)))
  news-once [] a = tt
  news-once (e ∷ es) a = on (judge too_long bd lim g p e) refl (news-once es a.1)
    where
      among : (l : List ℕ) → Memᴰ l (map key_of (news (map (judge too_long bd lim g p) es))) → Memᴰ l (map key_of (pushes (map (judge too_long bd lim g p) es)))
      among l m =
          let k = mem-map key_of l (news (map (judge too_long bd lim g p) es)) m in
          subst (λ z. Memᴰ z (map key_of (pushes (map (judge too_long bd lim g p) es)))) (sym k.2) (map-mem key_of k.0 (pushes (map (judge too_long bd lim g p) es)) (news-in es k.0 k.1))

      on : (t : Try R Path) → judge too_long bd lim g p e ≡ t → Once (map key_of (news (map (judge too_long bd lim g p) es))) → Once (map key_of (new_of t ++ news (map (judge too_long bd lim g p) es)))
      on cut h o = o
      on overlong h o = o
      on reject h o = o
      on (stop r) h o = o
      on (go true q) h o = ((λ m. fresh e es a.0 q (grows e true q h) (among q.edges m)), o)
      on (go false q) h o = o

-- what an expansion finds has one edge more
pub new-length : {R : Type 0} (too_long : R) (bd : Bounds) (lim : Limit) (g : View) (p q : Path) → Memᴰ q (news (tries too_long bd lim g p)) → length q.edges ≡ length p.edges + 1
unfolding tries
new-length too_long bd lim g p q m =
    let k = pushed_of_lem too_long bd lim g p (g.out p.end) q (news-in too_long bd lim g p (g.out p.end) q m) in
    ap length k.2 ∙ length-append p.edges (k.0 ∷ [])

-- NO LIST IS KEPT TWICE
pub direct-once : (bd : Bounds) (lim : Limit) (c : Setting SearchRefusal) (g : View) (lawful : Lawful g) (r : ℕ) (u : State Path) → direct bd lim c g r ≡ ok u → u.stats.complete_limited ≡ false → u.stats.count_limited ≡ false → Once (map key_of u.kept)
unfolding tries
direct-once bd lim c g lawful r u h whole uncounted =
    let a = direct-ok bd lim c g r u h in
    enumerate-once key_of (tries Search.TooLong bd lim g)
    (λ w v m. let k = pushed_of_lem Search.TooLong bd lim g w (g.out w.end) v m in (k.0, k.2))
    (λ w v m. news-in Search.TooLong bd lim g w (g.out w.end) v m)
    (λ w. pushes-once Search.TooLong bd lim g w (g.out w.end) (lawful.ascends w.end))
    (λ w. news-once Search.TooLong bd lim g w (g.out w.end) (lawful.ascends w.end))
    c u whole uncounted bd.expansions a.0 a.2
