-- Paths and their edge lists lose the same copies and the same shadowed ones.
-- Serves document 01, "Answer": `from_complete`.
use Rattle.std.specs.Prelude.{ℕ, suc, ◌≡◌, Bool, not, length}
use Rattle.std.proofs.Math.Path.{refl, ap₂}
use Rattle.std.proofs.Common.{sym, ap, ◌∙◌, subst, ⊎_elim, true≢false}
use Rattle.std.proofs.Math.Bool.{true, false}
use mathlib.Core.List.Memᴰ
use mathlib.Core.List.{List, [], ◌∷◌, ◌++◌, Memᴰ, append-nil, append_assoc}
use Rattle.semantics.specs.Lists.{or, and, same}
use Rattle.semantics.specs.Lists.Laws.{same-eq}
use Rattle.semantics.specs.Limits.{Bounds}
use Rattle.semantics.specs.Answer.{ok}
use Rattle.semantics.specs.Graph.{View}
use Rattle.semantics.specs.Path.{Path, replay, shadows}
use Rattle.semantics.specs.Enumeration.{State}
use Rattle.semantics.specs.Recorded.{edge_lists, has_path, add_unless, distinct, beaten, cons_unless, unbeaten, recorded, returned}
use Rattle.semantics.specs.Recorded.Laws.{distinct-is}
use Rattle.semantics.specs.Demand.{Once}
use Rattle.path.specs.Shadows.{shadows_edges}
use Rattle.path.specs.Shadows.Laws.{JumpAt, shadows-edges}
use Rattle.reply.specs.EdgeLists.{has_list, seen_with, distinct_lists, beaten_list, unbeaten_lists}

pub length-lists : (ps : List Path) → length (edge_lists ps) ≡ length ps
length-lists [] = refl
length-lists (p ∷ ps) = ap suc (length-lists ps)

-- ---- copies

has-lists : (p : Path) (ps : List Path) → has_path p ps ≡ has_list p.edges (edge_lists ps)
unfolding has_path has_list
has-lists p [] = refl
has-lists p (q ∷ qs) = ap (or (same p.edges q.edges)) (has-lists p qs)

lists-snoc : (ps : List Path) (p : Path) → edge_lists (ps ++ (p ∷ [])) ≡ edge_lists ps ++ (p.edges ∷ [])
lists-snoc [] p = refl
lists-snoc (q ∷ ps) p = ap (λ (y : List (List ℕ)). q.edges ∷ y) (lists-snoc ps p)

pub distinct-lists : (seen ps : List Path) → edge_lists (distinct seen ps) ≡ distinct_lists (edge_lists seen) (edge_lists ps)
unfolding distinct distinct_lists
distinct-lists seen [] = refl
distinct-lists seen (p ∷ ps) = on (has_path p seen) (has-lists p seen) (λ s. distinct-lists s ps)
  where
    on : (b : Bool) → b ≡ has_list p.edges (edge_lists seen) → ((s : List Path) → edge_lists (distinct s ps) ≡ distinct_lists (edge_lists s) (edge_lists ps))
        → edge_lists (distinct (add_unless b seen p) ps) ≡ distinct_lists (seen_with (edge_lists seen) p.edges) (edge_lists ps)
    on true e ih = rw (← e) (ih seen)
    on false e ih = rw (← e) (ih (seen ++ (p ∷ [])) ∙ ap (λ (y : List (List ℕ)). distinct_lists y (edge_lists ps)) (lists-snoc seen p))

pub length-distinct : (seen ps : List Path) → length (distinct_lists (edge_lists seen) (edge_lists ps)) ≡ length (distinct seen ps)
length-distinct seen ps = ap length (sym (distinct-lists seen ps)) ∙ length-lists (distinct seen ps)

-- ---- beaten paths, by a test on paths that is one on their edges

module _ (beats : Path → Path → Bool) (lists : List ℕ → List ℕ → Bool) where
  beaten-lists : (p : Path) (qs : List Path) → ((q : Path) → Memᴰ q qs → beats q p ≡ lists q.edges p.edges) → beaten beats p qs ≡ beaten_list lists p.edges (edge_lists qs)
  unfolding beaten beaten_list
  beaten-lists p [] h = refl
  beaten-lists p (q ∷ qs) h =
      ap₂ (λ (a b : Bool). or (and (not (same p.edges q.edges)) a) b) (h q (Memᴰ.head refl)) (beaten-lists p qs (λ x m. h x (Memᴰ.tail m)))

  pub unbeaten-lists : (all ps : List Path) → ((q p : Path) → Memᴰ q all → Memᴰ p ps → beats q p ≡ lists q.edges p.edges)
      → edge_lists (unbeaten beats all ps) ≡ unbeaten_lists lists (edge_lists all) (edge_lists ps)
  unfolding unbeaten unbeaten_lists
  unbeaten-lists all [] h = refl
  unbeaten-lists all (p ∷ ps) h =
      on (beaten beats p all) (beaten-lists p all (λ q m. h q p m (Memᴰ.head refl))) (unbeaten-lists all ps (λ q x m n. h q x m (Memᴰ.tail n)))
    where
      on : (b : Bool) → b ≡ beaten_list lists p.edges (edge_lists all) → edge_lists (unbeaten beats all ps) ≡ unbeaten_lists lists (edge_lists all) (edge_lists ps)
          → edge_lists (cons_unless b p (unbeaten beats all ps)) ≡ unbeaten_lists lists (edge_lists all) (edge_lists (p ∷ ps))
      on true e k = rw (← e) k
      on false e k = rw (← e) (ap (λ (y : List (List ℕ)). p.edges ∷ y) k)

-- ---- shadowed paths

-- each is the path that its edges replay to
abbrev pub Replays : Bounds → View → List Path → Type 0
Replays bd g ps = (p : Path) → Memᴰ p ps → (r : ℕ) × (replay bd g r p.edges ≡ ok p)

module _ (bd : Bounds) (g : View) (j : JumpAt g) where
  pub unshadowed-lists : (all ps : List Path) → Replays bd g all → Replays bd g ps → edge_lists (unbeaten shadows all ps) ≡ unbeaten_lists (shadows_edges g.edge) (edge_lists all) (edge_lists ps)
  unshadowed-lists all ps a b = unbeaten-lists shadows (shadows_edges g.edge) all ps on
    where
      on : (q p : Path) → Memᴰ q all → Memᴰ p ps → shadows q p ≡ shadows_edges g.edge q.edges p.edges
      on q p m n = let x = a q m in let y = b p n in shadows-edges j bd x.0 y.0 q.edges p.edges q p x.1 y.1

  pub length-unshadowed : (all ps : List Path) → Replays bd g all → Replays bd g ps → length (unbeaten_lists (shadows_edges g.edge) (edge_lists all) (edge_lists ps)) ≡ length (unbeaten shadows all ps)
  length-unshadowed all ps a b = ap length (sym (unshadowed-lists all ps a b)) ∙ length-lists (unbeaten shadows all ps)

-- ---- the end of a search

-- every recorded path was kept
pub recorded-kept : (s : State Path) (p : Path) → Memᴰ p (recorded s) → Memᴰ p s.kept
unfolding recorded
recorded-kept s p m = ⊎_elim (λ n. absurd (Memᴰ.not-nil n)) (λ n. n) ((distinct-is s.kept []).old p m)

pub recorded-lists : (s : State Path) → edge_lists (recorded s) ≡ distinct_lists [] (edge_lists s.kept)
unfolding recorded
recorded-lists s = distinct-lists [] s.kept

pub returned-lists : (bd : Bounds) (g : View) → JumpAt g → (s : State Path) → Replays bd g s.kept
    → edge_lists (returned s) ≡ unbeaten_lists (shadows_edges g.edge) (edge_lists (recorded s)) (edge_lists (recorded s))
unfolding returned
returned-lists bd g j s k = unshadowed-lists bd g j (recorded s) (recorded s) own own
  where
    own : Replays bd g (recorded s)
    own p m = k p (recorded-kept s p m)

-- ---- a search that makes no copies

once-not : (x : List ℕ) (ls ms : List (List ℕ)) → Once (ls ++ (x ∷ ms)) → Memᴰ x ls → ⊥
once-not x [] ms o x3 = elim x3 [ ]
once-not x (l ∷ ls) ms o (Memᴰ.head e) = o.0 (Memᴰ.append_right ls (Memᴰ.head (sym e)))
once-not x (l ∷ ls) ms o (Memᴰ.tail m) = once-not x ls ms o.1 m

lists-append : (ps qs : List Path) → edge_lists (ps ++ qs) ≡ edge_lists ps ++ edge_lists qs
lists-append [] qs = refl
lists-append (p ∷ ps) qs = ap (λ (y : List (List ℕ)). p.edges ∷ y) (lists-append ps qs)

has-mem : (p : Path) (ps : List Path) → has_path p ps ≡ true → Memᴰ p.edges (edge_lists ps)
unfolding has_path
has-mem p [] e = absurd (true≢false (sym e))
has-mem p (q ∷ qs) e = on (same p.edges q.edges) refl e (λ k. has-mem p qs k)
  where
    on : (b : Bool) → same p.edges q.edges ≡ b → or b (has_path p qs) ≡ true → (has_path p qs ≡ true → Memᴰ p.edges (edge_lists qs)) → Memᴰ p.edges (edge_lists (q ∷ qs))
    on true f k ih = Memᴰ.head (same-eq p.edges q.edges f)
    on false f k ih = Memᴰ.tail (ih k)

distinct-all : (seen ps : List Path) → Once (edge_lists (seen ++ ps)) → distinct seen ps ≡ seen ++ ps
unfolding distinct
distinct-all seen [] o = sym (append-nil seen)
distinct-all seen (p ∷ ps) o = on (has_path p seen) refl (λ s. distinct-all s ps)
  where
    on : (b : Bool) → has_path p seen ≡ b → ((s : List Path) → Once (edge_lists (s ++ ps)) → distinct s ps ≡ s ++ ps) → distinct (add_unless b seen p) ps ≡ seen ++ (p ∷ ps)
    on true e ih = absurd (once-not p.edges (edge_lists seen) (edge_lists ps) (subst Once (lists-append seen (p ∷ ps)) o) (has-mem p seen e))
    on false e ih = let q : seen ++ (p ∷ []) ++ ps ≡ seen ++ (p ∷ ps) = append_assoc seen (p ∷ []) ps in ih (seen ++ (p ∷ [])) (subst (λ (l : List Path). Once (edge_lists l)) (sym q) o) ∙ q

-- where no list was kept twice, all are recorded
pub recorded-all : (s : State Path) → Once (edge_lists s.kept) → recorded s ≡ s.kept
unfolding recorded
recorded-all s o = distinct-all [] s.kept o
