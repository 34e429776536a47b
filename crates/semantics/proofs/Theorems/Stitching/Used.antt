-- The Rust's stitched search keeps the numbers of the partial paths used: on every database whose live slots have an edge, as 35 sees to,
-- it runs as the one without them. Document 01, "Partial paths": "one already used, or sharing an edge, is a cycle cut".
use Rattle.std.specs.Prelude.{ℕ, zero, suc, ◌+◌, ◌≤◌, ◌≡◌, Bool, true, false, eqb, length}
use Rattle.std.proofs.Common.{add-zero, zero-add, add-suc, suc-add, ◌∙◌, ap₂, true≢false}
use Rattle.std.proofs.Math.Path.{refl, sym, ap, subst}
use Rattle.std.proofs.lemmas.Bool.{false≢true}
use mathlib.Core.List.{List, [], ◌∷◌, ◌++◌, map, Memᴰ}
use Rattle.std.proofs.Math.ListN.{get_or}
use Rattle.semantics.specs.declared.refusal.PathRefusal.{PathRefusal}
use Rattle.semantics.specs.declared.refusal.SearchRefusal.{SearchRefusal}
use Rattle.semantics.specs.declared.refusal.SearchRefusal.TheVariants as Search
use Rattle.semantics.specs.Lists.{has, or, cons_if, shares}
use Rattle.semantics.specs.Lists.Laws.{has-append, eqb-true, shares-more, shares-own}
use Rattle.semantics.specs.Limits.{Bounds, Limit}
use Rattle.semantics.specs.Answer.{Answer, ok, refuse, and_then, wrap}
use Rattle.semantics.specs.Graph.{Graph, View}
use Rattle.semantics.specs.Path.{Path, append_all, from_reference}
use Rattle.semantics.proofs.Theorems.Path.Laws.{append_all-edges}
use Rattle.semantics.specs.Enumeration.{Try, cut, overlong, reject, stop, go, Setting, State, enumerate}
use Rattle.semantics.specs.Enumeration.Simulation.{All2, nil, cons, TryRel, cuts, overlongs, rejects, stops, goes, TriesRel, done, next, AnswerRel, oks, refuses, enumerate-rel}
use Rattle.semantics.specs.PartialPaths.{Slot, dead, slot}
use Rattle.semantics.specs.Stitching.{joined, judge_slot, slot_tries, stitched}
use Rattle.semantics.specs.Database.{slots_in}
use Rattle.semantics.specs.Database.Checked.{Checked, checked-edge}
use Rattle.semantics.proofs.Theorems.Stitching.Laws.{judge-go}

pub record Work : Type 0 where
  pub path : Path
  pub used : List ℕ

numbered : List ℕ → ℕ → Try SearchRefusal Path → Try SearchRefusal Work
numbered used i cut = cut
numbered used i overlong = overlong
numbered used i reject = reject
numbered used i (stop r) = stop r
numbered used i (go b q) = go b (record { path = q; used = used ++ (i ∷ []) })

used_try : Bounds → Limit → View → Work → ℕ → List ℕ → Try SearchRefusal Work
unfolding numbered
used_try bd lim g w i es = numbered w.used i (joined (or (has i w.used) (shares es w.path.edges)) bd lim g w.path es)

-- the live slots by ascending number, counted from i on
pub used_tries : Bounds → Limit → View → ℕ → List Slot → Work → List (Try SearchRefusal Work)
unfolding used_try
used_tries bd lim g i [] w = []
used_tries bd lim g i (dead ∷ ss) w = used_tries bd lim g (suc i) ss w
used_tries bd lim g i (slot f s e es ∷ ss) w = cons_if (eqb s w.path.end) (used_try bd lim g w i es) (used_tries bd lim g (suc i) ss w)

pub edges_of : Slot → List ℕ
edges_of dead = []
edges_of (slot f s t es) = es

module _ (bd : Bounds) (lim : Limit) (g : View) (db : List Slot) (edged : (i f s t : ℕ) (es : List ℕ) → get_or db i dead ≡ slot f s t es → 1 ≤ length es) where
  pub edges_at : ℕ → List ℕ
  edges_at i = edges_of (get_or db i dead)

  edges_at-is : (i f s t : ℕ) (es : List ℕ) → get_or db i dead ≡ slot f s t es → edges_at i ≡ es
  unfolding edges_at edges_of
  edges_at-is i f s t es e = rw e

  -- the same path, and every used slot shares an edge with it
  abbrev pub Same : Work → Path → Type 0
  Same w p = (w.path ≡ p) × ((i : ℕ) → has i w.used ≡ true → shares (edges_at i) w.path.edges ≡ true)

  cut-same : (w : Work) (i f s t : ℕ) (es : List ℕ) → ((j : ℕ) → has j w.used ≡ true → shares (edges_at j) w.path.edges ≡ true) → get_or db i dead ≡ slot f s t es → or (has i w.used) (shares es w.path.edges) ≡ shares es w.path.edges
  cut-same w i f s t es u e = on1 (has i w.used) refl
    where
      on1 : (b : Bool) → has i w.used ≡ b → or b (shares es w.path.edges) ≡ shares es w.path.edges
      on1 true k = sym (ap (λ l. shares l w.path.edges) (sym (edges_at-is i f s t es e)) ∙ u i k)
      on1 false k = refl

  used-after : (w : Work) (q : Path) (i f s t : ℕ) (es : List ℕ) → ((j : ℕ) → has j w.used ≡ true → shares (edges_at j) w.path.edges ≡ true) → get_or db i dead ≡ slot f s t es → append_all bd g w.path es ≡ ok q
      → (j : ℕ) → has j (w.used ++ (i ∷ [])) ≡ true → shares (edges_at j) q.edges ≡ true
  unfolding has
  used-after w q i f s t es u e a j h = by_old (has j w.used) refl (sym (has-append j w.used (i ∷ [])) ∙ h)
    where
      grown-edges : q.edges ≡ w.path.edges ++ es
      grown-edges = append_all-edges bd g es w.path q a

      by-new : (b : Bool) → eqb j i ≡ b → or b false ≡ true → shares (edges_at j) q.edges ≡ true
      by-new true k l =
          let z : edges_at j ≡ es = ap edges_at (eqb-true j i k) ∙ edges_at-is i f s t es e in
          ap (λ x. shares x q.edges) z ∙ ap (shares es) grown-edges ∙ shares-own w.path.edges es (edged i f s t es e)
      by-new false k l = absurd (false≢true l)

      by_old : (b : Bool) → has j w.used ≡ b → or b (has j (i ∷ [])) ≡ true → shares (edges_at j) q.edges ≡ true
      by_old true k l = ap (shares (edges_at j)) grown-edges ∙ shares-more w.path.edges es (edges_at j) (u j k)
      by_old false k l = by-new (eqb j i) refl l

  numbered-same : (used : List ℕ) (i : ℕ) (t : Try SearchRefusal Path) → ((b : Bool) (q : Path) → t ≡ go b q → (j : ℕ) → has j (used ++ (i ∷ [])) ≡ true → shares (edges_at j) q.edges ≡ true) → TryRel Same (numbered used i t) t
  unfolding numbered
  numbered-same used i cut h = cuts
  numbered-same used i overlong h = overlongs
  numbered-same used i reject h = rejects
  numbered-same used i (stop r) h = stops r
  numbered-same used i (go b q) h = goes b (refl, h b q refl)

  judge-same : (w : Work) (i f s t : ℕ) (es : List ℕ) → ((j : ℕ) → has j w.used ≡ true → shares (edges_at j) w.path.edges ≡ true) → get_or db i dead ≡ slot f s t es → TryRel Same (used_try bd lim g w i es) (judge_slot bd lim g w.path es)
  unfolding used_try judge_slot
  judge-same w i f s t es u e =
      subst (λ b. TryRel Same (numbered w.used i (joined b bd lim g w.path es)) (joined (shares es w.path.edges) bd lim g w.path es)) (sym (cut-same w i f s t es u e))
      (numbered-same w.used i (joined (shares es w.path.edges) bd lim g w.path es) (λ b q k. used-after w q i f s t es u e (judge-go bd lim g w.path q es b k).appended))

  cons_if-rel : (b : Bool) {x : Try SearchRefusal Work} {y : Try SearchRefusal Path} {xs : List (Try SearchRefusal Work)} {ys : List (Try SearchRefusal Path)} → TryRel Same x y → TriesRel Same xs ys → TriesRel Same (cons_if b x xs) (cons_if b y ys)
  cons_if-rel true r q = next r q
  cons_if-rel false r q = q

  tries-same : (rest : List Slot) (i : ℕ) (w : Work) → ((k : ℕ) → get_or rest k dead ≡ get_or db (i + k) dead) → ((j : ℕ) → has j w.used ≡ true → shares (edges_at j) w.path.edges ≡ true) → TriesRel Same (used_tries bd lim g i rest w) (slot_tries bd lim g rest w.path)
  unfolding used_tries slot_tries
  tries-same [] i w at u = done
  tries-same (dead ∷ rest) i w at u = tries-same rest (suc i) w (λ k. at (suc k) ∙ ap (λ n. get_or db n dead) (add-suc i k ∙ sym (suc-add i k))) u
  tries-same (slot f s t es ∷ rest) i w at u =
      cons_if-rel (eqb s w.path.end) (judge-same w i f s t es u (ap (λ n. get_or db n dead) (sym (add-zero i)) ∙ sym (at 0))) (tries-same rest (suc i) w (λ k. at (suc k) ∙ ap (λ n. get_or db n dead) (add-suc i k ∙ sym (suc-add i k))) u)

  like : (w : Work) (p : Path) → Same w p → TriesRel Same (used_tries bd lim g 0 db w) (slot_tries bd lim g db p)
  like w p h = rw (← h.0) (tries-same db 0 w (λ k. ap (λ n. get_or db n dead) (sym (zero-add k))) h.1)

  pub used-redundant : (c : Setting SearchRefusal) (fuel : ℕ) (p : Path) → AnswerRel Same (enumerate c (used_tries bd lim g 0 db) fuel (record { path = p; used = [] } ∷ [])) (enumerate c (slot_tries bd lim g db) fuel (p ∷ []))
  unfolding has
  used-redundant c fuel p = enumerate-rel Same c (used_tries bd lim g 0 db) (slot_tries bd lim g db) like fuel (record { path = p; used = [] } ∷ []) (p ∷ []) (cons (refl, λ j h. absurd (false≢true h)) nil)

-- THE RUST'S SEARCH, which keeps the numbers, and what it answers without them
unfoldable pub stitched_by_number : Bounds → Limit → Setting SearchRefusal → View → List Slot → ℕ → Answer SearchRefusal (State Work)
unfolding used_tries enumerate from_reference
stitched_by_number bd lim c g db r = and_then (wrap Search.Path (from_reference g r)) (λ p. enumerate c (used_tries bd lim g 0 db) bd.expansions (record { path = p; used = [] } ∷ []))

abbrev pub path_of : Work → Path
path_of w = w.path

abbrev pub numberless : Answer SearchRefusal (State Work) → Answer SearchRefusal (State Path)
numberless (ok s) = ok (record { rest = map path_of s.rest; pending = map path_of s.pending; kept = map path_of s.kept; stats = s.stats; tally = s.tally })
numberless (refuse r) = refuse r

module _ (L : Work → Path → Type 0) (same : (w : Work) (p : Path) → L w p → w.path ≡ p) where
  lists-numberless : (ws : List Work) (ps : List Path) → All2 L ws ps → map path_of ws ≡ ps
  lists-numberless ws ps nil = refl
  lists-numberless ws ps (cons {w = w} {v = p} {ws = ws'} {vs = ps'} h t) = ap₂ (λ (x : Path) (y : List Path). x ∷ y) (same w p h) (lists-numberless ws' ps' t)

  answers-numberless : (a : Answer SearchRefusal (State Work)) (b : Answer SearchRefusal (State Path)) → AnswerRel L a b → numberless a ≡ b
  answers-numberless a b (oks {s = s} {t = t} h) = λ i. ok (record {
    rest = lists-numberless s.rest t.rest h.rest i;
    pending = lists-numberless s.pending t.pending h.pending i;
    kept = lists-numberless s.kept t.kept h.kept i;
    stats = h.stats i;
    tally = h.tally i;
  })
  answers-numberless a b (refuses r) = refl

-- a slot of a list stands in it
slot-there : (db : List Slot) (i f s t : ℕ) (es : List ℕ) → get_or db i dead ≡ slot f s t es → Memᴰ (slot f s t es) db
slot-there [] i f s t es e = absurd (let z : ◌≡◌ {A = Bool} true false = cc in true≢false z)
slot-there (x ∷ db) zero f s t es e = Memᴰ.head (sym e)
slot-there (x ∷ db) (suc i) f s t es e = Memᴰ.tail (slot-there db i f s t es e)

-- on words that meet neither 35 nor 34 both searches answer alike, every path in its order, every statistic and flag
pub numbers-redundant : (bd : Bounds) (known : ℕ → ℕ → Bool) (graph : Graph) (words : List ℕ) → Checked bd known graph words → (lim : Limit) (c : Setting SearchRefusal) (g : View) (r : ℕ)
    → numberless (stitched_by_number bd lim c g (slots_in bd words) r) ≡ stitched bd lim c g (slots_in bd words) r
unfolding stitched_by_number stitched
numbers-redundant bd known graph words k lim c g r = on (from_reference g r)
  where
    edged : (i f s t : ℕ) (es : List ℕ) → get_or (slots_in bd words) i dead ≡ slot f s t es → 1 ≤ length es
    edged i f s t es e = checked-edge bd known graph words k f s t es (slot-there (slots_in bd words) i f s t es e)

    on : (a : Answer PathRefusal Path)
        → numberless (and_then (wrap Search.Path a) (λ p. enumerate c (used_tries bd lim g 0 (slots_in bd words)) bd.expansions (record { path = p; used = [] } ∷ []))) ≡ and_then (wrap Search.Path a) (λ p. enumerate c (slot_tries bd lim g (slots_in bd words)) bd.expansions (p ∷ []))
    on (ok p) = answers-numberless (Same bd lim g (slots_in bd words) edged) (λ w q h. h.0) _ _ (used-redundant bd lim g (slots_in bd words) edged c bd.expansions p)
    on (refuse x) = refl
