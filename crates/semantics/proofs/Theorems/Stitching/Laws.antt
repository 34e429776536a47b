-- What stitched search records over a database that holds just the partial paths of the owners: the valid lists whose edges all
-- have an owner, no other, none twice. Demand 3 for stitching.
use Rattle.std.specs.Prelude.{ℕ, ◌+◌, ◌≤◌, Bool, leb, ℤ, None}
use Rattle.std.proofs.Common.{arith, ◌∙◌, le→leb, length-append}
use Rattle.std.proofs.Math.Path.{◌≡◌, refl, sym, ap, subst}
use Rattle.std.proofs.Math.Logic.{⊎_elim}
use Rattle.std.proofs.Math.Bool.{true, false, true≢false}
use Rattle.std.proofs.Math.Option.{some}
use mathlib.Core.List.{List, [], ◌∷◌, ◌++◌, append-nil, append_assoc, Memᴰ}
use Rattle.std.proofs.Math.Dec.{eqb}
use Rattle.std.proofs.Math.ListN.{length}
use Rattle.semantics.specs.declared.graph.NodeId.{NodeId}
use Rattle.semantics.specs.declared.graph.Edge.TheVariants as E
use Rattle.semantics.specs.declared.refusal.PathRefusal.{PathRefusal}
use Rattle.semantics.specs.declared.refusal.PathRefusal.TheVariants as P
use Rattle.semantics.specs.declared.refusal.ReplayRefusal.{ReplayRefusal}
use Rattle.semantics.specs.declared.refusal.ReplayRefusal.TheVariants as Replay
use Rattle.semantics.specs.declared.refusal.SearchRefusal.{SearchRefusal}
use Rattle.semantics.specs.declared.refusal.SearchRefusal.TheVariants as Search
use Rattle.semantics.specs.Lists.{cons_if, shares, Distinct}
use Rattle.semantics.specs.Lists.Laws.{T→eq, eqb-true, eqb_same, and-true, distinct-left, distinct-right, distinct-join, shares-none, cons_if-tail, cons_if-cases, length-snoc}
use Rattle.semantics.specs.Limits.{Bounds, within, Limit}
use Rattle.semantics.proofs.Theorems.Limits.Laws.{within-le, within-zero}
use Rattle.semantics.specs.Answer.{Answer, ok, refuse, and_then, wrap}
use Rattle.semantics.specs.Answer.Laws.{ok-inj, and_then-ok, wrap-ok}
use Rattle.semantics.specs.Graph.{node_id, View, file_of, is_reference, is_definition, is_start, is_endpoint}
use Rattle.semantics.specs.Graph.Laws.{exported-start, reference-start, definition-endpoint}
use Rattle.semantics.specs.Path.{Path, append_under, append_all, is_complete, from_reference}
use Rattle.semantics.proofs.Theorems.Path.Laws.{append-ok, begun, begun-incomplete, append_under-ok, append_all-append, append_all-edges, append_all-bound, replay-ok, replay-of, replay-append, Arrival, at-root, at-jump, in-file, arrives}
use Rattle.semantics.specs.Enumeration.{Try, go, Setting, State, enumerate, tested}
use Rattle.semantics.specs.Enumeration.Laws.{Leads, here, on, enumerate-full, enumerate-sound, tested-go}
use Rattle.semantics.specs.Recorded.{edge_lists, distinct, recorded}
use Rattle.semantics.specs.Recorded.Laws.{Deduped, distinct-is, mem-lists}
use Rattle.semantics.specs.PartialPaths.{Slot, dead, slot, only_live, SameLive}
use Rattle.semantics.proofs.Theorems.PartialPaths.Laws.{walk-snoc, walk-cons}
use Rattle.semantics.specs.Stitching.{ended, extended, joined, judge_slot, slot_tries, stitched}
use Rattle.semantics.specs.Demand.{Owners, Owned, Suited, Once, Taken, Valid, Walk, stay, step, Partial, Holds}

abbrev pub AllOwned : Owners → List ℕ → Type 0
AllOwned O [] = Unit {0}
AllOwned O (e ∷ es) = Owned O e × AllOwned O es

owned-append : (O : Owners) (l m : List ℕ) → AllOwned O l → AllOwned O m → AllOwned O (l ++ m)
owned-append O [] m a b = b
owned-append O (x ∷ l) m a b = (a.0, owned-append O l m a.1 b)

walk-owned : (O : Owners) (g : View) (f : ℕ) → O.Known f → (es : List ℕ) {n m : ℕ} → Walk g (O.owns f) n es m → AllOwned O es
walk-owned O g f l [] w = tt
walk-owned O g f l (e ∷ es) w = let k = walk-cons g (O.owns f) w in ((f, l, k.3), walk-owned O g f l es k.4)

-- SOUNDNESS
module _ (bd : Bounds) (lim : Limit) (g : View) where
  pub record Passed (p q : Path) (es : List ℕ) (b : Bool) : Type 0 where
    pub apart : shares es p.edges ≡ false
    pub short : within (length p.edges + length es) lim ≡ true
    pub appended : append_all bd g p es ≡ ok q
    pub complete : b ≡ is_complete g q

  pub judge-go : (p q : Path) (es : List ℕ) (b : Bool) → judge_slot bd lim g p es ≡ go b q → Passed p q es b
  unfolding judge_slot joined extended ended
  judge-go p q es b h =
      let t = tested-go (shares es p.edges) (within (length p.edges + length es) lim) (leb (length p.edges + length es) bd.edges) Search.TooLong (extended g (append_all bd g p es)) b q h in
      on t.0 t.1 (append_all bd g p es) refl t.3
    where
      dead : (r : PathRefusal) → ended (Replay.Path r) ≡ go b q → ⊥
      dead (P.UnknownNode n) e = let z : ◌≡◌ {A = Bool} true false = cc in true≢false z
      dead (P.NotReference n) e = let z : ◌≡◌ {A = Bool} true false = cc in true≢false z
      dead (P.UnknownEdge n) e = let z : ◌≡◌ {A = Bool} true false = cc in true≢false z
      dead (P.IncorrectSource x y) e = let z : ◌≡◌ {A = Bool} true false = cc in true≢false z
      dead (P.EmptySymbolStack n) e = let z : ◌≡◌ {A = Bool} true false = cc in true≢false z
      dead (P.IncorrectPoppedSymbol n) e = let z : ◌≡◌ {A = Bool} true false = cc in true≢false z
      dead (P.UnexpectedAttachedScopes n) e = let z : ◌≡◌ {A = Bool} true false = cc in true≢false z
      dead (P.MissingAttachedScopes n) e = let z : ◌≡◌ {A = Bool} true false = cc in true≢false z
      dead (P.EmptyScopeStack n) e = let z : ◌≡◌ {A = Bool} true false = cc in true≢false z
      dead (P.UnknownAttachedScope n) e = let z : ◌≡◌ {A = Bool} true false = cc in true≢false z

      never : (r : ReplayRefusal) → ended r ≡ go b q → ⊥
      never (Replay.Path r) e = dead r e
      never Replay.TooLong e = let z : ◌≡◌ {A = Bool} true false = cc in true≢false z

      on : shares es p.edges ≡ false → within (length p.edges + length es) lim ≡ true → (a : Answer ReplayRefusal Path) → append_all bd g p es ≡ a → extended g a ≡ go b q → Passed p q es b
      on f s (ok x) a k =
          let z : x ≡ q = cc in
          let c : b ≡ is_complete g x = cc in
          record { apart = f; short = s; appended = a ∙ ap ok z; complete = c ∙ ap (is_complete g) z }
      on f s (refuse r) a k = absurd (never r k)

  judge-passed : (p q : Path) (es : List ℕ) → shares es p.edges ≡ false → within (length p.edges + length es) lim ≡ true → leb (length p.edges + length es) bd.edges ≡ true → append_all bd g p es ≡ ok q
      → judge_slot bd lim g p es ≡ go (is_complete g q) q
  unfolding judge_slot joined tested extended
  judge-passed p q es f s l a = rw (f, s, l, a)

  pub record Tried (db : List Slot) (p : Path) (x : Try SearchRefusal Path) : Type 0 where
    pub file : ℕ
    pub end : ℕ
    pub edges : List ℕ
    pub found : Memᴰ (slot file p.end end edges) db
    pub judged : x ≡ judge_slot bd lim g p edges

  tried-later : (s : Slot) (db : List Slot) (p : Path) (x : Try SearchRefusal Path) → Tried db p x → Tried (s ∷ db) p x
  tried-later s db p x t = record { file = t.file; end = t.end; edges = t.edges; found = mathlib.Core.List.Memᴰ.tail t.found; judged = t.judged }

  pub tries-are : (db : List Slot) (p : Path) (x : Try SearchRefusal Path) → Memᴰ x (slot_tries bd lim g db p) → Tried db p x
  unfolding slot_tries
  tries-are [] p x m = absurd (mathlib.Core.List.Memᴰ.not-nil m)
  tries-are (dead ∷ db) p x m = tried-later dead db p x (tries-are db p x m)
  tries-are (slot f s t es ∷ db) p x m =
      ⊎_elim (λ h. record { file = f; end = t; edges = es; found = mathlib.Core.List.Memᴰ.head (ap (λ n. slot f n t es) (sym (eqb-true s p.end h.1))); judged = h.0 })
      (λ k. tried-later (slot f s t es) db p x (tries-are db p x k))
      (cons_if-cases (eqb s p.end) (judge_slot bd lim g p es) x (slot_tries bd lim g db p) m)

  tries-have : (db : List Slot) (p : Path) (f t : ℕ) (es : List ℕ) → Memᴰ (slot f p.end t es) db → Memᴰ (judge_slot bd lim g p es) (slot_tries bd lim g db p)
  unfolding slot_tries
  tries-have [] p f t es m = absurd (mathlib.Core.List.Memᴰ.not-nil m)
  tries-have (dead ∷ db) p f t es m = ⊎_elim (λ e. absurd (let z : ◌≡◌ {A = Bool} true false = cc in true≢false z)) (λ k. tries-have db p f t es k) (mathlib.Core.List.Memᴰ.cases_cons m)
  tries-have (slot f' s t' es' ∷ db) p f t es m = ⊎_elim here-it (λ k. cons_if-tail (eqb s p.end) (judge_slot bd lim g p es') (judge_slot bd lim g p es) (slot_tries bd lim g db p) (tries-have db p f t es k)) (mathlib.Core.List.Memᴰ.cases_cons m)
    where
      here-it : slot f p.end t es ≡ slot f' s t' es' → Memᴰ (judge_slot bd lim g p es) (cons_if (eqb s p.end) (judge_slot bd lim g p es') (slot_tries bd lim g db p))
      here-it e =
          let z : p.end ≡ s = cc in
          let q : es ≡ es' = cc in
          let b : eqb s p.end ≡ true = ap (λ n. eqb n p.end) (sym z) ∙ eqb_same p.end in
          rw b (mathlib.Core.List.Memᴰ.head (ap (judge_slot bd lim g p) q))

module _ (O : Owners) (bd : Bounds) (lim : Limit) (g : View) (r : ℕ) (db : List Slot) (holds : Holds O bd g db) where
  record Stitched (p : Path) : Type 0 where
    pub taken : Taken bd lim g r p.edges p
    pub owned : AllOwned O p.edges

  step-stitched : (p q : Path) (b : Bool) → Stitched p → Memᴰ (go b q) (slot_tries bd lim g db p) → Stitched q × (b ≡ is_complete g q)
  step-stitched p q b t m =
      let k = tries-are bd lim g db p (go b q) m in
      let h = judge-go bd lim g p q k.edges b (sym k.judged) in
      let o = holds.only k.file p.end k.end k.edges k.found in
      let e : q.edges ≡ p.edges ++ k.edges = append_all-edges bd g k.edges p q h.appended in (
        record {
          taken = subst (λ l. Taken bd lim g r l q) (sym e) (record {
            replayed = replay-append bd g r p.edges k.edges p q t.taken.replayed h.appended;
            distinct = distinct-join k.edges p.edges t.taken.distinct o.1.distinct h.apart;
            short = rw (length-append p.edges k.edges) h.short;
          });
          owned = subst (AllOwned O) (sym e) (owned-append O p.edges k.edges t.owned (walk-owned O g k.file o.0 k.edges o.1.walk));
        },
        h.complete,
      )

  leads-stitched : (p q : Path) → Stitched p → Leads (slot_tries bd lim g db) p q → Stitched q × (is_complete g q ≡ true)
  leads-stitched p q t (here m) = let k = step-stitched p q true t m in (k.0, sym k.1)
  leads-stitched p q t (on {u = x} b m l) = leads-stitched x q (step-stitched p x b t m).0 l

-- COMPLETENESS: a valid list is cut where root or jump is reached
complete-definition : (g : View) (p : Path) → is_complete g p ≡ true → is_definition (g.node p.end) ≡ true
unfolding is_complete
complete-definition g p e =
    let k = and-true (is_reference (g.node p.start)) _ e in
    (and-true (is_definition (g.node p.end)) _ k.1).0

-- a complete path's last edge reaches an endpoint
last-endpoint : (g : View) (t : ℕ) (q : Path) → Arrival g t q → is_complete g q ≡ true → is_endpoint (g.node t) ≡ true
last-endpoint g t q (at-root k e) c = ap is_endpoint k
last-endpoint g t q (at-jump k e) c = ap is_endpoint k
last-endpoint g t q (in-file f k e) c = definition-endpoint (g.node t) (ap (λ n. is_definition (g.node n)) (sym e) ∙ complete-definition g q c)

module _ (O : Owners) (bd : Bounds) (lim : Limit) (g : View) (db : List Slot) (holds : Holds O bd g db) (suited : Suited g O) where
  -- the place p reached in a list: at the end of the waiting path w, or inside a file, behind some edges of it
  data Spot (w : Path) (seg : List ℕ) (p : Path) : Type 0 where
    at_top : seg ≡ [] → p ≡ w → w.end ≡ 0 → Spot w seg p
    at-start : (f : ℕ) → seg ≡ [] → p ≡ w → file_of (g.node w.end) ≡ some f → is_start (g.node w.end) ≡ true → Spot w seg p
    inside : (f : ℕ) → O.Known f → O.Starts f w.end → Walk g (O.owns f) w.end seg p.end → append_all bd g w seg ≡ ok p → file_of (g.node p.end) ≡ some f → Spot w seg p

  record Advanced (w : Path) (seg : List ℕ) (e t : ℕ) (q : Path) : Type 0 where
    pub file : ℕ
    pub known : O.Known file
    pub begins : O.Starts file w.end
    pub walk : Walk g (O.owns file) w.end (seg ++ (e ∷ [])) t
    pub owned : O.owns file e ≡ true
    pub appended : append_all bd g w (seg ++ (e ∷ [])) ≡ ok q

  one_more : (p q : Path) (e : ℕ) → append_under bd g p e ≡ ok q → append_all bd g p (e ∷ []) ≡ ok q
  unfolding append_all
  one_more p q e h = rw h

  from-base : (w : Path) (seg : List ℕ) (e : ℕ) (t : NodeId) (pr : ℤ) (p q : Path) (f : ℕ) → seg ≡ [] → p ≡ w → O.Known f → O.Starts f w.end → O.owns f e ≡ true → g.edge e ≡ E.Live (node_id p.end) t pr → append_under bd g p e ≡ ok q → Advanced w seg e t.0 q
  from-base w seg e t pr p q f sg pe l b o h a =
      let h' : g.edge e ≡ E.Live (node_id w.end) t pr = subst (λ (x : Path). g.edge e ≡ E.Live (node_id x.end) t pr) pe h in
      let a' : append_under bd g w e ≡ ok q = subst (λ x. append_under bd g x e ≡ ok q) pe a in
      subst (λ s. Advanced w s e t.0 q) (sym sg) (record { file = f; known = l; begins = b; walk = step pr h' o stay; owned = o; appended = one_more w q e a' })

  advance : (w : Path) (seg : List ℕ) (e : ℕ) (t : NodeId) (pr : ℤ) (p q : Path) → Spot w seg p → Owned O e → g.edge e ≡ E.Live (node_id p.end) t pr → append_under bd g p e ≡ ok q → Advanced w seg e t.0 q
  advance w seg e t pr p q (at_top sg pe z) fd h a = from-base w seg e t pr p q fd.0 sg pe fd.1 (subst (O.Starts fd.0) (sym z) (suited.from-root fd.0 fd.1)) fd.2 h a
  advance w seg e t pr p q (at-start f sg pe k s) fd h a =
      from-base w seg e t pr p q f sg pe (suited.home w.end f k) (suited.from_start w.end f k s) (suited.at_source e (node_id p.end) t pr f h (ap (λ (x : Path). file_of (g.node x.end)) pe ∙ k)) h a
  advance w seg e t pr p q (inside f l b wk ad k) fd h a =
      let o = suited.at_source e (node_id p.end) t pr f h k in
      record { file = f; known = l; begins = b; walk = walk-snoc g (O.owns f) e t pr wk h o; owned = o; appended = append_all-append bd g seg (e ∷ []) w p q ad (one_more p q e a) }

  -- the slot that holds the edges behind w's end is tried, and goes on
  stitch : (w : Path) (seg rest : List ℕ) (e t : ℕ) (q : Path) → length w.edges ≤ bd.edges → Advanced w seg e t q → is_endpoint (g.node t) ≡ true
      → Distinct (w.edges ++ (seg ++ (e ∷ []) ++ rest)) → within (length (w.edges ++ (seg ++ (e ∷ []) ++ rest))) lim ≡ true → Memᴰ (go (is_complete g q) q) (slot_tries bd lim g db w)
  stitch w seg rest e t q room a c d s = subst (λ y. Memᴰ y (slot_tries bd lim g db w)) judged (tries-have bd lim g db w a.file t new (holds.every a.file (record { start = w.end; current = t; edges = new }) a.known partial))
    where
      new : List ℕ
      new = seg ++ (e ∷ [])

      both : Distinct (w.edges ++ new)
      both = distinct-left (w.edges ++ new) rest (subst Distinct (sym (append_assoc w.edges new rest)) d)

      total : length w.edges + length new ≤ bd.edges
      total = append_all-bound bd g new w q room a.appended

      partial : Partial bd None g O a.file (record { start = w.end; current = t; edges = new })
      partial = record { begins = a.begins; walk = a.walk; some-edge = omega (arith, length-snoc seg e); fits = omega (arith, total); distinct = distinct-right w.edges new both; short = refl; endpoint = c }

      whole_length : length (w.edges ++ (new ++ rest)) ≡ length w.edges + (length new + length rest)
      whole_length = length-append w.edges (new ++ rest) ∙ ap (λ n. length w.edges + n) (length-append new rest)

      fits-limit : within (length w.edges + length new) lim ≡ true
      fits-limit = within-le lim (length w.edges + length new) (length (w.edges ++ (new ++ rest))) (omega (arith, whole_length)) s

      judged : judge_slot bd lim g w new ≡ go (is_complete g q) q
      judged = judge-passed bd lim g w q new (shares-none new w.edges both) fits-limit (T→eq (leb (length w.edges + length new) bd.edges) (le→leb (length w.edges + length new) bd.edges total)) a.appended

  same-file : (e : ℕ) (s t : NodeId) (p : ℤ) (a b : ℕ) → g.edge e ≡ E.Live s t p → O.owns a e ≡ true → file_of (g.node t.0) ≡ some b → file_of (g.node t.0) ≡ some a
  same-file e s t p a b h o k = k ∙ ap some (sym (suited.at_target e s t p a b h o k))

  -- one edge further, more edges coming
  go_on : (w : Path) (seg rest : List ℕ) (e : ℕ) (t : NodeId) (pr : ℤ) (p m q : Path) → length w.edges ≤ bd.edges → g.edge e ≡ E.Live (node_id p.end) t pr → Advanced w seg e t.0 m → Arrival g t.0 m
      → Distinct (w.edges ++ (seg ++ (e ∷ []) ++ rest)) → within (length (w.edges ++ (seg ++ (e ∷ []) ++ rest))) lim ≡ true
      → ((w' : Path) (seg' : List ℕ) → length w'.edges ≤ bd.edges → Spot w' seg' m → Distinct (w'.edges ++ (seg' ++ rest)) → within (length (w'.edges ++ (seg' ++ rest))) lim ≡ true → Leads (slot_tries bd lim g db) w' q)
      → Leads (slot_tries bd lim g db) w q
  go_on w seg rest e t pr p m q room h a arrival d s ih = by-arrival arrival
    where
      edges_are : m.edges ++ rest ≡ w.edges ++ (seg ++ (e ∷ []) ++ rest)
      edges_are = ap (λ l. l ++ rest) (append_all-edges bd g (seg ++ (e ∷ [])) w m a.appended) ∙ append_assoc w.edges (seg ++ (e ∷ [])) rest

      room-left : length m.edges ≤ bd.edges
      room-left = omega (arith, ap length (append_all-edges bd g (seg ++ (e ∷ [])) w m a.appended) ∙ length-append w.edges (seg ++ (e ∷ [])), append_all-bound bd g (seg ++ (e ∷ [])) w m room a.appended)

      -- a slot is taken, and the rest goes on from the new path
      from-new : is_endpoint (g.node t.0) ≡ true → Spot m [] m → Leads (slot_tries bd lim g db) w q
      from-new c spot = on (is_complete g m) (stitch w seg rest e t.0 m room a c d s) (ih m [] room-left spot (subst Distinct (sym edges_are) d) (subst (λ l. within (length l) lim ≡ true) (sym edges_are) s))

      by-arrival : Arrival g t.0 m → Leads (slot_tries bd lim g db) w q
      by-arrival (at-root k z) = from-new (ap is_endpoint k) (at_top refl refl (z ∙ suited.root-first t.0 k))
      by-arrival (at-jump k z) = from-new (ap is_endpoint k) (let x = exported-start (g.node m.end) z in at-start x.0 refl refl x.1 x.2)
      by-arrival (in-file f k z) =
          ih w (seg ++ (e ∷ [])) room (inside a.file a.known a.begins (subst (λ n. Walk g (O.owns a.file) w.end (seg ++ (e ∷ [])) n) (sym z) a.walk) a.appended (ap (λ n. file_of (g.node n)) z ∙ same-file e (node_id p.end) t pr a.file f h a.owned k)) d s

  -- the whole list, from the place reached
  stitch-all : (es : List ℕ) (e : ℕ) (w : Path) (seg : List ℕ) (p q : Path) → length w.edges ≤ bd.edges → Spot w seg p → AllOwned O (e ∷ es) → append_all bd g p (e ∷ es) ≡ ok q
      → Distinct (w.edges ++ (seg ++ (e ∷ es))) → within (length (w.edges ++ (seg ++ (e ∷ es)))) lim ≡ true → is_complete g q ≡ true → Leads (slot_tries bd lim g db) w q
  unfolding append_all
  stitch-all [] e w seg p q room sp fd h d s c =
      let a = and_then-ok (append_under bd g p e) (λ x. append_all bd g x []) q h in
      let b : append_under bd g p e ≡ ok q = a.1 ∙ a.2 in
      let k = append-ok g p q e (append_under-ok bd g p q e b).1 in
      let f : g.edge e ≡ E.Live (node_id p.end) k.target k.precedence = k.found ∙ ap (λ n. E.Live (node_id n) k.target k.precedence) (eqb-true k.source.0 p.end k.leaves) in
      let i = last-endpoint g k.target.0 q (arrives g p q e k.target.0 k.precedence k.extended) c in
      let l : seg ++ (e ∷ []) ≡ seg ++ (e ∷ []) ++ [] = sym (append-nil (seg ++ (e ∷ []))) in
      here (subst (λ y. Memᴰ (go y q) (slot_tries bd lim g db w)) c (stitch w seg [] e k.target.0 q room (advance w seg e k.target k.precedence p q sp fd.0 f b) i (subst (λ y. Distinct (w.edges ++ y)) l d) (subst (λ y. within (length (w.edges ++ y)) lim ≡ true) l s)))
  stitch-all (x ∷ es) e w seg p q room sp fd h d s c =
      let a = and_then-ok (append_under bd g p e) (λ y. append_all bd g y (x ∷ es)) q h in
      let k = append-ok g p a.0 e (append_under-ok bd g p a.0 e a.1).1 in
      let f : g.edge e ≡ E.Live (node_id p.end) k.target k.precedence = k.found ∙ ap (λ n. E.Live (node_id n) k.target k.precedence) (eqb-true k.source.0 p.end k.leaves) in
      let l : seg ++ (e ∷ x ∷ es) ≡ seg ++ (e ∷ []) ++ (x ∷ es) = sym (append_assoc seg (e ∷ []) (x ∷ es)) in
      go_on w seg (x ∷ es) e k.target k.precedence p a.0 q room f (advance w seg e k.target k.precedence p a.0 sp fd.0 f a.1) (arrives g p a.0 e k.target.0 k.precedence k.extended)
      (subst (λ y. Distinct (w.edges ++ y)) l d) (subst (λ y. within (length (w.edges ++ y)) lim ≡ true) l s)
      (λ w' seg' room' sp' d' s'. stitch-all es x w' seg' a.0 q room' sp' fd.1 a.2 d' s' c)

-- DEMAND 3, STITCHING
pub record StitchedExact (O : Owners) (bd : Bounds) (lim : Limit) (g : View) (r : ℕ) (u : State Path) : Type 0 where
  pub sound : (l : List ℕ) → Memᴰ l (edge_lists (recorded u)) → Valid bd lim g r l × AllOwned O l
  pub whole : u.stats.count_limited ≡ false → u.stats.complete_limited ≡ false → (l : List ℕ) → Valid bd lim g r l → AllOwned O l → Memᴰ l (edge_lists (recorded u))
  pub once : Once (edge_lists (recorded u))

module _ (O : Owners) (bd : Bounds) (lim : Limit) (c : Setting SearchRefusal) (g : View) (r : ℕ) (db : List Slot) (u : State Path) where
  start-stitched : (holds : Holds O bd g db) (p : Path) → from_reference g r ≡ ok p → Stitched O bd lim g r db holds p
  unfolding append_all
  start-stitched holds p f =
      let b = begun g r p f in
      record { taken = subst (λ y. Taken bd lim g r y p) (sym b.edges) (record { replayed = replay-of bd g r [] p p f refl; distinct = tt; short = within-zero lim }); owned = subst (AllOwned O) (sym b.edges) tt }

  valid-led : (holds : Holds O bd g db) (suited : Suited g O) (p : Path) → from_reference g r ≡ ok p → (l : List ℕ) → (v : Valid bd lim g r l) → AllOwned O l → Leads (slot_tries bd lim g db) p v.path × (v.path.edges ≡ l)
  unfolding append_all
  valid-led holds suited p f [] v fd =
      let a = replay-ok bd g r [] v.path v.taken.replayed in
      absurd (begun-incomplete g r v.path (begun g r v.path (a.1 ∙ ap ok (ok-inj a.0 v.path a.2))) v.complete)
  valid-led holds suited p f (e ∷ es) v fd =
      let a = replay-ok bd g r (e ∷ es) v.path v.taken.replayed in
      let z : a.0 ≡ p = ok-inj a.0 p (sym a.1 ∙ f) in
      let h : append_all bd g p (e ∷ es) ≡ ok v.path = subst (λ x. append_all bd g x (e ∷ es) ≡ ok v.path) z a.2 in
      let b = begun g r p f in
      let n : p.edges ++ ([] ++ (e ∷ es)) ≡ e ∷ es = ap (λ y. y ++ (e ∷ es)) b.edges in
      let st = reference-start (g.node r) b.reference in
      let spot : Spot O bd lim g db holds suited p [] p = at-start st.0 refl refl (ap (λ x. file_of (g.node x)) b.end ∙ st.1) (ap (λ x. is_start (g.node x)) b.end ∙ st.2) in (
        stitch-all O bd lim g db holds suited es e p [] p v.path (omega (arith, ap length b.edges)) spot fd h (subst Distinct (sym n) v.taken.distinct) (subst (λ y. within (length y) lim ≡ true) (sym n) v.taken.short) v.complete,
        append_all-edges bd g (e ∷ es) p v.path h ∙ ap (λ y. y ++ (e ∷ es)) b.edges,
      )

  pub stitched-ok : stitched bd lim c g db r ≡ ok u → (p : Path) × (from_reference g r ≡ ok p) × (enumerate c (slot_tries bd lim g db) bd.expansions (p ∷ []) ≡ ok u)
  unfolding stitched
  stitched-ok h =
      let a = and_then-ok (wrap Search.Path (from_reference g r)) (λ p. enumerate c (slot_tries bd lim g db) bd.expansions (p ∷ [])) u h in
      (a.0, wrap-ok Search.Path (from_reference g r) a.0 a.1, a.2)

  pub stitched-exact : Holds O bd g db → Suited g O → stitched bd lim c g db r ≡ ok u → StitchedExact O bd lim g r u
  unfolding recorded
  stitched-exact holds suited h = record {
    sound = λ l m.
        let x = mem-lists l (distinct [] u.kept) m in
        let n : Memᴰ x.0 u.kept = ⊎_elim (λ z. absurd (mathlib.Core.List.Memᴰ.not-nil z)) (λ z. z) (d.old x.0 x.1) in
        let s = enumerate-sound c (slot_tries bd lim g db) bd.expansions (a.0 ∷ []) u a.2 x.0 n in
        let w : s.0 ≡ a.0 = ⊎_elim (λ z. z) (λ z. absurd (mathlib.Core.List.Memᴰ.not-nil z)) (mathlib.Core.List.Memᴰ.cases_cons s.1) in
        let k = leads-stitched O bd lim g r db holds a.0 x.0 (start-stitched holds a.0 a.1) (subst (λ z. Leads (slot_tries bd lim g db) z x.0) w s.2) in
        (subst (Valid bd lim g r) (sym x.2) (record { path = x.0; taken = k.0.taken; complete = k.1 }), subst (AllOwned O) (sym x.2) k.0.owned);
    whole = λ nc nk l v fd.
        let k = valid-led holds suited a.0 a.1 l v fd in
        let n = enumerate-full c (slot_tries bd lim g db) bd.expansions (a.0 ∷ []) u a.2 nc nk a.0 v.path (mathlib.Core.List.Memᴰ.head refl) k.0 in
        subst (λ y. Memᴰ y (edge_lists (distinct [] u.kept))) k.1 (d.all v.path n);
    once = d.once tt;
  }
    where
      a : (p : Path) × (from_reference g r ≡ ok p) × (enumerate c (slot_tries bd lim g db) bd.expansions (p ∷ []) ≡ ok u)
      a = stitched-ok h

      d : Deduped [] u.kept (distinct [] u.kept)
      d = distinct-is u.kept []

-- DEAD SLOTS ARE NOT TRIED, so that a search sees only the live ones and their order
tries-live : (bd : Bounds) (lim : Limit) (g : View) (db : List Slot) (p : Path) → slot_tries bd lim g (only_live db) p ≡ slot_tries bd lim g db p
unfolding slot_tries only_live
tries-live bd lim g [] p = refl
tries-live bd lim g (dead ∷ db) p = tries-live bd lim g db p
tries-live bd lim g (slot f s e es ∷ db) p = ap (λ l. cons_if (eqb s p.end) (judge_slot bd lim g p es) l) (tries-live bd lim g db p)

stitched-live : (bd : Bounds) (lim : Limit) (c : Setting SearchRefusal) (g : View) (db : List Slot) (r : ℕ) → stitched bd lim c g (only_live db) r ≡ stitched bd lim c g db r
unfolding stitched
stitched-live bd lim c g db r = λ i. and_then (wrap Search.Path (from_reference g r)) (λ p. enumerate c (λ q. tries-live bd lim g db q i) bd.expansions (p ∷ []))

pub same-stitched : (bd : Bounds) (lim : Limit) (c : Setting SearchRefusal) (g : View) (db db' : List Slot) (r : ℕ) → SameLive db db' → stitched bd lim c g db r ≡ stitched bd lim c g db' r
same-stitched bd lim c g db db' r e = sym (stitched-live bd lim c g db r) ∙ ap (λ (l : List Slot). stitched bd lim c g l r) e ∙ stitched-live bd lim c g db' r
