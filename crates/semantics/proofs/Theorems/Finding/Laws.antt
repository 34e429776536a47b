-- What a found name means, and what it means that there is none: in the lists that the path rules take. Where a complete path ends.
-- Serves document 02, order 1: "None is returned exactly when no reference has one and no search was refused".
use Prim.Native.Nat.{ℕ, zero, suc, ◌+◌, ◌<◌, ◌≤◌}
use Rattle.std.proofs.Common.{add-zero, zero-add, add-suc, suc-add, arith, sym, ◌∙◌, inl, inr}
use Rattle.std.proofs.Math.Path.{◌≡◌, refl, ap, subst}
use Rattle.std.specs.Prelude.{◌⊎◌, Bool, length, get_or, ℤ, None, Ok, Some}
use Rattle.std.proofs.Math.Logic.{⊎_elim}
use Rattle.std.proofs.Math.Bool.{true, false, true≢false}
use Rattle.std.proofs.lemmas.Bool.{false≢true}
use Rattle.std.proofs.Math.Option.{Option, none, some}
use mathlib.Core.List.Memᴰ
use mathlib.Core.List.{List, [], ◌∷◌, ◌++◌, append-nil, append_assoc, Memᴰ}
use Rattle.std.proofs.Math.Dec.{eqb}
use Rattle.semantics.specs.declared.graph.NodeId.{NodeId}
use Rattle.semantics.specs.declared.graph.Node.{Node}
use Rattle.semantics.specs.declared.graph.Node.TheVariants as N
use Rattle.semantics.specs.declared.graph.Edge.TheVariants as E
use Rattle.semantics.specs.declared.search.SearchOrder.TheVariants.{BreadthFirst}
use Rattle.semantics.specs.declared.refusal.SearchRefusal.{SearchRefusal}
use Rattle.semantics.specs.declared.refusal.SearchRefusal.TheVariants as Search
use Rattle.semantics.specs.Lists.{cons_if, pick, or, same}
use Rattle.semantics.specs.Lists.Laws.{eqb-true, eqb_same, same-eq, cons_if-tail, cons_if-cases}
use Rattle.semantics.specs.Limits.{Bounds, slot_words, Limit}
use Rattle.semantics.proofs.Theorems.Limits.Laws.{within-zero}
use Rattle.semantics.specs.Answer.{Answer, ok, refuse, and_then}
use Rattle.semantics.specs.Answer.Laws.{ok-inj, ok-refuse, and_then-ok}
use Rattle.semantics.specs.Graph.{node_id, Graph, View, view_of, traits, is_reference, is_definition, is_exported, Ascending, Lawful}
use Rattle.semantics.specs.Graph.Laws.{view_of-lawful, cons_if-ascends, ascending-same}
use Rattle.semantics.specs.Path.{Path, append_under, append_all, replay, is_complete}
use Rattle.semantics.proofs.Theorems.Path.Laws.{begun, begun-incomplete, append-ok, append_under-ok, replay-ok, Arrival, at-root, at-jump, in-file, arrives, complete-is}
use Rattle.semantics.specs.Enumeration.{Setting, State}
use Rattle.semantics.specs.Enumeration.Laws.{Leads, here, on, enumerate-sound, enumerate-unlimited}
use Rattle.semantics.specs.Recorded.{has_path, add_unless, distinct, recorded}
use Rattle.semantics.specs.Recorded.Laws.{distinct-is, mem-lists}
use Rattle.semantics.specs.Direct.{tries, direct, search_setting}
use Rattle.semantics.proofs.Theorems.Direct.Laws.{step-taken, direct-ok, direct-exact}
use Rattle.semantics.specs.Demand.{Taken, Valid}
use Rattle.semantics.specs.declared.refusal.ImageRefusal.{ImageRefusal}
use Rattle.semantics.specs.Told.{told_finding}
use Rattle.semantics.specs.Words.{whole_slots, area}
use Rattle.semantics.specs.Calls.{Outcome}
use Rattle.semantics.proofs.Theorems.Calls.Refused.{Zeroed}
use Rattle.semantics.specs.Finding.{Name, first_to, references_from, named, find_in, only_length, search_to, name_to, FindRequest, found_as, if_definition, unless_removed, find_call}
use Rattle.semantics.specs.PublicAnswers.{Finding}

-- ---- WHERE A COMPLETE PATH ENDS

unfoldable pub last_of : ℕ → List ℕ → ℕ
last_of e [] = e
last_of e (f ∷ es) = last_of f es

pub last-at : (e : ℕ) (es : List ℕ) → get_or (e ∷ es) (length es) 0 ≡ last_of e es
unfolding last_of
last-at e [] = refl
last-at e (f ∷ es) = last-at f es

exported-no-definition : (n : Node) → is_exported n ≡ true → is_definition n ≡ true → ⊥
exported-no-definition N.Removed x d = false≢true x
exported-no-definition N.Root x d = false≢true x
exported-no-definition N.JumpToScope x d = false≢true x
exported-no-definition (N.Scope f y) x d = false≢true d
exported-no-definition (N.Push f s r) x d = false≢true x
exported-no-definition (N.Pop f s y) x d = false≢true x
exported-no-definition (N.PushScoped f s a r) x d = false≢true x
exported-no-definition (N.PopScoped f s y) x d = false≢true x
exported-no-definition (N.DropScopes f) x d = false≢true x

-- the edge is live and leads to the end of the path
pub record LeadsTo (g : View) (q : Path) (e : ℕ) : Type 0 where
  pub source : NodeId
  pub target : NodeId
  pub precedence : ℤ
  pub found : g.edge e ≡ E.Live source target precedence
  pub end : q.end ≡ target.0

arrived : (g : View) (t : ℕ) (q : Path) → is_definition (g.node q.end) ≡ true → Arrival g t q → q.end ≡ t
arrived g t q d (at-root f e) = e
arrived g t q d (at-jump f x) = absurd (exported-no-definition (g.node q.end) x d)
arrived g t q d (in-file f h e) = e

appended-ends : (bd : Bounds) (g : View) (es : List ℕ) (e : ℕ) (p q : Path) → append_all bd g p (e ∷ es) ≡ ok q → is_definition (g.node q.end) ≡ true → LeadsTo g q (last_of e es)
unfolding append_all last_of
appended-ends bd g [] e p q h d =
    let a = and_then-ok (append_under bd g p e) (λ x. append_all bd g x []) q h in
    let z : a.0 ≡ q = ok-inj a.0 q a.2 in
    let k = append-ok g p q e ((append_under-ok bd g p a.0 e a.1).1 ∙ ap ok z) in
    record { source = k.source; target = k.target; precedence = k.precedence; found = k.found; end = arrived g k.target.0 q d (arrives g p q e k.target.0 k.precedence k.extended) }
appended-ends bd g (f ∷ es) e p q h d =
    let a = and_then-ok (append_under bd g p e) (λ x. append_all bd g x (f ∷ es)) q h in
    appended-ends bd g es f a.0 q a.2 d

-- a complete path has an edge, and ends at the target of its last one: root and an exported scope are no definitions
pub complete-ends : (bd : Bounds) (g : View) (r : ℕ) (l : List ℕ) (q : Path) → replay bd g r l ≡ ok q → is_complete g q ≡ true → (e : ℕ) × (es : List ℕ) × (l ≡ e ∷ es) × LeadsTo g q (last_of e es)
unfolding append_all
complete-ends bd g r [] q h c =
    let a = replay-ok bd g r [] q h in
    absurd (begun-incomplete g r q (begun g r q (a.1 ∙ ap ok (ok-inj a.0 q a.2))) c)
complete-ends bd g r (e ∷ es) q h c =
    let a = replay-ok bd g r (e ∷ es) q h in
    (e, es, refl, appended-ends bd g es e a.0 q a.2 (complete-is g q c).definition)

-- ---- WHAT THE SEARCHES ANSWER, for any search
module _ {R : Type 0} (search : ℕ → Answer R (State Path)) (n : ℕ) where
  -- searched to its end, with no path to the node
  abbrev pub Without : ℕ → Type 0
  Without r = (s : State Path) × (search r ≡ ok s) × (first_to n (recorded s) ≡ none)

  -- none exactly when no reference has one and no search was refused
  pub none-without : (rs : List ℕ) → find_in search n rs ≡ ok none → (r : ℕ) → Memᴰ r rs → Without r
  unfolding find_in
  none-without [] h r m = absurd (Memᴰ.not-nil m)
  none-without (x ∷ rs) h r m =
      let k = and_then-ok (search x) (λ s. named x (first_to n (recorded s)) (find_in search n rs)) none h in
      on1 k (first_to n (recorded k.0)) refl k.2 (λ j i. none-without rs j r i)
    where
      on1 : (k : (s : State Path) × (search x ≡ ok s) × (named x (first_to n (recorded s)) (find_in search n rs) ≡ ok none)) (o : Option Path) → first_to n (recorded k.0) ≡ o → named x o (find_in search n rs) ≡ ok none → (find_in search n rs ≡ ok none → Memᴰ r rs → Without r) → Without r
      on1 k none e j ih = ⊎_elim (λ (q : r ≡ x). subst Without (sym q) (k.0, k.1, e)) (λ i. ih (unfold named in j) i) (Memᴰ.cases_cons m)
      on1 k (some p) e j ih = absurd (let y : some (record { reference = x; edges = p.edges }) ≡ none = ok-inj _ _ (unfold named in j) in let z : ◌≡◌ {A = Bool} true false = cc in true≢false z)

  pub without-none : (rs : List ℕ) → ((r : ℕ) → Memᴰ r rs → Without r) → find_in search n rs ≡ ok none
  unfolding find_in named
  without-none [] h = refl
  without-none (x ∷ rs) h =
      let k = h x (Memᴰ.head refl) in
      ap (λ a. and_then a (λ s. named x (first_to n (recorded s)) (find_in search n rs))) k.1 ∙ ap (λ o. named x o (find_in search n rs)) k.2 ∙ without-none rs (λ r m. h r (Memᴰ.tail m))

  -- a name is that of the first reference that has one: all before it were searched to their ends without
  pub record First (rs : List ℕ) (m : Name) : Type 0 where
    pub before : List ℕ
    pub behind : List ℕ
    pub split : rs ≡ before ++ (m.reference ∷ behind)
    pub without : (r : ℕ) → Memᴰ r before → Without r
    pub state : State Path
    pub searched : search m.reference ≡ ok state
    pub path : Path
    pub first : first_to n (recorded state) ≡ some path
    pub edges : m.edges ≡ path.edges

  pub found_first : (rs : List ℕ) (m : Name) → find_in search n rs ≡ ok (some m) → First rs m
  unfolding find_in
  found_first [] m h = absurd (let y : none ≡ some m = ok-inj _ _ h in let z : ◌≡◌ {A = Bool} true false = cc in true≢false z)
  found_first (x ∷ rs) m h =
      let k = and_then-ok (search x) (λ s. named x (first_to n (recorded s)) (find_in search n rs)) (some m) h in
      on1 k.0 k.1 (first_to n (recorded k.0)) refl k.2 (λ j. found_first rs m j)
    where
      on1 : (s : State Path) → search x ≡ ok s → (o : Option Path) → first_to n (recorded s) ≡ o → named x o (find_in search n rs) ≡ ok (some m) → (find_in search n rs ≡ ok (some m) → First rs m) → First (x ∷ rs) m
      on1 s q none e j ih =
          let f = ih (unfold named in j) in
          record {
            before = x ∷ f.before;
            behind = f.behind;
            split = ap (λ (l : List ℕ). x ∷ l) f.split;
            without = λ r i. ⊎_elim (λ (z : r ≡ x). subst Without (sym z) (s, q, e)) (λ y. f.without r y) (Memᴰ.cases_cons i);
            state = f.state;
            searched = f.searched;
            path = f.path;
            first = f.first;
            edges = f.edges;
          }
      on1 s q (some p) e j ih =
          let y : some (record { reference = x; edges = p.edges }) ≡ some m = ok-inj _ _ (unfold named in j) in
          let z : record { reference = x; edges = p.edges } ≡ m = cc in
          subst (λ (i : Name). First (x ∷ rs) i) z (record { before = []; behind = rs; split = refl; without = λ r i. absurd (Memᴰ.not-nil i); state = s; searched = q; path = p; first = e; edges = refl })

-- ---- the first of a list, and none
first-none : (n : ℕ) (ps : List Path) → first_to n ps ≡ none → (p : Path) → Memᴰ p ps → p.end ≡ n → ⊥
unfolding first_to
first-none n [] h p m e = Memᴰ.not-nil m
first-none n (q ∷ ps) h p m e = on1 (eqb q.end n) refl h (λ k i. first-none n ps k p i e)
  where
    on1 : (b : Bool) → eqb q.end n ≡ b → pick b (some q) (first_to n ps) ≡ none → (first_to n ps ≡ none → Memᴰ p ps → ⊥) → ⊥
    on1 true k j ih = let z : ◌≡◌ {A = Bool} true false = cc in true≢false z
    on1 false k j ih = ⊎_elim (λ (x : p ≡ q). true≢false (sym (eqb_same n) ∙ ap (λ i. eqb i n) (sym e ∙ ap (λ (y : Path). y.end) x) ∙ k)) (λ i. ih j i) (Memᴰ.cases_cons m)

first_some : (n : ℕ) (ps : List Path) (p : Path) → first_to n ps ≡ some p → Memᴰ p ps × (p.end ≡ n)
unfolding first_to
first_some n [] p h = absurd (let z : ◌≡◌ {A = Bool} true false = cc in true≢false z)
first_some n (q ∷ ps) p h = on1 (eqb q.end n) refl h (λ k. first_some n ps p k)
  where
    on1 : (b : Bool) → eqb q.end n ≡ b → pick b (some q) (first_to n ps) ≡ some p → (first_to n ps ≡ some p → Memᴰ p ps × (p.end ≡ n)) → Memᴰ p (q ∷ ps) × (p.end ≡ n)
    on1 true k j ih = let z : q ≡ p = cc in (Memᴰ.head (sym z), ap (λ (y : Path). y.end) (sym z) ∙ eqb-true q.end n k)
    on1 false k j ih = let a = ih j in (Memᴰ.tail a.0, a.1)

-- ---- A KEPT PATH IS WHAT ITS EDGES REPLAY TO
module _ (bd : Bounds) (lim : Limit) (c : Setting SearchRefusal) (g : View) (lawful : Lawful g) (r : ℕ) (u : State Path) (h : direct bd lim c g r ≡ ok u) where
  leads-taken : (p q : Path) → Taken bd lim g r p.edges p → Leads (tries Search.TooLong bd lim g) p q → Taken bd lim g r q.edges q × (is_complete g q ≡ true)
  leads-taken p q t (here m) = let k = step-taken Search.TooLong bd lim g lawful r p q true t m in (k.0, sym k.1)
  leads-taken p q t (on {u = x} b m l) = leads-taken x q (step-taken Search.TooLong bd lim g lawful r p x b t m).0 l

  pub kept-taken : (p : Path) → Memᴰ p u.kept → Taken bd lim g r p.edges p × (is_complete g p ≡ true)
  unfolding replay append_all
  kept-taken p m =
      let a = direct-ok bd lim c g r u h in
      let s = enumerate-sound c (tries Search.TooLong bd lim g) bd.expansions (a.0 ∷ []) u a.2 p m in
      let w : s.0 ≡ a.0 = ⊎_elim (λ z. z) (λ z. absurd (Memᴰ.not-nil z)) (Memᴰ.cases_cons s.1) in
      let b = begun g r a.0 a.1 in
      let t : Taken bd lim g r a.0.edges a.0 = subst (λ y. Taken bd lim g r y a.0) (sym b.edges) (record { replayed = rw a.1; distinct = tt; short = within-zero lim }) in
      leads-taken a.0 p t (subst (λ y. Leads (tries Search.TooLong bd lim g) y p) w s.2)

  -- so kept paths of equal edges are the same
  pub kept_same : (p q : Path) → Memᴰ p u.kept → Memᴰ q u.kept → p.edges ≡ q.edges → p ≡ q
  kept_same p q m k e = ok-inj p q (sym (kept-taken p m).0.replayed ∙ ap (replay bd g r) e ∙ (kept-taken q k).0.replayed)

  pub recorded-kept : (p : Path) → Memᴰ p (recorded u) → Memᴰ p u.kept
  unfolding recorded
  recorded-kept p m = ⊎_elim (λ z. absurd (Memᴰ.not-nil z)) (λ z. z) ((distinct-is u.kept []).old p m)

-- ---- NO NAME, A NAME: by the path rules alone, in the lists of demand 3

-- no list of distinct edges within the limit that the path rules take leads from reference r to the node n
abbrev pub Unnamed : Bounds → Limit → View → ℕ → ℕ → Type 0
Unnamed bd lim g n r = (l : List ℕ) (v : Valid bd lim g r l) → v.path.end ≡ n → ⊥

-- the name's list leads there, and none does from a reference of a lower number
pub record Lowest (bd : Bounds) (lim : Limit) (g : View) (n : ℕ) (m : Name) : Type 0 where
  pub valid : Valid bd lim g m.reference m.edges
  pub ends : valid.path.end ≡ n
  pub lower : (r : ℕ) → r < m.reference → is_reference (g.node r) ≡ true → Unnamed bd lim g n r

module _ (bd : Bounds) (lim : Limit) (waiting results : ℕ) (g : View) (lawful : Lawful g) (n : ℕ) where
  abbrev setting : Setting SearchRefusal
  setting = search_setting BreadthFirst (only_length lim) waiting results

  without-unnamed : (r : ℕ) → Without (search_to bd lim waiting results g) n r → Unnamed bd lim g n r
  without-unnamed r w l v e =
      let x = direct-exact bd lim setting g lawful r w.0 w.1 in
      let a = direct-ok bd lim setting g r w.0 w.1 in
      let f = enumerate-unlimited setting (tries Search.TooLong bd lim g) bd.expansions (a.0 ∷ []) w.0 a.2 refl refl in
      let m = mem-lists l (recorded w.0) (x.whole f.0 f.1 l v) in
      let t = kept-taken bd lim setting g lawful r w.0 w.1 m.0 (recorded-kept bd lim setting g lawful r w.0 w.1 m.0 m.1) in
      let q : m.0 ≡ v.path = ok-inj m.0 v.path (sym t.0.replayed ∙ ap (replay bd g r) (sym m.2) ∙ v.taken.replayed) in
      first-none n (recorded w.0) w.2 m.0 m.1 (ap (λ (y : Path). y.end) q ∙ e)

  -- such a list from the name's reference, and none from a reference before it
  pub record Named (rs : List ℕ) (m : Name) : Type 0 where
    pub valid : Valid bd lim g m.reference m.edges
    pub ends : valid.path.end ≡ n
    pub before : List ℕ
    pub behind : List ℕ
    pub split : rs ≡ before ++ (m.reference ∷ behind)
    pub unnamed : (r : ℕ) → Memᴰ r before → Unnamed bd lim g n r

  none-unnamed : (rs : List ℕ) → find_in (search_to bd lim waiting results g) n rs ≡ ok none → (r : ℕ) → Memᴰ r rs → Unnamed bd lim g n r
  none-unnamed rs h r m = without-unnamed r (none-without (search_to bd lim waiting results g) n rs h r m)

  found-named : (rs : List ℕ) (m : Name) → find_in (search_to bd lim waiting results g) n rs ≡ ok (some m) → Named rs m
  found-named rs m h =
      let f = found_first (search_to bd lim waiting results g) n rs m h in
      let s = first_some n (recorded f.state) f.path f.first in
      let t = kept-taken bd lim setting g lawful m.reference f.state f.searched f.path (recorded-kept bd lim setting g lawful m.reference f.state f.searched f.path s.0) in
      let v : Valid bd lim g m.reference m.edges = record {
        path = f.path;
        taken = subst (λ (l : List ℕ). Taken bd lim g m.reference l f.path) (sym f.edges) t.0;
        complete = t.1;
      } in
      record { valid = v; ends = s.1; before = f.before; behind = f.behind; split = f.split; unnamed = λ r i. without-unnamed r (f.without r i) }

-- ---- the references of a graph
abbrev Rising : List ℕ → Type 0
Rising [] = Unit {0}
Rising (x ∷ xs) = ((y : ℕ) → Memᴰ y xs → x < y) × Rising xs

rising-behind : (x : ℕ) (before behind : List ℕ) → Rising (before ++ (x ∷ behind)) → (y : ℕ) → Memᴰ y behind → x < y
rising-behind x [] behind h y m = h.0 y m
rising-behind x (z ∷ before) behind h y m = rising-behind x before behind h.1 y m

from-above : (i : ℕ) (ns : List Node) (r : ℕ) → Memᴰ r (references_from i ns) → i ≤ r
unfolding references_from
from-above i [] r m = absurd (Memᴰ.not-nil m)
from-above i (n ∷ ns) r m = ⊎_elim (λ (e : (r ≡ i) × (is_reference n ≡ true)). omega (arith, e.0)) (λ k. omega (arith, from-above (suc i) ns r k)) (cons_if-cases (is_reference n) i r (references_from (suc i) ns) m)

from-rising : (i : ℕ) (ns : List Node) → Rising (references_from i ns)
unfolding references_from
from-rising i [] = tt
from-rising i (n ∷ ns) = on1 (is_reference n) (from-rising (suc i) ns)
  where
    on1 : (b : Bool) → Rising (references_from (suc i) ns) → Rising (cons_if b i (references_from (suc i) ns))
    on1 true h = ((λ y m. omega (arith, from-above (suc i) ns y m)), h)
    on1 false h = h

from-mem : (ns : List Node) (i k : ℕ) → is_reference (get_or ns k N.Removed) ≡ true → Memᴰ (i + k) (references_from i ns)
unfolding references_from
from-mem [] i k e = absurd (false≢true e)
from-mem (n ∷ ns) i zero e = rw (add-zero i, e) (Memᴰ.head refl)
from-mem (n ∷ ns) i (suc k) e = cons_if-tail (is_reference n) i (i + suc k) (references_from (suc i) ns) (rw (add-suc i k, ← suc-add i k) (from-mem ns (suc i) k e))

-- every reference of the graph is searched
pub reference-searched : (g : Graph) (r : ℕ) → is_reference ((view_of g).node r) ≡ true → Memᴰ r (references_from 0 g.nodes)
unfolding view_of
reference-searched g r e = subst (λ (i : ℕ). Memᴰ i (references_from 0 g.nodes)) (zero-add r) (from-mem g.nodes 0 r e)

module _ (bd : Bounds) (lim : Limit) (waiting results : ℕ) (g : Graph) (n : ℕ) where
  -- A NAME: the lowest one
  pub a-name : (m : Name) → name_to bd lim waiting results g n ≡ ok (some m) → Lowest bd lim (view_of g) n m
  unfolding name_to
  a-name m h =
      let rs : List ℕ = references_from 0 g.nodes in
      let f = found-named bd lim waiting results (view_of g) (view_of-lawful g) n rs m h in
      let up : Rising (f.before ++ (m.reference ∷ f.behind)) = subst Rising f.split (from-rising 0 g.nodes) in
      record {
        valid = f.valid;
        ends = f.ends;
        lower = λ r l e.
            ⊎_elim (λ (i : Memᴰ r f.before). f.unnamed r i)
            (λ (i : Memᴰ r (m.reference ∷ f.behind)). ⊎_elim (λ (z : r ≡ m.reference). absurd (omega (arith, l, z))) (λ (k : Memᴰ r f.behind). absurd (omega (arith, l, rising-behind m.reference f.before f.behind up r k))) (Memᴰ.cases_cons i))
            (Memᴰ.append_cases f.before (subst (Memᴰ r) f.split (reference-searched g r e)));
      }

  -- NO NAME: no list that the path rules take leads from any reference of the graph to the node
  pub no_name : name_to bd lim waiting results g n ≡ ok none → (r : ℕ) → is_reference ((view_of g).node r) ≡ true → Unnamed bd lim (view_of g) n r
  unfolding name_to
  no_name h r e = none-unnamed bd lim waiting results (view_of g) (view_of-lawful g) n (references_from 0 g.nodes) h r (reference-searched g r e)

-- ---- copies change nothing: a copy stands behind its like
module _ (n : ℕ) where
  first-skip : (seen ps : List Path) (p : Path) → eqb p.end n ≡ false → first_to n (seen ++ (p ∷ ps)) ≡ first_to n (seen ++ ps)
  unfolding first_to
  first-skip [] ps p e = rw e
  first-skip (q ∷ seen) ps p e = ap (pick (eqb q.end n) (some q)) (first-skip seen ps p e)

  first-copy : (seen ps : List Path) (p : Path) → Memᴰ p seen → first_to n (seen ++ (p ∷ ps)) ≡ first_to n (seen ++ ps)
  unfolding first_to
  first-copy [] ps p m = absurd (Memᴰ.not-nil m)
  first-copy (q ∷ seen) ps p m = on1 (eqb q.end n) refl (λ i. first-copy seen ps p i)
    where
      on1 : (b : Bool) → eqb q.end n ≡ b → (Memᴰ p seen → first_to n (seen ++ (p ∷ ps)) ≡ first_to n (seen ++ ps)) → pick b (some q) (first_to n (seen ++ (p ∷ ps))) ≡ pick b (some q) (first_to n (seen ++ ps))
      on1 true e ih = refl
      on1 false e ih = ⊎_elim (λ (z : p ≡ q). first-skip seen ps p (ap (λ (y : Path). eqb y.end n) z ∙ e)) ih (Memᴰ.cases_cons m)

  has-mem : (p : Path) (qs : List Path) → has_path p qs ≡ true → (q : Path) × Memᴰ q qs × (p.edges ≡ q.edges)
  unfolding has_path
  has-mem p [] e = absurd (false≢true e)
  has-mem p (q ∷ qs) e = on1 (same p.edges q.edges) refl e (λ k. has-mem p qs k)
    where
      on1 : (b : Bool) → same p.edges q.edges ≡ b → or b (has_path p qs) ≡ true → (has_path p qs ≡ true → (x : Path) × Memᴰ x qs × (p.edges ≡ x.edges)) → (x : Path) × Memᴰ x (q ∷ qs) × (p.edges ≡ x.edges)
      on1 true f k ih = (q, Memᴰ.head refl, same-eq p.edges q.edges f)
      on1 false f k ih = let a = ih k in (a.0, Memᴰ.tail a.1, a.2)

  abbrev Alike : List Path → Type 0
  Alike ps = (p q : Path) → Memᴰ p ps → Memᴰ q ps → p.edges ≡ q.edges → p ≡ q

  first-distinct : (ps seen : List Path) → Alike (seen ++ ps) → first_to n (distinct seen ps) ≡ first_to n (seen ++ ps)
  unfolding distinct
  first-distinct [] seen a = ap (first_to n) (sym (append-nil seen))
  first-distinct (p ∷ ps) seen a = on1 (has_path p seen) refl (λ s k. first-distinct ps s k)
    where
      inner : (x : Path) → Memᴰ x (seen ++ ps) → Memᴰ x (seen ++ (p ∷ ps))
      inner x m = ⊎_elim (λ i. Memᴰ.append_left (p ∷ ps) i) (λ i. Memᴰ.append_right seen (Memᴰ.tail i)) (Memᴰ.append_cases seen m)

      on1 : (b : Bool) → has_path p seen ≡ b → ((s : List Path) → Alike (s ++ ps) → first_to n (distinct s ps) ≡ first_to n (s ++ ps)) → first_to n (distinct (add_unless b seen p) ps) ≡ first_to n (seen ++ (p ∷ ps))
      on1 true e ih =
          let h = has-mem p seen e in
          let z : p ≡ h.0 = a p h.0 (Memᴰ.append_right seen (Memᴰ.head refl)) (Memᴰ.append_left (p ∷ ps) h.1) h.2 in
          ih seen (λ x y i k q. a x y (inner x i) (inner y k) q) ∙ sym (first-copy seen ps p (subst (λ (x : Path). Memᴰ x seen) (sym z) h.1))
      on1 false e ih =
          let g : seen ++ (p ∷ []) ++ ps ≡ seen ++ (p ∷ ps) = append_assoc seen (p ∷ []) ps in
          ih (seen ++ (p ∷ [])) (subst Alike (sym g) a) ∙ ap (first_to n) g

  -- the first kept path to the node is the first recorded one
  pub first-kept : (bd : Bounds) (lim : Limit) (c : Setting SearchRefusal) (g : View) → Lawful g → (r : ℕ) (u : State Path) → direct bd lim c g r ≡ ok u → first_to n (recorded u) ≡ first_to n u.kept
  unfolding recorded
  first-kept bd lim c g lawful r u h = first-distinct u.kept [] (kept_same bd lim c g lawful r u h)

-- ---- one reference after another
module _ {R : Type 0} (search : ℕ → Answer R (State Path)) (n r : ℕ) (rs : List ℕ) where
  -- the search from one reference, where it is one
  abbrev pub find_one : Bool → Answer R (Option Name)
  find_one b = find_in search n (cons_if b r [])

  pub one_on : (b : Bool) → find_one b ≡ ok none → find_in search n (cons_if b r rs) ≡ find_in search n rs
  unfolding find_in
  one_on false h = refl
  one_on true h =
      let k = and_then-ok (search r) (λ s. named r (first_to n (recorded s)) (ok none)) none h in
      ap (λ a. and_then a (λ s. named r (first_to n (recorded s)) (find_in search n rs))) k.1 ∙ on1 (first_to n (recorded k.0)) k.2
    where
      on1 : (o : Option Path) → ◌≡◌ {A = Answer R (Option Name)} (named r o (ok none)) (ok none) → named r o (find_in search n rs) ≡ find_in search n rs
      on1 none j = unfold named in refl
      on1 (some p) j = absurd (let y : some (record { reference = r; edges = p.edges }) ≡ none = ok-inj _ _ (unfold named in j) in let z : ◌≡◌ {A = Bool} true false = cc in true≢false z)

  pub one_found : (b : Bool) (m : Name) → find_one b ≡ ok (some m) → find_in search n (cons_if b r rs) ≡ ok (some m)
  unfolding find_in
  one_found false m h = absurd (let y : none ≡ some m = ok-inj _ _ h in let z : ◌≡◌ {A = Bool} true false = cc in true≢false z)
  one_found true m h =
      let k = and_then-ok (search r) (λ s. named r (first_to n (recorded s)) (ok none)) (some m) h in
      ap (λ a. and_then a (λ s. named r (first_to n (recorded s)) (find_in search n rs))) k.1 ∙ on1 (first_to n (recorded k.0)) k.2
    where
      on1 : (o : Option Path) → ◌≡◌ {A = Answer R (Option Name)} (named r o (ok none)) (ok (some m)) → named r o (find_in search n rs) ≡ ok (some m)
      on1 none j = absurd (let y : none ≡ some m = ok-inj _ _ (unfold named in j) in let z : ◌≡◌ {A = Bool} true false = cc in true≢false z)
      on1 (some p) j = unfold named in j

  pub one-refused : (b : Bool) (x : R) → find_one b ≡ refuse x → find_in search n (cons_if b r rs) ≡ refuse x
  unfolding find_in
  one-refused false x h = absurd (ok-refuse x none h)
  one-refused true x h = on1 (search r) refl h
    where
      on1 : (a : Answer R (State Path)) → search r ≡ a → and_then a (λ s. named r (first_to n (recorded s)) (ok none)) ≡ refuse x → and_then a (λ s. named r (first_to n (recorded s)) (find_in search n rs)) ≡ refuse x
      on1 (refuse y) e j = j
      on1 (ok s) e j = on2 (first_to n (recorded s)) j
        where
          on2 : (o : Option Path) → ◌≡◌ {A = Answer R (Option Name)} (named r o (ok none)) (refuse x) → named r o (find_in search n rs) ≡ refuse x
          on2 none k = absurd (ok-refuse x none (unfold named in k))
          on2 (some p) k = absurd (ok-refuse x (some (record { reference = r; edges = p.edges })) (unfold named in k))

-- ---- the work area is zero after every call, and the result area after a refused one
module _ (bd : Bounds) where
  found-zeroed : (q : FindRequest) (a : Answer SearchRefusal (Option Name)) → Zeroed told_finding q.work q.result (found_as bd q a)
  unfolding found_as
  found-zeroed q (ok (some m)) = record { work = refl; result = λ h. absurd (h refl) }
  found-zeroed q (ok none) = record { work = refl; result = λ h. refl }
  found-zeroed q (refuse r) = record { work = refl; result = λ h. refl }

  definition-zeroed : (b : Bool) (g : Graph) (q : FindRequest) → Zeroed told_finding q.work q.result (if_definition bd b g q)
  unfolding if_definition
  definition-zeroed true g q = found-zeroed q (name_to bd q.length (whole_slots (slot_words bd) q.work) (whole_slots (slot_words bd) q.result) g q.node)
  definition-zeroed false g q = record { work = refl; result = λ h. refl }

  removed-zeroed : (b : Bool) (g : Graph) (q : FindRequest) → Zeroed told_finding q.work q.result (unless_removed bd b g q)
  unfolding unless_removed
  removed-zeroed true g q = record { work = refl; result = λ h. refl }
  removed-zeroed false g q = definition-zeroed (is_definition ((view_of g).node q.node)) g q

  pub find-zeroed : (image : Answer ImageRefusal Graph) (q : FindRequest) → Zeroed told_finding q.work q.result (find_call bd image q)
  unfolding find_call
  find-zeroed (ok g) q = removed-zeroed (traits ((view_of g).node q.node)).removed g q
  find-zeroed (refuse x) q = record { work = refl; result = λ h. refl }

-- ---- THE CALL, in the lists of demand 3

mem-reference : (ns : List Node) (i r : ℕ) → Memᴰ r (references_from i ns) → (k : ℕ) × (r ≡ i + k) × (is_reference (get_or ns k N.Removed) ≡ true)
unfolding references_from
mem-reference [] i r m = absurd (Memᴰ.not-nil m)
mem-reference (n ∷ ns) i r m = on1 (cons_if-cases (is_reference n) i r (references_from (suc i) ns) m) (λ k. mem-reference ns (suc i) r k)
  where
    on1 : ((r ≡ i) × (is_reference n ≡ true)) ⊎ Memᴰ r (references_from (suc i) ns) → (Memᴰ r (references_from (suc i) ns) → (k : ℕ) × (r ≡ suc i + k) × (is_reference (get_or ns k N.Removed) ≡ true)) → (k : ℕ) × (r ≡ i + k) × (is_reference (get_or (n ∷ ns) k N.Removed) ≡ true)
    on1 (inl e) ih = (0, omega (arith, e.0), e.1)
    on1 (inr k) ih = let a = ih k in (suc a.0, omega (arith, a.1), a.2)

-- only references are searched
pub searched-reference : (g : Graph) (r : ℕ) → Memᴰ r (references_from 0 g.nodes) → is_reference ((view_of g).node r) ≡ true
unfolding view_of
searched-reference g r m =
    let a = mem-reference g.nodes 0 r m in
    let z : a.0 ≡ r = omega (arith, a.1) in
    subst (λ (k : ℕ). is_reference (get_or g.nodes k N.Removed) ≡ true) z a.2

-- they are in ascending order
references-ascend : (ns : List Node) (i : ℕ) → Ascending (references_from i ns)
unfolding references_from
references-ascend [] i = tt
references-ascend (n ∷ ns) i = cons_if-ascends (is_reference n) i (references_from (suc i) ns) (λ y m. let a = mem-reference ns (suc i) y m in omega (arith, a.1)) (references-ascend ns (suc i))

-- so graphs with the same references by number are searched from the same list, however many nodes they have
pub same_references : (g h : Graph) → ((n : ℕ) → (view_of g).node n ≡ (view_of h).node n) → references_from 0 g.nodes ≡ references_from 0 h.nodes
same_references g h same = ascending-same (references_from 0 g.nodes) (references_from 0 h.nodes) (references-ascend g.nodes 0) (references-ascend h.nodes 0)
    (λ r m. reference-searched h r (sym (ap is_reference (same r)) ∙ searched-reference g r m)) (λ r m. reference-searched g r (ap is_reference (same r) ∙ searched-reference h r m))

module _ (bd : Bounds) (g : Graph) (q : FindRequest) where
  abbrev waiting_of : ℕ
  waiting_of = whole_slots (slot_words bd) q.work

  abbrev results_of : ℕ
  results_of = whole_slots (slot_words bd) q.result

  -- the search of a reference that the call makes
  abbrev pub search_by : ℕ → Answer SearchRefusal (State Path)
  search_by r = search_to bd q.length waiting_of results_of (view_of g) r

  -- no list that the path rules take leads from the reference to the node
  abbrev pub Nameless : ℕ → Type 0
  Nameless r = Unnamed bd q.length (view_of g) q.node r

  found_nothing : (t : Answer SearchRefusal (Option Name)) → (found_as bd q t).answer ≡ Ok None → t ≡ ok none
  unfolding found_as
  found_nothing (ok none) e = refl
  found_nothing (ok (some m)) e = absurd (let z : ◌≡◌ {A = Bool} true false = cc in true≢false z)
  found_nothing (refuse r) e = absurd (let z : ◌≡◌ {A = Bool} true false = cc in true≢false z)

  found_some : (t : Answer SearchRefusal (Option Name)) (r : ℕ) → (found_as bd q t).answer ≡ Ok (Some (node_id r)) → (m : Name) × (t ≡ ok (some m)) × (m.reference ≡ r)
  unfolding found_as
  found_some (ok (some m)) r e = let z : node_id m.reference ≡ node_id r = cc in (m, refl, ap (λ (x : NodeId). x.0) z)
  found_some (ok none) r e = absurd (let z : ◌≡◌ {A = Bool} true false = cc in true≢false z)
  found_some (refuse x) r e = absurd (let z : ◌≡◌ {A = Bool} true false = cc in true≢false z)

  module _ (there : (traits ((view_of g).node q.node)).removed ≡ false) (definition : is_definition ((view_of g).node q.node) ≡ true) where
    definition-call : find_call bd (ok g) q ≡ found_as bd q (name_to bd q.length waiting_of results_of g q.node)
    unfolding find_call unless_removed if_definition
    definition-call = rw (there, definition)

    -- none is answered: no search was refused, and no name leads there
    pub nothing-answered : (find_call bd (ok g) q).answer ≡ Ok None → (r : ℕ) → is_reference ((view_of g).node r) ≡ true → ((s : State Path) × (search_by r ≡ ok s)) × Nameless r
    unfolding name_to
    nothing-answered h r e =
        let t = found_nothing (name_to bd q.length waiting_of results_of g q.node) (ap (λ (o : Outcome Finding). o.answer) (sym definition-call) ∙ h) in
        let w = none-without search_by q.node (references_from 0 g.nodes) t r (reference-searched g r e) in
        ((w.0, w.1), no_name bd q.length waiting_of results_of g q.node t r e)

    -- and the other way round
    pub answers-nothing : ((r : ℕ) → is_reference ((view_of g).node r) ≡ true → ((s : State Path) × (search_by r ≡ ok s)) × Nameless r) → (find_call bd (ok g) q).answer ≡ Ok None
    unfolding name_to found_as
    answers-nothing h =
        let t : name_to bd q.length waiting_of results_of g q.node ≡ ok none = without-none search_by q.node (references_from 0 g.nodes) (λ r m. from r (h r (searched-reference g r m))) in
        ap (λ (o : Outcome Finding). o.answer) definition-call ∙ ap (λ (a : Answer SearchRefusal (Option Name)). (found_as bd q a).answer) t
      where
        none-there : (r : ℕ) (s : State Path) → search_by r ≡ ok s → Nameless r → (o : Option Path) → first_to q.node (recorded s) ≡ o → first_to q.node (recorded s) ≡ none
        none-there r s e u none k = k
        none-there r s e u (some p) k =
            let f = first_some q.node (recorded s) p k in
            let c = search_setting BreadthFirst (only_length q.length) waiting_of results_of in
            let v = kept-taken bd q.length c (view_of g) (view_of-lawful g) r s e p (recorded-kept bd q.length c (view_of g) (view_of-lawful g) r s e p f.0) in
            absurd (u p.edges (record { path = p; taken = v.0; complete = v.1 }) f.1)

        from : (r : ℕ) → ((s : State Path) × (search_by r ≡ ok s)) × Nameless r → Without search_by q.node r
        from r k = (k.0.0, k.0.1, none-there r k.0.0 k.0.1 k.1 (first_to q.node (recorded k.0.0)) refl)

    -- a reference is answered: its list stands in the first slot, leads to the node, and no lower reference has one
    pub found-answered : (r : ℕ) → (find_call bd (ok g) q).answer ≡ Ok (Some (node_id r))
        → (m : Name) × (m.reference ≡ r) × ((find_call bd (ok g) q).result ≡ area (slot_words bd) q.result (m.edges ∷ [])) × Lowest bd q.length (view_of g) q.node m
    unfolding found_as
    found-answered r h =
        let t = found_some (name_to bd q.length waiting_of results_of g q.node) r (ap (λ (o : Outcome Finding). o.answer) (sym definition-call) ∙ h) in (
          t.0,
          t.2,
          ap (λ (o : Outcome Finding). o.result) definition-call ∙ ap (λ (a : Answer SearchRefusal (Option Name)). (found_as bd q a).result) t.1,
          a-name bd q.length waiting_of results_of g q.node t.0 t.1,
        )
