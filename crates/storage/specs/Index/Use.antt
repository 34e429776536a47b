-- What the crates above use: the records of a loaded graph, the run over a node's outgoing edges, and the answer of the check.
-- Serves document 01, "Graph image": `outgoing` means live edges by ascending number.
use Rattle.std.specs.Prelude.{ℕ, zero, suc, ◌-◌, ◌<◌, ◌≤◌, ◌≡◌, refl, Bool, true, false, List, [], ◌∷◌, eqb, length, Err, Ok}
use Rattle.std.proofs.Common.{arith, ap, subst, eq-eqb, ne_eqb}
use Rattle.semantics.specs.declared.graph.Edge.{Edge}
use Rattle.semantics.specs.declared.graph.Edge.TheVariants as E
use Rattle.semantics.specs.declared.refusal.ImageRefusal.{ImageRefusal}
use Rattle.semantics.specs.Lists.{pick, cons_if}
use Rattle.semantics.specs.Answer.{Answer, ok, refuse}
use Rattle.semantics.specs.Calls.{check_call}
use Rattle.semantics.specs.Graph.{Graph, view_of, outgoing}
use Rattle.semantics.specs.Hidden.{seen, seen_image}
use Rattle.storage.specs.Index.{EDGES, node_row, edge_row, first_row, next_row, Runs, Loaded}
use Rattle.semantics.specs.declared.answer.Counts.{Counts}
use Rattle.semantics.specs.PublicAnswers.{Checked}

-- THE RECORDS
module _ {g : Graph} {index : List ℕ} (loaded : Loaded g index) where
  pub loaded-node : (n : ℕ) → node_row index n ≡ (view_of g).node n
  loaded-node n = loaded.node n

  pub loaded-edge : (e : ℕ) → edge_row index e ≡ (view_of g).edge e
  loaded-edge e = loaded.edge e

  -- following the links from `first` runs over exactly the outgoing edges
  pub loaded-runs : (n : ℕ) → Runs index (first_row index n) ((view_of g).out n)
  loaded-runs n = loaded.runs n

-- THE RUN: link 0 ends it, every other link is the next edge plus 1
pub runs-end : (index es : List ℕ) → Runs index 0 es → es ≡ []
runs-end index [] r = refl
runs-end index (e ∷ es) r = absurd (omega (arith, r.0))

pub runs-next : (index : List ℕ) (link : ℕ) (es : List ℕ) → 0 < link → Runs index link es → (rest : List ℕ) × (es ≡ (link - 1) ∷ rest) × Runs index (next_row index (link - 1)) rest
runs-next index link [] h r = absurd (omega (arith, r))
runs-next index link (e ∷ es) h r =
    let z : e ≡ link - 1 = omega (arith, r.0) in
    (es, ap (λ (x : ℕ). x ∷ es) z, subst (λ (x : ℕ). Runs index (next_row index x) es) z r.1)

-- the edges that a run still passes, of which there are at most `most`
unfoldable pub follow : List ℕ → ℕ → ℕ → List ℕ
follow index zero link = []
follow index (suc most) link = pick (eqb link 0) [] ((link - 1) ∷ follow index most (next_row index (link - 1)))

pub runs-follow : (index : List ℕ) (most link : ℕ) (es : List ℕ) → Runs index link es → length es ≤ most → follow index most link ≡ es
unfolding follow
runs-follow index zero link [] r h = refl
runs-follow index zero link (e ∷ es) r h = absurd (omega (arith, h))
runs-follow index (suc most) link [] r h = rw (eq-eqb link 0 r)
runs-follow index (suc most) link (e ∷ es) r h =
    let z : link - 1 ≡ e = omega (arith, r.0) in
    rw (ne_eqb link 0 (λ q. omega (arith, q, r.0)), z) (ap (λ (l : List ℕ). e ∷ l) (runs-follow index most (next_row index e) es r.1 (omega (arith, h))))

-- how many they are: the measure of a loop over them
abbrev pub left : List ℕ → ℕ → ℕ
left index link = length (follow index EDGES link)

pub left_less : (index : List ℕ) (link : ℕ) (es : List ℕ) → 0 < link → Runs index link es → length es ≤ EDGES → left index (next_row index (link - 1)) < left index link
left_less index link es h r b =
    let n = runs-next index link es h r in
    let c : length es ≡ suc (length n.0) = ap length n.1 in
    let x : left index link ≡ length es = ap length (runs-follow index EDGES link es r b) in
    let y : left index (next_row index (link - 1)) ≡ length n.0 = ap length (runs-follow index EDGES (next_row index (link - 1)) n.0 n.2 (omega arith)) in
    omega (arith, c, x, y)

cons_if-length : (b : Bool) (x : ℕ) (l : List ℕ) → length (cons_if b x l) ≤ suc (length l)
cons_if-length true x l = omega arith
cons_if-length false x l = omega arith

outgoing-length : (n i : ℕ) (es : List Edge) → length (outgoing n i es) ≤ length es
unfolding outgoing
outgoing-length n i [] = omega arith
outgoing-length n i (E.Removed ∷ es) = let h = outgoing-length n (suc i) es in omega (arith, h)
outgoing-length n i (E.Live s t p ∷ es) =
    let h = outgoing-length n (suc i) es in
    let k = cons_if-length (eqb s.0 n) i (outgoing n (suc i) es) in omega (arith, h, k)

pub out-bounded : {g : Graph} {index : List ℕ} → Loaded g index → (n : ℕ) → length ((view_of g).out n) ≤ EDGES
unfolding view_of
out-bounded {g} k n = let h = outgoing-length n 0 g.edges in omega (arith, h, k.edges)

-- THE ANSWER: what a match on it says of the image
pub answer-refused : (x : Answer ImageRefusal Graph) {c : Checked} (r : ImageRefusal) → c ≡ check_call x → c ≡ Err r → x ≡ refuse r
unfolding check_call
answer-refused (ok g) r e q = absurd (let z : ◌≡◌ {A = ℕ} 0 1 = cc in omega arith)
answer-refused (refuse s) r e q = let z : s ≡ r = cc in λ i. refuse (z i)

-- an accepted graph, and that its counts are the answer's
pub record Accepted (x : Answer ImageRefusal Graph) (files nodes edges : ℕ) : Type 0 where
  pub graph : Graph
  pub is : x ≡ ok graph
  pub file-count : files ≡ graph.files
  pub node-count : nodes ≡ length graph.nodes
  pub edge_count : edges ≡ length graph.edges

pub answer-accepted : (x : Answer ImageRefusal Graph) {c : Checked} (counts : Counts) → c ≡ check_call x → c ≡ Ok counts → Accepted x counts.files counts.nodes counts.edges
unfolding check_call
answer-accepted (ok g) counts e q =
    let z : counts ≡ record { files = g.files; nodes = length g.nodes; edges = length g.edges } = cc in
    record { graph = g; is = refl; file-count = ap (λ (x : Counts). x.files) z; node-count = ap (λ (x : Counts). x.nodes) z; edge_count = ap (λ (x : Counts). x.edges) z }
answer-accepted (refuse s) counts e q = absurd (let z : ◌≡◌ {A = ℕ} 0 1 = cc in omega arith)

-- and of what a desk sees of it
pub refused-seen : (see : ℕ → Bool) (x : Answer ImageRefusal Graph) {c : Checked} (r : ImageRefusal) → c ≡ check_call x → c ≡ Err r → seen_image see x ≡ refuse r
unfolding seen_image
refused-seen see x r e q = ap (seen_image see) (answer-refused x r e q)

pub accepted-seen : (see : ℕ → Bool) {x : Answer ImageRefusal Graph} {g : Graph} → x ≡ ok g → seen_image see x ≡ ok (seen see g)
unfolding seen_image
accepted-seen see e = ap (seen_image see) e
