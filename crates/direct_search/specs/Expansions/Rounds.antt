-- A round of a direct search: the popped path, laid out as steps, is what the expansion is given.
-- Serves document 01, "Answer": `try_compute`.
use Rattle.std.specs.Prelude.{ℕ, ◌+◌, ◌-◌, ◌≤◌, ◌≡◌, List, length, take, drop, get_or}
use Rattle.std.proofs.Common.{arith, sym, subst}
use Rattle.std.proofs.lemmas.List.{length-map}
use Rattle.semantics.specs.declared.refusal.SearchRefusal.TheVariants as Search
use Rattle.semantics.specs.Limits.{base, slot_length, max_edges, Limit}
use Rattle.semantics.specs.Graph.{Graph, view_of}
use Rattle.semantics.specs.Path.{Path}
use Rattle.semantics.specs.Direct.{judge, tries}
use Rattle.storage.specs.Index.{EDGES, Loaded}
use Rattle.storage.specs.Index.Use.{out-bounded}
use Rattle.path.specs.Replays.Calls.{few-edges}
use Rattle.search_state.specs.declared.search.Search as S
use Rattle.search_state.specs.Searches.{Going}
use Rattle.search_state.specs.Items.{Carries}
use Rattle.search_state.specs.Items.Laws.{carries-slot}
use Rattle.search_state.specs.Retraces.{Retraces, Retraced}
use Rattle.search_rounds.specs.Drives.{Rounding, Rounded}
use Rattle.search_rounds.specs.Drives.Laws.{round-clear, round-count, round-traced}
use Rattle.direct_search.specs.DirectAnswers.{edge_tries}
use Rattle.direct_search.specs.Expansions.{Given, Expanded}

-- an expansion looks at no more edges than there are
pub tries-few : {g : Graph} {index : List ℕ} → Loaded g index → (lim : Limit) (p : Path) → length (edge_tries lim (view_of g) p) ≤ EDGES
unfolding tries
tries-few {g} {index} loaded lim p =
    let n : length (edge_tries lim (view_of g) p) ≡ length ((view_of g).out p.end) = length-map ((view_of g).out p.end) (judge Search.TooLong base lim (view_of g) p) in
    let h = out-bounded loaded p.end in
    omega (arith, n, h)

module _ {most : ℕ} {index steps item : List ℕ} {n : ℕ} {s : S.Search} {ws rs : List ℕ} (v : Rounding most index steps item n s ws rs) {k : ℕ} (at : k ≡ get_or item 0 0) (steps' : List ℕ)
    (long : length steps' ≡ length steps) (t : (x : Retraces index steps (take (k + 1 - 1) (drop 1 item)) n) → Retraced index steps (take (k + 1 - 1) (drop 1 item)) n x steps') where
  carried : Carries slot_length item v.path.edges
  carried = subst (λ (l : List ℕ). Carries slot_length l v.path.edges) (sym v.words) (carries-slot max_edges v.path.edges (few-edges (view_of v.graph) v.reference v.path.edges v.path v.good))

  pub round-given : Given most index steps' item k s ws rs
  round-given = record {
    graph = v.graph;
    loaded = v.loaded;
    reference = v.reference;
    path = v.path;
    count = round-count v at;
    stepped = (round-traced v at steps' t).0;
    long = omega (arith, long, v.long);
    carries = carried;
    clear = round-clear v;
    good = v.good;
    model = v.model;
    rep = v.rep;
    small = v.small;
  }

  pub rounded : (a : Going) (ws' rs' : List ℕ) → Expanded most index steps' item k s ws rs round-given a ws' rs' → Rounded edge_tries most index steps item n s ws rs v a steps' ws' rs'
  unfolding round-given
  rounded a ws' rs' x = record { tells = x; begun = (round-traced v at steps' t).1; laid = (round-traced v at steps' t).2 }
