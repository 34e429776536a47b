-- A round of a stitched search: the popped path, laid out as steps, is what the expansion is given.
-- Serves document 01, "Partial paths": `try_compute_from_partials`.
use Rattle.std.specs.Prelude.{ℕ, ◌+◌, ◌-◌, ◌≤◌, ◌≡◌, Bool, List, length, take, drop, get_or}
use Rattle.std.proofs.Common.{arith, ap, ◌∙◌}
use Rattle.std.proofs.lemmas.List.{length-map}
use Rattle.semantics.specs.Limits.{base, Limit}
use Rattle.semantics.specs.Graph.{View}
use Rattle.semantics.specs.Path.{Path}
use Rattle.semantics.specs.Stitching.{judge_slot}
use Rattle.search_state.specs.Searches.{Going}
use Rattle.search_state.specs.declared.search.Search as S
use Rattle.search_state.specs.Retraces.{Retraces, Retraced}
use Rattle.database.specs.Records.{edge_words}
use Rattle.stitching_trial.specs.Links.{RECORDS, starting_at, seen_in, Readable}
use Rattle.stitching_trial.specs.Links.Laws.{readable-used, count-seen, starting-length, tries-are}
use Rattle.search_rounds.specs.Drives.{Rounding, Rounded}
use Rattle.search_rounds.specs.Drives.Laws.{round-long, round-clear, round-count, round-held, round-traced}
use Rattle.stitching.specs.StitchedAnswers.{tries_in}
use Rattle.stitching.specs.Expansions.{Given, Expanded}

-- an expansion looks at no more partial paths than there are slots
pub tries-few : (see : ℕ → Bool) {words : List ℕ} → Readable words → (lim : Limit) (g : View) (p : Path) → length (tries_in see words lim g p) ≤ RECORDS
tries-few see {words} r lim g p =
    let is = starting_at p.end 0 (seen_in see words) in
    let n : length (tries_in see words lim g p) ≡ length is = ap length (tries-are see r lim g p) ∙ length-map is (λ i. judge_slot base lim g p (edge_words base i words)) in
    let l = starting-length p.end 0 (seen_in see words) in
    let c = count-seen see words in
    let u = readable-used r in
    omega (arith, n, l, c, u)

module _ (words : List ℕ) {most : ℕ} {index steps item : List ℕ} {n : ℕ} {s : S.Search} {ws rs : List ℕ} (v : Rounding most index steps item n s ws rs) {k : ℕ} (at : k ≡ get_or item 0 0) (steps' : List ℕ)
    (long : length steps' ≡ length steps) (t : (x : Retraces index steps (take (k + 1 - 1) (drop 1 item)) n) → Retraced index steps (take (k + 1 - 1) (drop 1 item)) n x steps') where
  pub round-given : Given most index steps' item k s ws rs
  round-given = record {
    graph = v.graph;
    loaded = v.loaded;
    reference = v.reference;
    path = v.path;
    count = round-count v at;
    stepped = (round-traced v at steps' t).0;
    long = omega (arith, long, v.long);
    carries = (round-long v, round-held v at);
    clear = round-clear v;
    good = v.good;
    model = v.model;
    rep = v.rep;
    small = v.small;
  }

  pub rounded : {see : ℕ → Bool} {a : Going} {steps'' ws' rs' : List ℕ} → Expanded words most index steps' item k s ws rs round-given see a steps'' ws' rs' → Rounded (tries_in see words) most index steps item n s ws rs v a steps'' ws' rs'
  unfolding round-given
  rounded x =
      let l = round-traced v at steps' t in
      let c = round-count v at in
      record {
        tells = x.tells;
        begun = x.kept 0 v.first (omega arith) l.1;
        laid = λ j h. let u = l.2 j h in (u.0, x.kept j u.0 (omega (arith, h, c)) u.1, u.2);
      }
