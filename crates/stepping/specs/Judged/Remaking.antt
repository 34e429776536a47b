-- An edge that was judged on a path and accepted: its step can be made without judging it again.
-- Serves document 01, "Answer": linear search goes on along the one edge of a node that was appended.
use Rattle.std.specs.Prelude.{ℕ, ◌+◌, ◌*◌, ◌<◌, ◌≤◌, ◌≡◌, List, length}
use Rattle.std.proofs.Common.{arith, sym, ap, ◌∙◌}
use Rattle.semantics.specs.Limits.{step_length}
use Rattle.semantics.specs.ReplayedPaths.{step_at}
use Rattle.storage.specs.Index.{BLOCK, node_row, edge_row, target_row}
use Rattle.storage.specs.Index.Laws.{target_row_lem, edge-inside, node-inside}
use Rattle.semantics.specs.declared.replayed.Step.{Step}
use Rattle.std.specs.Prelude.{Ok}
use Rattle.stepping.specs.StepWords.{with_step}
use Rattle.stepping.specs.Judged.{Behind, Ready, judged_of, remade_behind, remade_in}
use Rattle.stepping.specs.Judged.Laws.{Made, judged-made}

pub record Accepted (index ws : List ℕ) (k e : ℕ) : Type 0 where
  pub step : Step
  pub judged : judged_of (node_row index) ws k e (edge_row index e) ≡ Ok step

module _ (index ws : List ℕ) (k e : ℕ) (v : Accepted index ws k e) where
  made : Made (node_row index) ws k e (edge_row index e) v.step
  made = judged-made (node_row index) ws k e (edge_row index e) v.step v.judged

  leads : target_row index e ≡ made.target.0
  leads = target_row_lem index e made.source made.target made.precedence made.live

  -- both records have a block
  pub accepted-edge : BLOCK * e < length index
  accepted-edge = edge-inside index e made.source made.target made.precedence made.live

  pub accepted-node : BLOCK * target_row index e < length index
  accepted-node = node-inside index (target_row index e) (λ q. made.there (ap (node_row index) (sym leads) ∙ q))

  -- made again behind the last step, it is the step that was judged
  pub accepted-again : (last : Step) → last ≡ step_at ws k → (r : Step) → r ≡ remade_behind (node_row index) ws last (k + 1) e (target_row index e) → (ws' : List ℕ) → ws' ≡ with_step ws (k + 1) r → ws' ≡ with_step ws (k + 1) v.step
  accepted-again last was r is ws' h =
      let x : r ≡ v.step = is ∙ ap (λ (l : Step). remade_behind (node_row index) ws l (k + 1) e (target_row index e)) was ∙ ap (remade_in (node_row index) ws k e) leads ∙ sym made.step in
      h ∙ ap (with_step ws (k + 1)) x

pub behind-ready : (ws : List ℕ) (k : ℕ) → Ready ws k → step_length * (k + 1) + step_length ≤ length ws → (last : Step) → last ≡ step_at ws k → Behind ws last (k + 1)
behind-ready ws k r room last is =
    let s : last.symbols ≡ (step_at ws k).symbols = ap (λ (x : Step). x.symbols) is in
    let t : last.scopes ≡ (step_at ws k).scopes = ap (λ (x : Step). x.scopes) is in
    record { few = omega (arith, r.few); room = room; symbols = omega (arith, s, r.symbols, room); scopes = omega (arith, t, r.scopes, room) }
