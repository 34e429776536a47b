use Prim.Native.Nat.{◌+◌}
use native.Mathlib.Omega.{arith}
use mathlib.Core.Path.{ap, ap₂, ◌∙◌}
use Rattle.storage.specs.Index.{node_row, edge_row}
use Rattle.semantics.specs.declared.replayed.Step.{Step}
use Rattle.stepping.specs.StepWords.{maker_in}
use Rattle.stepping.specs.Judged.{followed, judged_of}
use Rattle.stepping.proofs.steps.judge.Goals as goal

pub maker-top-requires : goal.maker-top-requires
maker-top-requires c = let q = ap (λ (s : Step). s.symbols) c.get_step-last.ensures in let z = c.requires.1 in (omega (arith, q, z.symbols, z.room), omega (arith, z.room))

pub maker-over-requires : goal.maker-over-requires
maker-over-requires c = let q = ap (λ (s : Step). s.scopes) c.get_step-last.ensures in let z = c.requires.1 in (omega (arith, q, z.scopes, z.room), omega (arith, z.room))

pub returns : goal.returns
unfolding judged_of
returns c =
    let a = c.args in
    let l = a.steps.now in
    let x = c.get_step-last.result in
    c.follow.ensures
    ∙ ap₂ (λ (t o : Step). followed (node_row a.index.now) a.edge (a.k + 1) x t o (edge_row a.index.now a.edge))
    c.maker-top.ensures c.maker-over.ensures
    ∙ ap (λ (s : Step).
    followed (node_row a.index.now) a.edge (a.k + 1) s (maker_in l s.symbols) (maker_in l s.scopes) (edge_row a.index.now a.edge))
    c.get_step-last.ensures
