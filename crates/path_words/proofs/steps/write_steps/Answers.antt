-- the steps of the edges before i are written
use Prim.Native.Nat.{ℕ, ◌+◌}
use native.Mathlib.Omega.{arith}
use mathlib.Core.Path.{◌≡◌, ap, subst, ◌∙◌}
use mathlib.Core.Bool.{Bool, false}
use mathlib.Core.List.{List, [], ◌∷◌, ◌++◌}
use lib.ListN.{get_or}
use Rattle.semantics.specs.ReplayedPaths.{step_at, passages_to}
use Rattle.semantics.specs.Lists.{cons_if}
use Rattle.semantics.specs.Calls.{jump}
use Rattle.path_words.specs.Written.{Adds}
use Rattle.semantics.specs.PathWords.{step_words}
use Rattle.path_words.specs.PathWords.Laws.{adds_none, adds_then, steps-none, steps-turn}
use borrow.Author.Rules.{rules}
use Rattle.path_words.proofs.steps.write_steps.Goals as goal

pub loop-i-init : goal.loop-i-init
loop-i-init c =
    let a = c.args in
    (search rules, search rules, search rules, search rules, subst (λ (x : List ℕ). Adds a.area.now a.from a.area.now a.from x) (steps-none a.path) (adds_none a.area.now a.from))

pub loop-i-preserved : goal.loop-i-preserved
loop-i-preserved c =
    let a = c.args in
    let l = c.loop-i in
    let p = a.path in
    let e = c.word.result in
    let j = c.flag.result in
    let t = c.part-to.result in
    let x = step_words (passages_to p l.i) in
    let y = step_words (cons_if j (jump t) []) in
    let b = c.put_item-at.new.area in
    let k = c.put_item-at.result in
    let d = c.write_jump-at.new.area in
    let n = c.write_jump-at.result in
    let is-edge : e ≡ get_or p.edges l.i 0 = c.word.ensures ∙ ap (λ (s : List ℕ). get_or s l.i 0) l.invariant.1 in
    let is-flag : j ≡ get_or p.jumps l.i false = c.flag.ensures ∙ ap (λ (s : List Bool). get_or s l.i false) l.invariant.2 in
    let is-end : t ≡ (step_at p.steps (l.i + 1)).end = c.part-to.ensures ∙ ap (λ (s : List ℕ). (step_at s (l.i + 1)).end) l.invariant.3 in
    let one = adds_then l.area b d l.at k n (1 ∷ e ∷ []) y c.put_item-at.ensures c.write_jump-at.ensures in
    let all = adds_then a.area.now l.area d a.from l.at n x ((1 ∷ e ∷ []) ++ y) l.invariant.4 one in
    (search rules, l.invariant.1, l.invariant.2, l.invariant.3, subst (λ (z : List ℕ). Adds a.area.now a.from d n z) (steps-turn p l.i is-edge is-flag is-end) all)

pub returns : goal.returns
returns c =
    let put = c.put in
    let l = c.loop-i in
    let a = c.args in
    let p = a.path in
    let q : l.i ≡ p.count = omega arith in
    adds_then a.area.now l.area put.new.area a.from l.at put.result (step_words (passages_to p p.count)) (0 ∷ [])
    (subst (λ (i : ℕ). Adds a.area.now a.from l.area l.at (step_words (passages_to p i))) q l.invariant.4) put.ensures
