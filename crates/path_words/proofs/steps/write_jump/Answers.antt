-- a jump, or nothing
use Prim.Native.Nat.{ℕ}
use mathlib.Core.Path.{subst}
use mathlib.Core.List.{List}
use Rattle.path_words.specs.Written.{Adds}
use Rattle.path_words.specs.PathWords.Laws.{adds_none, jump-some, jump-none}
use Rattle.path_words.proofs.steps.write_jump.Goals as goal

pub returns-then-jumps : goal.returns-then-jumps
returns-then-jumps c =
    let a = c.args in
    subst (λ (x : List ℕ). Adds a.area.now a.from c.put_item.new.area c.put_item.result x) (jump-some a.jumps a.to c.if-jumps.true) c.put_item.ensures

pub returns : goal.returns
returns c =
    let a = c.args in
    subst (λ (x : List ℕ). Adds a.area.now a.from a.area.now a.from x) (jump-none a.jumps a.to c.if-jumps.false) (adds_none a.area.now a.from)
