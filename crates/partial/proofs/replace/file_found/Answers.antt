use native.Mathlib.Omega.{arith}
use Rattle.partial.specs.Replacements.Laws.{filed-by, filed-without}
use Rattle.partial.proofs.replace.file_found.Goals as goal

pub returns-then-filing-gt0 : goal.returns-then-filing-gt0
returns-then-filing-gt0 c =
    let compute = c.compute in
    let a = c.args in
    filed-by a.index.now a.nodes a.filing a.config a.work.now a.words.now compute.result compute.new.words
    compute.ensures

pub returns-else-filing-gt0 : goal.returns-else-filing-gt0
returns-else-filing-gt0 c = let a = c.args in filed-without a.index.now a.nodes a.filing a.config a.work.now a.words.now (omega arith)
