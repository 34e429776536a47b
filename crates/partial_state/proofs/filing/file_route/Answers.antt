use native.Mathlib.Omega.{arith}
use mathlib.Core.Path.{◌∙◌}
use Rattle.partial_state.specs.Filings.Laws.{filed-put, filed-not, fits_next}
use Rattle.partial_state.proofs.filing.file_route.Goals as goal

pub put_record-requires : goal.put_record-requires
put_record-requires c = let a = c.args in let p = c.requires in (fits_next a.filing a.n a.words.now (omega (arith, c.if-n-filing.true)) p.0, p.0.named, p.1, omega arith)

pub returns-then-n-filing : goal.returns-then-n-filing
returns-then-n-filing c = let a = c.args in c.put_record.ensures ∙ filed-put a.filing a.n a.ends a.edges.now a.words.now (omega (arith, c.if-n-filing.true))

pub returns-else-n-filing : goal.returns-else-n-filing
returns-else-n-filing c = let a = c.args in filed-not a.filing a.n a.ends a.edges.now a.words.now (omega (arith, c.if-n-filing.false))
