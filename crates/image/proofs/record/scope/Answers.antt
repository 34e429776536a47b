-- `image::record::scope`: only kind 6 has one.
use Rattle.std.proofs.Common.{ℕ, ◌+◌, ap, ◌∙◌}
use Rattle.semantics.specs.Bytes.{short}
use native.Mathlib.Omega.{arith}
use borrow.Author.Tests.{eq-eqb, ne_eqb}
use Rattle.image.specs.Records.Laws.{size-scope}
use Rattle.image.specs.Versions.{width_of}
use Rattle.image.proofs.record.scope.Goals as goal

pub short-requires : goal.short-requires
short-requires c = omega (arith, c.requires.whole, size-scope (width_of c.args.version) c.if-kind-eq-PUSH_SCOPED.true)

pub returns-then-kind-eq-PUSH_SCOPED : goal.returns-then-kind-eq-PUSH_SCOPED
returns-then-kind-eq-PUSH_SCOPED c = simp (eq-eqb c.args.kind 6 c.if-kind-eq-PUSH_SCOPED.true) (c.short.ensures.value ∙ ap (λ (i : ℕ). short c.args.image.now (c.args.at + 4 + i)) c.symbol_bytes.ensures)

pub returns : goal.returns
returns c = simp (ne_eqb c.args.kind 6 c.if-kind-eq-PUSH_SCOPED.false)
