-- `image::header::header`: the outcomes of the four parts.
use Rattle.std.proofs.Common.{sym, ap, ◌∙◌, arith}
use Rattle.semantics.specs.Image.{symbol_bytes, most_bytes}
use Rattle.image.specs.Reached.Laws.{bad-size, bad-version, too_long, by-counts, sized-long}
use Rattle.image.specs.Versions.{width-some}
use Rattle.image.proofs.header.header.Goals as goal

pub returns-then-not-sized : goal.returns-then-not-sized
returns-then-not-sized c = bad-size c.args.image.now (sym c.sized.ensures ∙ c.if-not-sized.true)

pub version-requires : goal.version-requires
version-requires c = sized-long c.args.image.now (sym c.sized.ensures ∙ c.if-not-sized.false)

pub returns-in_default : goal.returns-in_default
returns-in_default c = bad-version c.args.image.now (sym c.sized.ensures ∙ c.if-not-sized.false) c.in_default.ensures

pub returns-then-most_bytes-image : goal.returns-then-most_bytes-image
returns-then-most_bytes-image c =
    let v = c.in-Some.ensures.0 in
    too_long c.args.image.now (sym c.sized.ensures ∙ c.if-not-sized.false)
    (λ e. width-some c.in-Some.version (ap symbol_bytes (sym v) ∙ e)) (omega (arith, c.most_bytes.ensures, ap most_bytes v))

pub counts-requires : goal.counts-requires
counts-requires c = sized-long c.args.image.now (sym c.sized.ensures ∙ c.if-not-sized.false)

pub returns : goal.returns
returns c =
    let v = c.in-Some.ensures.0 in
    c.counts.ensures
    ∙ by-counts c.args.image.now (sym c.sized.ensures ∙ c.if-not-sized.false)
    (λ e. width-some c.in-Some.version (ap symbol_bytes (sym v) ∙ e)) (omega (arith, c.most_bytes.ensures, ap most_bytes v))
