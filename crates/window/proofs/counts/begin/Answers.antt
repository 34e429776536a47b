-- `begin`: the part that is lent comes back as zeros.
use Rattle.semantics.specs.Limits.{window_entries}
use Rattle.window.specs.Extent.{begun-front}
use Rattle.window.proofs.counts.begin.Goals as goal

pub returns : goal.returns
returns c = begun-front window_entries c.extent-end.result c.args.words.now c.fill.new.self c.extent-end.ensures.0 (c.fill.ensures.after (λ y h. h))
