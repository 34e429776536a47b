-- `trend`: the sum and the greatest of the entries passed. Each is below 2^32, so the sum fits.
use Rattle.std.proofs.Common.{◌≡◌, ◌*◌, ◌≤◌, ◌^◌, take}
use Rattle.semantics.specs.Window as Window
use Rattle.semantics.specs.Lists.{total}
use Rattle.window.proofs.counts.trend.Given as goal

abbrev pub invariant-loop-entry : goal.invariant-loop-entry
invariant-loop-entry l = (l.sum ≤ 2 ^ 32 * l.entry-index) × (l.sum ≡ total (take l.entry-index l.entries)) × (l.greatest ≡ Window.greatest (take l.entry-index l.entries))
