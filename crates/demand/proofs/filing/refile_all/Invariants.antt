-- `demand::filing::refile_all`: what is filed from here on is what was to be filed from the start.
use Prim.Native.Nat.{◌-◌, ◌≤◌}
use mathlib.Core.Path.{◌≡◌}
use lib.ListN.{length}
use Rattle.demand.specs.Filings.{refilings}
use Rattle.demand.proofs.filing.refile_all.Given as goal

abbrev pub invariant-loop-file : goal.invariant-loop-file
invariant-loop-file l = (length l.work ≡ length l.initial.work) × (length l.words ≡ length l.initial.words) × (l.file ≤ l.files) × (refilings l.image l.order l.file (l.files - l.file) l.work l.words ≡ refilings l.image l.order 0 l.files l.initial.work l.initial.words)
