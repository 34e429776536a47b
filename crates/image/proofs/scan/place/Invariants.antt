-- `image::scan::place`: `at` is the place of the record of this turn.
use Rattle.std.proofs.Common.{◌≡◌, ◌+◌, ◌*◌, ◌≤◌}
use Rattle.semantics.specs.Image.{place_of}
use Rattle.image.proofs.scan.place.Given as goal

abbrev pub invariant-loop : goal.invariant-loop
invariant-loop l = (l.at ≤ l.from + 256 * l.counter) × (l.at ≡ place_of l.image l.from l.counter)
