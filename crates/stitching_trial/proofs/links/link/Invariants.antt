use mathlib.Core.Path.{◌≡◌}
use lib.ListN.{length}
use Rattle.semantics.specs.Database.{used_in}
use Rattle.semantics.specs.Hidden.{sees}
use Rattle.stitching_trial.specs.Links.{LinkedFrom}
use Rattle.stitching_trial.proofs.links.link.Given as goal

abbrev pub invariant-loop-i : goal.invariant-loop-i
invariant-loop-i l = (length l.links ≡ length l.initial.links) × (l.used ≡ used_in l.words) × LinkedFrom (sees l.visible) l.words l.links l.i
