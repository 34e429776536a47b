use native.Mathlib.Omega.{arith}
use mathlib.Core.Path.{ap, ◌∙◌}
use lib.ListN.{length-set}
use Rattle.semantics.specs.Limits.{max_edges}
use Rattle.semantics.specs.Words.{zeros}
use Rattle.stitching_trial.specs.Items.{cut_short, part_length}
use Rattle.stitching_trial.proofs.joined_path.shorten.Goals as goal

pub slice_bounds-zero-end : goal.slice_bounds-zero-end
slice_bounds-zero-end c = let a = c.args in let p = c.requires in let h = length-set a.item.now 0 a.k in omega (arith, h, p.0)

pub returns : goal.returns
returns c = let a = c.args in let p = c.requires in cut_short max_edges a.item.now a.k p.0 p.1 (c.zero.ensures ∙ ap zeros (part_length max_edges a.item.now a.k p.0 p.1))
