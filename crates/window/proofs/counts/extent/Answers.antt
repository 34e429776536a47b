-- `extent`: the lesser of two numbers is the length of a front.
use Rattle.std.proofs.Common.{arith}
use Rattle.std.proofs.Math.ListN.{length-take}
use Rattle.semantics.specs.Limits.{window_words}
use Rattle.window.proofs.counts.extent.Goals as goal

pub returns : goal.returns
returns c = let m = length-take window_words c.args.words.now in (omega (arith, m, c.min.ensures), omega (arith, c.min.ensures), omega (arith, c.min.ensures))
