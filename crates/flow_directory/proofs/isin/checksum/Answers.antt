-- `flow_directory::isin::checksum`: the sum of the characters behind those that are left.
use native.Mathlib.Omega.{arith}
use mathlib.Core.Path.{ap, ◌∙◌}
use Rattle.std.proofs.Common.{rules, [], ◌∷◌, length, length-append}
use Rattle.std.proofs.lemmas.List.{nil_from_length}
use Rattle.flow_directory.specs.Sums.Laws.{summed-none, summed-more, summed-all}
use Rattle.flow_directory.proofs.isin.checksum.Goals as goal

pub loop-c-init : goal.loop-c-init
loop-c-init c = summed-none c.args.isin.now _ (search rules)

pub with_character-sum-requires : goal.with_character-sum-requires
with_character-sum-requires c =
    let l = c.loop-c.invariant in
    omega (arith, l.most, ap length l.whole, length-append c.loop-c.c-iterator.iter.rest.now l.done, ap length c.in-Some.ensures.steps, length-append c.next.new.self.iter.rest.now (c.in-Some.c.now ∷ []), c.requires)

pub loop-c-preserved : goal.loop-c-preserved
loop-c-preserved c = let w = c.with_character-sum.ensures in summed-more c.args.isin.now c.in-Some.c.now c.loop-c.invariant c.in-Some.ensures.steps w.0 w.1

pub returns : goal.returns
returns c = summed-all c.args.isin.now c.loop-c.invariant (nil_from_length _ c.in-None.ensures.steps.0)
