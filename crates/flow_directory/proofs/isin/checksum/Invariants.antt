-- `flow_directory::isin::checksum`: the sum of the characters behind those that are left.
use Rattle.flow_directory.specs.Sums.{Summed}
use Rattle.flow_directory.proofs.isin.checksum.Given as goal

abbrev pub invariant-loop-c : goal.invariant-loop-c
invariant-loop-c l = Summed l.isin l.c-iterator.iter.rest.now l.sum
