use Rattle.std.proofs.Common.{length, ◌-◌}
use Rattle.case_list.proofs.areas.put_changes.Given as goal

abbrev pub decreases-loop-from : goal.decreases-loop-from
decreases-loop-from l = length l.after - l.from
