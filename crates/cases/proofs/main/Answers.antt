-- An array's length, without its zeros written out.
use Rattle.std.proofs.Common.{ℕ, sym}
use Rattle.std.proofs.lemmas.List.{length-replicate}
use Rattle.cases.proofs.main.Goals as goal

pub slice_bounds-replay_all-end : goal.slice_bounds-replay_all-end
slice_bounds-replay_all-end c = sym (length-replicate {A = ℕ} 1300000 0)

pub slice_bounds-replay_all-end-2 : goal.slice_bounds-replay_all-end-2
slice_bounds-replay_all-end-2 c = sym (length-replicate {A = ℕ} 65537 0)

pub slice_bounds-replay_all-end-3 : goal.slice_bounds-replay_all-end-3
slice_bounds-replay_all-end-3 c = sym (length-replicate {A = ℕ} 536841 0)
