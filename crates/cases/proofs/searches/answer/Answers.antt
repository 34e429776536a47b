-- An array's length, without its zeros written out.
use Rattle.std.proofs.Common.{ℕ, sym}
use Rattle.std.proofs.lemmas.List.{length-replicate}
use Rattle.cases.proofs.searches.answer.Goals as goal

pub slice_bounds-answer_lent-end : goal.slice_bounds-answer_lent-end
slice_bounds-answer_lent-end c = sym (length-replicate {A = ℕ} 16896 0)

pub slice_bounds-answer_lent-end-2 : goal.slice_bounds-answer_lent-end-2
slice_bounds-answer_lent-end-2 c = sym (length-replicate {A = ℕ} 16896 0)
