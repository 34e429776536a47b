use Rattle.std.proofs.Common.{◌≡◌, length}
use Rattle.cases.proofs.replay_all.Given as goal

-- the areas keep their lengths
abbrev pub invariant-loop-which : goal.invariant-loop-which
invariant-loop-which g l =
    (length l.list ≡ length l.fn.list) × (length l.image ≡ length l.fn.image) × (length l.words ≡ length l.fn.words)
