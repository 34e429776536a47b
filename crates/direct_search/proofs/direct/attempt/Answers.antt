-- `direct_search::direct::attempt`: the result area is cleared first.
use Prim.Native.Nat.{ℕ}
use mathlib.Core.Path.{sym, ap, subst, ◌∙◌}
use lib.ListN.{length}
use Rattle.semantics.specs.Words.{zeros}
use Rattle.search_rounds.specs.Drives.{Ends}
use Rattle.direct_search.specs.DirectAnswers.{direct_of}
use Rattle.direct_search.proofs.direct.attempt.Goals as goal

pub search_kept-requires : goal.search_kept-requires
search_kept-requires c = (c.requires, c.zero.ensures ∙ ap zeros (sym c.zero.auto.area))

pub returns : goal.returns
returns c =
    let search-kept = c.search_kept in
    let zero' = c.zero in
    let a = c.args in
    λ g l.
    subst (λ (m : ℕ).
    Ends search-kept.result search-kept.new.res
    (direct_of g (record { order = a.order; limits = a.limits; work = length a.work.now; result = m; node = a.reference }))) zero'.auto.area
    (search-kept.ensures g l)
