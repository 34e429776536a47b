-- `stitching::stitched::attempt`: the result area is cleared first.
use Prim.Native.Nat.{ℕ}
use mathlib.Core.Path.{sym, ap, subst, ◌∙◌}
use lib.ListN.{length}
use Rattle.semantics.specs.Words.{zeros}
use Rattle.search_rounds.specs.Drives.{Ends}
use Rattle.semantics.specs.Hidden.{sees}
use Rattle.stitching.specs.StitchedAnswers.{stitched_of}
use Rattle.stitching.proofs.stitched.attempt.Goals as goal

pub search_kept-requires : goal.search_kept-requires
search_kept-requires c = let p = c.requires in (p.0, p.1, c.zero.ensures ∙ ap zeros (sym c.zero.auto.area))

pub returns : goal.returns
returns c =
    let search-kept = c.search_kept in
    let zero' = c.zero in
    let a = c.args in
    λ g l.
    subst (λ (m : ℕ).
    Ends search-kept.result search-kept.new.res
    (stitched_of (sees a.visible.now) g a.words.now (record { order = a.asked.order; limits = a.asked.limits; work = length a.work.now; result = m; node = a.asked.reference })))
    zero'.auto.area (search-kept.ensures g l)
