-- `readers::listing::put`: there is room, or there is none.
use native.Mathlib.Omega.{arith}
use Rattle.std.proofs.Common.{ℕ, ◌+◌, List, [], ◌∷◌, ◌++◌, subst, sym}
use Rattle.readers.specs.Listing.{Holds}
use Rattle.readers.specs.Listing.Laws.{put-inside, put_full}
use Rattle.readers.proofs.listing.put.Goals as goal
use Rattle.readers.proofs.listing.put.Goals.{then-at-res, else-at-res}

pub returns : goal.returns
returns c =
    let a = c.args in
    λ ms h.
    elim c.if-at-res.branch [
      | then-at-res w ↦ subst (λ (r : List ℕ). Holds r (a.count + 1) (ms ++ (a.number ∷ []))) (sym w.res-is) (put-inside a.res.now a.count a.number (omega (arith, w.if-at-res.true)) ms h)
      | else-at-res w ↦ subst (λ (r : List ℕ). Holds r (a.count + 1) (ms ++ (a.number ∷ []))) (sym w.res-is) (put_full a.res.now a.count a.number (omega (arith, w.if-at-res.false)) ms h)
    ]
