-- `readers::listing::conclude`: the room is asked.
use native.Mathlib.Omega.{arith}
use Rattle.readers.specs.Listing.Laws.{concluded-short, concluded-done}
use Rattle.readers.proofs.listing.conclude.Goals as goal

pub returns-then-res-count : goal.returns-then-res-count
returns-then-res-count c = λ ns k. concluded-short ns c.zero.new.area k (omega (arith, c.if-res-count.true)) c.zero.ensures

pub returns : goal.returns
returns c = λ ns k. concluded-done ns k (omega (arith, c.if-res-count.false))
