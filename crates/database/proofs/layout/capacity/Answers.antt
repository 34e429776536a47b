-- `layout::capacity`: the whole slots lent, unless these are more than 4,096.
use Prim.Native.Nat.{ℕ, ◌-◌, min}
use mathlib.Core.Path.{◌≡◌, refl, ◌∙◌}
use mathlib.Core.Bool.{Bool, true, false}
use mathlib.Core.List.{List}
use native.Mathlib.Omega.{arith}
use borrow.Author.Tests.{ltb-true, ltb-false}
use lib.Dec.{ltb}
use lib.ListN.{length}
use Rattle.semantics.specs.Limits.{Bounds, record_words}
use Rattle.semantics.specs.Words.{whole_slots}
use Rattle.semantics.specs.Database.{capacity}
use Rattle.database.specs.Records.{bounded}
use Rattle.database.specs.Checks.Laws.{capacity-short, capacity-whole, capacity-full}
use Rattle.database.proofs.layout.capacity.Goals as goal

pub returns-then-words-lt-FIRST_RECORD : goal.returns-then-words-lt-FIRST_RECORD
returns-then-words-lt-FIRST_RECORD c = capacity-short (bounded c.args.most) c.args.words.now (omega arith)

least : (bd : Bounds) (ws : List ℕ) → min (whole_slots (record_words bd) (length ws - 3)) 4096 ≡ capacity bd ws
least bd ws = on (ltb (whole_slots (record_words bd) (length ws - 3)) 4096) refl
  where
    on : (b : Bool) → ltb (whole_slots (record_words bd) (length ws - 3)) 4096 ≡ b → min (whole_slots (record_words bd) (length ws - 3)) 4096 ≡ capacity bd ws
    on true e = let h = ltb-true (whole_slots (record_words bd) (length ws - 3)) 4096 e in omega (arith, h, capacity-whole bd ws h)
    on false e = let h = ltb-false (whole_slots (record_words bd) (length ws - 3)) 4096 e in omega (arith, h, capacity-full bd ws h)

pub returns : goal.returns
returns c = c.min.ensures ∙ least (bounded c.args.most) c.args.words.now
