-- `replace::is_clean`: what the words so far say, and what those from here on say, is what all say.
use Prim.Native.Nat.{◌+◌}
use native.Mathlib.Omega.{arith}
use mathlib.Core.Path.{◌≡◌, refl, ap, ◌∙◌}
use mathlib.Core.Bool.{Bool, true, false, ◌&&◌}
use lib.Dec.{eqb}
use lib.ListN.{get_or, drop}
use Rattle.semantics.specs.Lists.{and}
use Rattle.database.specs.Filing.{is_clean}
use Rattle.database.specs.Filing.Free.{clean-one, clean_all}
use Rattle.database.proofs.replace.is_clean.Goals as goal

turned : (a b : Bool) → (a && b) ≡ and b a
turned true true = refl
turned true false = refl
turned false true = refl
turned false false = refl

pub loop-word-preserved : goal.loop-word-preserved
loop-word-preserved c =
    let l = c.loop-word in
    let ws = c.args.words.now in
    ap (λ (b : Bool). and b (is_clean (drop (l.word-index + 1) ws))) (turned l.clean (eqb (get_or ws l.word-index 0) 0))
    ∙ clean-one ws l.word-index l.clean (omega arith)
    ∙ l.invariant

pub returns : goal.returns
returns c = let l = c.loop-word in clean_all c.args.words.now l.word-index l.clean (omega arith) ∙ l.invariant
