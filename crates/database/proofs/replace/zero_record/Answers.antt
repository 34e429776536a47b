-- `replace::zero_record`: the part that is lent comes back as zeros.
use mathlib.Core.Path.{ap, ◌∙◌}
use mathlib.Core.List.{List}
use Prim.Native.Nat.{ℕ}
use Rattle.database.specs.Records.{bounded, put_record}
use Rattle.semantics.specs.Words.{zeros}
use Rattle.database.specs.Records.Laws.{length_part, put-part}
use Rattle.database.proofs.replace.zero_record.Goals as goal

pub returns : goal.returns
returns c =
    let a = c.args in
    let bd = bounded a.most in
    put-part bd a.i c.zero.new.area a.words.now ∙ ap (λ (r : List ℕ). put_record bd a.i r a.words.now) (c.zero.ensures ∙ ap zeros (length_part bd a.i a.words.now c.requires))
