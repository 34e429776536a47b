-- `replace::put_record`: the part that is lent comes back as the record.
use mathlib.Core.Path.{ap, ◌∙◌}
use mathlib.Core.List.{List}
use Prim.Native.Nat.{ℕ}
use Rattle.database.specs.Records.{bounded, put_record}
use Rattle.database.specs.Records.Laws.{put-part}
use Rattle.database.proofs.replace.put_record.Goals as goal

pub returns : goal.returns
returns c =
    let a = c.args in
    put-part (bounded a.most) a.i c.lay_out.new.into a.words.now ∙ ap (λ (r : List ℕ). put_record (bounded a.most) a.i r a.words.now) c.lay_out.ensures
