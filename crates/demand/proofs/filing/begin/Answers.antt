-- `demand::filing::begin`: an answer told like the call's is the call's.
use mathlib.Core.Path.{ap, ◌∙◌}
use Rattle.semantics.specs.Entries.{fresh_database}
use Rattle.semantics.proofs.Theorems.Told.Laws.{creation-alike}
use Rattle.demand.specs.Filings.{is_created}
use Rattle.demand.proofs.filing.begin.Goals as goal

pub returns : goal.returns
returns c =
    let a = c.args in
    record { value = c.is_created.ensures ∙ ap is_created (creation-alike c.fresh.result (fresh_database a.image.now a.words.now).answer c.fresh.ensures.result_value); words_after = c.fresh.ensures.words_after }
