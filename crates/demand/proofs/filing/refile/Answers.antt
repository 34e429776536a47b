-- `demand::filing::refile`: an answer told like the call's is the call's.
use mathlib.Core.Path.{ap, ◌∙◌}
use Rattle.semantics.proofs.Theorems.Told.Laws.{replacement-alike}
use Rattle.demand.specs.Filings.{is_replaced, refiling}
use Rattle.demand.proofs.filing.refile.Goals as goal

pub returns : goal.returns
returns c =
    let replace-file = c.replace_file-replaced in
    let a = c.args in record {
      value = c.is_replaced.ensures
          ∙ ap is_replaced (replacement-alike replace-file.result (refiling a.image.now a.order a.file a.work.now a.words.now).answer
          replace-file.ensures.result_value);
      work_after = replace-file.ensures.work_after;
      words_after = replace-file.ensures.words_after;
    }
