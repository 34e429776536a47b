-- `demand::filing::refile_aliases`: an answer told like the call's is the call's.
use mathlib.Core.Path.{ap, ◌∙◌}
use Rattle.semantics.proofs.Theorems.Told.Laws.{replacement-alike}
use Rattle.demand.specs.Filings.{is_replaced, aliasing}
use Rattle.demand.proofs.filing.refile_aliases.Goals as goal

pub returns : goal.returns
returns c =
    let replace-aliases = c.replace_aliases-replaced in
    let a = c.args in record {
      value = c.is_replaced.ensures
          ∙ ap is_replaced (replacement-alike replace-aliases.result (aliasing a.image.now a.order a.work.now a.words.now).answer
          replace-aliases.ensures.result_value);
      work_after = replace-aliases.ensures.work_after;
      words_after = replace-aliases.ensures.words_after;
    }
