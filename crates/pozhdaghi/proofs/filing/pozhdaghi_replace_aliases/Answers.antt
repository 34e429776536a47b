-- what is asked is what the numbers say; the answer is what the call tells
use mathlib.Core.Path.{ap, ◌∙◌}
use lib.ListN.{length}
use Rattle.std.specs.Prelude.{None}
use Rattle.semantics.specs.Written.{written}
use Rattle.semantics.specs.Told.{told_replacement}
use Rattle.semantics.specs.Calls.{Change}
use Rattle.pozhdaghi.specs.Replaced.{asked-call}
use Rattle.pozhdaghi.proofs.filing.pozhdaghi_replace_aliases.Goals as goal
use Rattle.semantics.specs.PublicAnswers.{Replacement}

pub returns : goal.returns
returns c =
    let s = c.replace_for-replaced.ensures in
    let a = c.args in
    let e = asked-call None a.image.now a.asked.now a.work.now a.words.now c.config.result c.config.ensures in record {
      answer_after = c.tell.ensures.words
          ∙ ap (λ (x : Replacement). written (length a.answer.now) (told_replacement x)) (s.0 ∙ ap (λ (o : Change Replacement). o.answer) e);
      work_after = s.1 ∙ ap (λ (o : Change Replacement). o.work) e;
      words_after = s.2 ∙ ap (λ (o : Change Replacement). o.database) e;
    }
