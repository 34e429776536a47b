use borrow.Author.Rules.{rules}
use Rattle.std.specs.Prelude.{Result}
use Rattle.semantics.specs.declared.refusal.PartialPathRefusal.{PartialPathRefusal}
use Rattle.partial_state.specs.declared.extraction.Extraction.{Extraction}
use Rattle.partial_trial.specs.Seeds.{Seeded}
use mathlib.Core.Path.{ap, sym, subst, ◌∙◌}
use borrow.Author.Tests.{eq-eqb, ne_eqb}
use Rattle.semantics.specs.Limits.{nobody}
use Rattle.partial_state.specs.Extractions.{at, going_at}
use Rattle.partial_trial.specs.Seeds.Laws.{root-given, root-refused, root-alone, root-on}
use Rattle.partial_trial.proofs.seed.seed.Goals as goal

pub push_start-requires : goal.push_start-requires
push_start-requires c = let p = c.requires in p.1

pub returns-in_err-begun : goal.returns-in_err-begun
returns-in_err-begun c =
    let push-start = c.push_start in
    let a = c.args in
    λ g h e v.
    subst (λ (r : Result Extraction PartialPathRefusal). Seeded a.item.now (at a.frame a.extraction) a.work.now v g a.owner (going_at a.frame r) push-start.new.work)
    (c.in_err-begun.was ∙ sym (search rules))
    (root-refused v (going_at a.frame push-start.result) push-start.new.work (push-start.ensures v) g a.owner
    c.in_err-begun.field-0.0 (ap (going_at a.frame) c.in_err-begun.was))

pub returns-then-owner-eq-NOBODY : goal.returns-then-owner-eq-NOBODY
returns-then-owner-eq-NOBODY c =
    let push-start = c.push_start in
    let a = c.args in
    λ g h e v.
    root-alone v (going_at a.frame push-start.result) push-start.new.work (push-start.ensures v) g a.owner
    (eq-eqb a.owner nobody c.if-owner-eq-NOBODY.true) (at a.frame c.in_ok-begun.begun) (ap (going_at a.frame) c.in_ok-begun.was)

pub seed_file-requires : goal.seed_file-requires
seed_file-requires c =
    let push-start = c.push_start in
    let a = c.args in
    let p = c.requires in (
      p.0,
      root-given p.1 (going_at a.frame push-start.result) push-start.new.work (push-start.ensures p.1)
          (at a.frame c.in_ok-begun.begun) (ap (going_at a.frame) c.in_ok-begun.was) push-start.new.item push-start.auto.item,
    )

pub returns : goal.returns
returns c =
    let seed-file = c.seed_file in
    let other = c.if-owner-eq-NOBODY.false in
    let push-start = c.push_start in
    let a = c.args in
    λ g h e v.
    root-on v (going_at a.frame push-start.result) push-start.new.work (push-start.ensures v) g a.owner
    (ne_eqb a.owner nobody other) (at a.frame c.in_ok-begun.begun) (ap (going_at a.frame) c.in_ok-begun.was) push-start.new.item push-start.auto.item
    (going_at a.frame seed-file.result) seed-file.new.work
    (seed-file.ensures g h e (root-given v (going_at a.frame push-start.result) push-start.new.work (push-start.ensures v)
    (at a.frame c.in_ok-begun.begun) (ap (going_at a.frame) c.in_ok-begun.was) push-start.new.item push-start.auto.item))
