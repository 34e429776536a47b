-- `partial::replace::replace_in`: the refusal of the image, or the replacement on the graph that it holds.
use mathlib.Core.Path.{ap, ◌∙◌}
use native.Mathlib.Omega.{arith}
use Rattle.semantics.proofs.Theorems.Acceptance.Laws.{few-files}
use Rattle.semantics.specs.Entries.{graph_in}
use Rattle.semantics.specs.Image.{symbol_bytes}
use Rattle.semantics.proofs.Theorems.Image.Laws as Image
use Rattle.semantics.specs.Words.{zeros}
use Rattle.storage.specs.Index.Use.{answer-refused, answer-accepted}
use Rattle.partial.specs.Replacements.{asked_by, number_of}
use Rattle.partial.specs.Replacements.Laws.{image-refused, image-accepted}
use Rattle.partial.proofs.replace.replace_in.Goals as goal

pub replace_loaded-answer-requires : goal.replace_loaded-answer-requires
replace_loaded-answer-requires c =
    let Load-fresh = c.load_fresh-checked in
    let a = c.args in
    let z = answer-accepted (graph_in a.image.now) c.in-Ok.counts
    Load-fresh.ensures.value c.in-Ok.is in
    record {
      sized = record { holds = record { graph = z.graph; loaded = Load-fresh.ensures.loaded z.graph z.is }; node-count = z.node-count; file-count = z.file-count };
      few = omega (arith, z.file-count, few-files z.graph (Image.image-accepted symbol_bytes a.image.now z.graph z.is));
    }

pub returns-in-Err : goal.returns-in-Err
returns-in-Err c =
    let Load-fresh = c.load_fresh-checked in
    let a = c.args in
    image-refused a.owner (asked_by a.config a.work.now (number_of a.owner)) a.words.now c.zero.ensures c.in-Err.r
    (answer-refused (graph_in a.image.now) c.in-Err.r Load-fresh.ensures.value c.in-Err.is)

pub returns-in-Ok : goal.returns-in-Ok
returns-in-Ok c =
    let replace-loaded = c.replace_loaded-answer in
    let Load-fresh = c.load_fresh-checked in
    let a = c.args in
    let z = answer-accepted (graph_in a.image.now) c.in-Ok.counts
    Load-fresh.ensures.value c.in-Ok.is in
    image-accepted a.owner (asked_by a.config a.work.now (number_of a.owner)) a.words.now
    (c.zero-in-Ok.ensures ∙ ap zeros replace-loaded.auto.work) z.graph z.is replace-loaded.result
    replace-loaded.new.words (replace-loaded.ensures
    (record {
      sized = record { holds = record { graph = z.graph; loaded = Load-fresh.ensures.loaded z.graph z.is }; node-count = z.node-count; file-count = z.file-count };
      few = omega (arith, z.file-count, few-files z.graph (Image.image-accepted symbol_bytes a.image.now z.graph z.is));
    }))
