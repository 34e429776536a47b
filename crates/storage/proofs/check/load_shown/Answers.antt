-- `storage::check::load_shown`: what the judgement answers; of an accepted graph what is shown is linked.
use borrow.Author.Rules.{rules}
use native.Mathlib.Omega.{arith}
use mathlib.Core.Path.{◌≡◌, sym, ◌∙◌}
use Rattle.std.specs.Prelude.{Err}
use Rattle.semantics.specs.Entries.{graph_in}
use Rattle.semantics.specs.Hidden.{sees}
use Rattle.semantics.specs.Image.{symbol_bytes}
use Rattle.semantics.proofs.Theorems.Image.Laws.{image-accepted}
use Rattle.storage.specs.Index.{Loaded}
use Rattle.storage.specs.Index.Use.{answer-accepted}
use Rattle.storage.specs.Checks.{shown}
use Rattle.storage.specs.Checks.Laws.{refused-graph, unlinked-shown, shown-edges, ready, one-loaded}
use Rattle.storage.proofs.check.load_shown.Goals as goal

pub returns-in_err-counts : goal.returns-in_err-counts
returns-in_err-counts c =
    let t : c.from_residual.result ≡ Err c.in_err-counts.field-0.0 = search rules in
    record { value = t ∙ sym c.in_err-counts.was ∙ c.judge.ensures.value; loaded = λ g q. absurd (refused-graph _ c.judge.ensures.value c.in_err-counts.was g q) }

pub hide_unless-requires : goal.hide_unless-requires
hide_unless-requires c =
    let j = c.judge in
    let a = c.args in
    let z = answer-accepted (graph_in a.image.now) c.in_ok-counts.counts j.ensures.value c.in_ok-counts.was in
    let u = j.ensures.unlinked z.graph z.is in
    record { blocks = u.held.long; nodes-bound = (omega (arith, z.node-count, u.nodes), omega (arith, z.node-count, u.node-room)); edges-bound = (omega (arith, z.edge_count, u.edges), omega (arith, z.edge_count, u.edge-room)) }

pub link-requires : goal.link-requires
link-requires c =
    let j = c.judge in
    let a = c.args in
    let z = answer-accepted (graph_in a.image.now) c.in_ok-counts.counts j.ensures.value c.in_ok-counts.was in
    let u = j.ensures.unlinked z.graph z.is in
    let see = sees a.visible.now in
    let good = image-accepted symbol_bytes a.image.now z.graph z.is in
    let hide = c.hide_unless in
    let v = unlinked-shown a.whole see hide.new.index good u hide.auto.index (hide.ensures z.graph good (record { file-count = z.file-count; node-count = z.node-count; edge-count = z.edge_count }) u.held) in
    let m = z.edge_count ∙ sym (shown-edges a.whole see z.graph) in
    record { blocks = v.held.long; count_bound = (omega (arith, m, v.edges), omega (arith, m, v.edge-room)); sources = v.sources }

pub returns : goal.returns
returns c =
    let j = c.judge in
    let a = c.args in
    let z = answer-accepted (graph_in a.image.now) c.in_ok-counts.counts j.ensures.value c.in_ok-counts.was in
    let u = j.ensures.unlinked z.graph z.is in
    let see = sees a.visible.now in
    let good = image-accepted symbol_bytes a.image.now z.graph z.is in
    let hide = c.hide_unless in
    let v = unlinked-shown a.whole see hide.new.index good u hide.auto.index (hide.ensures z.graph good (record { file-count = z.file-count; node-count = z.node-count; edge-count = z.edge_count }) u.held) in
    let m = z.edge_count ∙ sym (shown-edges a.whole see z.graph) in
    let link = c.link in
    record { value = sym c.in_ok-counts.was ∙ j.ensures.value; loaded = one-loaded (λ g. Loaded (shown a.whole see g) link.new.index) z.graph z.is (link.ensures (shown a.whole see z.graph) (sym m) (ready v m)) }
