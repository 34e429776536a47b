-- `readers::listing::references_in`: the refusal of the image, or the references of the graph that it holds.
use borrow.Author.Rules.{rules}
use Rattle.std.specs.Prelude.{Err}
use mathlib.Core.Path.{sym, ap, subst, ◌∙◌, ◌≡◌}
use Prim.Native.Nat.{ℕ}
use lib.ListN.{length}
use Rattle.semantics.specs.Entries.{graph_in, seen_in, references_of}
use Rattle.semantics.specs.Hidden.{sees, seen}
use Rattle.semantics.proofs.Theorems.Hidden.Laws.{seen-nodes}
use Rattle.semantics.specs.Words.{zeros}
use Rattle.semantics.specs.Finding.{references_from}
use Rattle.semantics.specs.Reading.{listed}
use Rattle.storage.specs.Index.Use.{answer-accepted, refused-seen, accepted-seen}
use Rattle.readers.specs.Listing.{Lists}
use Rattle.readers.specs.Listing.Laws.{references-refused, references-done}
use Rattle.semantics.specs.PublicAnswers.{Listing}
use Rattle.semantics.specs.declared.answer.ListingRefusal.{ListingRefusal}
use Rattle.semantics.proofs.Theorems.PublicAnswers.{made, let_through}
use Rattle.readers.proofs.listing.references_in.Goals as goal

pub put_references-count-requires : goal.put_references-count-requires
put_references-count-requires c =
    let load = c.load_seen in
    let zero = c.zero in
    let a = c.args in
    let z = answer-accepted (graph_in a.image.now) c.in_ok-counts.counts load.ensures.value (let_through ListingRefusal.Image c.load_seen.result c.map_err.result c.in_ok-counts.counts c.map_err.ensures.cases c.in_ok-counts.was) in
    let see = sees a.visible.now in
    (record { holds = record { graph = seen see z.graph; loaded = load.ensures.loaded z.graph z.is }; node-count = z.node-count ∙ sym (seen-nodes see z.graph) }, zero.ensures ∙ ap zeros (sym zero.auto.area))

pub returns-in_err-counts : goal.returns-in_err-counts
returns-in_err-counts c =
    let a = c.args in
    let t : c.from_residual.result ≡ Err c.in_err-counts.field-0.0 = search rules in
    let m = made ListingRefusal.Image c.load_seen.result c.map_err.result c.in_err-counts.field-0.0 c.map_err.ensures.cases c.in_err-counts.was in
    subst (λ (x : Listing). Lists (references_of c.args.image.now c.args.visible.now c.args.res.now) x c.zero.new.area) (sym (t ∙ ap Err m.is)) (references-refused (seen_in a.image.now a.visible.now) (length a.res.now) m.error
    (refused-seen (sees a.visible.now) (graph_in a.image.now) m.error c.load_seen.ensures.value m.was) c.zero.ensures)

pub returns : goal.returns
returns c =
    let conclude = c.conclude in
    let put = c.put_references-count in
    let load = c.load_seen in
    let zero = c.zero in
    let a = c.args in
    let z = answer-accepted (graph_in a.image.now) c.in_ok-counts.counts load.ensures.value (let_through ListingRefusal.Image c.load_seen.result c.map_err.result c.in_ok-counts.counts c.map_err.ensures.cases c.in_ok-counts.was) in
    let see = sees a.visible.now in
    let g = seen see z.graph in
    references-done (seen_in a.image.now a.visible.now) (length a.res.now) g (accepted-seen see z.is)
    (subst (λ (m : ℕ). Lists (listed m (references_from 0 g.nodes)) conclude.result conclude.new.res) (put.auto.res ∙ zero.auto.area)
    (conclude.ensures (references_from 0 g.nodes) (put.ensures g (load.ensures.loaded z.graph z.is) (z.node-count ∙ sym (seen-nodes see z.graph)))))
