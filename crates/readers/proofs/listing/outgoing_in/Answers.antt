-- `readers::listing::outgoing_in`: the refusal of the image, or the edges of the graph that it holds.
use borrow.Author.Rules.{rules}
use Rattle.std.specs.Prelude.{Err}
use mathlib.Core.Path.{sym, ap, subst, ◌∙◌, ◌≡◌}
use Prim.Native.Nat.{ℕ}
use lib.ListN.{length}
use Rattle.semantics.specs.Entries.{graph_in, seen_in, outgoing_of}
use Rattle.semantics.specs.Hidden.{sees, seen}
use Rattle.semantics.specs.Words.{zeros}
use Rattle.storage.specs.Index.Use.{answer-accepted, refused-seen, accepted-seen}
use Rattle.readers.specs.Listing.{Lists, outgoing_loaded}
use Rattle.readers.specs.Listing.Laws.{outgoing-refused, outgoing-done}
use Rattle.semantics.specs.PublicAnswers.{Listing}
use Rattle.semantics.specs.declared.answer.ListingRefusal.{ListingRefusal}
use Rattle.semantics.proofs.Theorems.PublicAnswers.{made, let_through}
use Rattle.readers.proofs.listing.outgoing_in.Goals as goal

pub known_outgoing-requires : goal.known_outgoing-requires
known_outgoing-requires c =
    let load = c.load_seen in
    let zero = c.zero in
    let a = c.args in
    let z = answer-accepted (graph_in a.image.now) c.in_ok-map_err.field-0 load.ensures.value (let_through ListingRefusal.Image c.load_seen.result c.map_err.result c.in_ok-map_err.field-0 c.map_err.ensures.cases c.in_ok-map_err.was) in
    (record { graph = seen (sees a.visible.now) z.graph; loaded = load.ensures.loaded z.graph z.is }, zero.ensures ∙ ap zeros (sym zero.auto.area))

pub returns-in_err-map_err : goal.returns-in_err-map_err
returns-in_err-map_err c =
    let a = c.args in
    let t : c.from_residual.result ≡ Err c.in_err-map_err.field-0.0 = search rules in
    let m = made ListingRefusal.Image c.load_seen.result c.map_err.result c.in_err-map_err.field-0.0 c.map_err.ensures.cases c.in_err-map_err.was in
    subst (λ (x : Listing). Lists (outgoing_of c.args.image.now c.args.visible.now c.args.n c.args.res.now) x c.zero.new.area) (sym (t ∙ ap Err m.is)) (outgoing-refused (seen_in a.image.now a.visible.now) (length a.res.now) a.n m.error
    (refused-seen (sees a.visible.now) (graph_in a.image.now) m.error c.load_seen.ensures.value m.was) c.zero.ensures)

pub returns : goal.returns
returns c =
    let known = c.known_outgoing in
    let load = c.load_seen in
    let zero = c.zero in
    let a = c.args in
    let z = answer-accepted (graph_in a.image.now) c.in_ok-map_err.field-0 load.ensures.value (let_through ListingRefusal.Image c.load_seen.result c.map_err.result c.in_ok-map_err.field-0 c.map_err.ensures.cases c.in_ok-map_err.was) in
    let see = sees a.visible.now in
    let g = seen see z.graph in
    outgoing-done (seen_in a.image.now a.visible.now) (length a.res.now) a.n g (accepted-seen see z.is)
    (subst (λ (m : ℕ). Lists (outgoing_loaded g a.n m) known.result known.new.res) zero.auto.area (known.ensures g (load.ensures.loaded z.graph z.is)))
