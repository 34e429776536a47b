-- `readers::records::node_in`: the refusal of the image, or the record of the graph that it holds.
use borrow.Author.Rules.{rules}
use Rattle.std.specs.Prelude.{Err}
use mathlib.Core.Path.{sym, ap, ◌∙◌, ◌≡◌, subst}
use Rattle.semantics.specs.Entries.{graph_in}
use Rattle.semantics.specs.Hidden.{sees}
use Rattle.semantics.specs.Reading.{node_read, node_call}
use Rattle.storage.specs.Index.Use.{answer-accepted, refused-seen, accepted-seen}
use Rattle.semantics.specs.declared.answer.ReadingRefusal.{ReadingRefusal}
use Rattle.semantics.proofs.Theorems.PublicAnswers.{made, let_through}
use Rattle.readers.proofs.records.node_in.Goals as goal

pub known_node-requires : goal.known_node-requires
known_node-requires c =
    let load = c.load_seen in
    let a = c.args in
    let z = answer-accepted (graph_in a.image.now) c.in_ok-map_err.field-0 load.ensures.value (let_through ReadingRefusal.Image c.load_seen.result c.map_err.result c.in_ok-map_err.field-0 c.map_err.ensures.cases c.in_ok-map_err.was) in
    (load.ensures.loaded z.graph z.is).long

pub returns-in_err-map_err : goal.returns-in_err-map_err
unfolding node_call
returns-in_err-map_err c =
    let a = c.args in
    let t : c.from_residual.result ≡ Err c.in_err-map_err.field-0.0 = search rules in
    let m = made ReadingRefusal.Image c.load_seen.result c.map_err.result c.in_err-map_err.field-0.0 c.map_err.ensures.cases c.in_err-map_err.was in
    t ∙ ap Err m.is ∙ sym (ap (λ x. node_call x a.n) (refused-seen (sees a.visible.now) (graph_in a.image.now) m.error c.load_seen.ensures.value m.was))

pub returns : goal.returns
unfolding node_call
returns c =
    let load = c.load_seen in
    let a = c.args in
    let z = answer-accepted (graph_in a.image.now) c.in_ok-map_err.field-0 load.ensures.value (let_through ReadingRefusal.Image c.load_seen.result c.map_err.result c.in_ok-map_err.field-0 c.map_err.ensures.cases c.in_ok-map_err.was) in
    c.known_node.ensures
    ∙ ap (node_read a.n) ((load.ensures.loaded z.graph z.is).node a.n)
    ∙ sym (ap (λ x. node_call x a.n) (accepted-seen (sees a.visible.now) z.is))
