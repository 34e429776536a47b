-- `readers::listing::known_outgoing`: removed, or its edges.
use mathlib.Core.Path.{◌≡◌, sym, ap, subst, ◌∙◌}
use mathlib.Core.Bool.{true, false}
use Prim.Native.Nat.{ℕ}
use lib.ListN.{length}
use Rattle.semantics.specs.declared.graph.Node.{Node}
use Rattle.semantics.specs.Graph.{view_of, traits}
use Rattle.semantics.specs.Reading.{listed}
use Rattle.readers.specs.Listing.{Lists}
use Rattle.readers.specs.Listing.Laws.{outgoing-unknown, outgoing-known}
use Rattle.readers.proofs.listing.known_outgoing.Goals as goal

pub node-requires : goal.node-requires
node-requires c = c.requires.0.loaded.long

pub returns-then-is_removed : goal.returns-then-is_removed
returns-then-is_removed c =
    let a = c.args in
    λ g l.
    let e : (traits ((view_of g).node a.n)).removed ≡ true = ap (λ (x : Node). (traits x).removed) (sym (l.node a.n) ∙ sym c.node.ensures) ∙ sym c.is_removed.ensures ∙ c.if-is_removed.true in
    outgoing-unknown g a.n (length a.res.now) e c.requires.1

pub returns : goal.returns
returns c =
    let a = c.args in
    let put = c.put_outgoing-count in
    let conclude = c.conclude in
    λ g l.
    let e : (traits ((view_of g).node a.n)).removed ≡ false = ap (λ (x : Node). (traits x).removed) (sym (l.node a.n) ∙ sym c.node.ensures) ∙ sym c.is_removed.ensures ∙ c.if-is_removed.false in
    outgoing-known g a.n (length a.res.now) e
    (subst (λ (m : ℕ). Lists (listed m ((view_of g).out a.n)) conclude.result conclude.new.res) put.auto.res (conclude.ensures ((view_of g).out a.n) (put.ensures g l)))
