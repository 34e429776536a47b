-- `readers::listing::put_outgoing`: the edges that the links have passed stand in the area.
use Prim.Native.Nat.{ℕ, suc, ◌≤◌}
use native.Mathlib.Omega.{arith}
use mathlib.Core.Path.{refl, sym, subst, ◌∙◌}
use Rattle.semantics.specs.Graph.{view_of}
use Rattle.storage.specs.Index.Use.{left, left_less, out-bounded}
use Rattle.readers.specs.Listing.Laws.{left-none, left-more, left-all}
use Rattle.readers.proofs.listing.put_outgoing.Goals as goal

pub first-link-requires : goal.first-link-requires
first-link-requires c = c.requires.0.loaded.long

pub loop-link-init : goal.loop-link-init
loop-link-init c = let a = c.args in (refl, λ g l. left-none a.index.now ((view_of g).out a.n) a.res.now c.requires.1 c.first-link.ensures (l.runs a.n))

pub put-count-requires : goal.put-count-requires
put-count-requires c =
    let p = c.requires.0 in
    let a = c.args in
    let k = c.loop-link.invariant.1 p.graph p.loaded in
    omega (arith, k.few, out-bounded p.loaded a.n)

pub next-link-requires : goal.next-link-requires
next-link-requires c = c.requires.0.loaded.long

pub loop-link-smaller : goal.loop-link-smaller
loop-link-smaller c =
    let p = c.requires.0 in
    let a = c.args in
    let l = c.loop-link in
    let k = l.invariant.1 p.graph p.loaded in
    subst (λ (m : ℕ). suc (left a.index.now m) ≤ left a.index.now l.link) (sym c.next-link.ensures)
    (left_less a.index.now l.link k.rest c.loop-link-test.true k.runs (omega (arith, k.fewer, out-bounded p.loaded a.n)))

pub loop-link-preserved : goal.loop-link-preserved
loop-link-preserved c =
    let a = c.args in
    let l = c.loop-link in
    let put = c.put-count in
    (put.auto.res ∙ l.invariant.0, λ g k. left-more a.index.now ((view_of g).out a.n) c.loop-link-test.true (l.invariant.1 g k) put.ensures c.next-link.ensures)

pub returns : goal.returns
returns c = let a = c.args in let l = c.loop-link in λ g k. left-all a.index.now ((view_of g).out a.n) (omega (arith, c.loop-link-test.false)) (l.invariant.1 g k)
