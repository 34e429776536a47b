-- `storage::links::link`: the edges from `e` on are linked.
use borrow.Author.Rules.{rules}
use Prim.Native.Nat.{◌+◌, ◌-◌}
use native.Mathlib.Omega.{arith}
use mathlib.Core.Path.{◌≡◌, refl, subst}
use Rattle.storage.specs.Links.{Linked}
use Rattle.storage.specs.Links.Laws.{all-linked}
use Rattle.storage.proofs.links.link.Goals as goal

pub loop-e-init : goal.loop-e-init
loop-e-init c = (refl, c.requires.sources, λ g q k. k)

pub link_one-requires : goal.link_one-requires
link_one-requires c = let l = c.loop-e in record { blocks = omega arith; e_bound = omega arith; sources = l.invariant.1 }

pub loop-e-preserved : goal.loop-e-preserved
loop-e-preserved c =
    let l = c.loop-e in
    let z : l.e ≡ l.e - 1 + 1 = omega arith in (
      search rules,
      c.link_one.ensures.sources_2,
      λ g q k. c.link_one.ensures.linked g (omega arith) (subst (Linked g l.index) z (l.invariant.2 g q k)),
    )

pub returns : goal.returns
returns c =
    let l = c.loop-e in
    let z : l.e ≡ 0 = omega arith in
    λ g q k. all-linked (subst (Linked g l.index) z (l.invariant.2 g q k))
