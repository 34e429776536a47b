-- `readers::listing::put_reference`: a reference is put, another node is not.
use mathlib.Core.Path.{sym, subst, ◌∙◌}
use mathlib.Core.Bool.{Bool}
use mathlib.Core.List.{[]}
use Rattle.semantics.specs.Lists.{cons_if}
use Rattle.readers.specs.Listing.{Adds}
use Rattle.readers.specs.Listing.Laws.{adds_none}
use Rattle.readers.proofs.listing.put_reference.Goals as goal

pub returns-then-is_reference : goal.returns-then-is_reference
returns-then-is_reference c =
    let a = c.args in
    let put = c.put in
    subst (λ (b : Bool). Adds a.res.now a.count put.new.res put.result (cons_if b a.n [])) (sym c.if-is_reference.true ∙ c.is_reference.ensures) put.ensures

pub returns : goal.returns
returns c =
    let a = c.args in
    subst (λ (b : Bool). Adds a.res.now a.count a.res.now a.count (cons_if b a.n [])) (sym c.if-is_reference.false ∙ c.is_reference.ensures) (adds_none a.res.now a.count)
