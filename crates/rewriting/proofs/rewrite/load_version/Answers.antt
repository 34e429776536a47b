-- `rewriting::rewrite::load_version`: of the wanted version, and where size and length are refused, the check is that of all versions.
use native.Mathlib.Omega.{arith}
use mathlib.Core.Path.{◌≡◌, sym, ap, ◌∙◌}
use Rattle.semantics.specs.Calls.{check_call}
use Rattle.semantics.specs.Image.{symbol_bytes, check_image}
use Rattle.image.specs.Reached.Laws.{sized-long}
use Rattle.storage.specs.Checks.Laws.{told-refused, none-loaded}
use Rattle.rewriting.specs.Rewrites.{graph_as, other-version, this-version, no_size}
use Rattle.image.specs.Versions.{number_of}
use Rattle.rewriting.proofs.rewrite.load_version.Goals as goal
use Rattle.rewriting.proofs.rewrite.load_version.Goals.{then-sized+else-byte-number, else-sized}

pub byte-requires : goal.byte-requires
byte-requires c = let h = sized-long c.args.image.now (sym c.sized.ensures ∙ c.if-sized.true) in omega arith

pub returns-then-byte-number : goal.returns-then-byte-number
returns-then-byte-number c =
    let a = c.args in
    let e = other-version (number_of a.version) a.image.now (sym c.sized.ensures ∙ c.if-sized.true) (λ q. c.if-byte-number.true (c.byte.ensures.value ∙ q ∙ sym c.number.ensures)) in
    record { value = told-refused _ e; loaded = none-loaded _ e }

pub returns : goal.returns
returns c =
    let a = c.args in
    let im = a.image.now in
    let e : graph_as (number_of a.version) im ≡ check_image symbol_bytes im =
    elim c.if-sized.branch [
      | then-sized+else-byte-number w ↦ this-version (number_of a.version) im (sym w.byte.ensures.value ∙ w.if-byte-number.false ∙ w.number.ensures)
      | else-sized w ↦ no_size (number_of a.version) im (sym c.sized.ensures ∙ w.if-sized.false)
    ] in
    record { value = c.load_fresh.ensures.value ∙ ap check_call (sym e); loaded = λ g q. c.load_fresh.ensures.loaded g (sym e ∙ q) }
