-- an empty part, or the part of a live record
use native.Mathlib.Omega.{arith}
use Rattle.std.proofs.Common.{ℕ, List, [], ◌∷◌, length, sym, ap, ◌∙◌}
use Rattle.std.proofs.lemmas.Bool.{eqb-true, eqb-false}
use Rattle.semantics.specs.Written.{written}
use Rattle.pozhdaghi.specs.Written.Laws.{part_none, part-some}
use Rattle.pozhdaghi.proofs.filing.pozhdaghi_lookup.Goals.{then-is_empty, else-is_empty}
use Rattle.pozhdaghi.proofs.filing.pozhdaghi_lookup.Goals as goal

pub returns : goal.returns
returns c =
    let a = c.args in
    let part = c.lookup-part.result.now in
    let is = c.lookup-part.ensures.result_value in
    elim c.if-is_empty.branch [
      | then-is_empty w ↦
          c.write.ensures ∙ ap (λ (l : List ℕ). written (length a.answer.now) l)
          (ap (λ (p : ℕ). p ∷ length part ∷ []) w.place-is
          ∙ part_none a.number a.words.now part is (omega (arith, eqb-true (length part) 0 (sym c.is_empty.ensures ∙ w.if-is_empty.true))))
      | else-is_empty w ↦
          c.write.ensures ∙ ap (λ (l : List ℕ). written (length a.answer.now) l)
          (part-some a.number a.words.now part is (omega (arith, eqb-false (length part) 0 (sym c.is_empty.ensures ∙ w.if-is_empty.false)))
          c.if-is_empty.place (w.place-is ∙ w.place_of-place.ensures))
    ]
