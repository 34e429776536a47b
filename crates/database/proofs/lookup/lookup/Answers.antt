-- `lookup::lookup`: the part lies within the words.
use mathlib.Core.Path.{sym, ap, subst, ◌∙◌}
use native.Mathlib.Omega.{arith}
use Rattle.semantics.specs.Limits.{base}
use Rattle.semantics.specs.Database.{Part, known_owners, words_of, word_place}
use Rattle.database.specs.Parts.{part_of}
use Rattle.database.specs.Parts.Laws.{Inside, lookup-inside, words-part}
use Rattle.database.proofs.lookup.lookup.Goals as goal

pub offset_bounds-words-a : goal.offset_bounds-words-a
offset_bounds-words-a c =
    let w = subst (Inside c.args.words.now) (sym c.find-part.ensures) (lookup-inside base known_owners c.args.number.0 c.args.words.now) in
    record { fits = omega (arith, w.0, w.1) }

pub slice_bounds-result-count : goal.slice_bounds-result-count
slice_bounds-result-count c =
    let w = subst (Inside c.args.words.now) (sym c.find-part.ensures) (lookup-inside base known_owners c.args.number.0 c.args.words.now) in
    omega (arith, w.0)

pub returns : goal.returns
returns c =
    let a = c.args in
    let p = part_of c.find-part.result in
    let w = subst (Inside c.args.words.now) (sym c.find-part.ensures) (lookup-inside base known_owners c.args.number.0 c.args.words.now) in
    record { result_value = words-part p a.words.now w.0 ∙ ap (λ (q : Part). words_of q a.words.now) c.find-part.ensures; ref_ptr_value = ap (λ (q : Part). word_place a.words.ref_ptr q.from) c.find-part.ensures }

pub slice_bounds-result-start : goal.slice_bounds-result-start
slice_bounds-result-start c =
    let w = subst (Inside c.args.words.now) (sym c.find-part.ensures) (lookup-inside base known_owners c.args.number.0 c.args.words.now) in
    w.0

pub slice_bounds-result-end : goal.slice_bounds-result-end
slice_bounds-result-end c =
    let w = subst (Inside c.args.words.now) (sym c.find-part.ensures) (lookup-inside base known_owners c.args.number.0 c.args.words.now) in
    w.1
