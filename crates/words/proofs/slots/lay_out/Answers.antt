-- `lay_out` meets its contract: count, edges and zeros are what the encoded list is made of.
use Rattle.std.proofs.Common.{◌≡◌, ℕ, ◌+◌, ◌-◌, List, length, ap, ◌∙◌}
use borrow.Rule.Slice.PartMut.{mid_of, put_mid}
use Rattle.semantics.specs.Words.{zeros}
use Rattle.words.specs.Area.{with_edges, laid-length, laid_out}
use Rattle.words.proofs.slots.lay_out.Goals as goal

pub returns : goal.returns
returns c =
    let d = c.args.slot.now in
    let es = c.args.edges.now in
    let n : ℕ = length es in
    let p = c.copy.new.into in
    let e : p ≡ es = c.copy.ensures in
    let k : length (with_edges d n p) ≡ length d = ap (λ (l : List ℕ). length (with_edges d n l)) e ∙ laid-length d es c.requires.0 in
    ap (λ (m : ℕ). put_mid (1 + n) (m - (1 + n)) (with_edges d n p) c.fill.new.self) k
    ∙ laid_out d es c.requires.0 p c.fill.new.self e
    (c.fill.ensures.after (λ y h. h) ∙ ap (λ (m : ℕ). zeros (length (mid_of (1 + n) (m - (1 + n)) (with_edges d n p)))) k)
