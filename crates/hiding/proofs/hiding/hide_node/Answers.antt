-- `hiding::hiding::hide_node`: a node of a hidden file goes, any other stays.
use native.Mathlib.Omega.{arith}
use mathlib.Core.Path.{sym, ◌∙◌}
use Rattle.image.specs.Index.{cell, put}
use Rattle.semantics.specs.Hidden.{sees}
use Rattle.hiding.specs.Hiding.Laws.{hidden_goes, seen-stays, low-stays}
use Rattle.hiding.proofs.hiding.hide_node.Goals as goal

pub returns-then-not-is_visible : goal.returns-then-not-is_visible
unfolding cell put
returns-then-not-is_visible c = let a = c.args in λ f D d. hidden_goes (sees a.visible.now) a.index.now a.n f D d c.requires.n_bound.1 c.if-index-at-ge-FIRST_FILED.true (sym c.is_visible.ensures ∙ c.if-not-is_visible.true)

pub returns-else-not-is_visible : goal.returns-else-not-is_visible
unfolding cell put
returns-else-not-is_visible c = let a = c.args in λ f D d. seen-stays (sees a.visible.now) a.index.now a.n f D d c.if-index-at-ge-FIRST_FILED.true (sym c.is_visible.ensures ∙ c.if-not-is_visible.false)

pub returns-else-index-at-ge-FIRST_FILED : goal.returns-else-index-at-ge-FIRST_FILED
unfolding cell put
returns-else-index-at-ge-FIRST_FILED c = let a = c.args in λ f D d. low-stays (sees a.visible.now) a.index.now a.n f D d (omega (arith, c.if-index-at-ge-FIRST_FILED.false))
