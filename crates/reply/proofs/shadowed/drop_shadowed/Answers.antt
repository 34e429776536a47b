-- `drop_shadowed` meets its contract: the lists without a mark are those that none shadows.
use mathlib.Core.Path.{ap, ◌∙◌}
use mathlib.Core.List.{List}
use Prim.Native.Nat.{ℕ}
use native.Mathlib.Omega.{arith}
use Rattle.semantics.specs.Limits.{slot_length}
use Rattle.semantics.specs.Words.{area}
use Rattle.storage.specs.Index.{edge_row}
use Rattle.path.specs.Shadows.{shadows_edges}
use Rattle.reply.specs.EdgeLists.{beaten_list, beaten_at, unbeaten_lists}
use Rattle.reply.specs.EdgeLists.Laws.{unbeaten-shorter}
use borrow.Author.Rules.{rules}
use Rattle.reply.proofs.shadowed.drop_shadowed.Goals as goal

pub close_up-requires : goal.close_up-requires
close_up-requires c =
    let a = c.args in
    let k = c.requires.lists in
    record { mark = beaten_at (shadows_edges (edge_row a.index.now)) k.lists; lists = k.lists; count = k.count; marked = c.mark_shadowed.ensures.1 k }

pub returns : goal.returns
unfolding unbeaten_lists
returns c =
    let a = c.args in
    let beats = shadows_edges (edge_row a.index.now) in
    let k = c.requires.lists in
    let n = c.mark_shadowed.ensures.0 in
    let own = c.close_up.ensures.1 (λ (l : List ℕ). beaten_list beats l k.lists) k.lists k.count (c.mark_shadowed.ensures.1 k) in (
      search rules,
      omega (arith, own.1, unbeaten-shorter beats k.lists k.lists, k.count),
      λ m.
          let all = c.close_up.ensures.1 (λ (l : List ℕ). beaten_list beats l m.lists) m.lists m.count (c.mark_shadowed.ensures.1 m) in
          (all.0 ∙ ap (λ (j : ℕ). area slot_length j (unbeaten_lists beats m.lists m.lists)) n, all.1),
    )
