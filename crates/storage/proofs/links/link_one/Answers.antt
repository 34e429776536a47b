-- `storage::links::link_one`: two stores for a live edge, none for a removed one.
use native.Mathlib.Omega.{arith}
use lib.ListN.{length-set}
use Rattle.storage.specs.Index.{cell, put_link}
use Rattle.storage.specs.References.Laws.{linked, unlinked, sources-kept}
use Rattle.storage.proofs.links.link_one.Goals as goal

pub overflow_cast-from : goal.overflow_cast-from
unfolding cell
overflow_cast-from c = let e = c.args.e in omega (arith, c.requires.blocks, c.requires.sources e)

pub overflow_mul-from : goal.overflow_mul-from
unfolding cell
overflow_mul-from c = let e = c.args.e in omega (arith, c.requires.blocks, c.requires.sources e)

pub overflow_add-index : goal.overflow_add-index
unfolding cell
overflow_add-index c = let e = c.args.e in omega (arith, c.requires.blocks, c.requires.sources e)

pub offset_bounds-index-from : goal.offset_bounds-index-from
unfolding cell
offset_bounds-index-from c = let e = c.args.e in omega (arith, c.requires.blocks, c.requires.sources e)

pub bounds-index-from : goal.bounds-index-from
unfolding cell
bounds-index-from c = let e = c.args.e in omega (arith, c.requires.blocks, c.requires.sources e)

pub overflow_add-index-then-source-gt0-2 : goal.overflow_add-index-then-source-gt0-2
overflow_add-index-then-source-gt0-2 c = omega (arith, c.requires.e_bound.0)

pub overflow_add-index-then-source-gt0-3 : goal.overflow_add-index-then-source-gt0-3
unfolding cell
overflow_add-index-then-source-gt0-3 c = let e = c.args.e in omega (arith, c.requires.blocks, c.requires.sources e)

pub offset_bounds-index-from-then-source-gt0 : goal.offset_bounds-index-from-then-source-gt0
unfolding cell
offset_bounds-index-from-then-source-gt0 c = let e = c.args.e in omega (arith, c.requires.blocks, c.requires.sources e)

pub bounds-index-from-then-source-gt0 : goal.bounds-index-from-then-source-gt0
unfolding cell
bounds-index-from-then-source-gt0 c = let e = c.args.e in simp length-set (omega (arith, c.requires.blocks, c.requires.sources e))

pub returns-then-source-gt0 : goal.returns-then-source-gt0
unfolding put_link
returns-then-source-gt0 c =
    let l = c.args.index.now in let e = c.args.e in let p = c.requires in
    record { sources_2 = sources-kept l p.blocks e p.e_bound.1 c.if-source-gt0.true (p.sources e) p.sources; linked = linked l p.blocks e p.e_bound.1 c.if-source-gt0.true (p.sources e) }

pub returns-else-source-gt0 : goal.returns-else-source-gt0
unfolding cell
returns-else-source-gt0 c =
    let l = c.args.index.now in let e = c.args.e in let p = c.requires in
    record { sources_2 = p.sources; linked = unlinked l p.blocks e p.e_bound.1 (omega arith) }
