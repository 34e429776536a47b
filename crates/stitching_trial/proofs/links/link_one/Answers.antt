use Prim.Native.Nat.{◌+◌}
use native.Mathlib.Omega.{arith}
use mathlib.Core.Path.{sym, subst}
use lib.ListN.{get_or, set, length-set}
use Rattle.semantics.specs.Hidden.{sees}
use Rattle.stitching_trial.specs.Links.{LinkedFrom, put_link}
use Rattle.stitching_trial.specs.Links.Laws.{readable-used, readable-inside, tried-start, told_tried, shown, linked-dead, linked-live}
use Rattle.stitching_trial.proofs.links.link_one.Goals as goal

pub owner-requires : goal.owner-requires
owner-requires c = let a = c.args in let p = c.requires in readable-inside p.readable.0 a.i p.readable.1

pub is_tried-requires : goal.is_tried-requires
is_tried-requires c = let a = c.args in let p = c.requires in shown p.readable.0 a.i p.readable.1 a.visible.now p.shows_all c.owner.ensures

pub start-start-requires : goal.start-start-requires
start-start-requires c = let a = c.args in let p = c.requires in readable-inside p.readable.0 a.i p.readable.1

pub offset_bounds-links-start : goal.offset_bounds-links-start
offset_bounds-links-start c =
    let a = c.args in
    let p = c.requires in
    let w = a.words.now in
    let u = readable-used p.readable.0 in
    let s = tried-start (sees a.visible.now) p.readable.0 a.i p.readable.1 (told_tried (sees a.visible.now) w a.i c.owner.ensures c.is_tried.ensures c.if-is_tried.true) in
    omega (arith, s, c.start-start.ensures, p.readable.2.long)

pub bounds-links-start : goal.bounds-links-start
bounds-links-start c =
    let a = c.args in
    let p = c.requires in
    let w = a.words.now in
    let u = readable-used p.readable.0 in
    let s = tried-start (sees a.visible.now) p.readable.0 a.i p.readable.1 (told_tried (sees a.visible.now) w a.i c.owner.ensures c.is_tried.ensures c.if-is_tried.true) in
    omega (arith, s, c.start-start.ensures, p.readable.2.long)

pub overflow_add-links : goal.overflow_add-links
overflow_add-links c = let p = c.requires in let u = readable-used p.readable.0 in omega (arith, u, p.readable.1)

pub offset_bounds-links-i : goal.offset_bounds-links-i
offset_bounds-links-i c = let p = c.requires in let u = readable-used p.readable.0 in omega (arith, u, p.readable.1)

pub bounds-links-i : goal.bounds-links-i
bounds-links-i c = let p = c.requires in let u = readable-used p.readable.0 in omega (arith, u, p.readable.1, p.readable.2.long)

pub overflow_cast-links : goal.overflow_cast-links
overflow_cast-links c = let p = c.requires in let u = readable-used p.readable.0 in omega (arith, u, p.readable.1)

pub overflow_add-links-then-is_tried : goal.overflow_add-links-then-is_tried
overflow_add-links-then-is_tried c = let p = c.requires in let u = readable-used p.readable.0 in omega (arith, u, p.readable.1)

pub offset_bounds-links-start-then-is_tried : goal.offset_bounds-links-start-then-is_tried
offset_bounds-links-start-then-is_tried c =
    let a = c.args in
    let p = c.requires in
    let w = a.words.now in
    let u = readable-used p.readable.0 in
    let s = tried-start (sees a.visible.now) p.readable.0 a.i p.readable.1 (told_tried (sees a.visible.now) w a.i c.owner.ensures c.is_tried.ensures c.if-is_tried.true) in
    omega (arith, s, c.start-start.ensures)

pub bounds-links-start-then-is_tried : goal.bounds-links-start-then-is_tried
bounds-links-start-then-is_tried c =
    let a = c.args in
    let p = c.requires in
    let w = a.words.now in
    let u = readable-used p.readable.0 in
    let s = tried-start (sees a.visible.now) p.readable.0 a.i p.readable.1 (told_tried (sees a.visible.now) w a.i c.owner.ensures c.is_tried.ensures c.if-is_tried.true) in
    simp length-set (omega (arith, s, c.start-start.ensures, p.readable.2.long))

pub returns-then-is_tried : goal.returns-then-is_tried
unfolding put_link
returns-then-is_tried c =
    let a = c.args in
    let p = c.requires in
    let w = a.words.now in
    let e = c.start-start.ensures in
    subst (λ n. LinkedFrom (sees a.visible.now) w (set (set a.links.now (2048 + a.i) (get_or a.links.now n 0)) n (a.i + 1)) a.i) (sym e)
    (linked-live (sees a.visible.now) a.links.now p.readable.0 a.i p.readable.1 p.readable.2
    (told_tried (sees a.visible.now) w a.i c.owner.ensures c.is_tried.ensures c.if-is_tried.true))

pub returns-else-is_tried : goal.returns-else-is_tried
returns-else-is_tried c = let a = c.args in let p = c.requires in let w = a.words.now in linked-dead (sees a.visible.now) a.links.now p.readable.0 a.i p.readable.1 p.readable.2 (told_tried (sees a.visible.now) w a.i c.owner.ensures c.is_tried.ensures c.if-is_tried.false)
