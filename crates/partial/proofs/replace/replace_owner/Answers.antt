use Rattle.partial.specs.Replacements.Laws.{counting-computes, replaced-refused, counted-asks, replaced-full, storing, replaced-done}
use Rattle.partial.proofs.replace.replace_owner.Goals as goal

pub compute-requires : goal.compute-requires
compute-requires c =
    let a = c.args in
    let p = c.requires in
    counting-computes a.owner a.config a.work.now p.0 p.1 c.number-first.ensures.0

pub has_room-requires : goal.has_room-requires
has_room-requires c =
    let compute = c.compute in
    let number = c.number-first in
    let a = c.args in
    let p = c.requires in
    counted-asks a.owner a.config a.work.now p.0 p.1 number.ensures.0 compute.result
    compute.new.words compute.ensures c.in-Ok.stats c.in-Ok.is

pub store-requires : goal.store-requires
store-requires c =
    let compute = c.compute in
    let number = c.number-first in
    let a = c.args in
    let p = c.requires in
    storing a.owner a.config a.work.now p.0 p.1 number.ensures.0 compute.result compute.new.words
    compute.ensures c.in-Ok.stats c.in-Ok.is c.has_room.ensures c.if-has_room.true
    compute.new.work compute.auto.work

pub returns-then-has_room : goal.returns-then-has_room
returns-then-has_room c =
    let if1 = c.if-has_room in
    let has_room = c.has_room in
    let compute = c.compute in
    let number = c.number-first in
    let a = c.args in
    let p = c.requires in
    λ v.
    replaced-done a.owner a.config a.work.now v p.1 number.ensures.0 compute.result
    compute.new.words compute.ensures c.in-Ok.stats c.in-Ok.is has_room.ensures if1.true
    compute.new.work compute.auto.work
    (c.store.ensures (storing a.owner a.config a.work.now v p.1 number.ensures.0 compute.result
    compute.new.words compute.ensures c.in-Ok.stats c.in-Ok.is has_room.ensures if1.true
    compute.new.work compute.auto.work))

pub returns-in-Err : goal.returns-in-Err
returns-in-Err c =
    let compute = c.compute in
    let number = c.number-first in
    let a = c.args in
    let p = c.requires in
    λ v.
    replaced-refused a.owner a.config a.work.now v p.1 number.ensures.0 compute.result
    compute.new.words compute.ensures c.in-Err.r c.in-Err.is

pub returns-else-has_room : goal.returns-else-has_room
returns-else-has_room c =
    let compute = c.compute in
    let number = c.number-first in
    let a = c.args in
    let p = c.requires in
    λ v.
    replaced-full a.owner a.config a.work.now v p.1 number.ensures.0 compute.result
    compute.new.words compute.ensures c.in-Ok.stats c.in-Ok.is c.has_room.ensures c.if-has_room.false
