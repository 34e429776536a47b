-- `push` meets its contract: room is made, and the front of the item is pushed.
use native.Mathlib.Omega.{arith}
use mathlib.Core.Path.{◌≡◌, sym, ap, subst}
use Prim.Native.Nat.{ℕ, ◌-◌}
use lib.ListN.{take}
use Rattle.path_frontier.specs.Frontier.{Pushes}
use Rattle.search_state.specs.Searches.{going_of}
use borrow.Author.Rules.{rules}
use Rattle.search_state.proofs.search.Search.push.Goals as goal

pub bounds-item-0 : goal.bounds-item-0
bounds-item-0 c = let p = c.requires in omega (arith, p.slot)

pub overflow_add-item : goal.overflow_add-item
overflow_add-item c = let p = c.requires in omega (arith, p.short)

pub make_room-roomy-requires : goal.make_room-roomy-requires
make_room-roomy-requires c = let p = c.requires in (p.framed, p.wider, omega (arith, p.short))

pub slice_bounds-push-end : goal.slice_bounds-push-end
slice_bounds-push-end c = let p = c.requires in omega (arith, p.slot, c.make_room-roomy.ensures.most)

pub push-pushed-requires : goal.push-pushed-requires
push-pushed-requires c = (c.make_room-roomy.ensures.widens.framed, search rules)

pub returns-in_default : goal.returns-in_default
returns-in_default c =
    let push = c.push-pushed in
    let make-room = c.make_room-roomy in
    let a = c.args in
    record {
      roomy = make-room.result;
      words = make-room.new.work;
      makes = make-room.ensures;
      pushed = push.result;
      pushes = let L = make-room.result.length in
          subst (λ (n : ℕ). Pushes make-room.result make-room.new.work (take n a.item.now) push.result push.new.work)
          (let z : L - 0 ≡ L = omega arith in z) push.ensures;
      is = sym (ap (going_of a.self.state) c.in_default.is);
    }

pub returns : goal.returns
returns c =
    let push = c.push-pushed in
    let make-room = c.make_room-roomy in
    let a = c.args in
    record {
      roomy = make-room.result;
      words = make-room.new.work;
      makes = make-room.ensures;
      pushed = push.result;
      pushes = let L = make-room.result.length in
          subst (λ (n : ℕ). Pushes make-room.result make-room.new.work (take n a.item.now) push.result push.new.work)
          (let z : L - 0 ≡ L = omega arith in z) push.ensures;
      is = sym (ap (going_of a.self.state) c.in-Some.is);
    }
