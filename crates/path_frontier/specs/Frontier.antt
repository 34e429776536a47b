-- The frontier: slots of an area, and the items that wait in them. An item is the words of a slot, whatever they mean.
-- Document 01, "Budget and frontier": "Breadth-first is a queue; depth-first takes the first pushed of the newest successors".
use Rattle.std.specs.Prelude.{◌≡◌, Bool, true, false, ℕ, ◌+◌, ◌-◌, ◌≤◌, ◌<◌, ltb, length}
use mathlib.Core.List.{List, [], ◌∷◌, ◌++◌, map, reverse, Memᴰ}
use Rattle.semantics.specs.Limits.{slot_length}
use Rattle.semantics.specs.declared.search.SearchOrder.{SearchOrder}
use Rattle.semantics.specs.declared.search.SearchOrder.TheVariants.{BreadthFirst, DepthFirst}
use Rattle.semantics.specs.Enumeration.{greater}
use Rattle.semantics.specs.Words.{slots_of}
use Rattle.words.specs.Ring.{ring}
use Rattle.words.specs.Reversal.{rev_range}
use Rattle.words.specs.Slots.{IsSlot, SlotsIn, padded}
use Rattle.path_frontier.specs.declared.frontier.Frontier.{Frontier}
use Rattle.std.specs.Prelude.{Option, Some, None}
pub mod Held
pub mod Laws
pub mod Stands
pub mod Widening

-- ---- the two orders

module _ {W : Type 0} where
  -- the order of taking: the items pushed since the last pop go behind the others, or in front of them
  abbrev pub merged : SearchOrder → List W → List W → List W
  merged BreadthFirst rest pending = rest ++ pending
  merged DepthFirst rest pending = pending ++ rest

  -- the order of the slots, of which breadth-first takes the first and depth-first the last
  abbrev pub arrange : SearchOrder → List W → List W → List W
  arrange BreadthFirst rest pending = rest ++ pending
  arrange DepthFirst rest pending = reverse rest ++ pending

-- ---- the frontier and its slots

-- the words of a slot while no item has more than fit in them
abbrev pub short_slot : ℕ
short_slot = 16

-- nothing waits
abbrev pub empty : SearchOrder → ℕ → ℕ → Frontier
empty order length capacity = record { order = order; length = length; first = 0; count = 0; pending = 0; capacity = capacity; most = 0 }

-- one more waits
abbrev pub pushed : Frontier → Frontier
pushed f = record { order = f.order; length = f.length; first = f.first; count = f.count + 1; pending = f.pending + 1; capacity = f.capacity; most = f.most }

-- how many ever waited together: what was noted at the pops, or those that wait now
abbrev pub greatest_in : Frontier → ℕ
greatest_in f = greater f.most f.count

-- one was taken, slot i is the first now, and none was pushed since; how many ever waited together is noted
abbrev pub taken : Frontier → ℕ → Frontier
taken f i = record { order = f.order; length = f.length; first = i; count = f.count - 1; pending = 0; capacity = f.capacity; most = greatest_in f }

-- the frontier's slots lie in the area, and those that wait among them; without slots the first is 0, and a stack starts there always
pub record Framed (f : Frontier) (ws : List ℕ) : Type 0 where
  pub wordy : 0 < f.length
  pub counted : f.count ≤ f.capacity
  pub newest : f.pending ≤ f.count
  pub inside : f.first ≤ f.capacity - 1
  pub room : SlotsIn f.length f.capacity ws
  pub starts : f.order ≡ DepthFirst → f.first ≡ 0

-- the slots that wait
unfoldable pub held : Frontier → List ℕ → List (List ℕ)
held f ws = ring f.first f.count (slots_of f.length f.capacity ws)

-- what no push and no pop changes
pub record Kept (f r : Frontier) : Type 0 where
  pub order : r.order ≡ f.order
  pub length : r.length ≡ f.length
  pub capacity : r.capacity ≡ f.capacity

-- one fewer waits, none was pushed since, and how many waited before is noted
pub record Shrunk (f r : Frontier) : Type 0 where
  pub kept : Kept f r
  pub count : r.count + 1 ≡ f.count
  pub pending : r.pending ≡ 0
  pub most : r.most ≡ greatest_in f

-- the first slot is taken
pub record Front (f : Frontier) (ws s : List ℕ) (r : Frontier) : Type 0 where
  pub shrunk : Shrunk f r
  pub framed : Framed r ws
  pub holds : held f ws ≡ s ∷ held r ws

-- the newest are turned round, and the last slot is taken
pub record Back (f : Frontier) (ws s : List ℕ) (r : Frontier) (ws' : List ℕ) : Type 0 where
  pub shrunk : Shrunk f r
  pub framed : Framed r ws'
  pub same_length : length ws' ≡ length ws
  pub holds : rev_range (f.count - f.pending) f.pending (held f ws) ≡ held r ws' ++ (s ∷ [])

-- ---- the items that wait

-- in the slots of ws stand the items rest, in the order of taking, and those pushed since the last pop
pub record Waits (f : Frontier) (ws : List ℕ) (rest pending : List (List ℕ)) : Type 0 where
  pub framed : Framed f ws
  pub counts : f.count ≡ length rest + length pending
  pub newest : f.pending ≡ length pending
  pub sized : (s : List ℕ) → Memᴰ s (rest ++ pending) → IsSlot f.length s
  pub holds : held f ws ≡ arrange f.order rest pending

-- ---- what a push answers

-- the frontier after it: full exactly when every slot is taken, and then no word is changed
abbrev pub PushFrame : Frontier → List ℕ → Option Frontier → List ℕ → Type 0
PushFrame f ws (Some r) ws' = (f.count < f.capacity) × (r ≡ pushed f) × Framed r ws'
PushFrame f ws None ws' = (f.count ≡ f.capacity) × (ws' ≡ ws)

-- the items after it, by whether a slot is free
abbrev pub Puts : Option Frontier → Bool → List ℕ → List (List ℕ) → List (List ℕ) → Type 0
Puts (Some r) true ws rest pending = Waits r ws rest pending
Puts (Some r) false ws rest pending = ⊥
Puts None true ws rest pending = ⊥
Puts None false ws rest pending = Unit {0}

pub record Pushes (f : Frontier) (ws s : List ℕ) (a : Option Frontier) (ws' : List ℕ) : Type 0 where
  pub frame : PushFrame f ws a ws'
  pub same_length : length ws' ≡ length ws
  pub waits : (rest pending : List (List ℕ)) → Waits f ws rest pending → Puts a (ltb (length rest + length pending) f.capacity) ws' rest (pending ++ (s ∷ []))

-- ---- what a pop answers

-- the frontier after it: empty exactly when nothing waits, and then no word of the area is changed
abbrev pub PopFrame : Frontier → List ℕ → Option Frontier → List ℕ → Type 0
PopFrame f ws (Some r) ws' = Shrunk f r × Framed r ws'
PopFrame f ws None ws' = (f.count ≡ 0) × (ws' ≡ ws)

-- the item s that is taken and the items after it, by what waited in the order of taking
abbrev pub Takes : Option Frontier → List ℕ → List ℕ → List (List ℕ) → Type 0
Takes (Some r) s ws [] = ⊥
Takes (Some r) s ws (x ∷ xs) = (s ≡ x) × Waits r ws xs []
Takes None s ws [] = Unit {0}
Takes None s ws (x ∷ xs) = ⊥

pub record Pops (f : Frontier) (ws : List ℕ) (a : Option Frontier) (s ws' : List ℕ) : Type 0 where
  pub frame : PopFrame f ws a ws'
  pub same_length : length ws' ≡ length ws
  pub waits : (rest pending : List (List ℕ)) → Waits f ws rest pending → Takes a s ws' (merged f.order rest pending)

-- ---- longer slots

-- slots of so many words are no shorter, and as many of them lie in the area
pub record Wider (f : Frontier) (ws : List ℕ) (L : ℕ) : Type 0 where
  pub longer : f.length ≤ L
  pub room : SlotsIn L f.capacity ws

abbrev pub widened : Frontier → ℕ → Frontier
widened f L = record { order = f.order; length = L; first = f.first; count = f.count; pending = f.pending; capacity = f.capacity; most = f.most }

-- the same items wait in them, with zeros behind
pub record Widens (f : Frontier) (ws : List ℕ) (L : ℕ) (r : Frontier) (ws' : List ℕ) : Type 0 where
  pub is : r ≡ widened f L
  pub same_length : length ws' ≡ length ws
  pub framed : Framed r ws'
  pub waits : (rest pending : List (List ℕ)) → Waits f ws rest pending → Waits r ws' (map (padded L) rest) (map (padded L) pending)

-- the same items wait in slots in which so many words have a place
pub record MakesRoom (f : Frontier) (ws : List ℕ) (words : ℕ) (r : Frontier) (ws' : List ℕ) : Type 0 where
  pub longer : f.length ≤ r.length
  pub enough : words ≤ r.length
  pub most : r.length ≤ slot_length
  pub widens : Widens f ws r.length r ws'
