-- Result slots at the end of a search: the lists that they hold, and marks on those that are to be dropped. For every slot length L.
-- Document 01, "Answer": a slot has "edge count, edges, zeros. Unused slots .. are zero".
use Rattle.std.specs.Prelude.{ℕ, ◌+◌, ◌-◌, ◌*◌, ◌≤◌, ◌<◌, ◌≡◌, Bool, ltb, length, get_or, set, take, drop}
use mathlib.Core.List.{List, [], ◌++◌, map, Memᴰ}
use Rattle.semantics.specs.Lists.{pick}
use Rattle.semantics.specs.Words.{zeros, encode, flat, area, slots_of}
use Rattle.words.specs.Slots.{InArea, SlotsIn, slot_at, put_slot}
pub mod Laws
pub mod Marking
pub mod ClosingUp
pub mod Passes

-- the first n slots hold these lists, each of which has its place in a slot, and zeros stand behind them
pub record Lists (L n : ℕ) (ws : List ℕ) : Type 0 where
  pub lists : List (List ℕ)
  pub count : length lists ≡ n
  pub short : (es : List ℕ) → Memᴰ es lists → length es < L
  pub holds : ws ≡ area L (length ws) lists

-- a call that leaves r of the n lists in the area, those that `keeps` makes of them, closed up, and zeros behind them
abbrev pub Leaves : ℕ → ℕ → (List (List ℕ) → List (List ℕ)) → List ℕ → ℕ → List ℕ → Type 0
Leaves L n keeps ws r ws' =
    (length ws' ≡ length ws) × (r ≤ n) × ((k : Lists L n ws) → (ws' ≡ area L (length ws) (keeps k.lists)) × (r ≡ length (keeps k.lists)))

-- ---- a slot and its mark

-- the count in a count word, which is L more in a slot that is marked
abbrev pub count_of : ℕ → ℕ → ℕ
count_of L w = pick (ltb w L) w (w - L)

-- the edges in the slot s, marked or not
unfoldable pub edges_in : ℕ → List ℕ → List ℕ
edges_in L s = take (count_of L (get_or s 0 0)) (drop 1 s)

-- the edges in slot i of an area
abbrev pub edges_at : ℕ → ℕ → List ℕ → List ℕ
edges_at L i ws = edges_in L (slot_at L i ws)

-- the lists in its first n slots
unfoldable pub lists_at : ℕ → ℕ → List ℕ → List (List ℕ)
unfolding slots_of edges_in
lists_at L n ws = map (edges_in L) (slots_of L n ws)

-- slot i lies in the area, and its edges in the slot
pub record Fitting (L i : ℕ) (ws : List ℕ) : Type 0 where
  pub inside : InArea L i ws
  pub fits : count_of L (get_or ws (L * i) 0) < L

-- and so do the first n slots
abbrev pub AllFitting : ℕ → ℕ → List ℕ → Type 0
AllFitting L n ws = (j : ℕ) → j < n → Fitting L j ws

-- the slot of a list, with or without a mark
unfoldable pub slot_of : ℕ → Bool → List ℕ → List ℕ
unfolding encode
slot_of L mark es = pick mark (set (encode L es) 0 (length es + L)) (encode L es)

-- the area with slot i marked if the test holds
unfoldable pub mark_if : ℕ → ℕ → Bool → List ℕ → List ℕ
mark_if L i test ws = pick test (set ws (L * i) (get_or ws (L * i) 0 + L)) ws

-- the first slots hold these lists, slot j with a mark if `mark j` holds
pub record Held (L : ℕ) (mark : ℕ → Bool) (ls : List (List ℕ)) (ws : List ℕ) : Type 0 where
  pub inside : SlotsIn L (length ls) ws
  pub short : (j : ℕ) → j < length ls → length (get_or ls j []) < L
  pub slot : (j : ℕ) → j < length ls → slot_at L j ws ≡ slot_of L (mark j) (get_or ls j [])

-- and zeros stand behind them
pub record Marked (L : ℕ) (mark : ℕ → Bool) (ls : List (List ℕ)) (ws : List ℕ) : Type 0 where
  pub held : Held L mark ls ws
  pub behind : drop (L * length ls) ws ≡ zeros (length ws - L * length ls)

-- a call that marks those of the n lists for which the test holds among all of them
abbrev pub Marks : ℕ → ℕ → (List (List ℕ) → ℕ → Bool) → List ℕ → List ℕ → Type 0
Marks L n test ws ws' = (length ws' ≡ length ws) × ((k : Lists L n ws) → Marked L (test k.lists) k.lists ws')

-- some n lists stand in the slots, some of them marked
pub record MarkedLists (L n : ℕ) (ws : List ℕ) : Type 0 where
  pub mark : ℕ → Bool
  pub lists : List (List ℕ)
  pub count : length lists ≡ n
  pub marked : Marked L mark lists ws

-- ---- closing up

-- slot i becomes slot `to`, if the test holds
unfoldable pub keep_if : ℕ → Bool → ℕ → ℕ → List ℕ → List ℕ
unfolding put_slot slot_at
keep_if L test i to ws = pick test (put_slot L to (slot_at L i ws) ws) ws

-- a call that does so, and counts it
abbrev pub Keeps : ℕ → Bool → ℕ → ℕ → List ℕ → ℕ → List ℕ → Type 0
Keeps L test i to ws r ws' = (length ws' ≡ length ws) × (ws' ≡ keep_if L test i to ws) × (r ≡ pick test (to + 1) to)

-- the lists `out` stand in the first `to` slots, and from slot i on the words are still those of ws₀
pub record Closing (L n i to : ℕ) (out : List (List ℕ)) (ws₀ ws : List ℕ) : Type 0 where
  pub kept : length out ≡ to
  pub before : to ≤ i
  pub within : i ≤ n
  pub same_length : length ws ≡ length ws₀
  pub front : take (L * to) ws ≡ flat L out
  pub rest : drop (L * i) ws ≡ drop (L * i) ws₀

-- the area with the slots from `from` to before `to` cleared
unfoldable pub clear_slots : ℕ → ℕ → ℕ → List ℕ → List ℕ
clear_slots L from to ws = take (L * from) ws ++ zeros (L * to - L * from) ++ drop (L * to) ws
