-- A window over the expanded counts of the last searches, in lent words: the first word says where the next entry goes, the entries stand behind it. For every number
-- `most` of entries. Every list of words is a window: no word of it says how many were entered, or their sum, which odd words could belie.
-- Document 02, order 10.
use Rattle.std.specs.Prelude.{ℕ, suc, ◌+◌, ◌-◌, List, [], ◌∷◌, ◌++◌, leb, ltb, length, get_or, take, drop, set, Err, Ok}
use Rattle.semantics.specs.declared.answer.Trend.{Trend}
use Rattle.semantics.specs.Lists.{pick, select, total}
use Rattle.semantics.specs.Limits.{Bounds}
use Rattle.semantics.specs.Words.{zeros}
use Rattle.semantics.specs.Enumeration.{greater}
use Rattle.semantics.specs.PublicAnswers.{Entered}
use Rattle.semantics.specs.declared.answer.EntryRefusal.{EntryRefusal}

-- THE WORDS: an area of fewer than `most` + 1 is a window over as many entries as it has room for; words behind the last entry are no part of it
abbrev pub entries_in : ℕ → List ℕ → List ℕ
entries_in most ws = take most (drop 1 ws)

-- how many entries the area has room for
abbrev pub room_in : ℕ → List ℕ → ℕ
room_in most ws = length (entries_in most ws)

-- where the next entry goes; a first word that is no place of an entry stands for 0
abbrev pub place_in : ℕ → List ℕ → ℕ
place_in most ws = pick (ltb (get_or ws 0 0) (room_in most ws)) (get_or ws 0 0) 0

-- behind the last place comes the first again
abbrev pub place_behind : ℕ → ℕ → ℕ
place_behind room at = pick (ltb (at + 1) room) (at + 1) 0

-- BEGUN EMPTY: what is not entered yet is 0, which alters neither the sum nor the greatest
unfoldable pub begin_words : ℕ → List ℕ → List ℕ
begin_words most ws = zeros (length (take (suc most) ws)) ++ drop (suc most) ws

-- ENTERED: in the place of the oldest
unfoldable pub enter_words : ℕ → ℕ → List ℕ → List ℕ
enter_words most c ws = set (set ws (1 + place_in most ws) c) 0 (place_behind (room_in most ws) (place_in most ws))

-- the answer, and every word
pub record Entering : Type 0 where
  pub answer : Entered
  pub window : List ℕ

-- 40, with the window unaltered, above the bound on expansions
unfoldable pub enter_call : Bounds → ℕ → List ℕ → ℕ → Entering
unfolding enter_words
enter_call bd most ws c = pick (ltb bd.expansions c) (record { answer = Err EntryRefusal.TooGreat; window = ws }) (record { answer = Ok tt; window = enter_words most c ws })

-- REPORTED
unfoldable pub greatest : List ℕ → ℕ
greatest [] = 0
greatest (x ∷ xs) = greater x (greatest xs)

-- the exact sum and the greatest; 0 and 0 of none
unfoldable pub trend_of : List ℕ → Trend
unfolding total greatest
trend_of counts = record { sum = total counts; greatest = greatest counts }

abbrev pub trend_in : ℕ → List ℕ → Trend
trend_in most ws = trend_of (entries_in most ws)

-- A HISTORY, of which Window/History says what a window reports after it

-- a window after calls that enter these counts, the first one first
unfoldable pub after_calls : Bounds → ℕ → List ℕ → List ℕ → List ℕ
unfolding enter_call
after_calls bd most ws [] = ws
after_calls bd most ws (c ∷ cs) = after_calls bd most (enter_call bd most ws c).window cs

-- the entries of these calls: what is refused is none
abbrev pub entries_of : Bounds → List ℕ → List ℕ
entries_of bd cs = select (λ c. leb c bd.expansions) cs

-- the last so many of a history, or all of them
abbrev pub last_of : ℕ → List ℕ → List ℕ
last_of n h = drop (length h - n) h
