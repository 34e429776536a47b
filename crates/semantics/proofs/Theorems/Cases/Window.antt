-- The window over the last searches: every word at each boundary, odd words and short areas, and what it reports.
-- Document 02, order 10.
use Rattle.std.specs.Prelude.{ℕ, refl, List, [], ◌∷◌, ◌++◌, replicate}
use Rattle.semantics.specs.Limits.{base, window_entries}
use Rattle.semantics.specs.Lists.{select}
use Rattle.semantics.specs.Told.{told_entered, told_trend}
use Rattle.semantics.specs.Words.{zeros}
use Rattle.semantics.specs.Window.{Entering, begin_words, enter_call, trend_of, trend_in, after_calls, entries_of, last_of}
use Rattle.semantics.specs.Entries.{begin_window, enter_window, report_window}
use Rattle.semantics.specs.Cases.Rows.{Row, ◌gives◌, Agreed}
use Rattle.semantics.specs.Cases.Asked.{bounded}

-- EVERY WORD, of a window over three entries, each at most 9

abbrev three : ℕ
three = 3

-- begun: what the words held is gone, and those behind the window stay; an area of fewer words is empty too
unfoldable pub begins : List (Row (List ℕ))
unfolding begin_words
begins =
    (begin_words three (2 ∷ 5 ∷ 9 ∷ 1 ∷ []) gives 0 ∷ 0 ∷ 0 ∷ 0 ∷ [])
    ∷ (begin_words three (2 ∷ 5 ∷ 9 ∷ 1 ∷ 7 ∷ 8 ∷ []) gives 0 ∷ 0 ∷ 0 ∷ 0 ∷ 7 ∷ 8 ∷ [])
    ∷ (begin_words three (2 ∷ 5 ∷ 9 ∷ []) gives 0 ∷ 0 ∷ 0 ∷ [])
    ∷ (begin_words three (2 ∷ []) gives 0 ∷ [])
    ∷ (begin_words three [] gives [])
    ∷ []

pub begin-cases : Agreed begins
unfolding begins
begin-cases = refl

-- a count entered: the answer, every word, and what is then reported
abbrev leaves : ℕ → Entering → List (List ℕ)
leaves most e = told_entered e.answer ∷ e.window ∷ told_trend (trend_in most e.window) ∷ []

unfoldable pub entering : List ℕ → ℕ → List (List ℕ)
unfolding enter_call trend_of
entering ws c = leaves three (enter_call (bounded 2 9) three ws c)

unfoldable pub enters : List (Row (List (List ℕ)))
unfolding entering
enters =
    -- one behind another, up to the last place, and at the first again: the oldest goes
    (entering (0 ∷ 0 ∷ 0 ∷ 0 ∷ []) 5 gives (0 ∷ []) ∷ (1 ∷ 5 ∷ 0 ∷ 0 ∷ []) ∷ (5 ∷ 5 ∷ []) ∷ [])
    ∷ (entering (1 ∷ 5 ∷ 0 ∷ 0 ∷ []) 7 gives (0 ∷ []) ∷ (2 ∷ 5 ∷ 7 ∷ 0 ∷ []) ∷ (12 ∷ 7 ∷ []) ∷ [])
    ∷ (entering (2 ∷ 5 ∷ 7 ∷ 0 ∷ []) 1 gives (0 ∷ []) ∷ (0 ∷ 5 ∷ 7 ∷ 1 ∷ []) ∷ (13 ∷ 7 ∷ []) ∷ [])
    ∷ (entering (0 ∷ 5 ∷ 7 ∷ 1 ∷ []) 2 gives (0 ∷ []) ∷ (1 ∷ 2 ∷ 7 ∷ 1 ∷ []) ∷ (10 ∷ 7 ∷ []) ∷ [])
    -- the greatest falls when it leaves; it may stand in several places; a 0 is an entry
    ∷ (entering (1 ∷ 2 ∷ 7 ∷ 1 ∷ []) 0 gives (0 ∷ []) ∷ (2 ∷ 2 ∷ 0 ∷ 1 ∷ []) ∷ (3 ∷ 2 ∷ []) ∷ [])
    ∷ (entering (1 ∷ 7 ∷ 7 ∷ 1 ∷ []) 3 gives (0 ∷ []) ∷ (2 ∷ 7 ∷ 3 ∷ 1 ∷ []) ∷ (11 ∷ 7 ∷ []) ∷ [])
    -- at the bound and one above it: 40, and no word moves, the place neither
    ∷ (entering (1 ∷ 5 ∷ 7 ∷ 1 ∷ []) 9 gives (0 ∷ []) ∷ (2 ∷ 5 ∷ 9 ∷ 1 ∷ []) ∷ (15 ∷ 9 ∷ []) ∷ [])
    ∷ (entering (1 ∷ 5 ∷ 7 ∷ 1 ∷ []) 10 gives (40 ∷ []) ∷ (1 ∷ 5 ∷ 7 ∷ 1 ∷ []) ∷ (13 ∷ 7 ∷ []) ∷ [])
    ∷ (entering (8 ∷ 5 ∷ 7 ∷ 1 ∷ 6 ∷ []) 10 gives (40 ∷ []) ∷ (8 ∷ 5 ∷ 7 ∷ 1 ∷ 6 ∷ []) ∷ (13 ∷ 7 ∷ []) ∷ [])
    -- odd words: a place that is none stands for 0; entries above the bound count as they stand
    ∷ (entering (3 ∷ 5 ∷ 7 ∷ 1 ∷ []) 2 gives (0 ∷ []) ∷ (1 ∷ 2 ∷ 7 ∷ 1 ∷ []) ∷ (10 ∷ 7 ∷ []) ∷ [])
    ∷ (entering (4294967295 ∷ 5 ∷ 4294967295 ∷ 1 ∷ []) 2 gives (0 ∷ []) ∷ (1 ∷ 2 ∷ 4294967295 ∷ 1 ∷ []) ∷ (4294967298 ∷ 4294967295 ∷ []) ∷ [])
    -- words behind the window are neither read nor written
    ∷ (entering (2 ∷ 5 ∷ 7 ∷ 1 ∷ 8 ∷ 8 ∷ []) 2 gives (0 ∷ []) ∷ (0 ∷ 5 ∷ 7 ∷ 2 ∷ 8 ∷ 8 ∷ []) ∷ (14 ∷ 7 ∷ []) ∷ [])
    ∷ (entering (3 ∷ 5 ∷ 7 ∷ 1 ∷ 8 ∷ 8 ∷ []) 2 gives (0 ∷ []) ∷ (1 ∷ 2 ∷ 7 ∷ 1 ∷ 8 ∷ 8 ∷ []) ∷ (10 ∷ 7 ∷ []) ∷ [])
    -- an area of fewer words is a window over fewer entries: two, one, none
    ∷ (entering (1 ∷ 5 ∷ 7 ∷ []) 2 gives (0 ∷ []) ∷ (0 ∷ 5 ∷ 2 ∷ []) ∷ (7 ∷ 5 ∷ []) ∷ [])
    ∷ (entering (2 ∷ 5 ∷ 7 ∷ []) 2 gives (0 ∷ []) ∷ (1 ∷ 2 ∷ 7 ∷ []) ∷ (9 ∷ 7 ∷ []) ∷ [])
    ∷ (entering (0 ∷ 5 ∷ []) 2 gives (0 ∷ []) ∷ (0 ∷ 2 ∷ []) ∷ (2 ∷ 2 ∷ []) ∷ [])
    ∷ (entering (1 ∷ 5 ∷ []) 2 gives (0 ∷ []) ∷ (0 ∷ 2 ∷ []) ∷ (2 ∷ 2 ∷ []) ∷ [])
    ∷ (entering (5 ∷ []) 2 gives (0 ∷ []) ∷ (0 ∷ []) ∷ (0 ∷ 0 ∷ []) ∷ [])
    ∷ (entering (5 ∷ []) 10 gives (40 ∷ []) ∷ (5 ∷ []) ∷ (0 ∷ 0 ∷ []) ∷ [])
    ∷ (entering [] 2 gives (0 ∷ []) ∷ [] ∷ (0 ∷ 0 ∷ []) ∷ [])
    ∷ []

pub enter-cases : Agreed enters
unfolding enters
enter-cases = refl

-- A HISTORY, in words that held odd ones: what is reported after it
unfoldable pub after : List ℕ → List ℕ → List ℕ
unfolding after_calls begin_words trend_of
after ws counts = told_trend (trend_in three (after_calls (bounded 2 9) three (begin_words three ws) counts))

abbrev odd : List ℕ
odd = 8 ∷ 8 ∷ 8 ∷ 8 ∷ 8 ∷ []

unfoldable pub histories : List (Row (List ℕ))
unfolding after
histories =
    -- before the first; fewer than three, three, more; round again and again
    (after odd [] gives 0 ∷ 0 ∷ [])
    ∷ (after odd (5 ∷ []) gives 5 ∷ 5 ∷ [])
    ∷ (after odd (7 ∷ 2 ∷ 4 ∷ []) gives 13 ∷ 7 ∷ [])
    ∷ (after odd (7 ∷ 2 ∷ 4 ∷ 1 ∷ []) gives 7 ∷ 4 ∷ [])
    ∷ (after odd (7 ∷ 2 ∷ 4 ∷ 1 ∷ 9 ∷ 0 ∷ 3 ∷ 2 ∷ 6 ∷ 5 ∷ []) gives 13 ∷ 6 ∷ [])
    -- a refused count is no entry, and sends none away
    ∷ (after odd (7 ∷ 10 ∷ 2 ∷ 4 ∷ []) gives 13 ∷ 7 ∷ [])
    ∷ (after odd (7 ∷ 10 ∷ 2 ∷ 11 ∷ 4 ∷ 10 ∷ []) gives 13 ∷ 7 ∷ [])
    -- an area with room for two, for none
    ∷ (after (8 ∷ 8 ∷ 8 ∷ []) (7 ∷ 2 ∷ 4 ∷ []) gives 6 ∷ 4 ∷ [])
    ∷ (after (8 ∷ []) (7 ∷ 2 ∷ 4 ∷ []) gives 0 ∷ 0 ∷ [])
    ∷ (after [] (7 ∷ 2 ∷ 4 ∷ []) gives 0 ∷ 0 ∷ [])
    ∷ []

pub history-cases : Agreed histories
unfolding histories
history-cases = refl

-- THE ENTRIES, of 1,025 words

-- what Window/History proves of a history: its last 1,024 entries, or all of them
abbrev lastly : List ℕ → List ℕ
lastly counts = told_trend (trend_of (last_of window_entries (entries_of base counts)))

unfoldable pub lasts : List (Row (List ℕ))
unfolding trend_of select
lasts =
    (lastly [] gives 0 ∷ 0 ∷ [])
    ∷ (lastly (7 ∷ replicate 1022 1) gives 1029 ∷ 7 ∷ [])
    ∷ (lastly (7 ∷ replicate 1023 1) gives 1030 ∷ 7 ∷ [])
    ∷ (lastly (7 ∷ replicate 1024 1) gives 1024 ∷ 1 ∷ [])
    ∷ (lastly (7 ∷ (16777217 ∷ replicate 1023 1)) gives 1030 ∷ 7 ∷ [])
    -- the greatest entries: 2^34
    ∷ (lastly (replicate 1030 16777216) gives 17179869184 ∷ 16777216 ∷ [])
    ∷ []

pub last-cases : Agreed lasts
unfolding lasts
last-cases = refl

-- every word
unfoldable pub entries : List (Row (List (List ℕ)))
unfolding enter_call trend_of begin_words
entries =
    -- at the bound
    (leaves window_entries (enter_window (zeros 1025) 16777216) gives (0 ∷ []) ∷ (1 ∷ 16777216 ∷ zeros 1023) ∷ (16777216 ∷ 16777216 ∷ []) ∷ [])
    -- the last place but one, the last, and the first word that is none
    ∷ (leaves window_entries (enter_window (1022 ∷ zeros 1024) 4) gives (0 ∷ []) ∷ (1023 ∷ (zeros 1022 ++ (4 ∷ 0 ∷ []))) ∷ (4 ∷ 4 ∷ []) ∷ [])
    ∷ (leaves window_entries (enter_window (1023 ∷ zeros 1024) 4) gives (0 ∷ []) ∷ (0 ∷ (zeros 1023 ++ (4 ∷ []))) ∷ (4 ∷ 4 ∷ []) ∷ [])
    ∷ (leaves window_entries (enter_window (1024 ∷ zeros 1024) 4) gives (0 ∷ []) ∷ (1 ∷ 4 ∷ zeros 1023) ∷ (4 ∷ 4 ∷ []) ∷ [])
    -- one above the bound, and the greatest number of 64 bits
    ∷ (leaves window_entries (enter_window (zeros 1025) 16777217) gives (40 ∷ []) ∷ zeros 1025 ∷ (0 ∷ 0 ∷ []) ∷ [])
    ∷ (leaves window_entries (enter_window (zeros 1025) 18446744073709551615) gives (40 ∷ []) ∷ zeros 1025 ∷ (0 ∷ 0 ∷ []) ∷ [])
    -- words that no history leaves, at their greatest: the sum is exact, and the two behind are not in it
    ∷ (told_trend (report_window (replicate 1027 4294967295)) ∷ begin_window (replicate 1027 9) ∷ [] gives (4398046510080 ∷ 4294967295 ∷ []) ∷ (zeros 1025 ++ (9 ∷ 9 ∷ [])) ∷ [])
    ∷ []

pub entry-cases : Agreed entries
unfolding entries
entry-cases = refl
