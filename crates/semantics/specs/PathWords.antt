-- A replayed path as a list of numbers. Document 01, "Path": "answers the path (end, steps, both stacks)".
-- Each item has a number in front that says what it is, so that a 0 ends a list; a refused replay's path gives zeros alone.
use Rattle.std.specs.Prelude.{ℕ, List, [], ◌∷◌, ◌++◌}
use Rattle.std.proofs.Math.Option.{Option, none, some}
use Rattle.semantics.specs.Path.{Symbol}
use Rattle.semantics.specs.Halves.{low_word, high_word}
use Rattle.semantics.specs.Calls.{Passage, edge, jump, ReplayedPath}
pub mod Alike

-- a list and the 0 that ends it
abbrev pub closed : List ℕ → List ℕ
closed l = l ++ (0 ∷ [])

-- the steps in order: 1 and an edge, 2 and the scope that was jumped to
unfoldable pub step_words : List Passage → List ℕ
step_words [] = []
step_words (edge e ∷ ps) = 1 ∷ e ∷ step_words ps
step_words (jump s ∷ ps) = 2 ∷ s ∷ step_words ps

-- scopes, top first: 1 and the scope
unfoldable pub scope_words : List ℕ → List ℕ
scope_words [] = []
scope_words (s ∷ ss) = 1 ∷ s ∷ scope_words ss

-- a symbol, its high word first: 1 in front of it where no scopes are attached, else 2, and the scopes behind it
unfoldable pub symbol_word : ℕ → Option (List ℕ) → List ℕ
unfolding scope_words
symbol_word x none = 1 ∷ high_word x ∷ low_word x ∷ []
symbol_word x (some ss) = 2 ∷ high_word x ∷ low_word x ∷ closed (scope_words ss)

-- the symbols, top first
unfoldable pub symbol_words : List Symbol → List ℕ
unfolding symbol_word
symbol_words [] = []
symbol_words (x ∷ xs) = symbol_word x.symbol x.scopes ++ symbol_words xs

-- the end, the steps, the symbols, the scopes
unfoldable pub path_words : ReplayedPath → List ℕ
unfolding step_words symbol_words scope_words
path_words p = p.end ∷ (closed (step_words p.steps) ++ (closed (symbol_words p.symbols) ++ closed (scope_words p.scopes)))
