-- How far a list of numbers stands in a lent area, which grows at its end: semantics/specs/Reading.antt has the whole.
use Rattle.std.specs.Prelude.{ℕ, ◌≡◌, List, ◌++◌, length}
use Rattle.semantics.specs.Answer.{ok}
use Rattle.semantics.specs.Graph.{Graph}
use Rattle.semantics.specs.Written.{written}
use Rattle.semantics.specs.Reading.{Listed, outgoing_call}
use Rattle.semantics.specs.PublicAnswers.{Listing}
pub mod Laws

-- the area holds the numbers, as many as fit, and so many they are
pub record Holds (area : List ℕ) (count : ℕ) (ns : List ℕ) : Type 0 where
  pub words : area ≡ written (length area) ns
  pub counted : count ≡ length ns

-- whatever list an area held, it then holds these numbers behind it
abbrev pub Adds : List ℕ → ℕ → List ℕ → ℕ → List ℕ → Type 0
Adds before count after more ns = (ms : List ℕ) → Holds before count ms → Holds after more (ms ++ ns)

-- the answer, and every word of the area
abbrev pub Lists : Listed → Listing → List ℕ → Type 0
Lists o a rs = (a ≡ o.answer) × (rs ≡ o.result)

-- on a graph that is loaded
abbrev pub outgoing_loaded : Graph → ℕ → ℕ → Listed
outgoing_loaded g n words = outgoing_call (ok g) n words
