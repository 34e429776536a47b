-- A table of computed cases: each row has what is asked beside what is answered, and the rows of a table are proved together.
-- Document 01, "From the buyer": "The starred cases form a table of the definitions, proved together". A search is answered in the words that the
-- program of "Small graphs" prints.
use Rattle.std.specs.Prelude.{ℕ, ◌≡◌, List, [], ◌∷◌, map}

infix 4 ◌gives◌
infix 5 returned◌expanded◌complete◌rejected◌cycles◌flags◌paths◌
infix 5 expansions◌partials◌cuts◌flagged◌slots◌
pub record Row (A : Type 0) : Type 0 where
  pub asked : A
  pub said : A

abbrev pub ◌gives◌ : {A : Type 0} → A → A → Row A
◌gives◌ asked said = record { asked = asked; said = said }

-- every row of the table says what is answered
abbrev pub Agreed : {A : Type 0} → List (Row A) → Type 0
Agreed rows = map (λ r. r.asked) rows ≡ map (λ r. r.said) rows

-- a refused call: document 01's number and values, and no path
abbrev pub refused : List ℕ → List (List ℕ)
refused told = told ∷ []

-- an unrefused search: 0, the paths, the four statistics and the three flags; then the edges of each path
abbrev pub returned◌expanded◌complete◌rejected◌cycles◌flags◌paths◌ : ℕ → ℕ → ℕ → ℕ → ℕ → List ℕ → List (List ℕ) → List (List ℕ)
returned◌expanded◌complete◌rejected◌cycles◌flags◌paths◌ count expanding completed rejecting cutting limited lists =
    (0 ∷ count ∷ expanding ∷ completed ∷ rejecting ∷ cutting ∷ limited) ∷ lists

-- the flags of the limits on length, on the path count and on complete paths
abbrev pub no_flag : List ℕ
no_flag = 0 ∷ 0 ∷ 0 ∷ []

abbrev pub length_flag : List ℕ
length_flag = 1 ∷ 0 ∷ 0 ∷ []

abbrev pub count_flag : List ℕ
count_flag = 0 ∷ 1 ∷ 0 ∷ []

abbrev pub complete_flag : List ℕ
complete_flag = 0 ∷ 0 ∷ 1 ∷ []

-- an unrefused replacement: 0, the three statistics and the flags of the limits on length and on the path count; then a row for each slot
abbrev pub expansions◌partials◌cuts◌flagged◌slots◌ : ℕ → ℕ → ℕ → List ℕ → List (List ℕ) → List (List ℕ)
expansions◌partials◌cuts◌flagged◌slots◌ expanding found cutting limited rows = (0 ∷ expanding ∷ found ∷ cutting ∷ limited) ∷ rows

abbrev pub unflagged : List ℕ
unflagged = 0 ∷ 0 ∷ []
