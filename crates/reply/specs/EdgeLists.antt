-- The recorded paths as edge lists, which is what result slots hold: copies dropped, then every list that another one beats.
-- Document 01, "Answer": "`from_complete` drops copies, then every path shadowed by another recorded one".
use Rattle.std.specs.Prelude.{ℕ, Bool, false, not, List, [], ◌∷◌, ◌++◌, get_or}
use Rattle.semantics.specs.Lists.{or, and, same, pick}
pub mod ByPlace
pub mod Laws
pub mod Paths
pub mod Shadowed

-- is the list among these
unfoldable pub has_list : List ℕ → List (List ℕ) → Bool
unfolding same
has_list l [] = false
has_list l (m ∷ ms) = or (same l m) (has_list l ms)

-- the list behind those seen before, unless it is a copy
abbrev pub seen_with : List (List ℕ) → List ℕ → List (List ℕ)
seen_with seen l = pick (has_list l seen) seen (seen ++ (l ∷ []))

-- copies dropped, the first of each kept
unfoldable pub distinct_lists : List (List ℕ) → List (List ℕ) → List (List ℕ)
unfolding has_list
distinct_lists seen [] = seen
distinct_lists seen (l ∷ ls) = distinct_lists (seen_with seen l) ls

-- is l beaten by another list of these
unfoldable pub beaten_list : (List ℕ → List ℕ → Bool) → List ℕ → List (List ℕ) → Bool
unfolding same
beaten_list beats l [] = false
beaten_list beats l (m ∷ ms) = or (and (not (same l m)) (beats m l)) (beaten_list beats l ms)

-- is list j beaten by another one
abbrev pub beaten_at : (List ℕ → List ℕ → Bool) → List (List ℕ) → ℕ → Bool
beaten_at beats ls j = beaten_list beats (get_or ls j []) ls

-- the lists for which the test fails
unfoldable pub without : (List ℕ → Bool) → List (List ℕ) → List (List ℕ)
without drops [] = []
without drops (l ∷ ls) = pick (drops l) (without drops ls) (l ∷ without drops ls)

-- a beaten list still beats others
unfoldable pub unbeaten_lists : (List ℕ → List ℕ → Bool) → List (List ℕ) → List (List ℕ) → List (List ℕ)
unfolding beaten_list without
unbeaten_lists beats all ls = without (λ l. beaten_list beats l all) ls
