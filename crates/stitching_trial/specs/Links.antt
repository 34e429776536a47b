-- The partial paths of each start node as rows of links, and what it means that the rows hold those of a database.
-- Document 01, "Partial paths": "Stitching tries partial paths from the path's end by ascending number".
use Rattle.std.specs.Prelude.{ℕ, suc, ◌+◌, ◌-◌, ◌<◌, ◌≤◌, ◌≡◌, Bool, true, false, List, [], ◌∷◌, eqb, ltb, length, get_or, set, drop}
use Rattle.semantics.specs.Lists.{pick, and, cons_if}
use Rattle.semantics.specs.Limits.{base, max_edges}
use Rattle.semantics.specs.PartialPaths.{Slot, dead, slot}
use Rattle.semantics.specs.Database.{nodes_in, files_in, known_owners, slots_in, well_formed}
use Rattle.semantics.specs.Hidden.{sees, sees_owner, seen_slots}
use Rattle.storage.specs.Index.{NODES}
use Rattle.database.specs.Records.{InWords, count_word}
pub mod Laws

-- THE LAYOUT: the first record of each start node, then for each record the next one with the same start
abbrev pub RECORDS : ℕ
RECORDS = 4096

abbrev pub NEXT : ℕ
NEXT = 2048

abbrev pub LINKS : ℕ
LINKS = 6144

-- word n of the row that stands from `from` on and has `width` words; 0 behind it
unfoldable pub cell : List ℕ → ℕ → ℕ → ℕ → ℕ
cell links from width n = pick (ltb n width) (get_or links (from + n) 0) 0

-- a link is a record's number plus 1; 0 is none
abbrev pub first_link : List ℕ → ℕ → ℕ
first_link links n = cell links 0 NODES n

abbrev pub next_link : List ℕ → ℕ → ℕ
next_link links i = cell links NEXT RECORDS i

-- following the links from `link` on passes just these records
abbrev pub Passes : List ℕ → ℕ → List ℕ → Type 0
Passes links link [] = link ≡ 0
Passes links link (i ∷ is) = (link ≡ i + 1) × Passes links (next_link links i) is

-- record i is put in front of those that start at node s
unfoldable pub put_link : ℕ → ℕ → List ℕ → List ℕ
put_link i s links = set (set links (NEXT + i) (get_or links s 0)) s (i + 1)

-- the numbers of the live slots that start at a node, the first of these slots being number i
unfoldable pub starting_at : ℕ → ℕ → List Slot → List ℕ
starting_at n i [] = []
starting_at n i (dead ∷ ss) = starting_at n (suc i) ss
starting_at n i (slot f s e es ∷ ss) = cons_if (eqb s n) i (starting_at n (suc i) ss)

-- words that meet neither 35 nor, with any loaded graph, 34
pub record Readable (words : List ℕ) : Type 0 where
  pub formed : well_formed base known_owners words ≡ true
  pub nodes : nodes_in words ≤ NODES

-- the slots of a list are linked from number i on
pub record Linking (db : List Slot) (links : List ℕ) (i : ℕ) : Type 0 where
  pub long : length links ≡ LINKS
  pub passes : (n : ℕ) → Passes links (first_link links n) (starting_at n i (drop i db))

-- a record with this first word is tried: it is live, and of an owner that is seen
abbrev pub is_tried : (ℕ → Bool) → ℕ → Bool
is_tried see w = and (ltb 0 w) (sees_owner see (w - 1))

-- where the answer is that no file is hidden, none that the words may name is
abbrev pub ShowsAll : Bool → List ℕ → List ℕ → Type 0
ShowsAll hides visible words = hides ≡ false → (f : ℕ) → f < files_in words → sees visible f ≡ true

-- the slots that the words hold, those of hidden files dead
abbrev pub seen_in : (ℕ → Bool) → List ℕ → List Slot
seen_in see words = seen_slots see (slots_in base words)

abbrev pub LinkedFrom : (ℕ → Bool) → List ℕ → List ℕ → ℕ → Type 0
LinkedFrom see words links i = Linking (seen_in see words) links i

-- all records of such words are
pub record Linked (see : ℕ → Bool) (words links : List ℕ) : Type 0 where
  pub readable : Readable words
  pub long : length links ≡ LINKS
  pub passes : (n : ℕ) → Passes links (first_link links n) (starting_at n 0 (seen_in see words))

-- for some set of files
pub record LinkedSome (words links : List ℕ) : Type 0 where
  pub see : ℕ → Bool
  pub linked : Linked see words links

-- a live record of such words: it lies in them and has at least one edge, at most as many as a path
pub record Tryable (words : List ℕ) (i : ℕ) : Type 0 where
  pub known : i < RECORDS
  pub inside : InWords base i words
  pub some : 1 ≤ count_word base i words
  pub few : count_word base i words ≤ max_edges

-- each of the numbers is so
abbrev pub Each : (ℕ → Type 0) → List ℕ → Type 0
Each P [] = Unit {0}
Each P (x ∷ xs) = P x × Each P xs
