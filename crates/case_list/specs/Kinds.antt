-- The kinds of calls and their numbers, which are their places in the order of the sums.
use Rattle.std.specs.Prelude.{ℕ, ◌≡◌, min, eqb, if◌then◌else◌, Option, Some, None}
use Rattle.case_list.specs.declared.kinds.Kind.{Kind}
use Rattle.case_list.specs.declared.kinds.Kind.TheVariants.{Images, Replays, Complete, Shadows, Direct, DirectRecorded, Linear, LinearRecorded, Fresh, Replaced, Lookups, Stitched, StitchedRecorded}

abbrev pub number_of : Kind → ℕ
number_of Images = 0
number_of Replays = 1
number_of Complete = 2
number_of Shadows = 3
number_of Direct = 4
number_of DirectRecorded = 5
number_of Linear = 6
number_of LinearRecorded = 7
number_of Fresh = 8
number_of Replaced = 9
number_of Lookups = 10
number_of Stitched = 11
number_of StitchedRecorded = 12

-- each number behind the last kind's stands for that kind
abbrev pub IsNumbered : ℕ → Kind → Type 0
IsNumbered n kind = number_of kind ≡ min n 12

-- the kind of a case by its tag, a letter; none for any other byte
abbrev pub called : ℕ → Option Kind
called tag =
    if eqb tag 89 then Some Replays else
    if eqb tag 67 then Some Complete else
    if eqb tag 72 then Some Shadows else
    if eqb tag 68 then Some Direct else
    if eqb tag 100 then Some DirectRecorded else
    if eqb tag 76 then Some Linear else
    if eqb tag 108 then Some LinearRecorded else
    if eqb tag 70 then Some Fresh else
    if eqb tag 82 then Some Replaced else
    if eqb tag 85 then Some Lookups else
    if eqb tag 83 then Some Stitched else
    if eqb tag 115 then Some StitchedRecorded else None

-- in the first section each case is the check of an image
abbrev pub kind_in : ℕ → ℕ → Option Kind
kind_in section tag = if eqb section 0 then Some Images else called tag
