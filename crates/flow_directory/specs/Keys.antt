-- The rows of a directory as the code reads them.
-- Document 02, order 11.
use Rattle.std.specs.Prelude.{ℕ, ◌+◌, ◌*◌, ◌≤◌, ◌<◌, ◌^◌, ◌≡◌, Bool, true, false, List, length}
use Rattle.std.proofs.Math.Option.{Option, none, some}
use Rattle.semantics.specs.Limits.{row_bytes}
use Rattle.flow_directory.specs.declared.rows.Key.{Key}
use Rattle.flow_directory.specs.declared.rows.LookUpRefusal.{LookUpRefusal}
use Rattle.flow_directory.specs.declared.rows.LookUpRefusal.TheVariants.{Missing, Disordered}
use Rattle.std.specs.Prelude as Code
pub mod ByMark
pub mod Laws

-- row i lies in the bytes
abbrev pub RowIn : ℕ → List ℕ → Type 0
RowIn i rows = row_bytes * i + row_bytes ≤ length rows

-- a key in two halves of eight bytes
abbrev pub number_of : Key → ℕ
number_of k = k.high * 18446744073709551616 + k.low

abbrev pub Halved : Key → ℕ → Type 0
Halved k n = (number_of k ≡ n) × (k.low < 2 ^ 64)

-- a reference that was found, as the code holds it
abbrev pub given : Option ℕ → Code.Option ℕ
given none = Code.None
given (some r) = Code.Some r

-- the reference of the key, or why there is none
abbrev pub Looked : Type 0
Looked = Code.Result ℕ LookUpRefusal

abbrev pub looked_of : Bool → Option ℕ → Looked
looked_of true (some r) = Code.Ok r
looked_of true none = Code.Err Missing
looked_of false o = Code.Err Disordered
