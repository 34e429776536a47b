-- The answer of a part of the check, as the definitions of `semantics` have it.
-- Document 01, "Turned back".
use Rattle.std.specs.Prelude.{ℕ, ◌+◌, Bool, false, List, eqb, ltb, length, Result, Ok, Err}
use Rattle.semantics.specs.declared.refusal.ImageRefusal.{ImageRefusal}
use Rattle.semantics.specs.declared.refusal.ImageRefusal.TheVariants as Image
use Rattle.semantics.specs.Lists.{pick}
use Rattle.semantics.specs.Bytes.{long}
use Rattle.semantics.specs.Image.{longest_image, files_of, nodes_of, edges_of, first_record}
use Rattle.semantics.specs.Answer.{Answer, ok, refuse}
pub mod Laws

abbrev pub answer_of : Result ℕ ImageRefusal → Answer ImageRefusal ℕ
answer_of (Ok at) = ok at
answer_of (Err r) = refuse r

-- the first part of the header's test: the size that no image may have, and the length
unfoldable pub is_sized : List ℕ → Bool
is_sized im = pick (ltb (length im) 11) false (pick (ltb longest_image (length im)) false (eqb (long im 1 + 5) (length im)))

-- the last part of the header's test: the counts, then the place of the first record
unfoldable pub counts_answer : List ℕ → Answer ImageRefusal ℕ
counts_answer im =
    pick (ltb 256 (files_of im)) (refuse Image.Counts)
    (pick (ltb (nodes_of im) 2) (refuse Image.Counts)
    (pick (ltb 2048 (nodes_of im)) (refuse Image.Counts)
    (pick (ltb 4096 (edges_of im)) (refuse Image.Counts)
    (ok first_record))))
