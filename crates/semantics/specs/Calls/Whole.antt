-- What the third demand supposes, from the bytes of an image and the words of a database; that it holds stands in proofs/Theorems/Calls/Whole.
use Rattle.std.specs.Prelude.{ℕ, ◌<◌, Bool}
use Rattle.std.proofs.Math.Path.{◌≡◌}
use Rattle.std.proofs.Math.Bool.{true, false}
use mathlib.Core.List.{List, Memᴰ}
use Rattle.semantics.specs.declared.search.SearchStats.{SearchStats}
use Rattle.semantics.specs.Limits.{Bounds, slot_words, nobody}
use Rattle.semantics.specs.Answer.{ok}
use Rattle.semantics.specs.Graph.{Graph, view_of}
use Rattle.semantics.specs.Recorded.{recorded}
use Rattle.semantics.specs.Image.{check_image}
use Rattle.semantics.specs.Words.{lists_in}
use Rattle.semantics.specs.Database.{slots_in, known_owners}
use Rattle.semantics.specs.Demand.{file_owners, all_owners, NoAliases, Holds}
use Rattle.semantics.specs.Hidden.{seen, seen_image, seen_slots}
use Rattle.semantics.specs.Calls.{Request, Outcome, direct_call, stitched_call}
use Rattle.semantics.specs.Calls.Filing.{Refiled}
use Rattle.semantics.specs.PublicAnswers.{Resolution, resolved}

-- a recorded set (document 01): the edge lists in the used result slots of the added call
abbrev pub recorded_set : Bounds → Outcome Resolution → List (List ℕ)
recorded_set bd o = lists_in (slot_words bd) o.result

-- neither refused, nor with the flag of the path count or of complete paths
pub record Finished (o : Outcome Resolution) : Type 0 where
  pub paths : ℕ
  pub stats : SearchStats
  pub answered : o.answer ≡ resolved paths stats
  pub uncounted : stats.count_limited ≡ false
  pub uncut : stats.complete_limited ≡ false

-- `see` are the files that are visible to both
module _ (w : ℕ → ℕ) (bd : Bounds) (see : ℕ → Bool) where
  abbrev pub direct_recorded : List ℕ → Request → Outcome Resolution
  direct_recorded im q = direct_call bd recorded (seen_image see (check_image w im)) q

  abbrev pub stitched_recorded : List ℕ → List ℕ → Request → Outcome Resolution
  stitched_recorded im words q = stitched_call bd recorded known_owners see (seen_image see (check_image w im)) words q

  -- THE PREMISES: direct search is asked q, stitched search q', each in any order, areas and count limits. Of the database only what is seen counts
  pub record Premises (im words : List ℕ) (q q' : Request) : Type 0 where
    pub graph : Graph
    pub accepted : check_image w im ≡ ok graph
    pub same-reference : q.node ≡ q'.node
    pub same-length-limit : q.limits.length ≡ q'.limits.length
    pub database-holds : Holds (file_owners (seen see graph)) bd (view_of (seen see graph)) (seen_slots see (slots_in bd words))
    pub direct-finished : Finished (direct_recorded im q)
    pub stitched-finished : Finished (stitched_recorded im words q')

  -- THE DAILY REFILING: every visible file was replaced on this image in words that may have been made and filed on any earlier one; no slot of the alias set is left
  pub record Refiling (im before words : List ℕ) (q q' : Request) : Type 0 where
    pub graph : Graph
    pub accepted : check_image w im ≡ ok graph
    pub same-reference : q.node ≡ q'.node
    pub same-length-limit : q.limits.length ≡ q'.limits.length
    pub done : List ℕ
    pub replaced : Refiled bd (check_image w im) before words done
    pub every-file : (f : ℕ) → f < graph.files → see f ≡ true → Memᴰ f done
    pub no-aliases : NoAliases (slots_in bd words)
    pub direct-finished : Finished (direct_recorded im q)
    pub stitched-finished : Finished (stitched_recorded im words q')

  -- ORDER 5: the premises of demand 3, but that the database holds the alias set beside every visible file's partial paths, and no others
  pub record AliasPremises (im words : List ℕ) (q q' : Request) : Type 0 where
    pub graph : Graph
    pub accepted : check_image w im ≡ ok graph
    pub same-reference : q.node ≡ q'.node
    pub same-length-limit : q.limits.length ≡ q'.limits.length
    pub database-holds : Holds (all_owners (seen see graph)) bd (view_of (seen see graph)) (seen_slots see (slots_in bd words))
    pub direct-finished : Finished (direct_recorded im q)
    pub stitched-finished : Finished (stitched_recorded im words q')

  -- THE DAILY REFILING WITH THE ALIAS SET: the words may have held slots of an earlier set too
  pub record AliasRefiling (im before words : List ℕ) (q q' : Request) : Type 0 where
    pub graph : Graph
    pub accepted : check_image w im ≡ ok graph
    pub same-reference : q.node ≡ q'.node
    pub same-length-limit : q.limits.length ≡ q'.limits.length
    pub done : List ℕ
    pub replaced : Refiled bd (check_image w im) before words done
    pub every-file : (f : ℕ) → f < graph.files → see f ≡ true → Memᴰ f done
    pub alias-set : Memᴰ nobody done
    pub direct-finished : Finished (direct_recorded im q)
    pub stitched-finished : Finished (stitched_recorded im words q')
