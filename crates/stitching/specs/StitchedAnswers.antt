-- A stitched search as it is asked for in code, and what it leaves.
-- Document 01, "Partial paths" and "Answer".
use Rattle.std.specs.Prelude.{ℕ, Bool, List, length}
use Rattle.semantics.specs.declared.refusal.SearchRefusal.{SearchRefusal}
use Rattle.semantics.specs.Limits.{base, Limit}
use Rattle.semantics.specs.Answer.{Answer}
use Rattle.semantics.specs.Graph.{Graph, View, view_of}
use Rattle.semantics.specs.Path.{Path}
use Rattle.semantics.specs.Enumeration.{State, Try}
use Rattle.semantics.specs.Stitching.{slot_tries, stitched}
use Rattle.semantics.specs.Calls.{Request, Outcome, setting_of, search_outcome}
use Rattle.reply.specs.declared.finish.Reply.{Reply}
use Rattle.reply.specs.Replies.{reply_of}
use Rattle.stitching_trial.specs.Links.{seen_in}
use Rattle.semantics.specs.PublicAnswers.{Resolution}
pub mod Laws

-- what is tried on a path: the partial paths in the words that are seen
abbrev pub tries_in : (ℕ → Bool) → List ℕ → Limit → View → Path → List (Try SearchRefusal Path)
tries_in see words lim g p = slot_tries base lim g (seen_in see words) p

-- what the definitions answer on a graph and the slots of a database
abbrev pub stitched_of : (ℕ → Bool) → Graph → List ℕ → Request → Answer SearchRefusal (State Path)
stitched_of see g words q = stitched base q.limits.length (setting_of base q) (view_of g) (seen_in see words) q.node

abbrev pub found_of : (ℕ → Bool) → Graph → List ℕ → Reply → Request → Outcome Resolution
found_of see g words reply q = search_outcome base (reply_of reply) q (stitched_of see g words q)
