-- What the definitions answer to a direct search.
-- Document 01, "Answer".
use Rattle.std.specs.Prelude.{List}
use Rattle.semantics.specs.declared.refusal.SearchRefusal.{SearchRefusal}
use Rattle.semantics.specs.declared.refusal.SearchRefusal.TheVariants as Search
use Rattle.semantics.specs.Limits.{base, Limit}
use Rattle.semantics.specs.Answer.{Answer}
use Rattle.semantics.specs.Graph.{Graph, View, view_of}
use Rattle.semantics.specs.Path.{Path}
use Rattle.semantics.specs.Enumeration.{State, Try}
use Rattle.semantics.specs.Direct.{tries, direct}
use Rattle.semantics.specs.Calls.{Request, Outcome, setting_of, search_outcome}
use Rattle.reply.specs.declared.finish.Reply.{Reply}
use Rattle.reply.specs.Replies.{reply_of}
use Rattle.semantics.specs.PublicAnswers.{Resolution}
pub mod Laws

-- what is tried on a path: the outgoing edges of its end
abbrev pub edge_tries : Limit → View → Path → List (Try SearchRefusal Path)
edge_tries lim g p = tries Search.TooLong base lim g p

-- what the definitions answer on a graph
abbrev pub direct_of : Graph → Request → Answer SearchRefusal (State Path)
direct_of g q = direct base q.limits.length (setting_of base q) (view_of g) q.node

abbrev pub found_of : Graph → Reply → Request → Outcome Resolution
found_of g reply q = search_outcome base (reply_of reply) q (direct_of g q)
