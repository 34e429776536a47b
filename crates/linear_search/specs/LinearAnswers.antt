-- A linear search as it is asked for in code, and what it leaves.
-- Document 01, "Answer".
use Rattle.std.specs.Prelude.{length}
use Rattle.semantics.specs.declared.refusal.LinearRefusal.{LinearRefusal}
use Rattle.semantics.specs.Limits.{base}
use Rattle.semantics.specs.Answer.{Answer}
use Rattle.semantics.specs.Graph.{Graph, view_of}
use Rattle.semantics.specs.Path.{Path}
use Rattle.semantics.specs.Enumeration.{State}
use Rattle.semantics.specs.Linear.{linear}
use Rattle.semantics.specs.Calls.{LinearRequest, Outcome, linear_setting_of, linear_outcome}
use Rattle.reply.specs.declared.finish.Reply.{Reply}
use Rattle.reply.specs.Replies.{reply_of}
use Rattle.semantics.specs.PublicAnswers.{LinearResolution}
pub mod Laws

-- what the definitions answer on a graph
abbrev pub linear_of : Graph → LinearRequest → Answer LinearRefusal (State Path)
linear_of g q = linear base q.limits.length (linear_setting_of base q) (view_of g) q.node

abbrev pub walked_of : Graph → Reply → LinearRequest → Outcome LinearResolution
walked_of g reply q = linear_outcome base (reply_of reply) q (linear_of g q)
