-- Stitched search from a reference over the slots of a database.
-- Document 01, "Partial paths": `try_compute_from_partials`. A used partial path shares an edge, so its number is not kept.
use Rattle.std.specs.Prelude.{ℕ, ◌+◌, Bool, List, [], ◌∷◌, eqb, leb, length}
use Rattle.semantics.specs.declared.refusal.PathRefusal.TheVariants as P
use Rattle.semantics.specs.declared.refusal.ReplayRefusal.{ReplayRefusal}
use Rattle.semantics.specs.declared.refusal.ReplayRefusal.TheVariants as Replay
use Rattle.semantics.specs.declared.refusal.SearchRefusal.{SearchRefusal}
use Rattle.semantics.specs.declared.refusal.SearchRefusal.TheVariants as Search
use Rattle.semantics.specs.Lists.{cons_if, shares}
use Rattle.semantics.specs.Limits.{Bounds, within, Limit}
use Rattle.semantics.specs.Answer.{Answer, ok, refuse, and_then, wrap}
use Rattle.semantics.specs.Graph.{View}
use Rattle.semantics.specs.Path.{Path, append_all, is_complete, from_reference}
use Rattle.semantics.specs.Enumeration.{Try, reject, stop, go, tested, Setting, State, enumerate}
use Rattle.semantics.specs.PartialPaths.{Slot, dead, slot}

-- an unknown edge ends the search, any other refusal of the path rules is a rejection
unfoldable pub ended : ReplayRefusal → Try SearchRefusal Path
ended (Replay.Path (P.UnknownNode n)) = reject
ended (Replay.Path (P.NotReference n)) = reject
ended (Replay.Path (P.UnknownEdge e)) = stop (Search.Path (P.UnknownEdge e))
ended (Replay.Path (P.IncorrectSource x y)) = reject
ended (Replay.Path (P.EmptySymbolStack n)) = reject
ended (Replay.Path (P.IncorrectPoppedSymbol n)) = reject
ended (Replay.Path (P.UnexpectedAttachedScopes n)) = reject
ended (Replay.Path (P.MissingAttachedScopes n)) = reject
ended (Replay.Path (P.EmptyScopeStack n)) = reject
ended (Replay.Path (P.UnknownAttachedScope n)) = reject
ended Replay.TooLong = stop Search.TooLong

unfoldable pub extended : View → Answer ReplayRefusal Path → Try SearchRefusal Path
unfolding is_complete ended
extended g (ok q) = go (is_complete g q) q
extended g (refuse r) = ended r

-- a try of a partial path's edges; the first of the three tests is made by who asks
unfoldable pub joined : Bool → Bounds → Limit → View → Path → List ℕ → Try SearchRefusal Path
unfolding tested append_all extended
joined cycle bd lim g p es = tested cycle (within (length p.edges + length es) lim) (leb (length p.edges + length es) bd.edges) Search.TooLong (extended g (append_all bd g p es))

-- per partial path: cycle, length, the bound, append, completeness
unfoldable pub judge_slot : Bounds → Limit → View → Path → List ℕ → Try SearchRefusal Path
unfolding joined shares
judge_slot bd lim g p es = joined (shares es p.edges) bd lim g p es

-- the live slots that start at the path's end, by ascending number
unfoldable pub slot_tries : Bounds → Limit → View → List Slot → Path → List (Try SearchRefusal Path)
unfolding judge_slot
slot_tries bd lim g [] p = []
slot_tries bd lim g (dead ∷ ss) p = slot_tries bd lim g ss p
slot_tries bd lim g (slot f s e es ∷ ss) p = cons_if (eqb s p.end) (judge_slot bd lim g p es) (slot_tries bd lim g ss p)

unfoldable pub stitched : Bounds → Limit → Setting SearchRefusal → View → List Slot → ℕ → Answer SearchRefusal (State Path)
unfolding slot_tries enumerate from_reference
stitched bd lim c g db r = and_then (wrap Search.Path (from_reference g r)) (λ p. enumerate c (slot_tries bd lim g db) bd.expansions (p ∷ []))
