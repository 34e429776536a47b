-- The two identities between the statistics at every unrefused direct call.
-- Document 01, "Budget and frontier": "Edges looked at equal cycle cuts, length refusals, rejections and pushes together. Pushes plus one equal
-- expansions, paths still waiting, and 1 more if the path-count flag is set." The start is no push there.
use Rattle.std.specs.Prelude.{ℕ, ◌+◌, ◌-◌, Bool, List, length}
use Rattle.std.proofs.Common.{arith}
use Rattle.std.proofs.Math.Path.{◌≡◌, refl, subst}
use Rattle.std.proofs.Math.Bool.{true, false, true≢false}
use Rattle.semantics.specs.declared.search.SearchStats.{SearchStats}
use Rattle.semantics.specs.declared.refusal.SearchRefusal.{SearchRefusal}
use Rattle.semantics.specs.declared.refusal.ImageRefusal.{ImageRefusal}
use Rattle.semantics.specs.Limits.{Bounds}
use Rattle.semantics.specs.Answer.{Answer, ok, refuse}
use Rattle.semantics.specs.Graph.{Graph, view_of}
use Rattle.semantics.specs.Path.{Path}
use Rattle.semantics.specs.Enumeration.{State, report_of}
use Rattle.semantics.specs.Enumeration.Statistics.{Balanced, bit}
use Rattle.semantics.specs.Direct.{direct}
use Rattle.semantics.proofs.Theorems.Direct.Laws.{direct-balanced}
use Rattle.semantics.specs.Calls.{Request, setting_of, search_outcome, direct_call}
use Rattle.semantics.specs.PublicAnswers.{resolved}
use Rattle.semantics.proofs.Theorems.PublicAnswers.{resolved-stats}

-- what no call returns: edges looked at, length refusals, pushes without the start, paths still waiting
pub record Unreturned : Type 0 where
  pub looked : ℕ
  pub overlong : ℕ
  pub pushes : ℕ
  pub waiting : ℕ

abbrev pub unreturned_of : State Path → Unreturned
unreturned_of u = record { looked = u.tally.looked; overlong = u.tally.overlong; pushes = u.tally.pushed - 1; waiting = length u.rest + length u.pending }

-- THE IDENTITIES, of the statistics that a call returns and of what it does not
pub record Identities (t : SearchStats) (x : Unreturned) : Type 0 where
  pub looks : x.looked ≡ t.cycles + x.overlong + t.rejected + x.pushes
  pub pushes : x.pushes + 1 ≡ t.expanded + x.waiting + bit t.count_limited

-- the search behind an unrefused call
pub record Behind (bd : Bounds) (image : Answer ImageRefusal Graph) (q : Request) (t : SearchStats) : Type 0 where
  pub graph : Graph
  pub accepted : image ≡ ok graph
  pub state : State Path
  pub found : direct bd q.limits.length (setting_of bd q) (view_of graph) q.node ≡ ok state
  pub stats : report_of state ≡ t
  pub identities : Identities t (unreturned_of state)

balanced-identities : (u : State Path) → Balanced 1 u → Identities (report_of u) (unreturned_of u)
balanced-identities u b = record { looks = omega (arith, b.outcome, b.begun); pushes = omega (arith, b.pushes, b.begun) }

module _ (bd : Bounds) (reply : State Path → List Path) where
  pub searched-done : (q : Request) (n : ℕ) (t : SearchStats) (a : Answer SearchRefusal (State Path)) → (search_outcome bd reply q a).answer ≡ resolved n t → (u : State Path) × (a ≡ ok u) × (report_of u ≡ t)
  unfolding search_outcome
  searched-done q n t (ok s) e = (s, refl, resolved-stats (length (reply s)) n (report_of s) t e)
  searched-done q n t (refuse r) e = absurd (let z : ◌≡◌ {A = Bool} true false = cc in true≢false z)

  -- whatever paths it returns
  pub direct-identities : (image : Answer ImageRefusal Graph) (q : Request) (n : ℕ) (t : SearchStats) → (direct_call bd reply image q).answer ≡ resolved n t → Behind bd image q t
  unfolding direct_call
  direct-identities (ok g) q n t e =
      let r = searched-done q n t (direct bd q.limits.length (setting_of bd q) (view_of g) q.node) e in
      record {
        graph = g;
        accepted = refl;
        state = r.0;
        found = r.1;
        stats = r.2;
        identities = subst (λ (s : SearchStats). Identities s (unreturned_of r.0)) r.2 (balanced-identities r.0 (direct-balanced bd q.limits.length (setting_of bd q) (view_of g) q.node r.0 r.1));
      }
  direct-identities (refuse x) q n t e = absurd (let z : ◌≡◌ {A = Bool} true false = cc in true≢false z)
