-- Demand 3 in the words of the inference rules alone, with no bound on the number of edges: what an unrefused search without a path-count flag
-- records is what the rules take. One step from the executable definitions to the paper's rules.
-- The third demand: "exactly the lists of distinct edges, within the length limit, that the path rules take from the reference to a definition
-- with both stacks empty".
use Rattle.std.specs.Prelude.{ℕ, ◌≤◌, ◌≡◌, true, false, length}
use Rattle.std.proofs.Common.{arith, sym, ◌∙◌, ap, subst}
use mathlib.Core.List.{List, [], ◌∷◌, Memᴰ}
use Rattle.semantics.specs.declared.refusal.SearchRefusal.{SearchRefusal}
use Rattle.semantics.specs.Lists.{Distinct}
use Rattle.semantics.specs.Limits.{Bounds, within, Limit}
use Rattle.semantics.specs.Answer.{ok, and_then}
use Rattle.semantics.specs.Answer.Laws.{ok-inj, and_then-ok}
use Rattle.semantics.specs.Graph.{View, Lawful, is_reference, is_definition}
use Rattle.semantics.specs.Rules.{with, Takes}
use Rattle.semantics.specs.Path.{Stacks, Path, from_reference, append_under, append_all}
use Rattle.semantics.proofs.Theorems.Path.Laws.{append-ok, append_under-ok, begun, replay-ok, complete-is, is-complete}
use Rattle.semantics.proofs.Theorems.Path.Takes.{takes-replay, replay-takes}
use Rattle.semantics.specs.Enumeration.{Setting, State}
use Rattle.semantics.specs.Direct.{direct}
use Rattle.semantics.proofs.Theorems.Direct.Unbounded.{append_each, unbounded}
use Rattle.semantics.specs.Demand.{Valid, NoFileless, Demand, DemandAll}

-- the rules take a list of distinct edges, within the length limit, from the reference to a definition with both stacks empty
pub record ByRules (lim : Limit) (g : View) (r : ℕ) (l : List ℕ) : Type 0 where
  pub end : ℕ
  pub takes : Takes g r l end (with [] [])
  pub definition : is_definition (g.node end) ≡ true
  pub distinct : Distinct l
  pub short : within (length l) lim ≡ true

-- DEMAND 3 of the sets D and S that direct and stitched search recorded, by the rules
pub record Exactly (lim : Limit) (g : View) (r : ℕ) (D S : List (List ℕ)) : Type 0 where
  pub direct : (l : List ℕ) → (Memᴰ l D → ByRules lim g r l) × (ByRules lim g r l → Memᴰ l D)
  pub stitched : (l : List ℕ) → (Memᴰ l S → ByRules lim g r l × NoFileless g l) × (ByRules lim g r l × NoFileless g l → Memᴰ l S)

-- ORDER 5: with the alias set
pub record ExactlyAll (lim : Limit) (g : View) (r : ℕ) (D S : List (List ℕ)) : Type 0 where
  pub direct : (l : List ℕ) → (Memᴰ l D → ByRules lim g r l) × (ByRules lim g r l → Memᴰ l D)
  pub stitched : (l : List ℕ) → (Memᴰ l S → ByRules lim g r l) × (ByRules lim g r l → Memᴰ l S)

-- a path starts where it began
pub all_start : (bd : Bounds) (g : View) (es : List ℕ) (p q : Path) → append_all bd g p es ≡ ok q → q.start ≡ p.start
unfolding append_all
all_start bd g [] p q h = ap (λ (x : Path). x.start) (sym (ok-inj p q h))
all_start bd g (e ∷ es) p q h =
    let a = and_then-ok (append_under bd g p e) (λ x. append_all bd g x es) q h in
    all_start bd g es a.0 q a.2 ∙ (append-ok g p a.0 e (append_under-ok bd g p a.0 e a.1).1).added.start

-- without the bound the same edges are appended
all-each : (bd : Bounds) (g : View) (es : List ℕ) (p q : Path) → append_all bd g p es ≡ ok q → append_each g p es ≡ ok q
unfolding append_all append_each
all-each bd g [] p q h = ap ok (ok-inj p q h)
all-each bd g (e ∷ es) p q h =
    let a = and_then-ok (append_under bd g p e) (λ x. append_all bd g x es) q h in
    rw (append_under-ok bd g p a.0 e a.1).1 (all-each bd g es a.0 q a.2)

module _ (lim : Limit) (g : View) (r : ℕ) (l : List ℕ) where
  pub valid-rules : (bd : Bounds) → Valid bd lim g r l → ByRules lim g r l
  valid-rules bd v =
      let c = complete-is g v.path v.complete in
      let t = (replay-takes bd g r l v.path v.taken.replayed).0 in
      record {
        end = v.path.end;
        takes = subst (λ (x : Stacks). Takes g r l v.path.end x) (λ i. record { symbols = c.no-symbols i; scopes = c.no-scopes i }) t;
        definition = c.definition;
        distinct = v.taken.distinct;
        short = v.taken.short;
      }

  -- within the bound it is a list of which demand 3 speaks
  pub rules-valid : (bd : Bounds) → ByRules lim g r l → length l ≤ bd.edges → Valid bd lim g r l
  rules-valid bd b few =
      let e = takes-replay bd g r l b.end (with [] []) b.takes few in
      let a = replay-ok bd g r l e.path e.replayed in
      let s = begun g r a.0 a.1 in
      let z : e.path.start ≡ r = all_start bd g l a.0 e.path a.2 ∙ s.start in
      record {
        path = e.path;
        taken = record { replayed = e.replayed; distinct = b.distinct; short = b.short };
        complete = is-complete g e.path (record {
          reference = ap (λ n. is_reference (g.node n)) z ∙ s.reference;
          definition = ap (λ n. is_definition (g.node n)) e.end ∙ b.definition;
          no-symbols = ap (λ (x : Stacks). x.symbols) e.stacks;
          no-scopes = ap (λ (x : Stacks). x.scopes) e.stacks;
        });
      }

-- where a direct search was not refused and set no path-count flag, no such list is longer than the bound
module _ (bd : Bounds) (lim : Limit) (c : Setting SearchRefusal) (g : View) (lawful : Lawful g) (r : ℕ) (u : State Path) (h : direct bd lim c g r ≡ ok u) (n : u.stats.count_limited ≡ false) where
  pub rules-bounded : (l : List ℕ) → ByRules lim g r l → Valid bd lim g r l
  rules-bounded l b =
      let wide : Bounds = record { edges = length l; expansions = bd.expansions } in
      let e = takes-replay wide g r l b.end (with [] []) b.takes (omega arith) in
      let a = replay-ok wide g r l e.path e.replayed in
      let each : and_then (from_reference g r) (λ p. append_each g p l) ≡ ok e.path = rw a.1 (all-each wide g l a.0 e.path a.2) in
      let t = unbounded bd lim c g lawful r u h n l e.path each b.distinct b.short in
      rules-valid lim g r l bd b (replay-takes bd g r l e.path t).1

  pub demand-exactly : (D S : List (List ℕ)) → Demand bd g r lim D S → Exactly lim g r D S
  demand-exactly D S d = record {
    direct = λ l. (λ m. valid-rules lim g r l bd ((d.direct l).0 m), λ b. (d.direct l).1 (rules-bounded l b));
    stitched = λ l. (λ m. let v = (d.stitched l).0 m in (valid-rules lim g r l bd v.0, v.1), λ b. (d.stitched l).1 (rules-bounded l b.0, b.1));
  }

  pub all-exactly : (D S : List (List ℕ)) → DemandAll bd g r lim D S → ExactlyAll lim g r D S
  all-exactly D S d = record {
    direct = λ l. (λ m. valid-rules lim g r l bd ((d.direct l).0 m), λ b. (d.direct l).1 (rules-bounded l b));
    stitched = λ l. (λ m. valid-rules lim g r l bd ((d.stitched l).0 m), λ b. (d.stitched l).1 (rules-bounded l b));
  }
