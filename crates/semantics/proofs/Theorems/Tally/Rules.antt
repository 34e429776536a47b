-- EACH NUMBER IS THE COUNT OVER THE PATH RULES, and their sum is what every unlimited direct search counts complete.
-- Document 02, order 9: "Each number equals the count over the path rules and visible edges"; "Their sum is the complete count".
use Rattle.std.specs.Prelude.{ℕ, suc, ◌+◌, ◌≤◌, Bool, length, get_or, None, Ok}
use Rattle.std.proofs.Common.{arith, sym, ◌∙◌}
use Rattle.std.proofs.Math.Path.{◌≡◌, refl, ap, subst}
use Rattle.std.proofs.Math.Logic.{⊎_elim}
use Rattle.std.proofs.Math.Bool.{true, false, true≢false}
use mathlib.Core.List.Memᴰ
use mathlib.Core.List.{List, [], ◌∷◌, map, Memᴰ}
use Rattle.semantics.specs.declared.search.SearchLimits.{SearchLimits}
use Rattle.semantics.specs.declared.search.SearchStats.{SearchStats}
use Rattle.semantics.specs.declared.refusal.ImageRefusal.{ImageRefusal}
use Rattle.semantics.specs.declared.refusal.SearchRefusal.{SearchRefusal}
use Rattle.semantics.specs.declared.refusal.SearchRefusal.TheVariants as Search
use Rattle.semantics.specs.Limits.{Bounds, slot_words}
use Rattle.semantics.specs.Answer.{Answer, ok, refuse}
use Rattle.semantics.specs.Graph.{Graph, View, view_of, Lawful}
use Rattle.semantics.specs.Graph.Laws.{view_of-lawful}
use Rattle.semantics.specs.Path.{Path}
use Rattle.semantics.specs.Enumeration.{Setting, State, report_of}
use Rattle.semantics.specs.Enumeration.Laws.{enumerate-unlimited}
use Rattle.semantics.specs.Enumeration.Completes.{enumerate-counts}
use Rattle.semantics.specs.Recorded.{edge_lists, distinct, recorded}
use Rattle.semantics.specs.Recorded.Laws.{Deduped, distinct-is, mem-lists}
use Rattle.semantics.specs.Direct.{tries, direct}
use Rattle.semantics.proofs.Theorems.Direct.Laws.{direct-ok, direct-exact}
use Rattle.semantics.proofs.Theorems.Direct.Counted.{direct-once}
use Rattle.semantics.specs.Demand.{Once, Valid}
use Rattle.semantics.proofs.Theorems.Demand.Rules.{ByRules, valid-rules, rules-valid}
use Rattle.semantics.specs.Words.{whole_slots}
use Rattle.semantics.specs.Calls.{Request, Reply, setting_of, search_outcome, direct_call}
use Rattle.semantics.proofs.Theorems.Calls.Laws.{valid-fits, length-lists}
use Rattle.semantics.specs.Tally.{no_limits, tally_setting, of_length, lengths, TallyRequest, tally_outcome, tally_call}
use Rattle.semantics.specs.Lists.{total}
use Rattle.semantics.specs.Tally.Laws.{once-shorter, of_is, is-of, of-once, lengths-at, sum-counted}
use Rattle.semantics.specs.PublicAnswers.{resolved}
use Rattle.semantics.proofs.Theorems.PublicAnswers.{resolved-stats}

-- the lists of so many distinct edges that the rules take from the reference to a definition with both stacks empty, each once and no other
pub record Reaching (g : View) (r n : ℕ) (ls : List (List ℕ)) : Type 0 where
  pub once : Once ls
  pub sound : (l : List ℕ) → Memᴰ l ls → ByRules None g r l × (length l ≡ n)
  pub whole : (l : List ℕ) → ByRules None g r l → length l ≡ n → Memᴰ l ls

lists-are : (ps : List Path) → map (λ (p : Path). p.edges) ps ≡ edge_lists ps
lists-are [] = refl
lists-are (p ∷ ps) = ap (λ (z : List (List ℕ)). p.edges ∷ z) (lists-are ps)

-- ON THE SEARCH: in any order and any areas, without limits
module _ (bd : Bounds) (c : Setting SearchRefusal) (g : View) (lawful : Lawful g) (r : ℕ) (u : State Path) (found : direct bd None c g r ≡ ok u) (uncounted : c.max_count ≡ None) (uncut : c.max_complete ≡ None) where
  flags : (u.stats.count_limited ≡ false) × (u.stats.complete_limited ≡ false)
  flags = let a = direct-ok bd None c g r u found in enumerate-unlimited c (tries Search.TooLong bd None g) bd.expansions (a.0 ∷ []) u a.2 uncounted uncut

  kept-once : Once (edge_lists u.kept)
  kept-once = subst Once (lists-are u.kept) (direct-once bd None c g lawful r u found flags.1 flags.0)

  pub kept-valid : (l : List ℕ) → Memᴰ l (edge_lists u.kept) → Valid bd None g r l
  unfolding recorded
  kept-valid l m =
      let k = mem-lists l u.kept m in
      let d : Deduped [] u.kept (distinct [] u.kept) = distinct-is u.kept [] in
      (direct-exact bd None c g lawful r u found).sound l (subst (λ z. Memᴰ z (edge_lists (distinct [] u.kept))) (sym k.2) (d.all k.0 k.1))

  valid-kept : (l : List ℕ) → Valid bd None g r l → Memᴰ l (edge_lists u.kept)
  unfolding recorded
  valid-kept l v =
      let m = (direct-exact bd None c g lawful r u found).whole flags.0 flags.1 l v in
      let k = mem-lists l (distinct [] u.kept) m in
      let d : Deduped [] u.kept (distinct [] u.kept) = distinct-is u.kept [] in
      subst (λ z. Memᴰ z (edge_lists u.kept)) (sym k.2) (in-lists u.kept k.0 (⊎_elim (λ z. absurd (Memᴰ.not-nil z)) (λ z. z) (d.old k.0 k.1)))
    where
      in-lists : (ps : List Path) (p : Path) → Memᴰ p ps → Memᴰ p.edges (edge_lists ps)
      in-lists [] p m = absurd (Memᴰ.not-nil m)
      in-lists (q ∷ ps) p m = ⊎_elim (λ (e : p ≡ q). Memᴰ.head (ap (λ (y : Path). y.edges) e)) (λ n. Memᴰ.tail (in-lists ps p n)) (Memᴰ.cases_cons m)

  -- each number is the count of every such list of lists
  pub search-number : (n : ℕ) (ls : List (List ℕ)) → n ≤ bd.edges → Reaching g r n ls → length (of_length n (edge_lists u.kept)) ≡ length ls
  search-number n ls few h =
      let a = once-shorter (of_length n (edge_lists u.kept)) ls (of-once n (edge_lists u.kept) kept-once)
      (λ l m. let k = of_is n (edge_lists u.kept) l m in h.whole l (valid-rules None g r l bd (kept-valid l k.0)) k.1) in
      let b = once-shorter ls (of_length n (edge_lists u.kept)) h.once
      (λ l m. let k = h.sound l m in is-of n (edge_lists u.kept) l (valid-kept l (rules-valid None g r l bd k.0 (let z = k.1 in omega (arith, z, few)))) k.1) in
      omega (arith, a, b)

  -- there is one
  pub search-lists : (n : ℕ) → n ≤ bd.edges → Reaching g r n (of_length n (edge_lists u.kept))
  search-lists n few = record {
    once = of-once n (edge_lists u.kept) kept-once;
    sound = λ l m. let k = of_is n (edge_lists u.kept) l m in (valid-rules None g r l bd (kept-valid l k.0), k.1);
    whole = λ l b e. is-of n (edge_lists u.kept) l (valid-kept l (rules-valid None g r l bd b (omega (arith, e, few)))) e;
  }

  -- none has no edge
  pub search-none : length (of_length 0 (edge_lists u.kept)) ≡ 0
  search-none = on (of_length 0 (edge_lists u.kept)) (λ l m. let k = of_is 0 (edge_lists u.kept) l m in let f = valid-fits bd None g r l (kept-valid l k.0) in let z = k.1 in omega (arith, f.0, z))
    where
      on : (ls : List (List ℕ)) → ((l : List ℕ) → Memᴰ l ls → ⊥) → length ls ≡ 0
      on [] h = refl
      on (l ∷ ls) h = absurd (h l (Memᴰ.head refl))

  -- they add up to what it counted complete
  kept-complete : length (edge_lists u.kept) ≡ u.stats.complete
  kept-complete = let a = direct-ok bd None c g r u found in length-lists u.kept ∙ sym (enumerate-counts c (tries Search.TooLong bd None g) u bd.expansions a.0 a.2 flags.1)

  pub search-sum : total (lengths bd (edge_lists u.kept)) ≡ length (edge_lists u.kept)
  search-sum = sum-counted (suc bd.edges) (edge_lists u.kept) (λ l m. let f = valid-fits bd None g r l (kept-valid l m) in omega (arith, f.1))

-- every other such search counts as many
same-complete : (bd : Bounds) (c d : Setting SearchRefusal) (g : View) (lawful : Lawful g) (r : ℕ) (u v : State Path) → direct bd None c g r ≡ ok u → direct bd None d g r ≡ ok v → c.max_count ≡ None → c.max_complete ≡ None → d.max_count ≡ None → d.max_complete ≡ None
    → length (edge_lists u.kept) ≡ v.stats.complete
same-complete bd c d g lawful r u v hu hv cu ck du dk =
    let a = once-shorter (edge_lists u.kept) (edge_lists v.kept) (kept-once bd c g lawful r u hu cu ck) (λ l m. valid-kept bd d g lawful r v hv du dk l (kept-valid bd c g lawful r u hu cu ck l m)) in
    let b = once-shorter (edge_lists v.kept) (edge_lists u.kept) (kept-once bd d g lawful r v hv du dk) (λ l m. valid-kept bd c g lawful r u hu cu ck l (kept-valid bd d g lawful r v hv du dk l m)) in
    let z = kept-complete bd d g lawful r v hv du dk in
    omega (arith, a, b, z)

-- ON THE CALL

-- a direct search that is answered with statistics came to a state with them
direct-done : (bd : Bounds) (reply : Reply) (g : Graph) (s : Request) (n : ℕ) (t : SearchStats) → (direct_call bd reply (ok g) s).answer ≡ resolved n t
    → (v : State Path) × (direct bd s.limits.length (setting_of bd s) (view_of g) s.node ≡ ok v) × (report_of v ≡ t)
unfolding direct_call search_outcome
direct-done bd reply g s n t e = on (direct bd s.limits.length (setting_of bd s) (view_of g) s.node) refl e
  where
    on : (a : Answer SearchRefusal (State Path)) → direct bd s.limits.length (setting_of bd s) (view_of g) s.node ≡ a → (search_outcome bd reply s a).answer ≡ resolved n t
        → (v : State Path) × (direct bd s.limits.length (setting_of bd s) (view_of g) s.node ≡ ok v) × (report_of v ≡ t)
    on (ok v) d h = (v, d, resolved-stats (length (reply v)) n (report_of v) t h)
    on (refuse x) d h = absurd (let z : ◌≡◌ {A = Bool} true false = cc in true≢false z)

-- what the numbers of a call that is not refused are, on the graph as the desk sees it
pub record Tallied (bd : Bounds) (q : TallyRequest) (g : Graph) (numbers : List ℕ) : Type 0 where
  pub number : (n : ℕ) (ls : List (List ℕ)) → n ≤ bd.edges → Reaching (view_of g) q.node n ls → get_or numbers n 0 ≡ length ls
  pub lists : (n : ℕ) → n ≤ bd.edges → (ls : List (List ℕ)) × Reaching (view_of g) q.node n ls
  pub none : get_or numbers 0 0 ≡ 0

module _ (bd : Bounds) (q : TallyRequest) where
  abbrev searched : Graph → Answer SearchRefusal (State Path)
  searched g = direct bd None (tally_setting (whole_slots (slot_words bd) q.work)) (view_of g) q.node

  outcome-done : (a : Answer SearchRefusal (State Path)) → (tally_outcome bd q a).answer ≡ Ok tt → (u : State Path) × (a ≡ ok u)
  unfolding tally_outcome
  outcome-done (ok u) e = (u, refl)
  outcome-done (refuse x) e = absurd (let z : ◌≡◌ {A = Bool} true false = cc in true≢false z)

  outcome-numbers : (a : Answer SearchRefusal (State Path)) (u : State Path) → a ≡ ok u → (tally_outcome bd q a).numbers ≡ lengths bd (edge_lists u.kept)
  unfolding tally_outcome
  outcome-numbers a u e = ap (λ (x : Answer SearchRefusal (State Path)). (tally_outcome bd q x).numbers) e

  pub tally-done : (image : Answer ImageRefusal Graph) → (tally_call bd q image).answer ≡ Ok tt
      → (g : Graph) × (image ≡ ok g) × (u : State Path) × (searched g ≡ ok u) × ((tally_call bd q image).numbers ≡ lengths bd (edge_lists u.kept))
  unfolding tally_call
  tally-done (ok g) e = let k = outcome-done (searched g) e in (g, refl, k.0, k.1, outcome-numbers (searched g) k.0 k.1)
  tally-done (refuse x) e = absurd (let z : ◌≡◌ {A = Bool} true false = cc in true≢false z)

  -- THE NUMBERS
  pub tally-rules : (image : Answer ImageRefusal Graph) → (tally_call bd q image).answer ≡ Ok tt → (g : Graph) × (image ≡ ok g) × Tallied bd q g (tally_call bd q image).numbers
  tally-rules image e =
      let k = tally-done image e in
      let g = k.0 in
      let c = tally_setting (whole_slots (slot_words bd) q.work) in
      let ls = edge_lists k.2.kept in
      let at : (n : ℕ) → n ≤ bd.edges → get_or (tally_call bd q image).numbers n 0 ≡ length (of_length n ls) = λ n few. ap (λ (x : List ℕ). get_or x n 0) k.4 ∙ lengths-at 0 (suc bd.edges) n ls (omega (arith, few)) ∙ (let z : 0 + n ≡ n = omega arith in ap (λ (j : ℕ). length (of_length j ls)) z) in (
        g,
        k.1,
        record {
          number = λ n xs few h. at n few ∙ search-number bd c (view_of g) (view_of-lawful g) q.node k.2 k.3 refl refl n xs few h;
          lists = λ n few. (of_length n ls, search-lists bd c (view_of g) (view_of-lawful g) q.node k.2 k.3 refl refl n few);
          none = at 0 (omega arith) ∙ search-none bd c (view_of g) (view_of-lawful g) q.node k.2 k.3 refl refl;
        },
      )

  -- THEIR SUM is the complete count of every unlimited direct search of this reference that is not refused: in either order, with any areas and either reply
  pub tally-sum : (image : Answer ImageRefusal Graph) → (tally_call bd q image).answer ≡ Ok tt
      → (reply : Reply) (s : Request) (n : ℕ) (t : SearchStats) → s.node ≡ q.node → s.limits ≡ no_limits → (direct_call bd reply image s).answer ≡ resolved n t
      → total (tally_call bd q image).numbers ≡ t.complete
  tally-sum image e reply s n t same free f =
      let k = tally-done image e in
      let g = k.0 in
      let c = tally_setting (whole_slots (slot_words bd) q.work) in
      let v = direct-done bd reply g s n t (subst (λ (x : Answer ImageRefusal Graph). (direct_call bd reply x s).answer ≡ resolved n t) k.1 f) in
      let found : direct bd None (setting_of bd s) (view_of g) q.node ≡ ok v.0 =
      ap (λ (l : SearchLimits). direct bd l.length (setting_of bd s) (view_of g) q.node) (sym free) ∙ ap (direct bd s.limits.length (setting_of bd s) (view_of g)) (sym same) ∙ v.1 in
      ap total k.4
      ∙ search-sum bd c (view_of g) (view_of-lawful g) q.node k.2 k.3 refl refl
      ∙ same-complete bd c (setting_of bd s) (view_of g) (view_of-lawful g) q.node k.2 v.0 k.3 found refl refl (ap (λ (l : SearchLimits). l.expansions) free) (ap (λ (l : SearchLimits). l.complete) free)
      ∙ ap (λ (x : SearchStats). x.complete) v.2
