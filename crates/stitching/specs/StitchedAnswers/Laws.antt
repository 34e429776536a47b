-- A stitched search from its request on: the kept paths replay; 35 and 34; the image.
-- Serves document 01, "Partial paths"; 34 and 35 of "Turned back".
use Rattle.std.specs.Prelude.{ℕ, ◌≤◌, ◌≡◌, refl, Bool, true, false, leb, length, Result, Ok, Err}
use Rattle.std.proofs.Common.{arith, sym, subst, ◌∙◌, ⊎_elim}
use mathlib.Core.List.Memᴰ
use mathlib.Core.List.{List, [], ◌∷◌, Memᴰ}
use borrow.Author.Tests.{leb-true}
use Rattle.semantics.specs.Entries.{Does}
use Rattle.semantics.specs.declared.refusal.ImageRefusal.{ImageRefusal}
use Rattle.semantics.specs.declared.refusal.SearchRefusal.{SearchRefusal}
use Rattle.semantics.specs.declared.refusal.DatabaseRefusal.{DatabaseRefusal}
use Rattle.semantics.specs.declared.refusal.DatabaseRefusal.TheVariants.{Malformed, Outgrown}
use Rattle.semantics.specs.Lists.{and}
use Rattle.semantics.specs.Lists.Laws.{and-true}
use Rattle.semantics.specs.Limits.{base, max_expansions, Limit}
use Rattle.semantics.specs.Answer.{Answer, ok, refuse, and_then, ok_if}
use Rattle.semantics.specs.Answer.Laws.{ok-refuse}
use Rattle.semantics.specs.Graph.{Graph, View, view_of}
use Rattle.semantics.specs.Path.{Path, from_reference, replay, append_all}
use Rattle.semantics.proofs.Theorems.Path.Laws.{begun, replay-of, replay-append, append_all-edges}
use Rattle.semantics.specs.Enumeration.{State, go}
use Rattle.semantics.specs.Enumeration.Laws.{Leads, here, on, enumerate-sound}
use Rattle.semantics.specs.PartialPaths.{Slot}
use Rattle.semantics.specs.Demand.{file_owners}
use Rattle.semantics.specs.Stitching.{slot_tries, stitched}
use Rattle.semantics.proofs.Theorems.Stitching.Laws.{judge-go, tries-are, stitched-ok}
use Rattle.semantics.specs.Words.{zeros}
use Rattle.semantics.specs.Database.{nodes_in, files_in, known_owners, slots_in, well_formed, check_database}
use Rattle.semantics.specs.Calls.{Request, setting_of, stitched_outcome, stitched_call}
use Rattle.storage.specs.Index.{Loaded}
use Rattle.reply.specs.declared.finish.Reply.{Reply}
use Rattle.reply.specs.EdgeLists.Paths.{Replays}
use Rattle.reply.specs.Replies.{reply_of}
use Rattle.database.specs.Checks.{inspected}
use Rattle.database.specs.Checks.Laws.{inspected-refused, inspected-sound}
use Rattle.stitching_trial.specs.Links.{seen_in, Readable}
use Rattle.search_rounds.specs.Drives.{SearchEnd, Ends}
use Rattle.stitching.specs.StitchedAnswers.{stitched_of, found_of}
use Rattle.search_rounds.specs.Starts.{from_start}
use Rattle.semantics.specs.PublicAnswers.{Resolution}
use Rattle.semantics.specs.declared.answer.ResolutionRefusal.{ResolutionRefusal}

-- the definition starts with the path of the reference alone
stitched-start : (see : ℕ → Bool) (g : Graph) (words : List ℕ) (q : Request) → from_start (setting_of base q) (slot_tries base q.limits.length (view_of g) (seen_in see words)) (view_of g) q.node ≡ stitched_of see g words q
unfolding stitched
stitched-start see g words q = refl

-- what the search from that path on ends in, the definition ends in
pub stitched-ends : (see : ℕ → Bool) (g : Graph) (words : List ℕ) (q : Request) (d : SearchEnd) (rs : List ℕ) → Ends d rs (from_start (setting_of base q) (slot_tries base q.limits.length (view_of g) (seen_in see words)) (view_of g) q.node) → Ends d rs (stitched_of see g words q)
stitched-ends see g words q d rs h = subst (λ (t : Answer SearchRefusal (State Path)). Ends d rs t) (stitched-start see g words q) h

-- ---- the kept paths replay

module _ (lim : Limit) (g : View) (db : List Slot) (r : ℕ) where
  step-replayed : (p x : Path) (b : Bool) → replay base g r p.edges ≡ ok p → Memᴰ (go b x) (slot_tries base lim g db p) → replay base g r x.edges ≡ ok x
  step-replayed p x b e m =
      let k = tries-are base lim g db p (go b x) m in
      let h = judge-go base lim g p x k.edges b (sym k.judged) in
      subst (λ (l : List ℕ). replay base g r l ≡ ok x) (sym (append_all-edges base g k.edges p x h.appended)) (replay-append base g r p.edges k.edges p x e h.appended)

  leads-replayed : {p x : Path} → replay base g r p.edges ≡ ok p → Leads (slot_tries base lim g db) p x → replay base g r x.edges ≡ ok x
  leads-replayed {p} {x} e (here m) = step-replayed p x true e m
  leads-replayed {p} {x} e (on {u = y} b m l) = leads-replayed (step-replayed p y b e m) l

pub kept-replays : (see : ℕ → Bool) (g : Graph) (words : List ℕ) (q : Request) (u : State Path) → stitched_of see g words q ≡ ok u → Replays base (view_of g) u.kept
unfolding append_all
kept-replays see g words q u h x m =
    let a = stitched-ok (file_owners g) base q.limits.length (setting_of base q) (view_of g) q.node (seen_in see words) u h in
    let k = enumerate-sound (setting_of base q) (slot_tries base q.limits.length (view_of g) (seen_in see words)) max_expansions (a.0 ∷ []) u a.2 x m in
    (q.node, from a.0 a.1 k.0 k.1 k.2)
  where
    from : (p : Path) → from_reference (view_of g) q.node ≡ ok p → (w : Path) → Memᴰ w (p ∷ []) → Leads (slot_tries base q.limits.length (view_of g) (seen_in see words)) w x → replay base (view_of g) q.node x.edges ≡ ok x
    from p f w i l =
        let b = begun (view_of g) q.node p f in
        let e : replay base (view_of g) q.node p.edges ≡ ok p = subst (λ (y : List ℕ). replay base (view_of g) q.node y ≡ ok p) (sym b.edges) (replay-of base (view_of g) q.node [] p p f refl) in
        ⊎_elim (λ (z : w ≡ p). leads-replayed q.limits.length (view_of g) (seen_in see words) q.node e (subst (λ (y : Path). Leads (slot_tries base q.limits.length (view_of g) (seen_in see words)) y x) z l)) (λ (z : Memᴰ w []). absurd (Memᴰ.not-nil z)) (Memᴰ.cases_cons i)

-- ---- the database

-- where the check answers the slots, both tests hold
passed : (words : List ℕ) (db : List Slot) (formed fitting : Bool) (s : List Slot) → and_then (ok_if formed Malformed words) (λ x. ok_if fitting Outgrown db) ≡ ok s → fitting ≡ true
unfolding ok_if
passed words db true true s e = refl
passed words db true false s e = absurd (ok-refuse Outgrown s (sym e))
passed words db false fitting s e = absurd (ok-refuse Malformed s (sym e))

module _ (g : Graph) (words : List ℕ) {i : Result (Unit {0}) DatabaseRefusal} (is : i ≡ inspected (check_database base known_owners g words)) where
  fits-graph : i ≡ Ok tt → nodes_in words ≤ length g.nodes
  unfolding check_database
  fits-graph e =
      let o = (inspected-sound base known_owners g words (sym e ∙ is)).1 in
      let t = passed words (slots_in base words) (well_formed base known_owners words) (and (leb (nodes_in words) (length g.nodes)) (leb (files_in words) g.files)) (slots_in base words) o in
      leb-true (nodes_in words) (length g.nodes) (and-true (leb (nodes_in words) (length g.nodes)) (leb (files_in words) g.files) t).0

  pub checked-readable : {index : List ℕ} → Loaded g index → i ≡ Ok tt → Readable words
  checked-readable loaded e = let n = fits-graph e in record { formed = (inspected-sound base known_owners g words (sym e ∙ is)).0; nodes = omega (arith, n, loaded.nodes) }

  module _ (see : ℕ → Bool) (reply : Reply) (q : Request) where
    pub database-refused : (r : DatabaseRefusal) → i ≡ Err r → {ws rs : List ℕ} → ws ≡ zeros q.work → rs ≡ zeros q.result → Does (stitched_outcome base (reply_of reply) see g q (check_database base known_owners g words)) (Err (ResolutionRefusal.Database r)) ws rs
    unfolding stitched_outcome
    database-refused r e w z = rw (inspected-refused base known_owners g words r (sym e ∙ is)) (refl, w, z)

    pub database-does : i ≡ Ok tt → (a : Resolution) (ws rs : List ℕ) → Does (found_of see g words reply q) a ws rs → Does (stitched_outcome base (reply_of reply) see g q (check_database base known_owners g words)) a ws rs
    unfolding stitched_outcome
    database-does e a ws rs h = rw (inspected-sound base known_owners g words (sym e ∙ is)).1 h

-- ---- the image

module _ (see : ℕ → Bool) (reply : Reply) (words : List ℕ) (q : Request) {y : Answer ImageRefusal Graph} where
  pub image-refused : (x : ImageRefusal) → y ≡ refuse x → {ws rs : List ℕ} → ws ≡ zeros q.work → rs ≡ zeros q.result → Does (stitched_call base (reply_of reply) known_owners see y words q) (Err (ResolutionRefusal.Image x)) ws rs
  unfolding stitched_call
  image-refused x e w r = rw e (refl, w, r)

  pub image_does : (g : Graph) → y ≡ ok g → (a : Resolution) (ws rs : List ℕ) → Does (stitched_outcome base (reply_of reply) see g q (check_database base known_owners g words)) a ws rs → Does (stitched_call base (reply_of reply) known_owners see y words q) a ws rs
  unfolding stitched_call
  image_does g e a ws rs h = rw e h
