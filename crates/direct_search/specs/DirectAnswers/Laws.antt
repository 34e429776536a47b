-- A direct search from its request on: the kept paths replay; the image.
-- Serves document 01, "Answer"; 1 to 5 of "Turned back".
use Rattle.std.specs.Prelude.{ℕ, ◌≡◌, refl, Err}
use Rattle.std.proofs.Common.{sym}
use Rattle.std.proofs.Math.Path.{subst}
use Rattle.std.proofs.Math.Logic.{⊎_elim}
use mathlib.Core.List.Memᴰ
use mathlib.Core.List.{List, [], ◌∷◌, Memᴰ}
use Rattle.semantics.specs.Entries.{Does}
use Rattle.semantics.specs.declared.refusal.SearchRefusal.{SearchRefusal}
use Rattle.semantics.specs.declared.refusal.SearchRefusal.TheVariants as Search
use Rattle.semantics.specs.declared.refusal.ImageRefusal.{ImageRefusal}
use Rattle.semantics.specs.Limits.{base, max_expansions, Limit}
use Rattle.semantics.proofs.Theorems.Limits.Laws.{within-zero}
use Rattle.semantics.specs.Answer.{Answer, ok, refuse}
use Rattle.semantics.specs.Graph.{Graph, view_of}
use Rattle.semantics.specs.Graph.Laws.{view_of-lawful}
use Rattle.semantics.specs.Path.{Path, from_reference, replay, append_all}
use Rattle.semantics.proofs.Theorems.Path.Laws.{begun}
use Rattle.semantics.specs.Enumeration.{State}
use Rattle.semantics.specs.Enumeration.Laws.{Leads, here, on, enumerate-sound}
use Rattle.semantics.specs.Direct.{tries, direct}
use Rattle.semantics.proofs.Theorems.Direct.Laws.{direct-ok, step-taken}
use Rattle.semantics.specs.Demand.{Taken}
use Rattle.semantics.specs.Words.{zeros}
use Rattle.semantics.specs.Calls.{Request, setting_of, direct_call}
use Rattle.reply.specs.declared.finish.Reply.{Reply}
use Rattle.reply.specs.EdgeLists.Paths.{Replays}
use Rattle.reply.specs.Replies.{reply_of}
use Rattle.search_rounds.specs.Drives.{SearchEnd}
use Rattle.search_rounds.specs.Drives.{Ends}
use Rattle.search_rounds.specs.Starts.{from_start}
use Rattle.direct_search.specs.DirectAnswers.{edge_tries, direct_of, found_of}
use Rattle.semantics.specs.PublicAnswers.{Resolution}
use Rattle.semantics.specs.declared.answer.ResolutionRefusal.{ResolutionRefusal}

-- the definition starts with the path of the reference alone
direct-start : (g : Graph) (q : Request) → from_start (setting_of base q) (edge_tries q.limits.length (view_of g)) (view_of g) q.node ≡ direct_of g q
unfolding direct
direct-start g q = refl

-- what the search from that path on ends in, the definition ends in
pub direct-ends : (g : Graph) (q : Request) (d : SearchEnd) (rs : List ℕ) → Ends d rs (from_start (setting_of base q) (edge_tries q.limits.length (view_of g)) (view_of g) q.node) → Ends d rs (direct_of g q)
direct-ends g q d rs h = subst (λ (t : Answer SearchRefusal (State Path)). Ends d rs t) (direct-start g q) h

-- ---- the kept paths replay

leads-replayed : {lim : Limit} (g : Graph) {r : ℕ} {p v : Path} → Taken base lim (view_of g) r p.edges p → Leads (tries Search.TooLong base lim (view_of g)) p v → replay base (view_of g) r v.edges ≡ ok v
leads-replayed {lim} g {r} {p} {v} t (here m) = (step-taken Search.TooLong base lim (view_of g) (view_of-lawful g) r p v _ t m).0.replayed
leads-replayed {lim} g {r} {p} {v} t (on {u = x} b m l) = leads-replayed g (step-taken Search.TooLong base lim (view_of g) (view_of-lawful g) r p x b t m).0 l

module _ (g : Graph) (q : Request) (u : State Path) (h : direct_of g q ≡ ok u) where
  pub kept-replays : Replays base (view_of g) u.kept
  unfolding replay append_all
  kept-replays v m =
      let a = direct-ok base q.limits.length (setting_of base q) (view_of g) q.node u h in
      let p = a.0 in
      let k = enumerate-sound (setting_of base q) (tries Search.TooLong base q.limits.length (view_of g)) max_expansions (p ∷ []) u a.2 v m in
      (q.node, from p a.1 k.0 k.1 k.2)
    where
      from : (p : Path) → from_reference (view_of g) q.node ≡ ok p → (w : Path) → Memᴰ w (p ∷ []) → Leads (tries Search.TooLong base q.limits.length (view_of g)) w v → replay base (view_of g) q.node v.edges ≡ ok v
      from p f w i l =
          let b = begun (view_of g) q.node p f in
          let t : Taken base q.limits.length (view_of g) q.node p.edges p = subst (λ (y : List ℕ). Taken base q.limits.length (view_of g) q.node y p) (sym b.edges) (record { replayed = rw f; distinct = tt; short = within-zero q.limits.length }) in
          ⊎_elim (λ (z : w ≡ p). leads-replayed g t (subst (λ (y : Path). Leads (tries Search.TooLong base q.limits.length (view_of g)) y v) z l)) (λ (z : Memᴰ w []). absurd (Memᴰ.not-nil z)) (Memᴰ.cases_cons i)

-- ---- the image

module _ (reply : Reply) (q : Request) {y : Answer ImageRefusal Graph} where
  pub image-refused : (x : ImageRefusal) → y ≡ refuse x → {ws rs : List ℕ} → ws ≡ zeros q.work → rs ≡ zeros q.result → Does (direct_call base (reply_of reply) y q) (Err (ResolutionRefusal.Image x)) ws rs
  unfolding direct_call
  image-refused x e w r = rw e (refl, w, r)

  pub image_does : (g : Graph) → y ≡ ok g → (a : Resolution) (ws rs : List ℕ) → Does (found_of g reply q) a ws rs → Does (direct_call base (reply_of reply) y q) a ws rs
  unfolding direct_call
  image_does g e a ws rs h = rw e h
