-- Searches whose waiting items are edge lists, as a program's waiting slots hold them, the path being replayed at the pop, run as those over paths.
-- Document 01, "Answer": "Waiting paths are held likewise".
use Rattle.std.specs.Prelude.{ℕ, ◌≡◌, refl, Bool}
use Rattle.std.proofs.Common.{sym, ◌∙◌, ap}
use Rattle.std.proofs.Math.Path.{subst}
use mathlib.Core.List.{List, [], ◌∷◌, ◌++◌, map, Memᴰ}
use Rattle.semantics.specs.declared.refusal.ReplayRefusal.{ReplayRefusal}
use Rattle.semantics.specs.declared.refusal.SearchRefusal.{SearchRefusal}
use Rattle.semantics.specs.Limits.{Bounds, Limit}
use Rattle.semantics.specs.Answer.{Answer, ok, refuse}
use Rattle.semantics.specs.Graph.{View, Lawful}
use Rattle.semantics.specs.Path.{Path, replay}
use Rattle.semantics.proofs.Theorems.Path.Laws.{append_all-edges, replay-append}
use Rattle.semantics.specs.Enumeration.{Try, cut, overlong, reject, stop, go, Setting, enumerate}
use Rattle.semantics.specs.Enumeration.Simulation.{nil, cons, TryRel, cuts, overlongs, rejects, stops, goes, TriesRel, done, next, AnswerRel, enumerate-rel}
use Rattle.semantics.specs.Direct.{tries}
use Rattle.semantics.proofs.Theorems.Direct.Laws.{step-taken}
use Rattle.semantics.specs.PartialPaths.{Slot}
use Rattle.semantics.specs.Stitching.{slot_tries}
use Rattle.semantics.proofs.Theorems.Stitching.Laws.{judge-go, tries-are}
use Rattle.semantics.specs.Demand.{Taken}

module _ {R W X : Type 0} (f : W → X) where
  abbrev pub try_map : Try R W → Try R X
  try_map cut = cut
  try_map overlong = overlong
  try_map reject = reject
  try_map (stop r) = stop r
  try_map (go b w) = go b (f w)

  one-like : (L : W → X → Type 0) (t : Try R W) → ((b : Bool) (w : W) → t ≡ go b w → L w (f w)) → TryRel L t (try_map t)
  one-like L cut h = cuts
  one-like L overlong h = overlongs
  one-like L reject h = rejects
  one-like L (stop r) h = stops r
  one-like L (go b w) h = goes b (h b w refl)

  map-like : (L : W → X → Type 0) (ts : List (Try R W)) → ((b : Bool) (w : W) → Memᴰ (go b w) ts → L w (f w)) → TriesRel L ts (map try_map ts)
  map-like L [] h = done
  map-like L (t ∷ ts) h = next (one-like L t (λ b w e. h b w (Memᴰ.head (sym e)))) (map-like L ts (λ b w m. h b w (Memᴰ.tail m)))

abbrev list_of : Path → List ℕ
list_of p = p.edges

-- the tries of a list: those of the path that it replays to
module _ {R : Type 0} (paths : Path → List (Try R Path)) where
  of_path : Answer ReplayRefusal Path → List (Try R (List ℕ))
  of_path (ok p) = map (try_map list_of) (paths p)
  of_path (refuse x) = []

  unfoldable pub list_tries : Bounds → View → ℕ → List ℕ → List (Try R (List ℕ))
  unfolding of_path
  list_tries bd g r l = of_path (replay bd g r l)

-- an edge list stands for the path that it replays to
abbrev pub Stands : Bounds → View → ℕ → Path → List ℕ → Type 0
Stands bd g r p l = (replay bd g r l ≡ ok p) × (l ≡ p.edges)

held : {R : Type 0} (bd : Bounds) (g : View) (r : ℕ) (paths : Path → List (Try R Path)) (L : Path → List ℕ → Type 0)
    → ((p : Path) (l : List ℕ) → L p l → replay bd g r l ≡ ok p) → ((p : Path) (l : List ℕ) (b : Bool) (q : Path) → L p l → Memᴰ (go b q) (paths p) → L q q.edges)
    → (c : Setting R) (fuel : ℕ) (p : Path) (l : List ℕ) → L p l → AnswerRel L (enumerate c paths fuel (p ∷ [])) (enumerate c (list_tries paths bd g r) fuel (l ∷ []))
held bd g r paths L replays onward c fuel p l h = enumerate-rel L c paths (list_tries paths bd g r) like fuel (p ∷ []) (l ∷ []) (cons h nil)
  where
    like : (q : Path) (m : List ℕ) → L q m → TriesRel L (paths q) (list_tries paths bd g r m)
    like q m k = unfold list_tries of_path in subst (λ a. TriesRel L (paths q) (of_path paths a)) (sym (replays q m k)) (map-like list_of L (paths q) (λ b x n. onward q m b x k n))

module _ (bd : Bounds) (lim : Limit) (g : View) (r : ℕ) where
  abbrev pub TakenAs : Path → List ℕ → Type 0
  TakenAs p l = Taken bd lim g r l p × (l ≡ p.edges)

  pub direct-held : {R : Type 0} (too_long : R) (lawful : Lawful g) (c : Setting R) (fuel : ℕ) (p : Path) (l : List ℕ) → TakenAs p l → AnswerRel TakenAs (enumerate c (tries too_long bd lim g) fuel (p ∷ [])) (enumerate c (list_tries (tries too_long bd lim g) bd g r) fuel (l ∷ []))
  direct-held too_long lawful = held bd g r (tries too_long bd lim g) TakenAs (λ p l h. h.0.replayed) (λ p l b q h m. ((step-taken too_long bd lim g lawful r p q b (subst (λ x. Taken bd lim g r x p) h.1 h.0) m).0, refl))

  pub stitched-held : (db : List Slot) (c : Setting SearchRefusal) (fuel : ℕ) (p : Path) (l : List ℕ) → Stands bd g r p l → AnswerRel (Stands bd g r) (enumerate c (slot_tries bd lim g db) fuel (p ∷ [])) (enumerate c (list_tries (slot_tries bd lim g db) bd g r) fuel (l ∷ []))
  stitched-held db = held bd g r (slot_tries bd lim g db) (Stands bd g r) (λ p l h. h.0) onward
    where
      onward : (p : Path) (l : List ℕ) (b : Bool) (q : Path) → Stands bd g r p l → Memᴰ (go b q) (slot_tries bd lim g db p) → Stands bd g r q q.edges
      onward p l b q h m =
          let k = tries-are bd lim g db p (go b q) m in
          let a = (judge-go bd lim g p q k.edges b (sym k.judged)).appended in
          (subst (λ x. replay bd g r x ≡ ok q) (sym (append_all-edges bd g k.edges p q a ∙ ap (λ x. x ++ k.edges) (sym h.1))) (replay-append bd g r l k.edges p q h.0 a), refl)
