-- The outcomes of a fresh database: a refused image, under 3 words, and the words that it holds.
-- Document 01, "Partial paths": "A fresh database holds 0, N, F and zeros".
use Rattle.std.specs.Prelude.{ℕ, zero, suc, ◌-◌, ◌≤◌, ◌<◌, ◌≡◌, refl, List, ◌∷◌, leb, length, drop, Err, Ok}
use Rattle.std.proofs.Common.{arith, ◌∙◌, ap, le-leb}
use Rattle.std.proofs.lemmas.Bool.{lt-leb}
use Rattle.semantics.specs.declared.refusal.ImageRefusal.{ImageRefusal}
use Rattle.semantics.specs.Answer.{Answer, ok, refuse}
use Rattle.semantics.specs.Graph.{Graph}
use Rattle.semantics.specs.Told.{told_creation}
use Rattle.semantics.specs.Words.{zeros}
use Rattle.semantics.specs.Database.{fresh_words}
use Rattle.semantics.specs.Calls.{creation_outcome, fresh_call}
use Rattle.database.specs.Filing.{headed}
use Rattle.semantics.specs.PublicAnswers.{Creation}
use Rattle.semantics.specs.declared.answer.CreationRefusal.{CreationRefusal}

-- what is made for a graph: the answer and every word
abbrev pub Created : Graph → List ℕ → Creation → List ℕ → Type 0
Created g ws r left = (r ≡ (creation_outcome (leb 3 (length ws)) g ws).answer) × (left ≡ (creation_outcome (leb 3 (length ws)) g ws).database)

pub created-short : (g : Graph) (ws : List ℕ) → length ws < 3 → Created g ws (Err CreationRefusal.Malformed) ws
unfolding creation_outcome
created-short g ws h = rw (lt-leb 3 (length ws) h) (refl, refl)

drop-zeros : (k m : ℕ) → drop k (zeros m) ≡ zeros (m - k)
drop-zeros zero m = let q : m - 0 ≡ m = omega arith in rw q
drop-zeros (suc k) zero = let q : zero - suc k ≡ zero = omega arith in rw q
drop-zeros (suc k) (suc m) = let q : suc m - suc k ≡ m - k = omega arith in rw q (drop-zeros k m)

-- zeros, then the words in front
pub created-done : (nodes files : ℕ) (g : Graph) (ws left : List ℕ) → nodes ≡ length g.nodes → files ≡ g.files → 3 ≤ length ws → left ≡ headed 0 nodes files (zeros (length ws)) → Created g ws (Ok tt) left
unfolding creation_outcome
created-done nodes files g ws left n f h e =
    let w : left ≡ fresh_words g (length ws) =
    e
    ∙ ap (λ (l : List ℕ). 0 ∷ nodes ∷ files ∷ l) (drop-zeros 3 (length ws))
    ∙ ap (λ (k : ℕ). 0 ∷ k ∷ files ∷ zeros (length ws - 3)) n
    ∙ ap (λ (k : ℕ). 0 ∷ length g.nodes ∷ k ∷ zeros (length ws - 3)) f in
    rw (le-leb 3 (length ws) h) (refl, w)

-- the whole call, x being what the image decodes to
abbrev pub Fresh : Answer ImageRefusal Graph → List ℕ → Creation → List ℕ → Type 0
Fresh x ws r left = (told_creation r ≡ told_creation (fresh_call x ws).answer) × (left ≡ (fresh_call x ws).database)

pub fresh-created : (x : Answer ImageRefusal Graph) (g : Graph) (ws left : List ℕ) (r : Creation) → x ≡ ok g → Created g ws r left → Fresh x ws r left
unfolding fresh_call
fresh-created x g ws left r e c = rw e (ap told_creation c.0, c.1)

pub fresh-image : (x : Answer ImageRefusal Graph) (why : ImageRefusal) (ws : List ℕ) → x ≡ refuse why → Fresh x ws (Err (CreationRefusal.Image why)) ws
unfolding fresh_call
fresh-image x why ws e = rw e (refl, refl)
