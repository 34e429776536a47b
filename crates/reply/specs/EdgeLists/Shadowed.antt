-- A list is beaten when another one shadows it. No list shadows itself, so that nobody need ask whether the other one is a copy.
-- Serves document 01, "Answer": "then every path shadowed by another recorded one".
use Prim.Native.Nat.{ℕ, zero, suc, ◌+◌, ◌≤◌, ◌<◌}
use Rattle.std.proofs.Common.{not-suc-le-zero, le_of_suc-le-suc, add-one, arith, sym, ◌∙◌, eq-eqb, le-ltb, drop_of_length-le}
use Rattle.std.specs.Prelude.{◌≡◌, Bool, true, false, not, eqb, ℤ, pos, negsuc, length, get_or, drop}
use Rattle.std.proofs.Math.Path.{refl, ap}
use mathlib.Core.List.{List, [], ◌∷◌}
use Rattle.std.specs.Int.Signed.{lt_z}
use Rattle.std.proofs.Math.Seq.{drop-cons}
use Rattle.semantics.specs.declared.graph.Edge.{Edge}
use Rattle.semantics.specs.declared.graph.Edge.TheVariants as E
use Rattle.semantics.specs.Lists.{or, and, same}
use Rattle.semantics.specs.Lists.Laws.{same-eq, or-true}
use Rattle.path.specs.Shadows.{alike, meet, after, shadows_edges}
use Rattle.reply.specs.EdgeLists.{beaten_list}

less-self : (p : ℤ) → lt_z p p ≡ false
less-self (pos n) = le-ltb n n (omega arith)
less-self (negsuc n) = le-ltb n n (omega arith)

meet_self : (e : Edge) (rest : Bool) → rest ≡ false → after (meet e e) rest ≡ false
unfolding meet
meet_self E.Removed rest h = refl
meet_self (E.Live s t p) rest h = rw (eq-eqb s.0 s.0 refl, less-self p) (on (eqb t.0 1))
  where
    on : (b : Bool) → after (alike b b) rest ≡ false
    on true = h
    on false = h

module _ (edges : ℕ → Edge) where
  shadows-self : (l : List ℕ) → shadows_edges edges l l ≡ false
  unfolding shadows_edges
  shadows-self [] = refl
  shadows-self (x ∷ l) = meet_self (edges x) (shadows_edges edges l l) (shadows-self l)

  -- a copy does not shadow
  another : (l m : List ℕ) → and (not (same l m)) (shadows_edges edges m l) ≡ shadows_edges edges m l
  another l m = on (same l m) refl
    where
      on : (b : Bool) → same l m ≡ b → and (not b) (shadows_edges edges m l) ≡ shadows_edges edges m l
      on true e = sym (shadows-self m) ∙ ap (shadows_edges edges m) (sym (same-eq l m e))
      on false e = refl

  -- list j shadows it
  pub beaten-by : (l : List ℕ) (ms : List (List ℕ)) (j : ℕ) → j < length ms → shadows_edges edges (get_or ms j []) l ≡ true → beaten_list (shadows_edges edges) l ms ≡ true
  unfolding beaten_list
  beaten-by l [] j h e = absurd (not-suc-le-zero h)
  beaten-by l (m ∷ ms) zero h e = ap (λ (b : Bool). or b (beaten_list (shadows_edges edges) l ms)) (another l m ∙ e)
  beaten-by l (m ∷ ms) (suc j) h e = rw (beaten-by l ms j (le_of_suc-le-suc h) e) (or-true (and (not (same l m)) (shadows_edges edges m l)))

  -- the first j lists were looked at
  module _ (l : List ℕ) (ms : List (List ℕ)) (j : ℕ) where
    pub beaten-end : length ms ≤ j → beaten_list (shadows_edges edges) l (drop j ms) ≡ false
    unfolding beaten_list
    beaten-end h = rw (drop_of_length-le ms h)

    module _ (h : j < length ms) where
      beaten-first : beaten_list (shadows_edges edges) l (drop j ms) ≡ or (shadows_edges edges (get_or ms j []) l) (beaten_list (shadows_edges edges) l (drop (j + 1) ms))
      unfolding beaten_list
      beaten-first =
          rw (add-one, drop-cons ms j [] h) (ap (λ (b : Bool). or b (beaten_list (shadows_edges edges) l (drop (suc j) ms))) (another l (get_or ms j [])))

      pub beaten-found : shadows_edges edges (get_or ms j []) l ≡ true → beaten_list (shadows_edges edges) l (drop j ms) ≡ true
      beaten-found e = beaten-first ∙ ap (λ (b : Bool). or b (beaten_list (shadows_edges edges) l (drop (j + 1) ms))) e

      pub beaten-on : shadows_edges edges (get_or ms j []) l ≡ false → beaten_list (shadows_edges edges) l (drop (j + 1) ms) ≡ beaten_list (shadows_edges edges) l (drop j ms)
      beaten-on e = sym (beaten-first ∙ ap (λ (b : Bool). or b (beaten_list (shadows_edges edges) l (drop (j + 1) ms))) e)
