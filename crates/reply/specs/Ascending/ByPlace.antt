-- Two lists in order, compared from a word on. Serves document 01, "Answer": "`from_complete` drops copies".
use Prim.Native.Nat.{ℕ, suc, ◌+◌, ◌<◌}
use Rattle.std.proofs.Common.{subst, inl, inr, drop-cons}
use native.Mathlib.Omega.{arith}
use Rattle.std.specs.Prelude.{◌≡◌, get_or, drop}
use Rattle.std.proofs.Math.Path.{sym}
use mathlib.Core.List.{List, ◌∷◌}
use Rattle.std.proofs.Math.ListN.{length}
use Rattle.reply.specs.Ascending.{Ahead}

module _ (l m : List ℕ) (k : ℕ) (a : k < length l) (b : k < length m) where
  -- word k decides
  pub ahead-here : get_or l k 0 < get_or m k 0 → Ahead (drop k l) (drop k m)
  ahead-here h = subst (λ (y : List ℕ). Ahead y (drop k m)) (sym (drop-cons l k 0 a)) (subst (λ (y : List ℕ). Ahead (get_or l k 0 ∷ drop (suc k) l) y) (sym (drop-cons m k 0 b)) (inl h))

  -- the words behind it decide
  pub ahead-on : get_or l k 0 ≡ get_or m k 0 → Ahead (drop (k + 1) l) (drop (k + 1) m) → Ahead (drop k l) (drop k m)
  ahead-on e h =
      let s : k + 1 ≡ suc k = omega arith in
      subst (λ (y : List ℕ). Ahead y (drop k m)) (sym (drop-cons l k 0 a)) (subst (λ (y : List ℕ). Ahead (get_or l k 0 ∷ drop (suc k) l) y) (sym (drop-cons m k 0 b)) (inr (e, subst (λ (j : ℕ). Ahead (drop j l) (drop j m)) s h)))
