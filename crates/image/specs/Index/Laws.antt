-- One word of a block: what a store changes, and the node that its words stand for.
-- Serves document 01, "Graph image": each word is a field of its record, whatever was written besides.
use Prim.Native.Nat.{ℕ, zero, suc, ◌+◌, ◌*◌, ◌<◌, ◌≤◌}
use native.Mathlib.Omega.{arith}
use Rattle.std.proofs.Math.Decide.{dec_lt}
use Rattle.std.specs.Prelude.{◌≡◌, List, eqb, length, get_or, set}
use Rattle.std.proofs.Common.{ap, ◌∙◌, ne_eqb, get_or-set_same, get_or-set_other}
use Rattle.std.proofs.Math.Path.{subst}
use Rattle.std.proofs.Math.ListN.{get_or-eq_default}
use Rattle.semantics.specs.declared.graph.Node.{Node}
use Rattle.semantics.specs.declared.graph.Node.TheVariants as N
use Rattle.semantics.specs.Graph.{node_id, file_id}
use Rattle.image.specs.Index.{BLOCK, KIND, FLAG, FILE, SCOPE, cell, put, node_of, symbol_row, node_row}

-- a word of a block that is not there
pub cell_out : (l : List ℕ) (row n : ℕ) → length l ≤ BLOCK * n → cell l row n ≡ 0
unfolding cell
cell_out l row n h = get_or-eq_default l 0 {n = BLOCK * n + row} (omega arith)

-- the word that was stored
pub cell_same : (l : List ℕ) (row n v : ℕ) → BLOCK * n + row < length l → cell (put row n v l) row n ≡ v
unfolding cell put
cell_same l row n v h = get_or-set_same l (BLOCK * n + row) v 0 h

-- any other word stays
pub cell_other : (l : List ℕ) (row n r m v : ℕ) → (BLOCK * n + row ≡ BLOCK * m + r → ⊥) → cell (put r m v l) row n ≡ cell l row n
unfolding cell put
cell_other l row n r m v h = get_or-set_other l (BLOCK * m + r) (BLOCK * n + row) v 0 h

-- the first words are 0
abbrev pub Cleared : List ℕ → ℕ → Type 0
Cleared l k = (i : ℕ) → i < k → get_or l i 0 ≡ 0

pub cleared_more : (l : List ℕ) (k : ℕ) → k < length l → Cleared l k → Cleared (set l k 0) (k + 1)
cleared_more l k h c i b = go (dec_lt i k)
  where
    go : Dec (i < k) → get_or (set l k 0) i 0 ≡ 0
    go (yes p) = get_or-set_other l k i 0 0 (λ (e : i ≡ k). omega arith) ∙ c i p
    go (no p) =
        let q : i ≡ k = omega arith in
        ap (λ (m : ℕ). get_or (set l k 0) m 0) q ∙ get_or-set_same l k 0 0 h

pub all-cleared : (l : List ℕ) (k : ℕ) → length l ≤ k → Cleared l k → (i : ℕ) → get_or l i 0 ≡ 0
all-cleared l k h c i = go (dec_lt i k)
  where
    go : Dec (i < k) → get_or l i 0 ≡ 0
    go (yes p) = c i p
    go (no p) = get_or-eq_default l 0 {n = i} (omega arith)

-- an unknown kind is a removed node
pub no_kind : (kind flag file symbol scope : ℕ) → (kind ≡ 1 → ⊥) → (kind ≡ 2 → ⊥) → (kind ≡ 3 → ⊥) → (kind ≡ 4 → ⊥) → (kind ≡ 5 → ⊥) → (kind ≡ 6 → ⊥) → (kind ≡ 7 → ⊥) → (kind ≡ 8 → ⊥)
    → N.Removed ≡ node_of kind flag file symbol scope
unfolding node_of
no_kind kind flag file symbol scope a b c d e f g h =
    simp (ne_eqb kind 1 a, ne_eqb kind 2 b, ne_eqb kind 3 c, ne_eqb kind 4 d, ne_eqb kind 5 e, ne_eqb kind 6 f, ne_eqb kind 7 g, ne_eqb kind 8 h)

-- A NODE BY ITS KIND: what holds at each of the nine kinds, and of a removed node behind them, holds of what the words stand for
module _ (P : ℕ → Node → Type 0) (l : List ℕ) (n : ℕ)
    (removed : P 0 N.Removed) (root : P 1 N.Root) (jump : P 2 N.JumpToScope) (plain : P 3 (N.Scope (file_id (cell l FILE n)) (eqb (cell l FLAG n) 1)))
    (push : P 4 (N.Push (file_id (cell l FILE n)) (symbol_row l n) (eqb (cell l FLAG n) 1)))
    (pop : P 5 (N.Pop (file_id (cell l FILE n)) (symbol_row l n) (eqb (cell l FLAG n) 1)))
    (push_scoped : P 6 (N.PushScoped (file_id (cell l FILE n)) (symbol_row l n) (node_id (cell l SCOPE n)) (eqb (cell l FLAG n) 1)))
    (pop_scoped : P 7 (N.PopScoped (file_id (cell l FILE n)) (symbol_row l n) (eqb (cell l FLAG n) 1)))
    (drop : P 8 (N.DropScopes (file_id (cell l FILE n)))) where
  abbrev Of : ℕ → Type 0
  Of kind = P kind (node_of kind (cell l FLAG n) (cell l FILE n) (symbol_row l n) (cell l SCOPE n))

  of-kind : (kind : ℕ) → kind < 9 → Of kind
  unfolding node_of
  of-kind zero h = removed
  of-kind (suc zero) h = root
  of-kind (suc (suc zero)) h = jump
  of-kind (suc (suc (suc zero))) h = plain
  of-kind (suc (suc (suc (suc zero)))) h = push
  of-kind (suc (suc (suc (suc (suc zero))))) h = pop
  of-kind (suc (suc (suc (suc (suc (suc zero)))))) h = push_scoped
  of-kind (suc (suc (suc (suc (suc (suc (suc zero))))))) h = pop_scoped
  of-kind (suc (suc (suc (suc (suc (suc (suc (suc zero)))))))) h = drop
  of-kind (suc (suc (suc (suc (suc (suc (suc (suc (suc k))))))))) h = absurd (omega (arith, h))

  pub known-kind : cell l KIND n < 9 → P (cell l KIND n) (node_row l n)
  unfolding node_row
  known-kind h = of-kind (cell l KIND n) h

  pub by_kind : ((k : ℕ) → 9 ≤ k → P k N.Removed) → P (cell l KIND n) (node_row l n)
  unfolding node_row
  by_kind behind = go (cell l KIND n) (dec_lt (cell l KIND n) 9)
    where
      go : (k : ℕ) → Dec (k < 9) → Of k
      go k (yes h) = of-kind k h
      go k (no h) =
          let b : 9 ≤ k = omega arith in
          subst (P k) (no_kind k (cell l FLAG n) (cell l FILE n) (symbol_row l n) (cell l SCOPE n) (λ e. omega (arith, b, e)) (λ e. omega (arith, b, e)) (λ e. omega (arith, b, e)) (λ e. omega (arith, b, e)) (λ e. omega (arith, b, e)) (λ e. omega (arith, b, e)) (λ e. omega (arith, b, e)) (λ e. omega (arith, b, e))) (behind k b)
