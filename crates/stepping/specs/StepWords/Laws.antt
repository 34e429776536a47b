-- A step that is written is read back, and no other has changed.
-- Serves document 01, "Path".
use Rattle.std.specs.Prelude.{ℕ, ◌+◌, ◌*◌, ◌<◌, ◌≤◌, ◌≡◌, List, get_or, set, length}
use Rattle.std.proofs.Common.{arith, sym, ◌∙◌, subst, length-set, get_or-set_same, get_or-set_other}
use Rattle.std.proofs.Math.ListN.{get_or-eq_default}
use Rattle.semantics.specs.Limits.{step_length}
use Rattle.semantics.specs.Halves.{joined, low_word, high_word}
use Rattle.semantics.specs.Halves.Laws.{joined-halves}
use Rattle.semantics.specs.ReplayedPaths.{step_at}
use Rattle.semantics.specs.declared.replayed.Step.{Step}
use Rattle.stepping.specs.StepWords.{with_step}

-- in the words: a step that is written is there, and no other has changed
other : (l : List ℕ) (k j a b : ℕ) (v : ℕ) → j < k → a < step_length → b < step_length → get_or (set l (step_length * k + b) v) (step_length * j + a) 0 ≡ get_or l (step_length * j + a) 0
other l k j a b v h p q = get_or-set_other l (step_length * k + b) (step_length * j + a) v 0 (λ (e : step_length * j + a ≡ step_length * k + b). omega arith)

-- in one step: a word stays where another is written
beside : (l : List ℕ) (k a b : ℕ) (v : ℕ) → (a ≡ b → ⊥) → get_or (set l (step_length * k + b) v) (step_length * k + a) 0 ≡ get_or l (step_length * k + a) 0
beside l k a b v h = get_or-set_other l (step_length * k + b) (step_length * k + a) v 0 (λ (e : step_length * k + a ≡ step_length * k + b). h (omega arith))

others : (l : List ℕ) (k j a : ℕ) (s : Step) → j < k → a < step_length → get_or (with_step l k s) (step_length * j + a) 0 ≡ get_or l (step_length * j + a) 0
others l k j a s h p =
    let l0 : List ℕ = set l (step_length * k) s.edge in
    let l1 : List ℕ = set l0 (step_length * k + 1) s.end in
    let l2 : List ℕ = set l1 (step_length * k + 2) s.symbols in
    let l3 : List ℕ = set l2 (step_length * k + 3) s.scopes in
    let l4 : List ℕ = set l3 (step_length * k + 4) (low_word s.symbol) in
    let l5 : List ℕ = set l4 (step_length * k + 5) (high_word s.symbol) in
    let l6 : List ℕ = set l5 (step_length * k + 6) s.attached in
    let l7 : List ℕ = set l6 (step_length * k + 7) s.below in
    other l7 k j a 8 s.scope h p (omega arith) ∙ other l6 k j a 7 s.below h p (omega arith) ∙ other l5 k j a 6 s.attached h p (omega arith)
    ∙ other l4 k j a 5 (high_word s.symbol) h p (omega arith) ∙ other l3 k j a 4 (low_word s.symbol) h p (omega arith) ∙ other l2 k j a 3 s.scopes h p (omega arith)
    ∙ other l1 k j a 2 s.symbols h p (omega arith) ∙ other l0 k j a 1 s.end h p (omega arith)
    ∙ get_or-set_other l (step_length * k) (step_length * j + a) s.edge 0 (λ (e : step_length * j + a ≡ step_length * k). omega arith)

pub step_other : (l : List ℕ) (k j : ℕ) (s : Step) → j < k → step_at (with_step l k s) j ≡ step_at l j
step_other l k j s h =
    let z : step_length * j + 0 ≡ step_length * j = omega arith in
    let e0 : get_or (with_step l k s) (step_length * j) 0 ≡ get_or l (step_length * j) 0 = subst (λ (n : ℕ). get_or (with_step l k s) n 0 ≡ get_or l n 0) z (others l k j 0 s h (omega arith)) in
    λ i. record {
      edge = e0 i;
      end = others l k j 1 s h (omega arith) i;
      symbols = others l k j 2 s h (omega arith) i;
      scopes = others l k j 3 s h (omega arith) i;
      symbol = joined (others l k j 4 s h (omega arith) i) (others l k j 5 s h (omega arith) i);
      attached = others l k j 6 s h (omega arith) i;
      below = others l k j 7 s h (omega arith) i;
      scope = others l k j 8 s h (omega arith) i;
    }

pub step_same : (l : List ℕ) (k : ℕ) (s : Step) → step_length * k + step_length ≤ length l → step_at (with_step l k s) k ≡ s
step_same l k s h =
    let l0 : List ℕ = set l (step_length * k) s.edge in
    let n0 : length l0 ≡ length l = length-set l (step_length * k) s.edge in
    let l1 : List ℕ = set l0 (step_length * k + 1) s.end in
    let n1 : length l1 ≡ length l = length-set l0 (step_length * k + 1) s.end ∙ n0 in
    let l2 : List ℕ = set l1 (step_length * k + 2) s.symbols in
    let n2 : length l2 ≡ length l = length-set l1 (step_length * k + 2) s.symbols ∙ n1 in
    let l3 : List ℕ = set l2 (step_length * k + 3) s.scopes in
    let n3 : length l3 ≡ length l = length-set l2 (step_length * k + 3) s.scopes ∙ n2 in
    let l4 : List ℕ = set l3 (step_length * k + 4) (low_word s.symbol) in
    let n4 : length l4 ≡ length l = length-set l3 (step_length * k + 4) (low_word s.symbol) ∙ n3 in
    let l5 : List ℕ = set l4 (step_length * k + 5) (high_word s.symbol) in
    let n5 : length l5 ≡ length l = length-set l4 (step_length * k + 5) (high_word s.symbol) ∙ n4 in
    let l6 : List ℕ = set l5 (step_length * k + 6) s.attached in
    let n6 : length l6 ≡ length l = length-set l5 (step_length * k + 6) s.attached ∙ n5 in
    let l7 : List ℕ = set l6 (step_length * k + 7) s.below in
    let n7 : length l7 ≡ length l = length-set l6 (step_length * k + 7) s.below ∙ n6 in
    let l8 : List ℕ = set l7 (step_length * k + 8) s.scope in
    let n8 : length l8 ≡ length l = length-set l7 (step_length * k + 8) s.scope ∙ n7 in
    let e0 : get_or l8 (step_length * k) 0 ≡ s.edge =
    get_or-set_other l7 (step_length * k + 8) (step_length * k) s.scope 0 (λ (e : step_length * k ≡ step_length * k + 8). omega arith)
    ∙ get_or-set_other l6 (step_length * k + 7) (step_length * k) s.below 0 (λ (e : step_length * k ≡ step_length * k + 7). omega arith)
    ∙ get_or-set_other l5 (step_length * k + 6) (step_length * k) s.attached 0 (λ (e : step_length * k ≡ step_length * k + 6). omega arith)
    ∙ get_or-set_other l4 (step_length * k + 5) (step_length * k) (high_word s.symbol) 0 (λ (e : step_length * k ≡ step_length * k + 5). omega arith)
    ∙ get_or-set_other l3 (step_length * k + 4) (step_length * k) (low_word s.symbol) 0 (λ (e : step_length * k ≡ step_length * k + 4). omega arith)
    ∙ get_or-set_other l2 (step_length * k + 3) (step_length * k) s.scopes 0 (λ (e : step_length * k ≡ step_length * k + 3). omega arith)
    ∙ get_or-set_other l1 (step_length * k + 2) (step_length * k) s.symbols 0 (λ (e : step_length * k ≡ step_length * k + 2). omega arith)
    ∙ get_or-set_other l0 (step_length * k + 1) (step_length * k) s.end 0 (λ (e : step_length * k ≡ step_length * k + 1). omega arith)
    ∙ get_or-set_same l (step_length * k) s.edge 0 (omega arith) in
    let e1 : get_or l8 (step_length * k + 1) 0 ≡ s.end =
    beside l7 k 1 8 s.scope (λ (e : 1 ≡ 8). omega arith)
    ∙ beside l6 k 1 7 s.below (λ (e : 1 ≡ 7). omega arith)
    ∙ beside l5 k 1 6 s.attached (λ (e : 1 ≡ 6). omega arith)
    ∙ beside l4 k 1 5 (high_word s.symbol) (λ (e : 1 ≡ 5). omega arith)
    ∙ beside l3 k 1 4 (low_word s.symbol) (λ (e : 1 ≡ 4). omega arith)
    ∙ beside l2 k 1 3 s.scopes (λ (e : 1 ≡ 3). omega arith)
    ∙ beside l1 k 1 2 s.symbols (λ (e : 1 ≡ 2). omega arith)
    ∙ get_or-set_same l0 (step_length * k + 1) s.end 0 (omega (arith, n0)) in
    let e2 : get_or l8 (step_length * k + 2) 0 ≡ s.symbols =
    beside l7 k 2 8 s.scope (λ (e : 2 ≡ 8). omega arith)
    ∙ beside l6 k 2 7 s.below (λ (e : 2 ≡ 7). omega arith)
    ∙ beside l5 k 2 6 s.attached (λ (e : 2 ≡ 6). omega arith)
    ∙ beside l4 k 2 5 (high_word s.symbol) (λ (e : 2 ≡ 5). omega arith)
    ∙ beside l3 k 2 4 (low_word s.symbol) (λ (e : 2 ≡ 4). omega arith)
    ∙ beside l2 k 2 3 s.scopes (λ (e : 2 ≡ 3). omega arith)
    ∙ get_or-set_same l1 (step_length * k + 2) s.symbols 0 (omega (arith, n1)) in
    let e3 : get_or l8 (step_length * k + 3) 0 ≡ s.scopes =
    beside l7 k 3 8 s.scope (λ (e : 3 ≡ 8). omega arith)
    ∙ beside l6 k 3 7 s.below (λ (e : 3 ≡ 7). omega arith)
    ∙ beside l5 k 3 6 s.attached (λ (e : 3 ≡ 6). omega arith)
    ∙ beside l4 k 3 5 (high_word s.symbol) (λ (e : 3 ≡ 5). omega arith)
    ∙ beside l3 k 3 4 (low_word s.symbol) (λ (e : 3 ≡ 4). omega arith)
    ∙ get_or-set_same l2 (step_length * k + 3) s.scopes 0 (omega (arith, n2)) in
    let e4 : get_or l8 (step_length * k + 4) 0 ≡ low_word s.symbol =
    beside l7 k 4 8 s.scope (λ (e : 4 ≡ 8). omega arith)
    ∙ beside l6 k 4 7 s.below (λ (e : 4 ≡ 7). omega arith)
    ∙ beside l5 k 4 6 s.attached (λ (e : 4 ≡ 6). omega arith)
    ∙ beside l4 k 4 5 (high_word s.symbol) (λ (e : 4 ≡ 5). omega arith)
    ∙ get_or-set_same l3 (step_length * k + 4) (low_word s.symbol) 0 (omega (arith, n3)) in
    let e5 : get_or l8 (step_length * k + 5) 0 ≡ high_word s.symbol =
    beside l7 k 5 8 s.scope (λ (e : 5 ≡ 8). omega arith)
    ∙ beside l6 k 5 7 s.below (λ (e : 5 ≡ 7). omega arith)
    ∙ beside l5 k 5 6 s.attached (λ (e : 5 ≡ 6). omega arith)
    ∙ get_or-set_same l4 (step_length * k + 5) (high_word s.symbol) 0 (omega (arith, n4)) in
    let e6 : get_or l8 (step_length * k + 6) 0 ≡ s.attached =
    beside l7 k 6 8 s.scope (λ (e : 6 ≡ 8). omega arith)
    ∙ beside l6 k 6 7 s.below (λ (e : 6 ≡ 7). omega arith)
    ∙ get_or-set_same l5 (step_length * k + 6) s.attached 0 (omega (arith, n5)) in
    let e7 : get_or l8 (step_length * k + 7) 0 ≡ s.below =
    beside l7 k 7 8 s.scope (λ (e : 7 ≡ 8). omega arith)
    ∙ get_or-set_same l6 (step_length * k + 7) s.below 0 (omega (arith, n6)) in
    let e8 : get_or l8 (step_length * k + 8) 0 ≡ s.scope =
    get_or-set_same l7 (step_length * k + 8) s.scope 0 (omega (arith, n7)) in
    let symbol : joined (get_or l8 (step_length * k + 4) 0) (get_or l8 (step_length * k + 5) 0) ≡ s.symbol = (λ i. joined (e4 i) (e5 i)) ∙ joined-halves s.symbol in
    λ i. record { edge = e0 i; end = e1 i; symbols = e2 i; scopes = e3 i; symbol = symbol i; attached = e6 i; below = e7 i; scope = e8 i }

-- behind the words there is no step
pub no_step : (l : List ℕ) (k : ℕ) → length l ≤ step_length * k → record { edge = 0; end = 0; symbols = 0; scopes = 0; symbol = 0; attached = 0; below = 0; scope = 0 } ≡ step_at l k
no_step l k h = λ i. record {
  edge = sym (get_or-eq_default l 0 h) i;
  end = sym (past 1) i;
  symbols = sym (past 2) i;
  scopes = sym (past 3) i;
  symbol = joined (sym (past 4) i) (sym (past 5) i);
  attached = sym (past 6) i;
  below = sym (past 7) i;
  scope = sym (past 8) i;
}
  where
    past : (a : ℕ) → get_or l (step_length * k + a) 0 ≡ 0
    past a = get_or-eq_default l 0 (omega (arith, h))
