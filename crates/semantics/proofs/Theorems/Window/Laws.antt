-- Calls that enter a count; sums and greatest ones of lists of counts: of lists in parts, of zeros, and how great they can be.
-- Document 02, order 10.
use Rattle.std.specs.Prelude.{ℕ, zero, suc, ◌+◌, ◌*◌, ◌≤◌, ◌<◌, ◌≡◌, refl, List, [], ◌∷◌, ◌++◌, length, get_or, take, drop, Err, Ok}
use Rattle.std.proofs.Common.{arith, mul-suc, add-one, sym, ◌∙◌, ap, lt-ltb, le-ltb, take-suc}
use Rattle.std.proofs.Math.Decide.{dec_lt}
use Rattle.semantics.specs.Limits.{Bounds}
use Rattle.semantics.specs.Words.{zeros}
use Rattle.semantics.specs.Enumeration.{greater}
use Rattle.semantics.specs.Window.{enter_words, enter_call, greatest, trend_of}
use Rattle.semantics.specs.Lists.{total}
use Rattle.semantics.specs.declared.answer.EntryRefusal.{EntryRefusal}

-- A CALL is refused or an entry
module _ (bd : Bounds) (most : ℕ) (ws : List ℕ) (c : ℕ) where
  pub call-refused : bd.expansions < c → enter_call bd most ws c ≡ record { answer = Err EntryRefusal.TooGreat; window = ws }
  unfolding enter_call
  call-refused h = rw (lt-ltb bd.expansions c h)

  pub call-entered : c ≤ bd.expansions → enter_call bd most ws c ≡ record { answer = Ok tt; window = enter_words most c ws }
  unfolding enter_call
  call-entered h = rw (le-ltb bd.expansions c h)

-- THE GREATER OF TWO: the least number that neither exceeds
pub greater-least : (a b c : ℕ) → a ≤ c → b ≤ c → greater a b ≤ c
greater-least a b c p q = on (dec_lt a b)
  where
    on : Dec (a < b) → greater a b ≤ c
    on (yes l) = rw (lt-ltb a b l) q
    on (no l) = rw (le-ltb a b (omega arith)) p

pub greater-most : (a b : ℕ) → (a ≤ greater a b) × (b ≤ greater a b)
greater-most a b = on (dec_lt a b)
  where
    on : Dec (a < b) → (a ≤ greater a b) × (b ≤ greater a b)
    on (yes l) = rw (lt-ltb a b l) (omega arith, omega arith)
    on (no l) = rw (le-ltb a b (omega arith)) (omega arith, omega arith)

greater-swapped : (a b : ℕ) → greater a b ≡ greater b a
greater-swapped a b =
    let p = greater-most a b in
    let q = greater-most b a in
    let r = greater-least a b (greater b a) q.1 q.0 in
    let s = greater-least b a (greater a b) p.1 p.0 in
    omega (arith, r, s)

greater-grouped : (a b c : ℕ) → greater a (greater b c) ≡ greater (greater a b) c
greater-grouped a b c =
    let p = greater-most a (greater b c) in
    let q = greater-most b c in
    let u = greater-most (greater a b) c in
    let v = greater-most a b in
    let r = greater-least a (greater b c) (greater (greater a b) c) (omega (arith, u.0, v.0)) (greater-least b c (greater (greater a b) c) (omega (arith, u.0, v.1)) u.1) in
    let s = greater-least (greater a b) c (greater a (greater b c)) (greater-least a b (greater a (greater b c)) p.0 (omega (arith, p.1, q.0))) (omega (arith, p.1, q.1)) in
    omega (arith, r, s)

-- LISTS IN PARTS
total-append : (a b : List ℕ) → total (a ++ b) ≡ total a + total b
unfolding total
total-append [] b = omega arith
total-append (x ∷ a) b = let h = total-append a b in omega (arith, h)

greatest-append : (a b : List ℕ) → greatest (a ++ b) ≡ greater (greatest a) (greatest b)
unfolding greatest
greatest-append [] b = let p = greater-most 0 (greatest b) in let q = greater-least 0 (greatest b) (greatest b) (omega arith) (omega arith) in omega (arith, p.1, q)
greatest-append (x ∷ a) b = ap (greater x) (greatest-append a b) ∙ greater-grouped x (greatest a) (greatest b)

-- one count more, as a scan from the front meets it
pub total-more : (l : List ℕ) (i : ℕ) → i < length l → total (take (i + 1) l) ≡ total (take i l) + get_or l i 0
unfolding total
total-more l i h = rw (add-one, take-suc l i 0 h, total-append) (omega arith)

pub greatest-more : (l : List ℕ) (i : ℕ) → i < length l → greatest (take (i + 1) l) ≡ greater (greatest (take i l)) (get_or l i 0)
unfolding greatest
greatest-more l i h = rw (add-one, take-suc l i 0 h, greatest-append) (ap (greater (greatest (take i l))) (let p = greater-most (get_or l i 0) 0 in let q = greater-least (get_or l i 0) 0 (get_or l i 0) (omega arith) (omega arith) in omega (arith, p.0, q)))

-- THE TREND
trend-same : (a b : List ℕ) → total a ≡ total b → greatest a ≡ greatest b → trend_of a ≡ trend_of b
unfolding trend_of
trend-same a b s g = λ i. record { sum = s i; greatest = g i }

-- of two parts in either order
pub trend-exchanged : (a b : List ℕ) → trend_of (a ++ b) ≡ trend_of (b ++ a)
trend-exchanged a b = trend-same (a ++ b) (b ++ a)
    (let p = total-append a b in let q = total-append b a in omega (arith, p, q))
    (greatest-append a b ∙ greater-swapped (greatest a) (greatest b) ∙ sym (greatest-append b a))

zeros-nothing : (n k : ℕ) → (total (drop n (zeros k)) ≡ 0) × (greatest (drop n (zeros k)) ≡ 0)
unfolding total greatest
zeros-nothing zero zero = (refl, refl)
zeros-nothing zero (suc k) = let h = zeros-nothing zero k in ((let z = h.0 in omega (arith, z)), rw h.1)
zeros-nothing (suc n) zero = (refl, refl)
zeros-nothing (suc n) (suc k) = zeros-nothing n k

-- zeros in front count for nothing
pub trend-behind-zeros : (n k : ℕ) (h : List ℕ) → trend_of (drop n (zeros k) ++ h) ≡ trend_of h
trend-behind-zeros n k h =
    let z = zeros-nothing n k in
    trend-same (drop n (zeros k) ++ h) h
    (let a = total-append (drop n (zeros k)) h in omega (arith, a, z.0))
    (greatest-append (drop n (zeros k)) h ∙ ap (λ (m : ℕ). greater m (greatest h)) z.1 ∙ sym (greatest-append [] h ∙ unfold greatest in refl))

-- HOW GREAT THE SUM CAN BE: every count at most b
abbrev pub AllWithin : ℕ → List ℕ → Type 0
AllWithin b [] = Unit {0}
AllWithin b (x ∷ xs) = (x ≤ b) × AllWithin b xs

pub total-most : (b : ℕ) (l : List ℕ) → AllWithin b l → total l ≤ b * length l
unfolding total
total-most b [] a = omega arith
total-most b (x ∷ xs) (h, a) = let k = total-most b xs a in let m = mul-suc b (length xs) in omega (arith, k, m, h)
