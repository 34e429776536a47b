-- What the writing loops come to: what is still to be written behind each turn, and the list at the end.
use Prim.Native.Nat.{ℕ, zero, suc, ◌+◌, ◌-◌, ◌<◌}
use Rattle.std.proofs.Common.{not-suc-le-zero, add-one, subst, ◌∙◌, true≢false, append_assoc, append-nil}
use native.Mathlib.Omega.{arith}
use Rattle.std.specs.Prelude.{◌≡◌, Bool, true, false, List, [], ◌∷◌, ◌++◌, length, get_or}
use Rattle.std.proofs.Math.Path.{refl, sym, ap}
use Rattle.std.proofs.Math.Option.{none, some}
use Rattle.semantics.specs.Written.{written}
use Rattle.semantics.specs.ReplayedPaths.{step_at, scopes_from, scopes_of, attached_of, symbols_from, symbols_of, passages_to, read_path}
use Rattle.semantics.specs.Lists.{cons_if}
use Rattle.semantics.specs.Words.{zeros}
use Rattle.semantics.specs.Halves.{word_room, joined, low_word, high_word}
use Rattle.semantics.specs.Halves.Laws.{low-joined, high-joined}
use Rattle.semantics.specs.Calls.{Passage, edge, jump, no_path}
use Rattle.semantics.specs.declared.replayed.Step.{Step}
use Rattle.semantics.specs.declared.replayed.Path.{Path}
use Rattle.path_words.specs.Written.{Filled, Adds}
use Rattle.path_words.specs.Written.Laws.{holds-none}
use Rattle.semantics.specs.PathWords.{closed, step_words, scope_words, symbol_word, symbol_words, path_words}

-- of the numbers `all` that are to be added, `rest` are left
abbrev pub Left : List ℕ → ℕ → List ℕ → List ℕ → ℕ → List ℕ → Type 0
Left before from all now at rest = (l : List ℕ) → Filled before from l → (m : List ℕ) × Filled now at m × (m ++ rest ≡ l ++ all)

pub adds_none : (a : List ℕ) (k : ℕ) → Adds a k a k []
adds_none a k l h = subst (Filled a k) (sym (append-nil l)) h

pub adds_then : (a b c : List ℕ) (i j k : ℕ) (x y : List ℕ) → Adds a i b j x → Adds b j c k y → Adds a i c k (x ++ y)
adds_then a b c i j k x y f g l h = subst (Filled c k) (append_assoc l x y) (g (l ++ x) (f l h))

pub left-start : (a : List ℕ) (k : ℕ) {x y : List ℕ} → x ≡ y → Left a k x a k y
left-start a k e l h = (l, h, ap (λ (z : List ℕ). l ++ z) (sym e))

pub left-more : (a b c : List ℕ) (i j k : ℕ) (all x : List ℕ) {rest : List ℕ} (next : List ℕ) → rest ≡ x ++ next → Left a i all b j rest → Adds b j c k x → Left a i all c k next
left-more a b c i j k all x next e f g l h =
    let r = f l h in
    (r.0 ++ x, g r.0 r.1, append_assoc r.0 x next ∙ ap (λ (n : List ℕ). r.0 ++ n) (sym e) ∙ r.2)

pub left_end : (a b c : List ℕ) (i j k : ℕ) (all : List ℕ) {rest : List ℕ} → rest ≡ [] → Left a i all b j rest → Adds b j c k (0 ∷ []) → Adds a i c k (closed all)
left_end a b c i j k all e f g l h =
    let r = f l h in
    let q : r.0 ≡ l ++ all = sym (append-nil r.0) ∙ ap (λ (n : List ℕ). r.0 ++ n) (sym e) ∙ r.2 in
    subst (Filled c k) (ap closed q ∙ append_assoc l all (0 ∷ [])) (g r.0 r.1)

-- THE STACKS
module _ (f : ℕ → Step) where
  pub scopes-none : (n c : ℕ) → c < 1 → scope_words (scopes_from f n c) ≡ []
  unfolding scopes_from scope_words
  scopes-none zero c h = refl
  scopes-none (suc n) zero h = refl
  scopes-none (suc n) (suc c) h = absurd (omega arith)

  pub scopes-out : (n c : ℕ) → n < 1 → scope_words (scopes_from f n c) ≡ []
  unfolding scopes_from scope_words
  scopes-out zero c h = refl
  scopes-out (suc n) c h = absurd (omega arith)

  pub scopes-turn : (n m c : ℕ) {s d : ℕ} → n ≡ m + 1 → 0 < c → s ≡ (f (c - 1)).scope → d ≡ (f (c - 1)).scopes → scope_words (scopes_from f n c) ≡ (1 ∷ s ∷ []) ++ scope_words (scopes_from f m d)
  unfolding scopes_from scope_words
  scopes-turn zero m c h k e g = absurd (omega (arith, h))
  scopes-turn (suc n) m zero h k e g = absurd (not-suc-le-zero k)
  scopes-turn (suc n) m (suc c) {s} {d} h k e g =
      let x : n ≡ m = omega (arith, h) in
      let y : suc c - 1 ≡ c = omega arith in
      let e2 : (f c).scope ≡ s = sym (e ∙ ap (λ (j : ℕ). (f j).scope) y) in
      let g2 : (f c).scopes ≡ d = sym (g ∙ ap (λ (j : ℕ). (f j).scopes) y) in
      (λ i. 1 ∷ e2 i ∷ scope_words (scopes_from f (x i) (g2 i)))

  pub symbols-none : (n c : ℕ) → c < 1 → symbol_words (symbols_from f n c) ≡ []
  unfolding symbols_from symbol_words
  symbols-none zero c h = refl
  symbols-none (suc n) zero h = refl
  symbols-none (suc n) (suc c) h = absurd (omega arith)

  pub symbols-out : (n c : ℕ) → n < 1 → symbol_words (symbols_from f n c) ≡ []
  unfolding symbols_from symbol_words
  symbols-out zero c h = refl
  symbols-out (suc n) c h = absurd (omega arith)

  pub symbols-turn : (n m c : ℕ) {d : ℕ} → n ≡ m + 1 → 0 < c → d ≡ (f (c - 1)).below → symbol_words (symbols_from f n c) ≡ symbol_word (f (c - 1)).symbol (attached_of f (f (c - 1)).attached) ++ symbol_words (symbols_from f m d)
  unfolding symbols_from symbol_words
  symbols-turn zero m c h k g = absurd (omega (arith, h))
  symbols-turn (suc n) m zero h k g = absurd (not-suc-le-zero k)
  symbols-turn (suc n) m (suc c) {d} h k g =
      let x : n ≡ m = omega (arith, h) in
      let y : suc c - 1 ≡ c = omega arith in
      let g2 : (f c).below ≡ d = sym (g ∙ ap (λ (j : ℕ). (f j).below) y) in
      (λ i. symbol_word (f (sym y i)).symbol (attached_of f (f (sym y i)).attached) ++ symbol_words (symbols_from f (x i) (g2 i)))

  -- a symbol without scopes, and one with scopes
  module _ (low high : ℕ) {y : ℕ} (fits : low < word_room) (is : joined low high ≡ y) where
    high-word : high ≡ high_word y
    high-word = sym (high-joined low high fits) ∙ ap high_word is

    low-word : low ≡ low_word y
    low-word = sym (low-joined low high fits) ∙ ap low_word is

    pub symbol-plain : (c : ℕ) → c < 1 → 1 ∷ high ∷ low ∷ [] ≡ symbol_word y (attached_of f c)
    unfolding symbol_word
    symbol-plain zero h = (λ i. 1 ∷ high-word i ∷ low-word i ∷ [])
    symbol-plain (suc c) h = absurd (omega arith)

    pub symbol-scoped : (c : ℕ) → 0 < c → (2 ∷ high ∷ low ∷ []) ++ closed (scope_words (scopes_from f c c)) ≡ symbol_word y (attached_of f c)
    unfolding symbol_word
    symbol-scoped zero h = absurd (not-suc-le-zero h)
    symbol-scoped (suc c) h = (λ i. 2 ∷ high-word i ∷ low-word i ∷ closed (scope_words (scopes_from f (suc c) (suc c))))

-- THE STEPS
steps-append : (ps qs : List Passage) → step_words (ps ++ qs) ≡ step_words ps ++ step_words qs
unfolding step_words
steps-append [] qs = refl
steps-append (edge e ∷ ps) qs = ap (λ (l : List ℕ). 1 ∷ e ∷ l) (steps-append ps qs)
steps-append (jump s ∷ ps) qs = ap (λ (l : List ℕ). 2 ∷ s ∷ l) (steps-append ps qs)

pub steps-none : (p : Path) → [] ≡ step_words (passages_to p 0)
unfolding step_words passages_to
steps-none p = refl

-- one edge more, and the jump behind it
pub steps-turn : (p : Path) (i : ℕ) {e t : ℕ} {j : Bool} → e ≡ get_or p.edges i 0 → j ≡ get_or p.jumps i false → t ≡ (step_at p.steps (i + 1)).end
    → step_words (passages_to p i) ++ ((1 ∷ e ∷ []) ++ step_words (cons_if j (jump t) [])) ≡ step_words (passages_to p (i + 1))
unfolding step_words passages_to
steps-turn p i {t} a b d =
    let s : i + 1 ≡ suc i = add-one i in
    let t2 : t ≡ (step_at p.steps (suc i)).end = d ∙ ap (λ (k : ℕ). (step_at p.steps k).end) s in
    (λ k. step_words (passages_to p i) ++ step_words (edge (a k) ∷ cons_if (b k) (jump (t2 k)) []))
    ∙ sym (steps-append (passages_to p i) (edge (get_or p.edges i 0) ∷ cons_if (get_or p.jumps i false) (jump (step_at p.steps (suc i)).end) []))
    ∙ ap (λ (k : ℕ). step_words (passages_to p k)) (sym s)

-- a jump, or none
pub jump-none : (j : Bool) (t : ℕ) → j ≡ false → [] ≡ step_words (cons_if j (jump t) [])
unfolding step_words
jump-none true t e = absurd (true≢false e)
jump-none false t e = refl

pub jump-some : (j : Bool) (t : ℕ) → j ≡ true → 2 ∷ t ∷ [] ≡ step_words (cons_if j (jump t) [])
unfolding step_words
jump-some true t e = refl
jump-some false t e = absurd (true≢false (sym e))

-- THE WHOLE PATH: a zero area, and its four parts written one behind the other
pub path-written : (p : Path) {n s t : ℕ} {a : List ℕ} (b c d e : List ℕ) (i j k m : ℕ) → length a ≡ n → a ≡ zeros n → length e ≡ n
    → s ≡ (step_at p.steps p.count).symbols → t ≡ (step_at p.steps p.count).scopes
    → Adds a 0 b i (p.end ∷ [])
    → Adds b i c j (closed (step_words (passages_to p p.count)))
    → Adds c j d k (closed (symbol_words (symbols_of (step_at p.steps) s)))
    → Adds d k e m (closed (scope_words (scopes_of (step_at p.steps) t)))
    → e ≡ written n (path_words (read_path p))
unfolding path_words
path-written p {n} {s} {t} {a} b c d e i j k m u z v g h w x y o =
    let f = step_at p.steps in
    let steps = closed (step_words (passages_to p p.count)) in
    let all = adds_then a b e 0 i m (p.end ∷ []) _ w (adds_then b c e i j m steps _ x (adds_then c d e j k m (closed (symbol_words (symbols_of f s))) (closed (scope_words (scopes_of f t))) y o)) in
    let r = all [] (holds-none a n u z) in
    r.words ∙ (λ q. written (v q) (p.end ∷ (steps ++ (closed (symbol_words (symbols_of f (g q))) ++ closed (scope_words (scopes_of f (h q)))))))

-- a refused replay leaves zeros alone
written-zeros : (n m : ℕ) → written n (zeros m) ≡ zeros n
unfolding written
written-zeros zero m = refl
written-zeros (suc n) zero = ap (λ (l : List ℕ). 0 ∷ l) (written-zeros n zero)
written-zeros (suc n) (suc m) = ap (λ (l : List ℕ). 0 ∷ l) (written-zeros n m)

pub none_written : (n : ℕ) → written n (path_words no_path) ≡ zeros n
unfolding path_words
none_written n = written-zeros n 4

-- a path as an example: edge 3, a jump to scope 5, then edge 4; symbol 7 with the scopes 5 and 6 above symbol 8 without; scope 6
example : path_words (record { end = 9; steps = edge 3 ∷ jump 5 ∷ edge 4 ∷ []; symbols = record { symbol = 7; scopes = some (5 ∷ 6 ∷ []) } ∷ record { symbol = 8; scopes = none } ∷ []; scopes = 6 ∷ [] })
    ≡ 9 ∷ 1 ∷ 3 ∷ 2 ∷ 5 ∷ 1 ∷ 4 ∷ 0 ∷ 2 ∷ 0 ∷ 7 ∷ 1 ∷ 5 ∷ 1 ∷ 6 ∷ 0 ∷ 1 ∷ 0 ∷ 8 ∷ 0 ∷ 1 ∷ 6 ∷ 0 ∷ []
unfolding path_words
example = refl
