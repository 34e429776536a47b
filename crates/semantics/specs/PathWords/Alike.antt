-- Two paths with the same words are the same: nothing is lost.
use Rattle.std.specs.Prelude.{ℕ, ◌≡◌, refl, List, [], ◌∷◌, ◌++◌}
use Rattle.std.proofs.Common.{arith, sym, ap, ◌∙◌, append_assoc}
use Rattle.std.proofs.Math.Option.{Option, none, some}
use Rattle.std.proofs.Math.Seq.{append_snoc}
use Rattle.semantics.specs.Path.{Symbol}
use Rattle.semantics.specs.Halves.{low_word, high_word}
use Rattle.semantics.specs.Halves.Laws.{halves-alike}
use Rattle.semantics.specs.Calls.{Passage, edge, jump, ReplayedPath}
use Rattle.semantics.specs.PathWords.{step_words, scope_words, symbol_word, symbol_words, path_words}

head-alike : (x y : ℕ) (l m : List ℕ) → x ∷ l ≡ y ∷ m → x ≡ y
head-alike x y l m e = cc

tail-alike : (x y : ℕ) (l m : List ℕ) → x ∷ l ≡ y ∷ m → l ≡ m
tail-alike x y l m e = cc

-- an item's number, and what stands behind it
item-alike : (a b x y : ℕ) (l m : List ℕ) → a ∷ x ∷ l ≡ b ∷ y ∷ m → (a ≡ b) × (x ≡ y) × (l ≡ m)
item-alike a b x y l m e =
    let f = tail-alike a b (x ∷ l) (y ∷ m) e in
    (head-alike a b (x ∷ l) (y ∷ m) e, head-alike x y l m f, tail-alike x y l m f)

-- lists with other first words are not alike
apart : (a b : ℕ) (l m : List ℕ) → (a ≡ b → ⊥) → a ∷ l ≡ b ∷ m → ⊥
apart a b l m h e = h (head-alike a b l m e)

scopes-alike : (ss ts l m : List ℕ) → scope_words ss ++ (0 ∷ l) ≡ scope_words ts ++ (0 ∷ m) → (ss ≡ ts) × (l ≡ m)
unfolding scope_words
scopes-alike [] [] l m e = (refl, tail-alike 0 0 l m e)
scopes-alike [] (t ∷ ts) l m e = absurd (apart 0 1 _ _ (λ (z : 0 ≡ 1). omega arith) e)
scopes-alike (s ∷ ss) [] l m e = absurd (apart 1 0 _ _ (λ (z : 1 ≡ 0). omega arith) e)
scopes-alike (s ∷ ss) (t ∷ ts) l m e =
    let i = item-alike 1 1 s t _ _ e in
    let r = scopes-alike ss ts l m i.2 in
    ((λ k. i.1 k ∷ r.0 k), r.1)

steps_alike : (ps qs : List Passage) (l m : List ℕ) → step_words ps ++ (0 ∷ l) ≡ step_words qs ++ (0 ∷ m) → (ps ≡ qs) × (l ≡ m)
unfolding step_words
steps_alike [] [] l m e = (refl, tail-alike 0 0 l m e)
steps_alike [] (edge t ∷ qs) l m e = absurd (apart 0 1 _ _ (λ (z : 0 ≡ 1). omega arith) e)
steps_alike [] (jump t ∷ qs) l m e = absurd (apart 0 2 _ _ (λ (z : 0 ≡ 2). omega arith) e)
steps_alike (edge s ∷ ps) [] l m e = absurd (apart 1 0 _ _ (λ (z : 1 ≡ 0). omega arith) e)
steps_alike (jump s ∷ ps) [] l m e = absurd (apart 2 0 _ _ (λ (z : 2 ≡ 0). omega arith) e)
steps_alike (edge s ∷ ps) (jump t ∷ qs) l m e = absurd (apart 1 2 _ _ (λ (z : 1 ≡ 2). omega arith) e)
steps_alike (jump s ∷ ps) (edge t ∷ qs) l m e = absurd (apart 2 1 _ _ (λ (z : 2 ≡ 1). omega arith) e)
steps_alike (edge s ∷ ps) (edge t ∷ qs) l m e =
    let i = item-alike 1 1 s t _ _ e in
    let r = steps_alike ps qs l m i.2 in
    ((λ k. edge (i.1 k) ∷ r.0 k), r.1)
steps_alike (jump s ∷ ps) (jump t ∷ qs) l m e =
    let i = item-alike 2 2 s t _ _ e in
    let r = steps_alike ps qs l m i.2 in
    ((λ k. jump (i.1 k) ∷ r.0 k), r.1)

symbol-alike : (x y : ℕ) (o p : Option (List ℕ)) (l m : List ℕ) → symbol_word x o ++ l ≡ symbol_word y p ++ m → (x ≡ y) × (o ≡ p) × (l ≡ m)
unfolding symbol_word
symbol-alike x y none none l m e =
    let i = item-alike 1 1 (high_word x) (high_word y) _ _ e in
    (halves-alike x y i.1 (head-alike (low_word x) (low_word y) l m i.2), refl, tail-alike (low_word x) (low_word y) l m i.2)
symbol-alike x y none (some ts) l m e = absurd (apart 1 2 _ _ (λ (z : 1 ≡ 2). omega arith) e)
symbol-alike x y (some ss) none l m e = absurd (apart 2 1 _ _ (λ (z : 2 ≡ 1). omega arith) e)
symbol-alike x y (some ss) (some ts) l m e =
    let i = item-alike 2 2 (high_word x) (high_word y) _ _ e in
    let s = tail-alike (low_word x) (low_word y) _ _ i.2 in
    let r = scopes-alike ss ts l m (sym (append_snoc (scope_words ss) 0 l) ∙ s ∙ append_snoc (scope_words ts) 0 m) in
    (halves-alike x y i.1 (head-alike (low_word x) (low_word y) _ _ i.2), ap some r.0, r.1)

-- a symbol is not the end of a list
symbol-some : (x : ℕ) (o : Option (List ℕ)) (l m : List ℕ) → symbol_word x o ++ l ≡ 0 ∷ m → ⊥
unfolding symbol_word
symbol-some x none l m e = apart 1 0 _ _ (λ (z : 1 ≡ 0). omega arith) e
symbol-some x (some ss) l m e = apart 2 0 _ _ (λ (z : 2 ≡ 0). omega arith) e

symbols-alike : (xs ys : List Symbol) (l m : List ℕ) → symbol_words xs ++ (0 ∷ l) ≡ symbol_words ys ++ (0 ∷ m) → (xs ≡ ys) × (l ≡ m)
unfolding symbol_words
symbols-alike [] [] l m e = (refl, tail-alike 0 0 l m e)
symbols-alike [] (y ∷ ys) l m e = absurd (symbol-some y.symbol y.scopes _ l (sym (append_assoc (symbol_word y.symbol y.scopes) (symbol_words ys) (0 ∷ m)) ∙ sym e))
symbols-alike (x ∷ xs) [] l m e = absurd (symbol-some x.symbol x.scopes _ m (sym (append_assoc (symbol_word x.symbol x.scopes) (symbol_words xs) (0 ∷ l)) ∙ e))
symbols-alike (x ∷ xs) (y ∷ ys) l m e =
    let i = symbol-alike x.symbol y.symbol x.scopes y.scopes (symbol_words xs ++ (0 ∷ l)) (symbol_words ys ++ (0 ∷ m))
    (sym (append_assoc (symbol_word x.symbol x.scopes) (symbol_words xs) (0 ∷ l)) ∙ e ∙ append_assoc (symbol_word y.symbol y.scopes) (symbol_words ys) (0 ∷ m)) in
    let r = symbols-alike xs ys l m i.2 in
    ((λ k. record { symbol = i.0 k; scopes = i.1 k } ∷ r.0 k), r.1)

pub path-alike : (p q : ReplayedPath) → path_words p ≡ path_words q → p ≡ q
unfolding path_words
path-alike p q e =
    let f = tail-alike p.end q.end _ _ e in
    let s = steps_alike p.steps q.steps _ _ (sym (append_snoc (step_words p.steps) 0 _) ∙ f ∙ append_snoc (step_words q.steps) 0 _) in
    let y = symbols-alike p.symbols q.symbols _ _ (sym (append_snoc (symbol_words p.symbols) 0 _) ∙ s.1 ∙ append_snoc (symbol_words q.symbols) 0 _) in
    let o = scopes-alike p.scopes q.scopes [] [] y.1 in
    λ i. record { end = head-alike p.end q.end _ _ e i; steps = s.0 i; symbols = y.0 i; scopes = o.0 i }
