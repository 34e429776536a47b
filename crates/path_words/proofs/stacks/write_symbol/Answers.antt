-- a symbol without scopes, or one with scopes behind it
use Prim.Native.Nat.{ℕ}
use native.Mathlib.Omega.{arith}
use mathlib.Core.Path.{ap, subst, ◌∙◌}
use mathlib.Core.List.{List, [], ◌∷◌}
use Rattle.semantics.specs.Halves.{joined}
use Rattle.semantics.specs.ReplayedPaths.{step_at, scopes_of, attached_of}
use Rattle.path_words.specs.Written.{Adds}
use Rattle.semantics.specs.PathWords.{closed, scope_words, symbol_word}
use Rattle.path_words.specs.PathWords.Laws.{adds_then, symbol-plain, symbol-scoped}
use Rattle.path_words.proofs.stacks.write_symbol.Goals as goal

pub returns-then-attached-lt1 : goal.returns-then-attached-lt1
returns-then-attached-lt1 c =
    let put-wide = c.put_wide in
    let attached = c.part-attached in
    let high = c.part-high in
    let low = c.part-low in
    let a = c.args in
    let f = step_at a.steps.now in
    let y = (f a.k).symbol in
    subst (λ (x : List ℕ). Adds a.area.now a.from put-wide.new.area put-wide.result x)
    (symbol-plain f low.result high.result (omega arith) (λ i. joined (low.ensures i) (high.ensures i)) attached.result c.if-attached-lt1.true
    ∙ ap (λ (d : ℕ). symbol_word y (attached_of f d)) attached.ensures) put-wide.ensures

pub returns : goal.returns
returns c =
    let write-scopes = c.write_scopes in
    let put-wide2 = c.put_wide-next in
    let attached = c.part-attached in
    let high = c.part-high in
    let low = c.part-low in
    let a = c.args in
    let f = step_at a.steps.now in
    let y = (f a.k).symbol in
    let d = attached.result in
    subst (λ (x : List ℕ). Adds a.area.now a.from write-scopes.new.area write-scopes.result x)
    (symbol-scoped f low.result high.result (omega arith) (λ i. joined (low.ensures i) (high.ensures i)) d c.if-attached-lt1.false
    ∙ ap (λ (d : ℕ). symbol_word y (attached_of f d)) attached.ensures)
    (adds_then a.area.now put-wide2.new.area write-scopes.new.area a.from put-wide2.result write-scopes.result
    (2 ∷ high.result ∷ low.result ∷ []) (closed (scope_words (scopes_of f d))) put-wide2.ensures write-scopes.ensures)
