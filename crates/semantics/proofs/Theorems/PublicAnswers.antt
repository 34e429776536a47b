-- Equal answers of a search have equal statistics.
use mathlib.Core.Path.{ap, sym, ◌∙◌}
use mathlib.Core.Bool.{true≢false}
use Rattle.std.specs.Prelude.{ℕ, ◌≡◌, refl, Bool, true, false, Ok, Err, MatchResult, IsErrAnd}
use Rattle.std.specs.declared.result.Result.{Result}
use Rattle.semantics.specs.declared.search.SearchStats.{SearchStats}
use Rattle.semantics.specs.declared.answer.Resolved.{Resolved}
use Rattle.semantics.specs.PublicAnswers.{resolved}

pub resolved-stats : {E : Type 0} (m n : ℕ) (s t : SearchStats) → ◌≡◌ {A = Result Resolved E} (resolved m s) (resolved n t) → s ≡ t
resolved-stats m n s t e = let z : ◌≡◌ {A = Resolved} (record { paths = m; stats = s }) (record { paths = n; stats = t }) = cc in ap (λ (x : Resolved). x.stats) z

-- An error that `map_err` made, and a value that it let through: where each comes from.
pub record Made {T E F : Type 0} (f : E → F) (x : Result T E) (r : F) : Type 0 where
  pub error : E
  pub was : x ≡ Err error
  pub is : r ≡ f error

pub made : {T E F : Type 0} (f : E → F) (x : Result T E) (y : Result T F) (r : F) → MatchResult x (λ (v : T). y ≡ Ok v) (λ (e : E). IsErrAnd y (λ (d : F). d ≡ f e)) → y ≡ Err r → Made f x r
made f (Ok v) y r m e = absurd (let z : ◌≡◌ {A = Bool} true false = cc in true≢false z)
made f (Err x) (Ok v) r m e = absurd m
made f (Err x) (Err d) r m e = record { error = x; was = refl; is = let z : d ≡ r = cc in sym z ∙ m }

pub let_through : {T E F : Type 0} (f : E → F) (x : Result T E) (y : Result T F) (v : T) → MatchResult x (λ (w : T). y ≡ Ok w) (λ (e : E). IsErrAnd y (λ (d : F). d ≡ f e)) → y ≡ Ok v → x ≡ Ok v
let_through f (Ok w) y v m e = let z : w ≡ v = cc in ap Ok z
let_through f (Err x) (Ok w) v m e = absurd m
let_through f (Err x) (Err d) v m e = absurd (let z : ◌≡◌ {A = Bool} true false = cc in true≢false z)

pub never_refused : {T E : Type 0} {x : Result T E} {v : T} → x ≡ Ok v → (e : E) → x ≡ Err e → ⊥
never_refused o e q = let z : ◌≡◌ {A = Bool} true false = cc in true≢false z
