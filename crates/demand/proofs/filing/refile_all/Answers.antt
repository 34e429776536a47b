-- `demand::filing::refile_all`: what is filed from here on is what was to be filed from the start.
use Prim.Native.Nat.{ℕ, ◌+◌, ◌-◌}
use native.Mathlib.Omega.{arith}
use mathlib.Core.Path.{◌≡◌, refl, sym, ap, subst, ◌∙◌}
use mathlib.Core.Bool.{true≢false}
use mathlib.Core.List.{List}
use Rattle.demand.specs.Filings.{Filings, refilings, Refills, refilings-end, refilings-stop, refilings-next, refilings-fill}
use Rattle.demand.proofs.filing.refile_all.Goals as goal

pub loop-file-init : goal.loop-file-init
loop-file-init c =
    let a = c.args in
    let z : a.files - 0 ≡ a.files = omega arith in
    (refl, refl, omega arith, ap (λ n. refilings a.image.now a.order 0 n a.work.now a.words.now) z)

pub returns-then-not-refile : goal.returns-then-not-refile
returns-then-not-refile c =
    let refile = c.refile in
    let loop-test = c.loop-file-test in
    let l = c.loop-file in
    let a = c.args in
    let h = refile.ensures in
    let e = refilings-stop a.image.now a.order a.files l.file l.work l.words (omega (arith, loop-test.true))
    (sym h.value ∙ c.if-not-refile.true)
    ∙ l.invariant.3 in record { value = ap (λ (f : Filings). f.all) e; work_after = h.work_after ∙ ap (λ (f : Filings). f.work) e; words_after = h.words_after ∙ ap (λ (f : Filings). f.words) e; refills = λ k. absurd (true≢false (sym k)) }

pub loop-file-preserved : goal.loop-file-preserved
loop-file-preserved c =
    let refile = c.refile in
    let loop-test = c.loop-file-test in
    let l = c.loop-file in
    let a = c.args in
    let h = refile.ensures in
    let next = refilings-next a.image.now a.order a.files l.file l.work l.words (omega (arith, loop-test.true))
    (sym h.value ∙ c.if-not-refile.false) in (
      refile.auto.work ∙ l.invariant.0,
      refile.auto.words ∙ l.invariant.1,
      omega (arith, loop-test.true),
      (λ i. refilings a.image.now a.order (l.file + 1) (a.files - (l.file + 1)) (h.work_after i) (h.words_after i)) ∙ next ∙ l.invariant.3,
    )

pub returns : goal.returns
returns c =
    let a = c.args in
    let l = c.loop-file in
    let e = refilings-end a.image.now a.order a.files l.file l.work l.words (omega (arith, c.loop-file-test.false)) ∙ l.invariant.3 in record { value = ap (λ (f : Filings). f.all) e; work_after = ap (λ (f : Filings). f.work) e; words_after = ap (λ (f : Filings). f.words) e; refills = λ k. subst (λ (w : List ℕ). Refills a.image.now a.files a.words.now w) (sym (ap (λ (f : Filings). f.words) e)) (refilings-fill a.image.now a.order a.files a.work.now a.words.now (sym (ap (λ (f : Filings). f.all) e))) }
