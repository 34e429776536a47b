-- `demand::filing::refile_with_aliases`: the alias set behind the files, or what the refused call left.
use mathlib.Core.Path.{sym, ap, subst, ◌∙◌}
use mathlib.Core.Bool.{true≢false}
use mathlib.Core.List.{List}
use Prim.Native.Nat.{ℕ}
use Rattle.demand.specs.Filings.{Filings, aliasing, filed_by, RefillsAll, all-refilings-on, all-refilings-off, all-refilings-fill}
use Rattle.demand.proofs.filing.refile_with_aliases.Goals as goal

pub returns-then-refile_all : goal.returns-then-refile_all
returns-then-refile_all c =
    let if1 = c.if-refile_all in
    let h = c.refile_all.ensures in
    let a = c.args in
    let k = c.refile_aliases.ensures in
    let e = (λ i. filed_by (aliasing a.image.now a.order (h.work_after i) (h.words_after i))) ∙ all-refilings-on a.image.now a.order a.files a.work.now a.words.now (sym h.value ∙ if1.true) in
    let all = k.value ∙ ap (λ (f : Filings). f.all) e in
    let words = k.words_after ∙ ap (λ (f : Filings). f.words) e in record { value = all; work_after = k.work_after ∙ ap (λ (f : Filings). f.work) e; words_after = words; refills_all = λ t. subst (λ (w : List ℕ). RefillsAll a.image.now a.files w) (sym words) (all-refilings-fill a.image.now a.order a.files a.work.now a.words.now (sym all ∙ t)) }

pub returns : goal.returns
returns c =
    let h = c.refile_all.ensures in
    let a = c.args in
    let e = all-refilings-off a.image.now a.order a.files a.work.now a.words.now (sym h.value ∙ c.if-refile_all.false) in record { value = sym c.if-refile_all.false ∙ h.value ∙ ap (λ (f : Filings). f.all) e; work_after = h.work_after ∙ ap (λ (f : Filings). f.work) e; words_after = h.words_after ∙ ap (λ (f : Filings). f.words) e; refills_all = λ t. absurd (true≢false (sym t)) }
