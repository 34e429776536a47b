-- `demand::filing::file_all`: every file in the fresh database, or what the refused call left.
use mathlib.Core.Path.{sym, ap, subst, ◌∙◌}
use mathlib.Core.Bool.{true≢false}
use mathlib.Core.List.{List}
use Prim.Native.Nat.{ℕ}
use Rattle.demand.specs.Filings.{Filings, refilings, Fills, filings-fresh, filings-refused, filings-fill}
use Rattle.demand.proofs.filing.file_all.Goals as goal

pub returns-then-begin : goal.returns-then-begin
returns-then-begin c =
    let if1 = c.if-begin in
    let begin = c.begin in
    let a = c.args in
    let h = c.refile_all.ensures in
    let e = ap (refilings a.image.now a.order 0 a.files a.work.now) begin.ensures.words_after
    ∙ filings-fresh a.image.now a.order a.files a.work.now a.words.now (sym begin.ensures.value ∙ if1.true) in
    let all = h.value ∙ ap (λ (f : Filings). f.all) e in
    let words = h.words_after ∙ ap (λ (f : Filings). f.words) e in record {
      value = all;
      work_after = h.work_after ∙ ap (λ (f : Filings). f.work) e;
      words_after = words;
      fills = λ k.
          subst (λ (w : List ℕ). Fills a.image.now a.files w) (sym words)
          (filings-fill a.image.now a.order a.files a.work.now a.words.now (sym all ∙ k));
    }

pub returns : goal.returns
returns c =
    let a = c.args in
    let e = filings-refused a.image.now a.order a.files a.work.now a.words.now (sym c.begin.ensures.value ∙ c.if-begin.false) in
    record { value = ap (λ (f : Filings). f.all) e; work_after = ap (λ (f : Filings). f.work) e; words_after = c.begin.ensures.words_after ∙ ap (λ (f : Filings). f.words) e; fills = λ k. absurd (true≢false (sym k)) }
