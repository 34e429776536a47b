-- inside the area, or behind its end
use Rattle.path_words.specs.Written.Laws.{holds_more, holds-full}
use Rattle.path_words.proofs.put.put.Goals as goal

pub returns-then-at-area : goal.returns-then-at-area
returns-then-at-area c = let a = c.args in λ l h. holds_more a.area.now a.at a.word l c.if-at-area.true h

pub returns : goal.returns
returns c = let a = c.args in λ l h. holds-full a.area.now a.at a.word l c.if-at-area.false h
