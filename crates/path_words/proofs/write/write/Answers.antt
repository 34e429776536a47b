-- the four parts, one behind the other
use mathlib.Core.Path.{◌≡◌}
use lib.ListN.{length}
use Rattle.path_words.specs.PathWords.Laws.{path-written}
use borrow.Author.Rules.{rules}
use Rattle.path_words.proofs.write.write.Goals as goal

pub returns : goal.returns
returns c =
    let write-scopes = c.write_scopes in
    let write-symbols = c.write_symbols-at in
    let write-steps = c.write_steps-at in
    let put = c.put-at in
    let part2 = c.part-scopes in
    let part = c.part-symbols in
    let zero' = c.zero in
    let a = c.args in
    let n = length a.area.now in
    let u : length zero'.new.area ≡ n = search rules in
    let v : length write-scopes.new.area ≡ n = search rules in
    path-written a.path put.new.area write-steps.new.area write-symbols.new.area write-scopes.new.area put.result
    write-steps.result write-symbols.result write-scopes.result u zero'.ensures v part.ensures part2.ensures put.ensures
    write-steps.ensures write-symbols.ensures write-scopes.ensures
