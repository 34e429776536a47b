use mathlib.Core.Path.{◌∙◌}
use Rattle.partial.specs.Replacements.Laws.{store-clears, store-computes, store-heads, stored_is}
use Rattle.partial.proofs.replace.store.Goals as goal

pub clear_file-requires : goal.clear_file-requires
clear_file-requires c = let p = c.requires in store-clears p

pub file_found-requires : goal.file_found-requires
file_found-requires c =
    let clear-file = c.clear_file in
    let p = c.requires in
    store-computes p clear-file.new.words clear-file.auto.words

pub store_header-requires : goal.store_header-requires
store_header-requires c =
    let file-found = c.file_found in
    let clear-file = c.clear_file in
    let p = c.requires in
    store-heads p file-found.new.words (file-found.auto.words ∙ clear-file.auto.words)

pub returns : goal.returns
returns c =
    let file-found = c.file_found in
    let clear-file = c.clear_file in
    λ v. stored_is v clear-file.ensures file-found.new.words file-found.ensures c.store_header.ensures
