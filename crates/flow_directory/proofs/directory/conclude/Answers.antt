-- `flow_directory::directory::conclude`: the end of the search, and of its returned paths.
use mathlib.Core.Path.{ap, ◌∙◌}
use Rattle.semantics.specs.Words.{zeros}
use Rattle.flow_directory.specs.Flows.Laws.{refused-does, over-lists, over-fits, over-does}
use Rattle.flow_directory.proofs.directory.conclude.Goals as goal

pub finish-paths-requires : goal.finish-paths-requires
finish-paths-requires c = let p = c.requires in record { holds_graph = record { graph = p.there.graph; loaded = p.there.loaded }; lists = over-lists p c.in-Ok.finished c.in-Ok.is }

pub definitions-definitions-requires : goal.definitions-definitions-requires
definitions-definitions-requires c = let p = c.requires in (p.there.loaded.long, over-fits p c.in-Ok.finished c.in-Ok.is c.finish-paths.result c.finish-paths.new.res c.finish-paths.ensures)

pub returns-in-Ok : goal.returns-in-Ok
returns-in-Ok c = λ v q w l.
    over-does v c.in-Ok.finished c.in-Ok.is c.finish-paths.result c.finish-paths.new.res c.finish-paths.ensures c.definitions-definitions.result c.definitions-definitions.ensures q
    c.finish-paths.auto.res l (c.zero.ensures ∙ ap zeros w) c.stats.ensures

pub returns-in-Err : goal.returns-in-Err
returns-in-Err c = λ v q w l. refused-does v q l c.in-Err.r c.in-Err.is (c.zero.ensures ∙ ap zeros w) c.zero-in-Err.ensures
