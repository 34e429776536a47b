-- `flow_directory::directory::resolve_from`: the search in a result area that is zero, and its end.
use mathlib.Core.Path.{sym, ap, ◌∙◌}
use lib.ListN.{length}
use Rattle.semantics.specs.Words.{zeros}
use Rattle.semantics.specs.Entries.{request_of, flow_request_of}
use Rattle.flow_directory.specs.Flows.Laws.{from-does}
use Rattle.flow_directory.proofs.directory.resolve_from.Goals as goal

pub search_kept-driven-requires : goal.search_kept-driven-requires
search_kept-driven-requires c = let p = c.requires in (record { graph = p.graph; loaded = p.loaded }, c.zero.ensures ∙ ap zeros (sym c.zero.auto.area))

pub conclude-requires : goal.conclude-requires
conclude-requires c = let p = c.requires in let a = c.args in record { there = p; request = request_of a.order a.limits a.work.now c.zero.new.area a.reference; ends = c.search_kept-driven.ensures p.graph p.loaded }

pub returns : goal.returns
returns c = let a = c.args in
    λ v k.
    from-does v.graph k a.order a.limits (length a.work.now) (length c.zero.new.area) (length a.res.now) a.reference c.zero.auto.area c.conclude.result c.conclude.new.work c.conclude.new.res
    (c.conclude.ensures (record { there = v; request = request_of a.order a.limits a.work.now c.zero.new.area a.reference; ends = c.search_kept-driven.ensures v.graph v.loaded })
    (flow_request_of k a.order a.limits a.work.now c.zero.new.area) c.search_kept-driven.auto.work c.search_kept-driven.auto.res)
