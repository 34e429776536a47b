-- `flow_directory::directory::resolve_loaded`: 41, 42, 43, then the search.
use mathlib.Core.Path.{sym, ap, ◌∙◌}
use Rattle.std.specs.Prelude.{Err}
use Rattle.flow_directory.specs.declared.rows.LookUpRefusal.{LookUpRefusal}
use Rattle.semantics.specs.Entries.{key_of, flow_request_of}
use Rattle.flow_directory.specs.Flows.Laws.{isin-long, malformed-does, found-does, missing-does, disordered-does}
use Rattle.flow_directory.proofs.directory.resolve_loaded.Goals as goal

pub returns-then-not-is_isin : goal.returns-then-not-is_isin
returns-then-not-is_isin c = let a = c.args in λ v. malformed-does v.graph a.asked.rows.now (flow_request_of (key_of a.asked.key.isin.now a.asked.key.tranche a.asked.key.leg) a.asked.order a.asked.limits a.work.now a.res.now) (sym c.is_isin.ensures ∙ c.if-not-is_isin.true) c.turn_back.result c.turn_back.ensures.0 c.turn_back.new.work c.turn_back.new.res c.turn_back.ensures.1 c.turn_back.ensures.2

pub look_up-requires : goal.look_up-requires
look_up-requires c = isin-long c.args.asked.key.isin.now (sym c.is_isin.ensures ∙ c.if-not-is_isin.false)

pub resolve_from-requires : goal.resolve_from-requires
resolve_from-requires c = c.requires

pub returns-in-Ok : goal.returns-in-Ok
returns-in-Ok c = let a = c.args in λ v. found-does v.graph a.asked.rows.now (flow_request_of (key_of a.asked.key.isin.now a.asked.key.tranche a.asked.key.leg) a.asked.order a.asked.limits a.work.now a.res.now) (sym c.is_isin.ensures ∙ c.if-not-is_isin.false) c.look_up.result c.look_up.ensures c.in-Ok.reference c.in-Ok.is c.resolve_from.result c.resolve_from.new.work c.resolve_from.new.res (c.resolve_from.ensures v (key_of a.asked.key.isin.now a.asked.key.tranche a.asked.key.leg))

pub returns-in-Err-Missing : goal.returns-in-Err-Missing
returns-in-Err-Missing c = let a = c.args in λ v. missing-does v.graph a.asked.rows.now (flow_request_of (key_of a.asked.key.isin.now a.asked.key.tranche a.asked.key.leg) a.asked.order a.asked.limits a.work.now a.res.now) (sym c.is_isin.ensures ∙ c.if-not-is_isin.false) c.look_up.result c.look_up.ensures (c.in-Err-Missing.is ∙ ap (λ (z : LookUpRefusal). Err z) c.in-Err-Missing.field-0-is) c.turn_back-in-Err-Missing.result c.turn_back-in-Err-Missing.ensures.0 c.turn_back-in-Err-Missing.new.work c.turn_back-in-Err-Missing.new.res c.turn_back-in-Err-Missing.ensures.1 c.turn_back-in-Err-Missing.ensures.2

pub returns-in-Err-Disordered : goal.returns-in-Err-Disordered
returns-in-Err-Disordered c = let a = c.args in λ v. disordered-does v.graph a.asked.rows.now (flow_request_of (key_of a.asked.key.isin.now a.asked.key.tranche a.asked.key.leg) a.asked.order a.asked.limits a.work.now a.res.now) (sym c.is_isin.ensures ∙ c.if-not-is_isin.false) c.look_up.result c.look_up.ensures (c.in-Err-Disordered.is ∙ ap (λ (z : LookUpRefusal). Err z) c.in-Err-Disordered.field-0-is) c.turn_back-in-Err-Disordered.result c.turn_back-in-Err-Disordered.ensures.0 c.turn_back-in-Err-Disordered.new.work c.turn_back-in-Err-Disordered.new.res c.turn_back-in-Err-Disordered.ensures.1 c.turn_back-in-Err-Disordered.ensures.2
