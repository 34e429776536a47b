use borrow.Author.Rules.{rules}
use Rattle.std.specs.Prelude.{Result, Err}
use Rattle.semantics.specs.declared.refusal.PartialPathRefusal.{PartialPathRefusal}
use Rattle.partial_state.specs.declared.extraction.Extraction.{Extraction}
use Rattle.partial_trial.specs.Seeds.{FileSeeded}
use Rattle.partial_state.specs.Extractions.{goes, at, going_at}
use native.Mathlib.Omega.{arith}
use Prim.Native.Nat.{◌<◌}
use lib.ListN.{length}
use mathlib.Core.Path.{◌≡◌, ap, refl, sym, subst, ◌∙◌}
use Rattle.partial_trial.specs.Seeds.Laws.{node-started, node-other, node-foreign, begun-start, begun-given, begun-again, begun-refused, begun-end}
use Rattle.partial_trial.proofs.seed.seed_file.Goals as goal
use Rattle.partial_trial.proofs.seed.seed_file.Goals.{then-is_of_file+then-is_start+in_ok-on, else-is_of_file, else-is_of_file-via-then-is_of_file+else-is_start, else-is_of_file-via-else-is_of_file}

pub loop-n-init : goal.loop-n-init
loop-n-init c = let a = c.args in (refl, refl, λ g h e v. begun-start v g a.file)

pub is_of_file-requires : goal.is_of_file-requires
is_of_file-requires c = c.requires.0.holds.loaded.long

pub is_start-requires : goal.is_start-requires
is_start-requires c = c.requires.0.holds.loaded.long

pub push_start-requires : goal.push_start-requires
push_start-requires c =
    let l = c.loop-n in
    let a = c.args in
    let p = c.requires in
    begun-given p.1 p.0.holds.graph a.file l.item (l.invariant.2 p.0.holds.graph p.0.holds.loaded p.0.node-count p.1) l.invariant.0

pub returns-in_err-on : goal.returns-in_err-on
returns-in_err-on c =
    let push = c.push_start in
    let l = c.loop-n in
    let a = c.args in
    let y = c.in_err-on.field-0.0 in
    let e : c.from_residual.result ≡ Err y = search rules in
    λ g h n v.
    let given = begun-given v g a.file l.item (l.invariant.2 g h n v) l.invariant.0 in
    rw e
    (subst (λ (r : Result Extraction PartialPathRefusal). FileSeeded a.item.now (at a.frame a.extraction) a.work.now v g a.file (going_at a.frame r) push.new.work) c.in_err-on.was
    (begun-refused v g a.file l.item (l.invariant.2 g h n v) l.invariant.0 (omega (arith, c.loop-n-test.true, n))
    (going_at a.frame push.result) push.new.work
    (node-started given h a.file l.n c.is_of_file.ensures c.is_start.ensures c.if-is_of_file.true c.if-is_start.true (going_at a.frame push.result) push.new.work (push.ensures given))
    y (ap (going_at a.frame) c.in_err-on.was)))

pub loop-n-preserved : goal.loop-n-preserved
loop-n-preserved c =
    let l = c.loop-n in
    let a = c.args in
    let f = c.is_of_file in (
      c.if-is_of_file.auto.item ∙ l.invariant.0,
      c.if-is_of_file.auto.work ∙ l.invariant.1,
      λ g h n v.
          let m = l.invariant.2 g h n v in
          let given = begun-given v g a.file l.item m l.invariant.0 in
          let inside : l.n < length g.nodes = omega (arith, c.loop-n-test.true, n) in
          elim c.if-is_of_file.branch [
            | then-is_of_file+then-is_start+in_ok-on w ↦
                rw (w.on-is, w.work-is)
                (begun-again v g a.file l.item m l.invariant.0 inside (going_at a.frame w.push_start.result) w.push_start.new.work
                (node-started given h a.file l.n f.ensures w.is_start.ensures w.if-is_of_file.true w.if-is_start.true (going_at a.frame w.push_start.result) w.push_start.new.work (w.push_start.ensures given))
                (at a.frame w.in_ok-on.on) (ap (going_at a.frame) w.in_ok-on.was))
            | else-is_of_file w ↦
                rw (w.on-is, w.work-is)
                (begun-again v g a.file l.item m l.invariant.0 inside (goes (at a.frame l.on)) l.work
                (elim w.else-is_of_file.branch [
                  | else-is_of_file-via-then-is_of_file+else-is_start w' ↦ node-other given h a.file l.n f.ensures w'.is_start.ensures w'.if-is_of_file.true w'.if-is_start.false
                  | else-is_of_file-via-else-is_of_file w' ↦ node-foreign given h a.file l.n f.ensures w'.if-is_of_file.false
                ])
                (at a.frame l.on) refl)
          ],
    )

pub returns : goal.returns
returns c = let a = c.args in let l = c.loop-n in λ g h e v. begun-end v g a.file l.item (l.invariant.2 g h e v) l.invariant.0 (omega (arith, c.loop-n-test.false, e))
