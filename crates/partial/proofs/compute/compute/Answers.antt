-- `compute` meets its contract: the starts are pushed in short slots, then routes are expanded.
use Prim.Native.Nat.{ℕ, ◌/◌}
use mathlib.Core.Path.{◌≡◌, ap, sym, subst}
use borrow.Author.Rules.{rules}
use Rattle.std.specs.Prelude.{Result, Err}
use Rattle.semantics.specs.declared.search.PartialPathStats.{PartialPathStats}
use Rattle.semantics.specs.declared.refusal.PartialPathRefusal.{PartialPathRefusal}
use Rattle.partial.specs.Rounds.{Ends}
use Rattle.partial.specs.Replacements.{asked_by, routes_of}
use lib.ListN.{length, replicate, length-replicate}
use Rattle.semantics.specs.Limits.{slot_length}
use Rattle.path_frontier.specs.Frontier.{short_slot}
use Rattle.partial_state.specs.Extractions.{at, going_at}
use Rattle.partial_state.specs.Extractions.Laws.{new_is}
use Rattle.partial.specs.Replacements.Laws.{begins, compute-refused, drives, compute-ends}
use Rattle.partial.proofs.compute.compute.Goals as goal

pub seed-requires : goal.seed-requires
seed-requires c =
    let a = c.args in
    let p = c.requires in (
      p.holds,
      begins p.holds.holds.loaded a.filing a.config a.work.now a.words.now
          (new_is a.config (length a.work.now / slot_length) c.new-frame.ensures c.new-extraction.ensures)
          (replicate short_slot 0) (length-replicate {A = ℕ} short_slot 0),
    )

pub drive-requires : goal.drive-requires
drive-requires c =
    let seed = c.seed in
    let new2 = c.new-extraction in
    let new = c.new-frame in
    let a = c.args in
    let new-is' = new_is a.config (length a.work.now / slot_length) new.ensures new2.ensures in
    let p = c.requires in
    drives p.holds.holds.loaded a.filing a.config a.work.now a.words.now new-is' (replicate short_slot 0)
    (length-replicate {A = ℕ} short_slot 0) (going_at new.result seed.result) seed.new.work
    (seed.ensures p.holds.holds.graph p.holds.holds.loaded p.holds.node-count
    (begins p.holds.holds.loaded a.filing a.config a.work.now a.words.now new-is' (replicate short_slot 0)
    (length-replicate {A = ℕ} short_slot 0))) (at new.result c.in_ok-begun.begun)
    (ap (going_at new.result) c.in_ok-begun.was) (replicate slot_length 0) (length-replicate {A = ℕ} slot_length 0)
    p.fits

pub returns : goal.returns
returns c =
    let drive = c.drive in
    let seed = c.seed in
    let new2 = c.new-extraction in
    let new = c.new-frame in
    let a = c.args in
    let new-is' = new_is a.config (length a.work.now / slot_length) new.ensures new2.ensures in
    let p = c.requires in
    λ g l n.
    let filing = seed.ensures g l n
    (begins l a.filing a.config a.work.now a.words.now new-is' (replicate short_slot 0) (length-replicate {A = ℕ} short_slot 0)) in
    compute-ends l a.filing a.config a.work.now a.words.now new-is' (replicate short_slot 0) (length-replicate {A = ℕ} short_slot 0)
    (going_at new.result seed.result) seed.new.work filing (at new.result c.in_ok-begun.begun)
    (ap (going_at new.result) c.in_ok-begun.was) (replicate slot_length 0) (length-replicate {A = ℕ} slot_length 0) p.fits drive.result
    drive.new.words (drive.ensures (drives l a.filing a.config a.work.now a.words.now new-is' (replicate short_slot 0)
    (length-replicate {A = ℕ} short_slot 0) (going_at new.result seed.result) seed.new.work filing
    (at new.result c.in_ok-begun.begun) (ap (going_at new.result) c.in_ok-begun.was) (replicate slot_length 0) (length-replicate {A = ℕ} slot_length 0)
    p.fits))

pub returns-in_err-begun : goal.returns-in_err-begun
returns-in_err-begun c =
    let seed = c.seed in
    let new2 = c.new-extraction in
    let new = c.new-frame in
    let a = c.args in
    let new-is' = new_is a.config (length a.work.now / slot_length) new.ensures new2.ensures in
    let same : c.from_residual.result ≡ Err c.in_err-begun.field-0.0 = search rules in
    λ g l n.
    subst (λ (r : Result PartialPathStats PartialPathRefusal). Ends a.filing a.words.now r a.words.now (routes_of g (asked_by a.config a.work.now a.filing.file)))
    (sym same)
    (compute-refused l a.filing a.config a.work.now a.words.now new-is' (replicate short_slot 0) (length-replicate {A = ℕ} short_slot 0)
    (going_at new.result seed.result) seed.new.work
    (seed.ensures g l n
    (begins l a.filing a.config a.work.now a.words.now new-is' (replicate short_slot 0) (length-replicate {A = ℕ} short_slot 0)))
    c.in_err-begun.field-0.0 (ap (going_at new.result) c.in_err-begun.was))
