use Rattle.std.proofs.Common.{rules, List, ◌∷◌, [], ◌++◌, length, length-append, ap, arith, sym, ◌∙◌, ℕ, ◌+◌, ◌≡◌, subst}
use Rattle.std.specs.Io.KnownBytes.{Appends}
use Rattle.std.proofs.KnownBytes.{Appends-trans}
use Rattle.printing.specs.Lines.{path_line, path_lines}
use Rattle.printing.proofs.Lines.{path_lines_more, printed_none, printed_slot, printed_more, printed_all}
use Rattle.printing.proofs.paths.print_paths.Goals as goal

pub loop-slot-init : goal.loop-slot-init
loop-slot-init g c = (printed_none c.args.res.now (search rules) (search rules) (search rules), search rules)

pub loop-slot-preserved : goal.loop-slot-preserved
loop-slot-preserved g c =
    let l = c.loop-slot in
    let s = c.in-Some.ensures.steps in
    let m : length (l.yielded ++ (c.in-Some.slot ∷ [])) ≡ length l.yielded + 1 = length-append l.yielded (c.in-Some.slot ∷ []) in
    let x = printed_slot l.invariant.0 c.in-Some.slot.now c.next.new.self.iter.rest.now s.0.1.0 s.0.1.1 in (
      printed_more l.invariant.0 c.in-Some.slot.now c.next.new.self.iter.rest.now s.0.1.0 s.0.1.1 c.next.new.self.iter.size c.next.new.self.n (length (l.yielded ++ (c.in-Some.slot ∷ []))) s.0.0 s.1 m,
      subst (Appends _ _)
          (ap (λ y. path_lines c.args.name.now c.args.res.now (length l.yielded) ++ path_line c.args.name.now y) x ∙ path_lines_more c.args.name.now c.args.res.now (length l.yielded) ∙ ap (path_lines c.args.name.now c.args.res.now) (sym m))
          (Appends-trans _ _ _ _ _ l.invariant.1 c.in_ok-print_path.ensures),
    )

pub returns : goal.returns
returns g c =
    let l = c.loop-slot in
    subst (Appends _ _) (ap (path_lines c.args.name.now c.args.res.now) (printed_all l.invariant.0 c.requires (λ h. (c.in-None.ensures.steps h).1.0))) l.invariant.1
