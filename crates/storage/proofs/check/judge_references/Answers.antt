-- `storage::check::judge_references`: the first misfit, or the graph's counts.
use Prim.Native.Nat.{ℕ}
use mathlib.Core.Path.{ap, ◌∙◌}
use native.Mathlib.Omega.{arith}
use Rattle.semantics.specs.declared.refusal.ImageRefusal.TheVariants as Image
use Rattle.semantics.specs.Image.{first_record, place_of}
use Rattle.image.specs.Records.{graph_read}
use Rattle.storage.specs.Checks.Laws.{bad-node, bad-edge, all_fit, sources-known, told-refused, told-accepted, none-known}
use Rattle.storage.proofs.check.judge_references.Goals as goal
use Rattle.std.specs.Prelude.{Err}

pub returns-in-Some : goal.returns-in-Some
returns-in-Some c =
    let im = c.args.image.now in
    let f = c.in-Some.ensures.first (graph_read im) c.requires.held in
    let e = bad-node im c.nodes-nodes.ensures f.1 f.0 in
    record { value = c.misfit.ensures ∙ told-refused _ e; sources = none-known _ e }

pub returns-in-Some-misfit_edge : goal.returns-in-Some-misfit_edge
returns-in-Some-misfit_edge c =
    let im = c.args.image.now in
    let nodes = c.nodes-nodes in
    let h = c.requires.held in
    let f = c.in-Some-misfit_edge.ensures.first (graph_read im) h in
    let e = bad-edge im nodes.ensures (c.in_default.ensures.first (graph_read im) h) (omega arith) c.edges-edges.ensures f.1 f.0 in
    let place = c.place.ensures.value ∙ ap (place_of im first_record) nodes.ensures in record {
      value = c.misfit-in-Some-misfit_edge.ensures
          ∙ ap (λ (p : ℕ). Err (Image.Reference (place_of im p c.in-Some-misfit_edge.e))) place
          ∙ told-refused _ e;
      sources = none-known _ e;
    }

pub returns : goal.returns
returns c =
    let im = c.args.image.now in
    let edges = c.edges-edges in
    let nodes = c.nodes-nodes in
    let h = c.requires.held in
    let fits = c.in_default.ensures.first (graph_read im) h in
    let joins = c.in_default-misfit_edge.ensures.first (graph_read im) h in
    let e = all_fit im nodes.ensures fits (omega arith) edges.ensures joins (omega arith) in
    let known = sources-known im nodes.ensures fits (omega arith) edges.ensures joins c.args.index.now h (omega arith) in
    record { value = told-accepted im c.files.ensures nodes.ensures edges.ensures e; sources = λ g q. known }
