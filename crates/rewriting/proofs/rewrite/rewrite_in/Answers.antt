-- `rewriting::rewrite::rewrite_in`: an accepted image gives its graph, any other its refusal.
use Rattle.std.proofs.Common.{◌≡◌, ℕ, List, length, sym, ap, subst, ◌∙◌, arith}
use Rattle.semantics.specs.declared.refusal.ImageRefusal.{ImageRefusal}
use Rattle.semantics.specs.Answer.{refuse}
use Rattle.semantics.specs.Words.{zeros}
use Rattle.storage.specs.Index.Use.{answer-refused}
use Rattle.image.specs.declared.version.Version.{Version}
use Rattle.image.specs.declared.version.Version.TheVariants.{Narrow, Wide}
use Rattle.rewriting.specs.Rewrites.{graph_as, Given, Does, given, does-refuse}
use Rattle.image.specs.Versions.{number_of}
use Rattle.rewriting.specs.Versions.{other_of, rewritten}
use Rattle.rewriting.proofs.rewrite.rewrite_in.Goals as goal
use Rattle.std.specs.Prelude.{Err}
use Rattle.semantics.specs.declared.answer.RewritingRefusal.{RewritingRefusal}

refused-in : (to : Version) (r : ImageRefusal) (im : List ℕ) (len : ℕ) (area : List ℕ) → graph_as (number_of (other_of to)) im ≡ refuse r → area ≡ zeros len → Does (rewritten to im len) (Err (RewritingRefusal.Image r)) area
refused-in Narrow r im len area e z = does-refuse 1 4 (graph_as 2 im) r im len area e z
refused-in Wide r im len area e z = does-refuse 2 8 (graph_as 1 im) r im len area e z

pub whole_as_slice-load_version : goal.whole_as_slice-load_version
whole_as_slice-load_version g c = omega (arith, c.requires.n_bound)

pub narrow_graph-requires : goal.narrow_graph-requires
narrow_graph-requires g c =
    let v : number_of c.other.result ≡ 2 = ap number_of (c.other.ensures ∙ ap other_of c.in-Narrow.is) in
    let d = given (number_of c.other.result) c.args.image.now c.load_version.new.index c.in-Ok.counts c.load_version.ensures.value c.in-Ok.is c.load_version.ensures.loaded in
    record { given = subst (λ (n : ℕ). Given n c.args.image.now c.load_version.new.index c.in-Ok.counts) v d; area_value = c.requires.area_value }

pub widen_graph-requires : goal.widen_graph-requires
widen_graph-requires g c =
    let v : number_of c.other.result ≡ 1 = ap number_of (c.other.ensures ∙ ap other_of c.in-Wide.is) in
    let d = given (number_of c.other.result) c.args.image.now c.load_version.new.index c.in-Ok.counts c.load_version.ensures.value c.in-Ok.is c.load_version.ensures.loaded in
    record { given = subst (λ (n : ℕ). Given n c.args.image.now c.load_version.new.index c.in-Ok.counts) v d; area_value = c.requires.area_value }

pub returns-in-Err : goal.returns-in-Err
returns-in-Err g c =
    let a = c.args in
    let im = a.image.now in
    let v = ap number_of c.other.ensures in
    refused-in a.to c.in-Err.r im (length a.area.now) a.area.now
    (ap (λ (n : ℕ). graph_as n im) (sym v) ∙ answer-refused (graph_as (number_of c.other.result) im) c.in-Err.r c.load_version.ensures.value c.in-Err.is) c.requires.area_value
