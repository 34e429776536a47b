-- `image::scan::records`: the nodes, then the edges, put into a cleared index.
use Rattle.std.proofs.Common.{◌≡◌, sym}
use Rattle.std.proofs.lemmas.Option.{MatchOption-at_some}
use Rattle.semantics.specs.Bytes.{byte_at}
use Rattle.semantics.specs.Image.{width_in}
use Rattle.image.specs.declared.version.Version.{Version}
use Rattle.image.specs.Records.Laws.{records-put}
use Rattle.image.specs.Versions.{number_of, width_of}
use Rattle.image.proofs.scan.records.Goals as goal

pub returns-clause-by_index : goal.returns-clause-by_index
returns-clause-by_index c =
    let im = c.args.image.now in
    let v = c.unwrap-version.result in
    let n = MatchOption-at_some (width_in im ≡ 0) (λ (v : Version). (byte_at im 0 ≡ number_of v) × (width_in im ≡ width_of v)) v c.unwrap-version.ensures c.version.ensures in
    let put = c.nodes-2.ensures.by_index _ c.in_ok-middle.was in
    λ x e. records-put im c.nodes-2.new.index _ (sym n.1) c.nodes.ensures put.0 c.edges.ensures c.requires.fresh put.1 (c.edges-2.ensures.by_index x e)
