-- `readers::records::edge`: the index that the image asks for.
use Rattle.storage.specs.Index.Laws.{few-records, small-takes, large-takes}
use Rattle.readers.proofs.records.edge.Goals as goal

pub edge_in-requires : goal.edge_in-requires
edge_in-requires c = small-takes c.args.image.now (few-records _ c.is_small.ensures c.if-is_small.true)

pub returns-then-is_small : goal.returns-then-is_small
returns-then-is_small c = c.edge_in.ensures

pub edge_in-requires-2 : goal.edge_in-requires-2
edge_in-requires-2 c = large-takes c.args.image.now

pub returns : goal.returns
returns c = c.edge_in-2.ensures
