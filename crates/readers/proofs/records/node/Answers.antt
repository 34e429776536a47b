-- `readers::records::node`: the index that the image asks for.
use mathlib.Core.Path.{ap}
use Rattle.semantics.specs.Told.{told_node_reading}
use Rattle.storage.specs.Index.Laws.{few-records, small-takes, large-takes}
use Rattle.readers.proofs.records.node.Goals as goal

pub node_in-requires : goal.node_in-requires
node_in-requires c = small-takes c.args.image.now (few-records _ c.is_small.ensures c.if-is_small.true)

pub returns-then-is_small : goal.returns-then-is_small
returns-then-is_small c = ap told_node_reading c.node_in.ensures

pub node_in-requires-2 : goal.node_in-requires-2
node_in-requires-2 c = large-takes c.args.image.now

pub returns : goal.returns
returns c = ap told_node_reading c.node_in-2.ensures
