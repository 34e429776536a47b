-- `storage::check::is_small`: the header is there, and the two counts are tested.
use native.Mathlib.Omega.{arith}
use Rattle.storage.specs.Index.Laws.{small-headless, small-nodes, small-edges, small-both}
use Rattle.storage.proofs.check.is_small.Goals as goal

pub returns-then-image-lt-FIRST_RECORD : goal.returns-then-image-lt-FIRST_RECORD
returns-then-image-lt-FIRST_RECORD c = small-headless c.args.image.now (omega (arith, c.if-image-lt-FIRST_RECORD.true))

pub returns-then-nodes-gt-FEW : goal.returns-then-nodes-gt-FEW
returns-then-nodes-gt-FEW c = small-nodes c.args.image.now (omega arith) (omega arith)

pub returns-then-edges-gt-FEW : goal.returns-then-edges-gt-FEW
returns-then-edges-gt-FEW c = small-edges c.args.image.now (omega arith) (omega arith) (omega arith)

pub returns : goal.returns
returns c = small-both c.args.image.now (omega arith) (omega arith) (omega arith)
