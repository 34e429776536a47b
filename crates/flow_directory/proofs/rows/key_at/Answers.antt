-- `flow_directory::rows::key_at`: four words.
use Rattle.flow_directory.specs.Keys.Laws.{key-halved}
use Rattle.flow_directory.proofs.rows.key_at.Goals as goal

pub returns : goal.returns
returns c = let a = c.args in key-halved a.rows.now a.i c.long-2.result c.long.result c.long-4.result c.long-3.result c.join.result c.join-2.result c.long-2.ensures.value c.long.ensures.value c.long-4.ensures.value c.long-3.ensures.value c.long-4.ensures.upper_bound c.long-3.ensures.upper_bound c.join.ensures c.join-2.ensures
