-- `image::header::counts`: the tests of the definition, in its order.
use native.Mathlib.Omega.{arith}
use borrow.Author.Tests.{lt-ltb, le-ltb}
use Rattle.semantics.specs.Image.{files_of, nodes_of, edges_of}
use Rattle.image.specs.Reached.{counts_answer}
use Rattle.image.proofs.header.counts.Goals as goal

pub returns-then-files-gt-MOST_FILES : goal.returns-then-files-gt-MOST_FILES
unfolding counts_answer
returns-then-files-gt-MOST_FILES c =
    let im = c.args.image.now in
    simp (lt-ltb 256 (files_of im) (omega arith))

pub returns-then-n-lt-FEWEST_NODES : goal.returns-then-n-lt-FEWEST_NODES
unfolding counts_answer
returns-then-n-lt-FEWEST_NODES c =
    let im = c.args.image.now in
    simp (le-ltb 256 (files_of im) (omega arith), lt-ltb (nodes_of im) 2 (omega arith))

pub returns-then-n-gt-MOST_NODES : goal.returns-then-n-gt-MOST_NODES
unfolding counts_answer
returns-then-n-gt-MOST_NODES c =
    let im = c.args.image.now in
    simp (le-ltb 256 (files_of im) (omega arith), le-ltb (nodes_of im) 2 (omega arith), lt-ltb 2048 (nodes_of im) (omega arith))

pub returns-then-edges-gt-MOST_EDGES : goal.returns-then-edges-gt-MOST_EDGES
unfolding counts_answer
returns-then-edges-gt-MOST_EDGES c =
    let im = c.args.image.now in
    simp (le-ltb 256 (files_of im) (omega arith), le-ltb (nodes_of im) 2 (omega arith), le-ltb 2048 (nodes_of im) (omega arith), lt-ltb 4096 (edges_of im) (omega arith))

pub returns : goal.returns
unfolding counts_answer
returns c =
    let im = c.args.image.now in
    simp (le-ltb 256 (files_of im) (omega arith), le-ltb (nodes_of im) 2 (omega arith), le-ltb 2048 (nodes_of im) (omega arith), le-ltb 4096 (edges_of im) (omega arith))
