-- `replace::is_clean`: what the words so far say, and what those from here on say, is what all say.
use mathlib.Core.Path.{◌≡◌}
use lib.ListN.{drop}
use Rattle.semantics.specs.Lists.{and}
use Rattle.database.specs.Filing.{is_clean}
use Rattle.database.proofs.replace.is_clean.Given as goal

abbrev pub invariant-loop-word : goal.invariant-loop-word
invariant-loop-word l = and l.clean (is_clean (drop l.word-index l.words)) ≡ is_clean l.words
