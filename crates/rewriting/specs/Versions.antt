-- What is rewritten in which version.
-- Document 02, order 3.
use Rattle.std.specs.Prelude.{ℕ, List}
use Rattle.semantics.specs.Rewriting.{Rewritten, widen, narrow}
use Rattle.image.specs.declared.version.Version.{Version}
use Rattle.image.specs.declared.version.Version.TheVariants.{Narrow, Wide}

abbrev pub other_of : Version → Version
other_of Narrow = Wide
other_of Wide = Narrow

-- an image rewritten in a version: it has to be of the other one
abbrev pub rewritten : Version → List ℕ → ℕ → Rewritten
rewritten Narrow = narrow
rewritten Wide = widen
