-- What a replacement is asked, as its code takes it: semantics/specs/Asked.antt has the numbers.
use Rattle.std.specs.Prelude.{ℕ, List}
use Rattle.semantics.specs.Asked.{order_asked, length_asked, expansions_asked}
use Rattle.partial_state.specs.declared.extraction.Config.{Config}

abbrev pub config_asked : List ℕ → Config
config_asked ns = record { order = order_asked ns; length = length_asked ns; expansions = expansions_asked ns }
