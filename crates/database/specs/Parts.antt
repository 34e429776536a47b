-- The part of the caller's words that a lookup hands back, and where it stands.
-- Document 01, "Partial paths": "hands back the part of the caller's words that holds those edges".
use Rattle.semantics.specs.Database.{Part}
use Rattle.database.specs.declared.lookup.Span.{Span}
pub mod Laws

abbrev pub part_of : Span → Part
part_of s = record { from = s.from; up_to = s.up_to }
