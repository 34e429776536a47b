-- The words of a replayed path as they are written, one item behind the other: semantics/specs/PathWords.antt.
pub mod Laws
