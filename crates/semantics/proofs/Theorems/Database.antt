pub mod Compaction
