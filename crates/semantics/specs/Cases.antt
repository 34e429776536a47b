-- What the tables of computed cases are made of: rows, the bytes of graphs, and what is asked. The tables stand in proofs/Cases.
pub mod Rows
pub mod Graphs
pub mod Asked
