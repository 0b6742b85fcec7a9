-- Chains of edges; record and words as an exploration of rows.
pub mod Chains
pub mod Loaded
