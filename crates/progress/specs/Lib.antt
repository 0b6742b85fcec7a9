-- The record as it advances.
pub mod Progress
