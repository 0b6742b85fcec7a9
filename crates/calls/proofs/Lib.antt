-- Refusals and sizes.
pub mod Refusals
pub mod CallSizes
