-- Writing, then decimals.
pub mod Written
pub mod Decimals
