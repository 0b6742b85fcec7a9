-- The transfer on words.
pub mod Transfer
