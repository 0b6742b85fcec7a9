-- The lines of a found run, by its words; the refusals of a search in two parts; a run held in words.
pub mod RunLines
pub mod Refusals
pub mod Held
