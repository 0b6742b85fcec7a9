-- The lines piece by piece, the whole text by what was found, then the refusals.
pub mod RunPieces
pub mod FoundText
pub mod Refusals
