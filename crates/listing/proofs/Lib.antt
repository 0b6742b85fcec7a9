-- Ways, then the pieces of the texts, then what an analysis held in form says, then refusals.
pub mod Ways
pub mod TextPieces
pub mod Shown
pub mod Refusals
