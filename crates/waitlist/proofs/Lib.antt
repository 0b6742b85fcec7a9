-- Laws of the waitlist's words: as they stand, then as they move.
pub mod WaitWords
pub mod MovedWords
