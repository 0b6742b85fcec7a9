-- Table and waitlist together, as words; links between the slots of a location.
pub mod Reached
pub mod Links
pub mod Scanned
