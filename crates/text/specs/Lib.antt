-- What the functions over lines and fields answer, and where the lines of a text lie.
pub mod Fields
pub mod Places
pub mod Lines
