-- Reading as the code does it: one line's fields, what is held between lines, what the answers say.
pub mod Lines
pub mod ReadSoFar
pub mod Drafts
pub mod Answers
