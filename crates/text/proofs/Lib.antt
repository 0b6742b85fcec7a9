-- Laws of texts, from the whole to the part: lines, the fields of a line, bytes and names, numbers, one field judged.
pub mod LineEnds
pub mod Places
pub mod LineFields
pub mod Bytes
pub mod Digits
pub mod FieldTests
