-- The check of an encoded chart, said of its words; and its rows as they are written.
pub mod Encoded
pub mod Rows
pub mod Kinds
