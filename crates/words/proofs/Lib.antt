-- Signed words, rows of a table, lent numbers, iterators: laws that every crate over words uses.
pub mod Words
pub mod Iterating
pub mod Rows
pub mod LentNumbers
