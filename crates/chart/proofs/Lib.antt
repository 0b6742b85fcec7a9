-- The check of the words is the check of the chart: loops and names, rows, the tests of one row, all tests; NameBytes
-- is of the name that `name` hands out, NameNumbers of the numbers by which names are compared.
pub mod Storing
pub mod RowLoops
pub mod Names
pub mod Rows
pub mod KindOf
pub mod KindTests
pub mod RowTests
pub mod RowParts
pub mod WellFormed
pub mod NameBytes
pub mod NameNumbers
pub mod Places
