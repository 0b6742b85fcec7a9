-- States and edges as rows; starting values in turn; distances; trails in words.
pub mod Rows
pub mod Starts
pub mod Distances
pub mod Trails
