-- Layouts and places; the turns of the loops over a row and over the slots of a table.
pub mod Layouts
pub mod RowLoops
pub mod Slots
pub mod FirstOver
