-- Starting values in turn; why a branch may be cut; moves of known values; a move of rows; distances by their words; input
-- values by their range; a loop that stops at the first find; what the parts of the search share; the starting states in turn,
-- and deepening.
pub mod StartingValues
pub mod TurningBack
pub mod Exactly
pub mod Moves
pub mod DistanceTests
pub mod Inputs
pub mod Turns
pub mod Descending
pub mod Attempts
