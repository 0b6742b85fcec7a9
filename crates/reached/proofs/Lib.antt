-- The loops' turns, the table as rows, links between slots and the slots that they pass over, then the form that table
-- and waitlist keep.
pub mod SlotLoops
pub mod Table
pub mod Linking
pub mod SlotChains
pub mod FormKept
