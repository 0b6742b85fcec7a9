-- The words lent as memory, and what 20, 14 and 21 let pass.
pub mod Form
