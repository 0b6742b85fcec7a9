-- Codes read back, then the way from the calls to the boundary.
pub mod Codes
pub mod ByCodes
