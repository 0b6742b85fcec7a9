-- The code's turns; then where words stand, an operation's effect, the agreement with the rules, and rows in form.
pub mod TransferTests
pub mod Places
pub mod Effects
pub mod Agree
pub mod RowsSayStates
pub mod KindSteps
