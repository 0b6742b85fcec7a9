-- What the answers on the go line say; what the parts of the program ask and leave.
pub mod Asked
pub mod Responded
