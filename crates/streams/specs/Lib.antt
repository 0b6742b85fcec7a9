-- What reading and writing come to.
pub mod StreamEnd
