-- The boundary to other languages: the answer, the record in numbers, then what the calls owe.
pub mod Replies
pub mod Records
pub mod Calls
