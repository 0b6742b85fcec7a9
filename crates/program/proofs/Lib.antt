-- The go line: the first line by its end, and numbers that are cut.
pub mod FirstLine
pub mod CutAmounts
-- What reading answers, then that the calls go through; and that its buffer is long enough.
pub mod ReadAnswers
pub mod Said
pub mod GoThrough
pub mod RunThrough
pub mod BufferEnough
