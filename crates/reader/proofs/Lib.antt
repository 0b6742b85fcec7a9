-- In the order of a file's way: scans, fields judged, the rows grown, names looked for, the words held, one line, line
-- after line.
pub mod Scans
pub mod CheckSteps
pub mod OneRowMore
pub mod NewNames
pub mod CopiedOut
pub mod Reading
pub mod NextLine
