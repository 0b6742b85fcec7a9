-- Facts behind the form check: its loops and parts, the marks of waiting slots, the origins of slots, and that 0
-- is no refusal's number.
pub mod FormTests
pub mod Marks
pub mod Origins
pub mod Numbered
