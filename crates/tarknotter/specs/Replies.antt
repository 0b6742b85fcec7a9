-- An answer in the layout that other languages see. Assumes nothing.
use Rattle.semantics.specs.Outcomes.{Answer}
use Rattle.tarknotter.specs.declared.Reply.{Reply}

-- field by field
abbrev pub as_reply : Answer → Reply
as_reply a = record { number = a.number; line = a.line; length = a.length }
