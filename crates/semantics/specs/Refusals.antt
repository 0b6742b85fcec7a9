-- The code's refusals as the documents number them, and what a call that says `Ok` or `Err` answers. Assumes nothing.
use Rattle.std.specs.Prelude.{ℕ, ⊤, Result, Ok, Err}
use Rattle.semantics.specs.Outcomes.{Answer, fine, refused_by}
use Rattle.semantics.specs.declared.Refusal.{Refusal}
use Rattle.semantics.specs.declared.Refusal.TheVariants as refusal
use Rattle.semantics.specs.declared.RefusedAt.{RefusedAt}

-- document 01, "When a call says no"; 24 is of 2.2, 30 and 31 are of 2.3
abbrev pub number_of : Refusal → ℕ
number_of refusal.TooLong = 1
number_of refusal.BadByte = 2
number_of refusal.OpenLine = 3
number_of refusal.WrongKind = 4
number_of refusal.WrongFields = 5
number_of refusal.Malformed = 6
number_of refusal.OutOfRange = 7
number_of refusal.WrongCount = 8
number_of refusal.NamedTwice = 9
number_of refusal.NotThere = 10
number_of refusal.BadCapacity = 11
number_of refusal.BadSettings = 12
number_of refusal.BadBudget = 13
number_of refusal.FewWords = 14
number_of refusal.FewBytes = 15
number_of refusal.BadChart = 20
number_of refusal.BadAnalysis = 21
number_of refusal.HasVerdict = 22
number_of refusal.Spent = 23
number_of refusal.NoAlarm = 24
number_of refusal.BadMoves = 30
number_of refusal.TooWide = 31

-- the number by which a test refuses; 0 where it passes
abbrev pub refusal_of : {A : Type 0} → Result A Refusal → ℕ
refusal_of (Ok _) = 0
refusal_of (Err r) = number_of r

-- what a call answers that says `Ok` or `Err`: "A call that goes through answers 0 and line 0", "Otherwise the answer is the
-- number and a line (.. 0 where no line applies)"
abbrev pub answer_of : {A : Type 0} → Result A Refusal → Answer
answer_of (Ok _) = fine 0
answer_of (Err r) = refused_by (number_of r) 0

-- the same of a listing call, which says its length in bytes
abbrev pub listed_of : Result ℕ Refusal → Answer
listed_of (Ok length) = fine length
listed_of (Err r) = refused_by (number_of r) 0

-- the same of reading, which says the line at fault
abbrev pub read_of : Result ⊤ RefusedAt → Answer
read_of (Ok _) = fine 0
read_of (Err e) = refused_by (number_of e.refusal) e.line
