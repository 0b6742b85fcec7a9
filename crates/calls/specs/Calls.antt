-- What a public call owes: its answer, the record and every lent word at exit are those of the outcome. Assumes
-- nothing.
use Rattle.std.specs.Prelude.{◌≡◌, Result, Ok, Err, List, ℤ}
use Rattle.semantics.specs.declared.Analysis.{Analysis}
use Rattle.semantics.specs.declared.Refusal.{Refusal}
use Rattle.semantics.specs.Outcomes.{Answer, Outcome}
use Rattle.semantics.specs.Refusals.{answer_of}

-- "determines, from the values at entry alone, the answer and every lent word at exit": these are the outcome's
-- answer, record, table and waitlist
pub record Ends (o : Outcome) (r : Answer) (a : Analysis) (t l : List ℤ) : Type 0 where
  pub answer : r ≡ o.answer
  pub analysis : a ≡ o.memory.analysis
  pub table : t ≡ o.memory.table
  pub waitlist : l ≡ o.memory.waitlist

-- the record that a call leaves which answers one, or refuses: the one answered, or the one from before
abbrev pub record_left : Analysis → Result Analysis Refusal → Analysis
record_left before (Ok a) = a
record_left before (Err r) = before

-- the same of such a call, where `before` is the record from before
abbrev pub EndsCalled : Outcome → Analysis → Result Analysis Refusal → List ℤ → List ℤ → Type 0
EndsCalled o before r t l = Ends o (answer_of r) (record_left before r) t l
