-- What begin and run owe at the boundary: the reply, the record and every lent word at exit are those of the outcome.
-- Assumes nothing.
use Rattle.std.specs.Prelude.{◌≡◌, not, List, [], ◌∷◌, ℕ, eqb, ℤ, Result, Ok, Err}
use Rattle.semantics.specs.Lists.{pick}
use Rattle.semantics.specs.Memory.{Memory}
use Rattle.semantics.specs.declared.Analysis.{Analysis}
use Rattle.semantics.specs.declared.Refusal.{Refusal}
use Rattle.semantics.specs.Outcomes.{Answer, Outcome, case, refusal, settled, begin_outcome}
use Rattle.tarknotter.specs.declared.Record.{Record}
use Rattle.tarknotter.specs.declared.Called.{Called}
use Rattle.tarknotter.specs.Replies.{as_reply}
use Rattle.tarknotter.specs.Records.{record_of, settings_in, settings_named}

-- a code that names no setting is 6, "word malformed", as in a go line, before all else
abbrev pub begin_by_codes : List ℤ → ℕ → ℕ → ℕ → ℤ → ℤ → Memory → Outcome
begin_by_codes words merge stop order r a m =
    settled (refusal (case 6 (not (settings_named merge stop order)) ∷ [])) m [] (begin_outcome words (settings_in merge stop order) r a m)

-- "no lent word, byte or field of the record changes" where a call is refused, also where the record's codes name
-- nothing
abbrev pub record_after : Record → Answer → Analysis → Record
record_after before answer a = pick (eqb answer.number 0) (record_of a) before

-- the same by what the call says
abbrev pub record_said : Record → Result Analysis Refusal → Record
record_said before (Ok a) = record_of a
record_said before (Err r) = before

-- a call lent the record `before`
pub record EndsByCodes (o : Outcome) (before : Record) (r : Called) (t l : List ℤ) : Type 0 where
  pub reply : r.reply ≡ as_reply o.answer
  pub after : r.record ≡ record_after before o.answer o.memory.analysis
  pub table : t ≡ o.memory.table
  pub waitlist : l ≡ o.memory.waitlist
