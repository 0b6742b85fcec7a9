-- From what the calls leave to what the boundary owes. Assumes nothing.
use Rattle.semantics.proofs.Prelude.{◌≡◌, refl, ap, ◌∙◌, true, List, ℕ, ℤ, ne_eqb}
use Rattle.std.specs.Prelude.{Result, Ok, Err}
use Rattle.semantics.specs.Memory.{Memory}
use Rattle.semantics.specs.Outcomes.{Outcome, begin_outcome}
use Rattle.semantics.specs.Refusals.{number_of, answer_of}
use Rattle.semantics.specs.declared.Analysis.{Analysis}
use Rattle.semantics.specs.declared.Refusal.{Refusal}
use Rattle.checks.proofs.Numbered.{numbered}
use Rattle.calls.specs.Calls.{EndsCalled}
use Rattle.tarknotter.specs.declared.Record.{Record}
use Rattle.tarknotter.specs.declared.Called.{Called}
use Rattle.tarknotter.specs.Replies.{as_reply}
use Rattle.tarknotter.specs.Records.{analysis_in, settings_in, settings_named}
use Rattle.tarknotter.specs.Calls.{begin_by_codes, record_after, record_said, EndsByCodes}

-- what a call answers, with the record before where it refuses
pub by_codes : (o : Outcome) (before : Record) (c : Result Analysis Refusal) (r : Called) (t l : List ℤ) → EndsCalled o (analysis_in before) c t l
    → r.reply ≡ as_reply (answer_of c) → r.record ≡ record_said before c → EndsByCodes o before r t l
by_codes o before (Ok a) r t l e p q =
    record { reply = p ∙ ap as_reply e.answer; after = q ∙ (λ j. record_after before (e.answer j) (e.analysis j)); table = e.table; waitlist = e.waitlist }
by_codes o before (Err n) r t l e p q =
    let kept : before ≡ record_after before (answer_of {A = Analysis} (Err n)) (analysis_in before) = rw (ne_eqb (number_of n) 0 (numbered n)) refl in
    record { reply = p ∙ ap as_reply e.answer; after = q ∙ kept ∙ (λ j. record_after before (e.answer j) (e.analysis j)); table = e.table; waitlist = e.waitlist }

-- named settings: any beginning
pub begin_named : (ws : List ℤ) (merge stop order : ℕ) (r a : ℤ) (m : Memory) → settings_named merge stop order ≡ true → begin_outcome ws (settings_in merge stop order) r a m ≡ begin_by_codes ws merge stop order r a m
begin_named ws merge stop order r a m e = rw e
