-- `calls::begin_refusal` meets its contract: 20 and 14 where 11, 12 and 13 refuse nothing.
use Rattle.semantics.proofs.Prelude.{sym, ◌∙◌, nat_abs, w32, to_z-of_z}
use Rattle.semantics.specs.Outcomes.{asked_cases, size_of}
use Rattle.semantics.proofs.FirstCase.{none_met, refusal_later}
use Rattle.calls.proofs.begin_refusal.Goals as goal

pub returns-clause-refused : goal.returns-clause-refused
returns-clause-refused c =
    let s = c.args in
    let asked = rw (to_z-of_z w32 s.capacity c.ranges.capacity, to_z-of_z w32 s.budget c.ranges.budget) at c.in_ok-asked_refusal.ensures in
    let size = rw (to_z-of_z w32 s.capacity c.ranges.capacity) at c.size_refusal.ensures.refused in
    size ∙ sym (refusal_later (asked_cases s.settings s.capacity s.budget) (size_of s.words.now (nat_abs s.capacity) s.table_length s.list_length) (none_met (asked_cases s.settings s.capacity s.budget) tt (sym asked)))
