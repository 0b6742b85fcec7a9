-- `text::digits_in` meets its contract: the digits passed, cut, say as much of the answer as all.
use Rattle.semantics.proofs.Prelude.{◌≡◌, drop, ◌≤◌}
use Rattle.semantics.specs.Text.{digits}
use Rattle.text.specs.Fields.{number_cut, natural_read}
use Rattle.text.proofs.digits_in.Given as goal

abbrev pub invariant-loop-b : goal.invariant-loop-b
invariant-loop-b l = (l.n ≤ number_cut) × (natural_read (digits 0 l.f) ≡ natural_read (digits l.n (drop l.b-index l.f)))
