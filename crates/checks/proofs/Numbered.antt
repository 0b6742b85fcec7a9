-- A refusal has a number, and 0 is none. Assumes nothing.
use Rattle.semantics.proofs.Prelude.{◌≡◌, arith}
use Rattle.semantics.specs.declared.Refusal.{Refusal}
use Rattle.semantics.specs.declared.Refusal.TheVariants as refusal
use Rattle.semantics.specs.Refusals.{number_of}

pub numbered : (r : Refusal) → number_of r ≡ 0 → ⊥
numbered refusal.TooLong e = absurd (omega (arith, e))
numbered refusal.BadByte e = absurd (omega (arith, e))
numbered refusal.OpenLine e = absurd (omega (arith, e))
numbered refusal.WrongKind e = absurd (omega (arith, e))
numbered refusal.WrongFields e = absurd (omega (arith, e))
numbered refusal.Malformed e = absurd (omega (arith, e))
numbered refusal.OutOfRange e = absurd (omega (arith, e))
numbered refusal.WrongCount e = absurd (omega (arith, e))
numbered refusal.NamedTwice e = absurd (omega (arith, e))
numbered refusal.NotThere e = absurd (omega (arith, e))
numbered refusal.BadCapacity e = absurd (omega (arith, e))
numbered refusal.BadSettings e = absurd (omega (arith, e))
numbered refusal.BadBudget e = absurd (omega (arith, e))
numbered refusal.FewWords e = absurd (omega (arith, e))
numbered refusal.FewBytes e = absurd (omega (arith, e))
numbered refusal.BadChart e = absurd (omega (arith, e))
numbered refusal.BadAnalysis e = absurd (omega (arith, e))
numbered refusal.HasVerdict e = absurd (omega (arith, e))
numbered refusal.Spent e = absurd (omega (arith, e))
numbered refusal.NoAlarm e = absurd (omega (arith, e))
numbered refusal.BadMoves e = absurd (omega (arith, e))
numbered refusal.TooWide e = absurd (omega (arith, e))
