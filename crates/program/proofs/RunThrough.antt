-- A search of an accepted chart writes its run, or is refused by 31. Assumes nothing.
use Rattle.semantics.proofs.Prelude.{◌≡◌, refl, ap, ◌∙◌, Bool, true, false, List, ℕ, arith, T, ℤ, nat_abs, length}
use Rattle.std.specs.Prelude.{Result}
use Rattle.semantics.specs.Layout.{listing_bytes}
use Rattle.semantics.specs.Encoding.{decode, well_formed}
use Rattle.semantics.specs.Reading.{accepted}
use Rattle.semantics.specs.RunListing.{moves_ok, too_wide}
use Rattle.semantics.specs.Outcomes.{SearchOutcome, search_outcome}
use Rattle.semantics.specs.Refusals.{listed_of}
use Rattle.semantics.specs.Program.{print_run}
use Rattle.semantics.specs.declared.Refusal.{Refusal}
use Rattle.semantics.proofs.ProgramCalls.{search_goes, search_refused}
use Rattle.program.specs.Responded.{Answered, said_at_line_0}
use Rattle.program.proofs.Said.{answered_text, answered_refusal}

module _ (words : List ℤ) (formed : T (well_formed words)) (k : ℤ) (t : T (moves_ok k)) where
  pub run_answered : (space space' : List ℕ) (r : Result ℕ Refusal) → length space ≡ listing_bytes → listed_of r ≡ (search_outcome words k space).answer → space' ≡ (search_outcome words k space).space
      → Answered (print_run (nat_abs k) (accepted (decode words))) space (said_at_line_0 r) space'
  run_answered space space' r n p q = by_width (too_wide (decode words)) refl
    where
      by_width : (x : Bool) → too_wide (decode words) ≡ x → Answered (print_run (nat_abs k) (accepted (decode words))) space (said_at_line_0 r) space'
      by_width true e =
          let o = search_refused words formed k t space n e in
          rw e (answered_refusal _ space space' r 31 (λ z. omega (arith, z)) (p ∙ ap (λ (x : SearchOutcome). x.answer) o) refl (q ∙ ap (λ (x : SearchOutcome). x.space) o))
      by_width false e =
          let o = search_goes words formed k t space n e in
          rw e (answered_text _ space space' r (p ∙ ap (λ (x : SearchOutcome). x.answer) o) (q ∙ ap (λ (x : SearchOutcome). x.space) o))
