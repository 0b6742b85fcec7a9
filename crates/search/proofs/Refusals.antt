-- What a search that nothing refuses may rely on, and what the call leaves. Assumes nothing.
use Rattle.semantics.proofs.Prelude.{◌≡◌, refl, sym, ap, List, ℕ, zero, suc, ◌≤◌, T, ℤ, nat_abs, length}
use Rattle.semantics.specs.Layout.{most_moves}
use Rattle.semantics.specs.declared.Refusal.{Refusal}
use Rattle.semantics.specs.Refusals.{number_of}
use Rattle.semantics.specs.Encoding.{decode, well_formed}
use Rattle.semantics.specs.RunListing.{run_text, moves_ok}
use Rattle.semantics.specs.Outcomes.{refusal, refused_by, searched, search_outcome}
use Rattle.semantics.proofs.Bools.{passed}
use Rattle.semantics.proofs.RunShort.{moves_few}
use Rattle.semantics.proofs.FirstCase.{none_met, refusal_later, sooner}
use Rattle.search.specs.Refusals.{early_cases, late_cases, shown}
use Rattle.checks.proofs.Numbered.{numbered}

refused_stays : {n : ℕ} (text space : List ℕ) (r : ℕ) → r ≡ n → (r ≡ 0 → ⊥) → record { answer = refused_by r 0; space = space } ≡ searched n text space
refused_stays text space zero e h = absurd (h refl)
refused_stays text space (suc r) e h = ap (λ (i : ℕ). searched i text space) e

module _ (words : List ℤ) (k : ℤ) (space : List ℕ) where
  abbrev pub text : List ℕ
  text = run_text (decode words) (nat_abs k)

  -- none of 30, 20 and 31 holds
  pub record Passes : Type 0 where
    pub moves : nat_abs k ≤ most_moves
    pub chart : T (well_formed words)

  pub passes : refusal (early_cases k words) ≡ 0 → Passes
  passes e =
      let p = none_met (early_cases k words) tt e in
      record { moves = moves_few k (passed (moves_ok k) p.0); chart = passed (well_formed words) p.1.0 }

  -- one does
  pub search_refused : (r : Refusal) → number_of r ≡ refusal (early_cases k words) → record { answer = refused_by (number_of r) 0; space = space } ≡ search_outcome words k space
  unfolding search_outcome
  search_refused r e = refused_stays text space (number_of r) (sooner (early_cases k words) (late_cases (length space) text) (number_of r) e (numbered r)) (numbered r)

  -- 15 is left
  pub search_through : refusal (early_cases k words) ≡ 0 → shown text space ≡ search_outcome words k space
  unfolding search_outcome
  search_through e = ap (λ (i : ℕ). searched i text space) (sym (refusal_later (early_cases k words) (late_cases (length space) text) (none_met (early_cases k words) tt e)))
