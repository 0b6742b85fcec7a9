-- What the words `none` and `run` in the output of a search promise. Assumes nothing.
use Rattle.semantics.proofs.Prelude.{◌≡◌, refl, ap, ◌⊎◌, inl, inr, Bool, true, false, not, List, [], ◌∷◌, Option, none, some, ℕ, arith, T, get_or, take, ℤ, nat_abs}
use Rattle.semantics.specs.Lists.{pick}
use Rattle.semantics.specs.Text.{bytes, line_of, number_of}
use Rattle.semantics.specs.Chart.{Chart, State}
use Rattle.semantics.specs.Reading.{Reading, refused, accepted, read}
use Rattle.semantics.specs.Listing.{refused_text}
use Rattle.semantics.specs.Search.{ErrorRun, first_run, Choice, explicit}
use Rattle.semantics.specs.RunListing.{found_text, run_text, moves_ok, too_wide}
use Rattle.semantics.specs.Program.{print_run, print_search, search_output}
use Rattle.semantics.specs.ProgramSafe.{NoneErrs, RunErrs, ProgramSearch}
use Rattle.semantics.proofs.Bools.{to_true, failed}
use Rattle.semantics.proofs.RealRuns.{real_runs}

-- the first byte
abbrev head : List ℕ → ℕ
head l = get_or l 0 0

-- a text that begins with other bytes
not_refused : (out : List ℕ) → head out ≡ 114 → get_or out 1 0 ≡ 101 → (take 4 out ≡ bytes "none" → ⊥) × (take 3 out ≡ bytes "run" → ⊥)
not_refused [] h e = absurd (omega arith)
not_refused (x ∷ []) h e = absurd (omega arith)
not_refused (x ∷ y ∷ out) h e = (
  λ p. let z : x ≡ 110 = ap head p in omega arith,
  λ p. let z : y ≡ 117 = ap (λ (l : List ℕ). get_or l 1 0) p in omega arith,
)

pub program_search : (k input : List ℕ) (z : ℤ) → ProgramSearch k input z
unfolding search_output run_text line_of
program_search k input z = record { says_none = λ e h. (by_number e).0 h; says_run = λ e h. (by_number e).1 h; answered = answered }
  where
    Both : List ℕ → Type 0
    Both out = (take 4 out ≡ bytes "none" → NoneErrs input (nat_abs z)) × (take 3 out ≡ bytes "run" → RunErrs input out (nat_abs z))

    by_refusal : (n l : ℕ) → Both (refused_text n l)
    by_refusal n l = let r = not_refused (refused_text n l) refl refl in (λ h. absurd (r.0 h), λ h. absurd (r.1 h))

    by_found : (c : Chart) → read input ≡ accepted c → (o : Option (ErrorRun Choice State)) → first_run (explicit c) (nat_abs z) ≡ o → Both (found_text c (nat_abs z) o)
    by_found c e none q = (
      λ h. record { chart = c; reads = e; none_errs = (real_runs c (nat_abs z)).none_errs q },
      λ h. let x : ◌≡◌ {A = ℕ} 110 114 = ap head h in absurd (omega arith),
    )
    by_found c e (some r) q = (
      λ h. let x : ◌≡◌ {A = ℕ} 114 110 = ap head h in absurd (omega arith),
      λ h. let w = (real_runs c (nat_abs z)).found_runs r q in record { chart = c; reads = e; run = r; shown = refl; execution = w.0; ends = w.1; short = w.2; found = q },
    )

    by_chart : (r : Reading) → read input ≡ r → Both (print_run (nat_abs z) r)
    by_chart (refused n l) e = by_refusal n l
    by_chart (accepted c) e = go (too_wide c)
      where
        go : (b : Bool) → Both (pick b (refused_text 31 0) (run_text c (nat_abs z)))
        go true = by_refusal 31 0
        go false = by_found c e (first_run (explicit c) (nat_abs z)) refl

    by_number : number_of k ≡ some z → Both (print_search (number_of k) input)
    by_number e = rw e (go (moves_ok z))
      where
        go : (b : Bool) → Both (pick b (print_run (nat_abs z) (read input)) (refused_text 30 0))
        go true = by_chart (read input) refl
        go false = by_refusal 30 0

    found_says : (c : Chart) (o : Option (ErrorRun Choice State)) → (take 4 (found_text c (nat_abs z) o) ≡ bytes "none") ⊎ (take 3 (found_text c (nat_abs z) o) ≡ bytes "run")
    found_says c none = inl refl
    found_says c (some r) = inr refl

    answered : number_of k ≡ some z → T (moves_ok z) → (c : Chart) → read input ≡ accepted c → T (not (too_wide c))
        → (take 4 (print_search (number_of k) input) ≡ bytes "none") ⊎ (take 3 (print_search (number_of k) input) ≡ bytes "run")
    answered e m c r w = rw (e, to_true (moves_ok z) m, r, failed (too_wide c) w) (found_says c (first_run (explicit c) (nat_abs z)))
