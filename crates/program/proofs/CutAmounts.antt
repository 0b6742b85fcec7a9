-- The sizes of capacity and budget, and a count of moves, are judged alike of a number and of the number cut. Assumes nothing.
use Rattle.semantics.proofs.Prelude.{◌≡◌, refl, sym, ap, ◌∙◌, Bool, true, false, not, [], ◌∷◌, List, Option, none, some, ℕ, suc, ◌<◌, arith, leb, ℤ, pos, negsuc, nat_abs, lt-leb, and-false}
use Rattle.semantics.specs.Layout.{most_slots, most_iterations, most_moves}
use Rattle.semantics.specs.Text.{number_of}
use Rattle.semantics.specs.Listing.{refused_text}
use Rattle.semantics.specs.Reading.{Res, fail, ok, if_ok, read}
use Rattle.semantics.specs.RunListing.{moves_ok}
use Rattle.semantics.specs.Algorithm.{allowed}
use Rattle.semantics.specs.Memory.{capacity_ok}
use Rattle.semantics.specs.Outcomes.{case, refusal}
use Rattle.semantics.specs.Program.{Go, unless, sized, amounts, print_run, print_search, search_output}
use Rattle.semantics.specs.declared.Settings.{Settings}
use Rattle.std.specs.Prelude.{Option as Answer, None, Some}
use Rattle.text.specs.Fields.{number_cut, clamp, number_read, number_said}
use Rattle.text.proofs.Digits.{by_size}

-- of numbers below 0 and beyond hi, which is below where numbers are cut, the same is said
cut : {A : Type 0} (hi : ℕ) → hi < number_cut → (f : ℤ → A) (x : A) → ((n : ℕ) → f (negsuc n) ≡ x) → ((n : ℕ) → leb n hi ≡ false → f (pos n) ≡ x) → (z : ℤ) → f (clamp z) ≡ f z
cut hi h f x low high (negsuc k) = low _ ∙ sym (low k)
cut hi h f x low high (pos k) = by_size number_cut (suc hi) (omega arith) (λ m. f (pos m)) x (λ m p. high m (lt-leb m hi (omega arith))) k

-- refused by 13 at the latest
refused_by_then : {A : Type 0} (x y : Bool) (r : Res A) → let n = refusal (case 11 x ∷ case 12 y ∷ case 13 true ∷ []) in unless n r ≡ fail n
refused_by_then true y r = refl
refused_by_then false true r = refl
refused_by_then false false r = refl

sized_cut : (s : Settings) (r a : ℤ) → sized s (clamp r) (clamp a) ≡ sized s r a
sized_cut s r a =
    let x = not (capacity_ok r) in
    let y = not (allowed s.merge s.stop) in
    let asked : ℤ → Res Go = λ a. ok (record { settings = s; capacity = r; budget = a }) in
    cut most_slots (omega arith) (λ r. sized s r (clamp a)) (fail 11) (λ n. refl) (λ n e. simp (e, and-false)) r
    ∙ cut most_iterations (omega arith) (λ a. sized s r a) (fail (refusal (case 11 x ∷ case 12 y ∷ case 13 true ∷ [])))
    (λ n. refused_by_then x y (asked (negsuc n))) (λ n e. rw (e, and-false) (refused_by_then x y (asked (pos n)))) a

pub amounts_cut : (s : Settings) (p q : Option ℤ) → amounts s (number_said (number_read p)) (number_said (number_read q)) ≡ amounts s p q
unfolding number_said number_read if_ok
amounts_cut s none q = refl
amounts_cut s (some r) none = refl
amounts_cut s (some r) (some a) = sized_cut s r a

-- ---- what is printed of a search, by its number as it was read

module _ (k chart : List ℕ) (r : Answer ℤ) (answered : r ≡ number_read (number_of k)) where
  search_said : search_output k chart ≡ print_search (number_said r) chart
  unfolding search_output number_said number_read
  search_said = go (number_of k) ∙ ap (λ (n : Answer ℤ). print_search (number_said n) chart) (sym answered)
    where
      go : (o : Option ℤ) → print_search o chart ≡ print_search (number_said (number_read o)) chart
      go none = refl
      go (some z) = sym (cut most_moves (omega arith) (λ z. print_search (some z) chart) (refused_text 30 0) (λ n. refl) (λ n h. rw (h, and-false)) z)

  pub no_number : r ≡ None → search_output k chart ≡ refused_text 6 0
  unfolding number_said
  no_number e = search_said ∙ rw e

  pub out_of_range : (moves : ℤ) → r ≡ Some moves → moves_ok moves ≡ false → search_output k chart ≡ refused_text 30 0
  unfolding number_said
  out_of_range moves e t = search_said ∙ rw (e, t)

  pub in_range : (moves : ℤ) → r ≡ Some moves → moves_ok moves ≡ true → search_output k chart ≡ print_run (nat_abs moves) (read chart)
  unfolding number_said
  in_range moves e t = search_said ∙ rw (e, t)
