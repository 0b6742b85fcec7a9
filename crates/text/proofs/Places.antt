-- Where a line ends. Assumes nothing.
use Rattle.semantics.proofs.Prelude.{◌≡◌, ap, ◌∙◌, ⊎_elim, List, ℕ, ◌-◌, ◌≤◌, ◌<◌, min, arith, length, take, drop, length-drop, drop_of_length-le}
use Rattle.words.proofs.Rows.{tail}
use Rattle.text.proofs.LineEnds.{up_to_le}
use Rattle.text.proofs.Digits.{lt_or_ge}
use Rattle.text.specs.Places.{end_of}

module _ (text : List ℕ) (at : ℕ) where
  pub ends_within : at < length text → end_of text at ≤ length text
  ends_within h = let u = up_to_le 10 (drop at text) in let l = length-drop at text in omega (arith, u, l)

  -- what is left of a text from a place that may be past its end
  pub left_from : take (length text - min at (length text)) (drop (min at (length text)) text) ≡ drop at text
  left_from =
      tail text (min at (length text))
      ∙ ⊎_elim
      (λ h. let e : min at (length text) ≡ at = omega arith in ap (λ (n : ℕ). drop n text) e)
      (λ h. rw (drop_of_length-le text {i = min at (length text)} (omega arith), drop_of_length-le text {i = at} h))
      (lt_or_ge at (length text))
