-- Rows in form say the abstract states that are read in them, and the words after them the origins. Assumes nothing.
use Rattle.semantics.proofs.Prelude.{◌≡◌, refl, sym, subst, ◌∙◌, List, ◌∷◌, map, ℕ, zero, suc, ◌*◌, ◌≤◌, arith, T, ℤ, length, take, drop, length-drop, length-take-le}
use Rattle.semantics.specs.Layout.{origin_size}
use Rattle.semantics.specs.Chart.{Chart}
use Rattle.semantics.specs.Memory.{width, stride, tail, state_in, states_in, origin_in, row_ok, slots_ok}
use Rattle.semantics.proofs.MemoryInForm.{row_state, row_back, slot_tail, slots_first, slots_later, row_first, tail_back}
use Rattle.semantics.proofs.Simulate.{AllPairs}
use Rattle.state.specs.declared.Layout.{Layout}
use Rattle.state.specs.Rows.{rows_of, tails_of, origins_of}
use Rattle.state.proofs.Layouts.{LayoutOf}
use Rattle.transfer.proofs.Agree.{Says}

module _ (c : Chart) where
  pub row_says : (e : List ℤ) → T (row_ok c e) → Says c e (state_in e)
  row_says e t = record { words = sym (row_back c e t); ok = row_state c e t }

  pub rows_say : (y : Layout) → LayoutOf c y → (n : ℕ) (t : List ℤ) → T (slots_ok c n t) → AllPairs (Says c) (rows_of y n t) (states_in c n t)
  rows_say y f zero t h = tt
  rows_say y f (suc n) t h =
      let a = row_says (take (width c) t) (row_first c n t h) in
      let b = rows_say y f n (drop (stride c) t) (slots_later c n t h) in (
        subst (λ (w : ℕ). Says c (take w t) (state_in (take (width c) t))) (sym f.wide) a,
        subst (λ (d : ℕ). AllPairs (Says c) (rows_of y n (drop d t)) (states_in c n (drop (stride c) t))) (sym f.stride) b,
      )

  -- the words of an origin that is read in form are its own
  pub tails_say : (y : Layout) → LayoutOf c y → (n : ℕ) (t : List ℤ) → n * stride c ≤ length t → T (slots_ok c n t) → tails_of y n t ≡ map tail (origins_of y n t)
  tails_say y f zero t l h = refl
  tails_say y f (suc n) t l h =
      let ws = take (stride c) t in
      let two : length (drop (width c) ws) ≡ origin_size = length-drop (width c) ws ∙ omega (arith, length-take-le (stride c) t (omega arith)) in
      let here : drop (width c) ws ≡ tail (origin_in (drop (width c) ws)) = sym (tail_back c (drop (width c) ws) two (slot_tail c ws (slots_first c n t h))) in
      let rest = tails_say y f n (drop (stride c) t) (omega (arith, length-drop (stride c) t)) (slots_later c n t h) in
      let first = subst (λ (p : List ℤ). p ≡ tail (origin_in p)) (λ i. drop (sym f.wide i) (take (sym f.stride i) t)) here in
      let later = subst (λ (d : ℕ). tails_of y n (drop d t) ≡ map tail (origins_of y n (drop d t))) (sym f.stride) rest in
      λ i. first i ∷ later i
