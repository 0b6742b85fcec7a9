use Rattle.semantics.proofs.Prelude.{◌≡◌, sym, ap, ◌∙◌, subst, true, false, List, ℕ, ◌∷◌, ◌+◌, ◌-◌, ◌<◌, arith, T, sfits_of, ℤ, pos, ◌+ℤ◌, length, drop, w32, SFits, of_z, to_z, to_z-of_z}
use Rattle.semantics.specs.Encoding.{word_at, decode}
use Rattle.semantics.proofs.Encoded.{formed_bounds}
use Rattle.semantics.proofs.Decoded.{vars_count}
use Rattle.words.proofs.Words.{told}
use Rattle.state.specs.Rows.{values_of, value_at, with_value}
use Rattle.semantics.specs.Encoding.{variable_count, well_formed}
use Rattle.descent.specs.Starts.{Starts, Next, variable_in, first_value, rises}
use Rattle.descent.proofs.StartingValues.{next_variable, no_variable, variable_ok, rises_fits, start_values_length, next_row, PutBack, nothing_put, value_is, put, put_back, counted}
use Rattle.descent.proofs.starts.next_start.Goals as goal

pub loop-k-init : goal.loop-k-init
loop-k-init c =
    let ws = c.args.chart.now in
    let e = c.args.row.now in
    let n = c.variable_count-k.ensures.count ∙ ap variable_count c.words-words.ensures.words in
    let l = start_values_length (decode ws) e c.requires in
    nothing_put (decode ws).vars (values_of e) e c.variable_count-k.result c.requires.words (omega (arith, l, vars_count ws)) (no_variable ws c.variable_count-k.result (omega arith))

-- a turn, at variable k: the row was e, and is `row` with the variables after k put back; x is the value of k
module _ (ws e row : List ℤ) (k : ℕ) (t : T (well_formed ws)) (start : Starts (decode ws) e) (h : k < variable_count ws) (back : PutBack (decode ws).vars (values_of e) row (k + 1)) where
  got : drop k (decode ws).vars ≡ variable_in ws k ∷ drop (k + 1) (decode ws).vars
  got = next_variable ws k h

  inside : k < length (values_of e)
  inside = omega (arith, h, vars_count ws, start_values_length (decode ws) e start)

  module _ (x : ℤ) (fits : SFits w32 x) (read : x ≡ value_at row k) where
    value : x ≡ word_at (values_of e) k
    value = read ∙ value_is (decode ws).vars (values_of e) row k (variable_in ws k) got inside back

    put_first : (r : ℤ) → rises (variable_in ws k).hi (variable_in ws k).init (to_z w32 (of_z w32 x)) ≡ false → r ≡ first_value (variable_in ws k).lo (variable_in ws k).init → PutBack (decode ws).vars (values_of e) (with_value row k r) k
    put_first r n f = rw f (put_back (decode ws).vars (values_of e) row k (variable_in ws k) got inside back (rw (told fits value) at n))

    -- the value goes up by one
    module _ (n : rises (variable_in ws k).hi (variable_in ws k).init (to_z w32 (of_z w32 x)) ≡ true) where
      rising : rises (variable_in ws k).hi (variable_in ws k).init (word_at (values_of e) k) ≡ true
      rising = rw (told fits value) at n

      is_word : SFits w32 (to_z w32 (of_z w32 x) +ℤ pos 1)
      is_word = rw (told fits value) (rises_fits (variable_in ws k) (word_at (values_of e) k) (variable_ok (decode ws).vars k (variable_in ws k) (formed_bounds ws t).vars got) (subst (SFits w32) value fits) rising)

      gone_up : (out : List ℤ) → out ≡ with_value row k (to_z w32 (of_z w32 (to_z w32 (of_z w32 x) +ℤ pos 1))) → Next (decode ws) e out true
      gone_up out p =
          let is = to_z-of_z w32 (to_z w32 (of_z w32 x) +ℤ pos 1) is_word ∙ ap (λ (z : ℤ). z +ℤ pos 1) (told fits value) in
          let q = p ∙ ap (with_value row k) is ∙ put (decode ws).vars (values_of e) row k (variable_in ws k) got inside back (word_at (values_of e) k +ℤ pos 1) in
          next_row (decode ws) e start out _ q (counted (decode ws).vars (values_of e) row k (variable_in ws k) got inside back (formed_bounds ws t).vars (omega (arith, h, vars_count ws)) rising)

pub overflow_add-x : goal.overflow_add-x
overflow_add-x c =
    let k = c.loop-k.k - 1 in
    let n = c.variable_count-k.ensures.count ∙ ap variable_count c.words-words.ensures.words in
    let h : k < variable_count c.args.chart.now = omega arith in
    let at : c.loop-k.k ≡ k + 1 = omega arith in
    let back = subst (PutBack (decode c.args.chart.now).vars (values_of c.args.row.now) c.loop-k.row) at c.loop-k.invariant in
    is_word c.args.chart.now c.args.row.now c.loop-k.row k c.words-words.ensures.in_form c.requires h back c.value_at-x.result (sfits_of c.value_at-x.type_inv) c.value_at-x.ensures (rw c.words-words.ensures.words at (sym c.can_rise.ensures ∙ c.if-can_rise.true))

pub returns-then-can_rise : goal.returns-then-can_rise
returns-then-can_rise c =
    let k = c.loop-k.k - 1 in
    let n = c.variable_count-k.ensures.count ∙ ap variable_count c.words-words.ensures.words in
    let h : k < variable_count c.args.chart.now = omega arith in
    let at : c.loop-k.k ≡ k + 1 = omega arith in
    let back = subst (PutBack (decode c.args.chart.now).vars (values_of c.args.row.now) c.loop-k.row) at c.loop-k.invariant in
    gone_up c.args.chart.now c.args.row.now c.loop-k.row k c.words-words.ensures.in_form c.requires h back c.value_at-x.result (sfits_of c.value_at-x.type_inv) c.value_at-x.ensures (rw c.words-words.ensures.words at (sym c.can_rise.ensures ∙ c.if-can_rise.true)) c.set_value.new.row c.set_value.ensures

pub loop-k-preserved : goal.loop-k-preserved
loop-k-preserved c =
    let k = c.loop-k.k - 1 in
    let n = c.variable_count-k.ensures.count ∙ ap variable_count c.words-words.ensures.words in
    let h : k < variable_count c.args.chart.now = omega arith in
    let at : c.loop-k.k ≡ k + 1 = omega arith in
    let back = subst (PutBack (decode c.args.chart.now).vars (values_of c.args.row.now) c.loop-k.row) at c.loop-k.invariant in
    let first = told (sfits_of {z = c.first_value-first.result} c.first_value-first.type_inv) (rw c.words-words.ensures.words at c.first_value-first.ensures) in
    let put_back = put_first c.args.chart.now c.args.row.now c.loop-k.row k c.words-words.ensures.in_form c.requires h back c.value_at-x.result (sfits_of c.value_at-x.type_inv) c.value_at-x.ensures _ (rw c.words-words.ensures.words at (sym c.can_rise.ensures ∙ c.if-can_rise.false)) first in
    rw c.set_value-in-loop-k.ensures put_back
