-- `checks::values_ok` meets its contract.
use Rattle.semantics.proofs.Prelude.{◌≡◌, sym, ap, ◌∙◌, Bool, true, false, ◌&&◌, ◌||◌, List, ℕ, suc, ◌+◌, ◌-◌, ◌<◌, arith, ℤ, length, drop, drop_of_length-le, rules, w32, to_z-of_z}
use Rattle.semantics.specs.Lists.{all_pairs}
use Rattle.semantics.specs.Chart.{eq_z, within}
use Rattle.semantics.specs.Layout.{top_word, variable_size, variable_at, high_place}
use Rattle.semantics.specs.Encoding.{several, var_in, word_at}
use Rattle.semantics.specs.Memory.{value_ok}
use Rattle.checks.proofs.FormTests.{values_ok_turn}
use Rattle.checks.proofs.values_ok.Goals as goal

-- the value at i is tested, which says b, and those after it are left
turn : (chart values : List ℤ) (i : ℕ) → i < length values → (whole b r : Bool) → r ≡ b
    → r ≡ (eq_z (word_at values i) top_word || within (word_at chart (variable_at i)) (word_at chart (variable_at i + high_place)) (word_at values i))
    → whole ≡ all_pairs value_ok (several var_in variable_size (length values - i) (drop (variable_at i) chart)) (drop i values)
    → whole ≡ b && all_pairs value_ok (several var_in variable_size (length values - (i + 1)) (drop (variable_at (i + 1)) chart)) (drop (i + 1) values)
turn chart values i h whole b r e said inv =
    let n : length values - i ≡ suc (length values - (i + 1)) = omega (arith, h) in
    let next : variable_at i + variable_size ≡ variable_at (i + 1) = omega arith in
    inv
    ∙ ap (λ (n : ℕ). all_pairs value_ok (several var_in variable_size n (drop (variable_at i) chart)) (drop i values)) n
    ∙ values_ok_turn values i h b chart (variable_at i) (length values - (i + 1)) (sym said ∙ e)
    ∙ ap (λ (n : ℕ). b && all_pairs value_ok (several var_in variable_size (length values - (i + 1)) (drop n chart)) (drop (i + 1) values)) next

-- what the test at i said, of the words at their places
said : {r : Bool} {x y lo lo' hi hi' : ℤ} → r ≡ (eq_z y top_word || within lo' hi' y) → y ≡ x → lo' ≡ lo → hi' ≡ hi → r ≡ (eq_z x top_word || within lo hi x)
said e y lo hi = e ∙ (λ j. eq_z (y j) top_word || within (lo j) (hi j) (y j))

pub returns-then-not-value_ok : goal.returns-then-not-value_ok
returns-then-not-value_ok c =
    sym (turn c.args.chart.now c.args.values.now c.loop-i.i c.loop-i-test.true _ false _ c.if-not-value_ok.true (said c.value_ok.ensures (to_z-of_z w32 (word_at c.args.values.now c.loop-i.i) (search rules)) (to_z-of_z w32 c.variable_low.result (search rules) ∙ c.variable_low.ensures) (to_z-of_z w32 c.variable_high.result (search rules) ∙ c.variable_high.ensures)) c.loop-i.invariant)

pub loop-i-preserved : goal.loop-i-preserved
loop-i-preserved c =
    turn c.args.chart.now c.args.values.now c.loop-i.i c.loop-i-test.true _ true _ c.if-not-value_ok.false (said c.value_ok.ensures (to_z-of_z w32 (word_at c.args.values.now c.loop-i.i) (search rules)) (to_z-of_z w32 c.variable_low.result (search rules) ∙ c.variable_low.ensures) (to_z-of_z w32 c.variable_high.result (search rules) ∙ c.variable_high.ensures)) c.loop-i.invariant

pub returns : goal.returns
returns c =
    let z : length c.args.values.now - c.loop-i.i ≡ 0 = omega arith in
    sym (c.loop-i.invariant ∙ rw (z, drop_of_length-le c.args.values.now c.loop-i-test.false))
