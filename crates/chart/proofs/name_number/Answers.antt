-- `chart::name_number` meets its contract.
use Rattle.semantics.proofs.Prelude.{◌≡◌, refl, sym, ap, ◌∙◌, ℕ, ◌+◌, ◌-◌, ◌*◌, ◌≤◌, arith, rules, sfits_of, ℤ, pos, nat_abs, drop, SFits, w32, sfits_lit, to_z_pos, to_z-of_z}
use Rattle.semantics.specs.Layout.{name_size, name_place}
use Rattle.semantics.specs.Encoding.{name_in, count}
use Rattle.words.proofs.Words.{bits_eq, bits_ne}
use Rattle.chart.specs.Encoded.{byte_of, number_from}
use Rattle.chart.proofs.Names.{number_ends, number_goes}
use Rattle.chart.proofs.NameNumbers.{small_start, small_now, small_turn}
use Rattle.chart.proofs.name_number.Goals as goal

fits : (n : ℕ) → n ≤ 16777216 → SFits w32 (pos n)
fits n h = record { sfits = omega arith }

pub returns-then-w-eq0 : goal.returns-then-w-eq0
returns-then-w-eq0 c =
    let l = c.loop-i in
    let w = c.word_at-w in
    let q = rw w.ensures at (bits_eq w32 {a = w.result} {b = pos 0} (sfits_of {z = w.result} w.type_inv) (sfits_lit tt) c.if-w-eq0.true) in
    to_z_pos w32 {n = l.n} (omega (arith, small_now l.i l.n l.invariant.1)) ∙ ap pos (number_ends c.args.row.now l.i c.loop-i-test.true _ l.n l.invariant.0 q)

pub loop-i-preserved : goal.loop-i-preserved
loop-i-preserved c =
    let l = c.loop-i in
    let w = c.word_at-w in
    let row = c.args.row.now in
    let q = rw w.ensures at (bits_ne w32 {a = w.result} {b = pos 0} (sfits_of {z = w.result} w.type_inv) (sfits_lit tt) c.if-w-eq0.false) in
    let b : c.from.result ≡ byte_of (count row (l.i + name_place)) = c.from.ensures ∙ c.byte_of.ensures ∙ ap (λ (z : ℤ). byte_of (nat_abs z)) (to_z-of_z w32 _ (sfits_of {z = w.result} w.type_inv) ∙ w.ensures) in (
      number_goes row l.i c.loop-i-test.true _ l.n l.invariant.0 q ∙ ap (λ (k : ℕ). number_from (2 * l.n + k) (name_in (name_size - (l.i + 1)) (drop (l.i + 1 + name_place) row))) (sym b),
      small_turn l.i l.n c.from.result c.loop-i-test.true (search rules) l.invariant.1,
    )

pub returns : goal.returns
unfolding number_from
returns c =
    let l = c.loop-i in
    let e : l.i ≡ name_size = omega arith in
    to_z_pos w32 {n = l.n} (omega (arith, small_now l.i l.n l.invariant.1)) ∙ ap pos (sym (rw e at l.invariant.0))

pub loop-i-init : goal.loop-i-init
loop-i-init c = (refl, small_start)

pub overflow_cast-result : goal.overflow_cast-result
overflow_cast-result c = let l = c.loop-i in fits l.n (small_now l.i l.n l.invariant.1)

pub overflow_mul-n : goal.overflow_mul-n
overflow_mul-n c = let l = c.loop-i in omega (arith, small_now l.i l.n l.invariant.1)

pub overflow_add-n : goal.overflow_add-n
overflow_add-n c = let l = c.loop-i in omega (arith, small_now l.i l.n l.invariant.1)

pub overflow_cast-result-2 : goal.overflow_cast-result-2
overflow_cast-result-2 c = let l = c.loop-i in fits l.n (small_now l.i l.n l.invariant.1)
