-- `text::lines::measure` meets its contract. What is left of the line says, with what was counted, what the whole of it is.
use Rattle.semantics.proofs.Prelude.{◌≡◌, refl, sym, ap, ◌∙◌, Bool, true, false, ◌&&◌, not, and_assoc, ℕ, ◌+◌, ◌<◌, arith, eqb, length, get_or, take, drop, ◌-◌, min, List}
use mir.Val.{bool_byte}
use Rattle.semantics.specs.Lists.{pick}
use Rattle.semantics.specs.Text.{fields}
use Rattle.semantics.specs.Reading.{none_empty}
use Rattle.text.specs.Fields.{up_to}
use Rattle.text.specs.Places.{line_from, shape_of, ended_after}
use Rattle.text.proofs.LineEnds.{up_to_here, up_to_skip, up_to_end, line_goes_on}
use Rattle.text.proofs.LineFields.{count_cons, well_parted, filled_is}
use Rattle.text.proofs.Places.{left_from}
use Rattle.text.proofs.lines.measure.Invariants.{Along}
use Rattle.text.proofs.lines.measure.Goals as goal

tab_few : (t : Bool) → (bool_byte t ≡ pick t 1 0) × (bool_byte t < 2)
tab_few true = (refl, omega arith)
tab_few false = (refl, omega arith)

-- nothing is left of the line
at_end : (text : List ℕ) (at : ℕ) {rest : List ℕ} {n last i : ℕ} {filled : Bool} → rest ≡ drop at text → Along rest n filled last i → up_to 10 (drop i rest) ≡ 0 → ended_after (at + i) n filled last ≡ shape_of text at
unfolding fields
at_end text at {rest} {n} {last} {i} {filled} left a z =
    let e : at + i ≡ at + up_to 10 rest = omega (arith, a.ends) in
    let k : n ≡ length (fields (line_from rest 0)) = omega (arith, rw z at a.counted) in
    let f : filled && not (eqb last 9) ≡ none_empty (fields (line_from rest 0)) = sym (a.full ∙ rw z) in
    (λ j. record { end = e j; form = record { fields = k j; filled = f j } }) ∙ ap (λ (l : List ℕ). record { end = at + up_to 10 l; form = record { fields = length (fields (line_from l 0)); filled = none_empty (fields (line_from l 0)) } }) left

-- one byte more of it
goes_on : {rest : List ℕ} {n last i : ℕ} {filled : Bool} → Along rest n filled last i → i < length rest → (get_or rest i 0 ≡ 10 → ⊥)
    → (tab : ℕ) → tab ≡ bool_byte (eqb (get_or rest i 0) 9) → Along rest (n + tab) (filled && not (eqb last 9 && eqb (get_or rest i 0) 9)) (get_or rest i 0) (i + 1)
goes_on {rest} {n} {last} {i} {filled} a h q tab t =
    let b = get_or rest i 0 in
    let on = line_goes_on rest i h q in
    let more = ap (λ (l : List ℕ). length (fields l)) on ∙ count_cons b (line_from rest (i + 1)) in
    let few = tab_few (eqb b 9) in
    record {
      ends = omega (arith, a.ends, up_to_skip 10 rest i h q);
      few = omega (arith, a.few, t, few.1);
      counted = omega (arith, a.counted, t, few.0, more);
      full = a.full ∙ rw on (sym (and_assoc filled (not (eqb last 9 && eqb b 9)) (well_parted (eqb b 9) (line_from rest (i + 1)))));
    }

pub loop-n-init : goal.loop-n-init
loop-n-init c = record { ends = omega arith; few = omega arith; counted = omega arith; full = filled_is _ }

module _ (text : List ℕ) (at m : ℕ) (e : m ≡ min at (length text)) where
  abbrev rest : List ℕ
  rest = take (length text - m) (drop m text)

  left : rest ≡ drop at text
  left = ap (λ (m : ℕ). take (length text - m) (drop m text)) e ∙ left_from text at

  stopped : {n last i : ℕ} {filled : Bool} → Along rest n filled last i → up_to 10 (drop i rest) ≡ 0 → ended_after (at + i) n filled last ≡ shape_of text at
  stopped a z = at_end text at left a z

  passed : {n last i : ℕ} {filled : Bool} → Along rest n filled last i → i ≡ length rest → ended_after (at + length rest) n filled last ≡ shape_of text at
  passed {n} {last} {i} {filled} a k = ap (λ (i : ℕ). ended_after (at + i) n filled last) (sym k) ∙ stopped a (up_to_end 10 rest i (omega arith))

pub returns-then-b-eq-LF : goal.returns-then-b-eq-LF
returns-then-b-eq-LF c =
    c.ended.ensures ∙ stopped _ _ _ c.min.ensures c.loop-n.invariant (up_to_here 10 _ c.loop-n.n c.loop-n-test.true c.if-b-eq-LF.true)

pub loop-n-preserved : goal.loop-n-preserved
loop-n-preserved c = goes_on c.loop-n.invariant c.loop-n-test.true c.if-b-eq-LF.false c.from-fields.result c.from-fields.ensures

pub returns : goal.returns
returns c = c.ended-2.ensures ∙ passed _ _ _ c.min.ensures c.loop-n.invariant (omega arith)
