-- `reached::covered` meets its contract.
use Rattle.semantics.proofs.Prelude.{◌≡◌, refl, sym, ap, ◌∙◌, Bool, true, false, List, ℕ, ◌+◌, ◌*◌, ◌<◌, ltb-true, sub-zero, arith, ℤ}
use Rattle.semantics.specs.Lists.{some_of}
use Rattle.state.specs.declared.Layout.{Layout}
use Rattle.state.specs.Rows.{row_of, row_leq, rows_of}
use Rattle.reached.specs.Reached.{lies_from}
use Rattle.reached.specs.Links.{chain_in, chains_of, Passed}
use Rattle.reached.proofs.SlotLoops.{slot_tested}
use Rattle.reached.proofs.SlotChains.{passed_rows, passed_test}
use Rattle.reached.proofs.covered.Goals as goal

whole : (y : Layout) (used : ℕ) (e t : List ℤ) → lies_from y used e t 0 ≡ some_of (row_leq e) (rows_of y used t)
whole y used e t = let z : 0 * y.stride ≡ 0 = omega arith in rw (z, sub-zero used)

-- a slot s, whose row is r, is tested
turn : (y : Layout) (used : ℕ) (e t r : List ℤ) (s s' : ℕ) (b : Bool) → s < used → s' ≡ s → r ≡ row_of y s' t → row_leq e r ≡ b
    → lies_from y used e t s ≡ elim b [ true ↦ true | false ↦ lies_from y used e t (s + 1) ]
turn y used e t r s s' b below same is_row h = slot_tested y used e t s b below (ap (row_leq e) (sym (is_row ∙ ap (λ (n : ℕ). row_of y n t) same)) ∙ h)

pub loop-scan-init : goal.loop-scan-init
loop-scan-init c =
    let a = c.args in
    let t = a.table.now in
    let e = a.e.now in
    let m = c.first-id.result.0 in
    let p : Passed (chains_of a.layout a.used t) (chain_in e) 0 m = rw c.location_of.ensures.location at (c.first-id.ensures (chains_of a.layout a.used t) c.requires.linked) in
    passed_test a.layout a.used e t 0 m (omega arith) (passed_rows a.layout a.used e t t 0 m p refl)

pub returns-in-None : goal.returns-in-None
returns-in-None c =
    let a = c.args in
    let t = a.table.now in
    let e = a.e.now in
    let s = c.loop-scan.id.0 in
    let below : s < a.used = ltb-true s a.used (sym c.is_below.ensures ∙ c.loop-scan-test.true) in
    sym (sym (whole a.layout a.used e t) ∙ c.loop-scan.invariant ∙ turn a.layout a.used e t c.row_of.result.now s c.slot-slot.result.id.0 true below c.slot-slot.ensures.id c.row_of.ensures.row c.in-None.ensures)

pub loop-scan-preserved : goal.loop-scan-preserved
loop-scan-preserved c =
    let a = c.args in
    let t = a.table.now in
    let e = a.e.now in
    let s = c.loop-scan.id.0 in
    let below : s < a.used = ltb-true s a.used (sym c.is_below.ensures ∙ c.loop-scan-test.true) in
    let here = ap (λ (n : ℕ). lies_from a.layout a.used e t (n + 1)) (sym c.slot-slot.ensures.id) in
    c.loop-scan.invariant
    ∙ turn a.layout a.used e t c.row_of.result.now s c.slot-slot.result.id.0 false below c.slot-slot.ensures.id c.row_of.ensures.row c.in-Some.ensures.1
    ∙ here ∙ c.on_from-id.ensures.apart
