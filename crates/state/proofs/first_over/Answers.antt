-- `state::first_over` meets its contract.
use Rattle.semantics.proofs.Prelude.{◌≡◌, true}
use borrow.Author.Tests.{tests}
use Rattle.std.proofs.Common.{rules}
use Rattle.std.proofs.lemmas.Iterator.{YieldsList-from_slice, YieldsList-from_zip}
use Rattle.std.proofs.lemmas.Iterator.Search.{position_from_yields_List}
use Rattle.state.specs.Rows.{values_of, same_place}
use Rattle.state.proofs.FirstOver.{over, row_under, row_over}
use Rattle.state.proofs.first_over.Goals as goal

pub returns-in_err-over : goal.returns-in_err-over
returns-in_err-over c =
    let e = c.args.e.now in
    let s = c.args.s.now in
    let same : same_place e s ≡ true = search rules in
    let at = position_from_yields_List over c.position.new.self _ _ c.position.ensures.ran (YieldsList-from_zip (YieldsList-from_slice (values_of e) cc) (YieldsList-from_slice (values_of s) cc)) (λ x b q j. search (rules, tests)) in
    rw c.from_residual.ensures (row_under e s c.requires.0 c.requires.1 same at c.in_err-over.was)

pub returns : goal.returns
returns c =
    let e = c.args.e.now in
    let s = c.args.s.now in
    let same : same_place e s ≡ true = search rules in
    let at = position_from_yields_List over c.position.new.self _ _ c.position.ensures.ran (YieldsList-from_zip (YieldsList-from_slice (values_of e) cc) (YieldsList-from_slice (values_of s) cc)) (λ x b q j. search (rules, tests)) in
    row_over e s c.requires.0 c.requires.1 same at c.in_ok-over.was
