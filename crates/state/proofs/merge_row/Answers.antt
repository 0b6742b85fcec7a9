-- `state::merge_row` meets its contract.
use Rattle.semantics.proofs.Prelude.{◌≡◌, sym, false, rules}
use Rattle.state.specs.Rows.{same_place}
use Rattle.state.proofs.RowLoops.{same_refl}
use Rattle.state.proofs.merge_row.Goals as goal

pub returns-then-e-s-clause-same : goal.returns-then-e-s-clause-same
returns-then-e-s-clause-same c =
    let ne : same_place c.args.e.now c.args.s.now ≡ false = search rules in
    rw ne (sym (same_refl c.args.s.now))
