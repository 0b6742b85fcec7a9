-- `search::put_state` meets its contract.
use Rattle.semantics.proofs.Prelude.{ap}
use Rattle.semantics.specs.Encoding.{decode}
use Rattle.semantics.proofs.Encoded.{formed_bounds}
use Rattle.writer.proofs.Written.{writes_then, writes_same}
use Rattle.listing.specs.Pieces.{values_text}
use Rattle.search.proofs.RunPieces.{state_is}
use Rattle.search.proofs.put_state.Goals as goal

pub returns : goal.returns
returns c =
    let a = c.args in
    writes_same
    (state_is (decode a.found.now.chart.now) (formed_bounds a.found.now.chart.now a.found.now.formed).vars a.by.0 a.row.now _ c.requires.ranged c.location_of.ensures.location)
    (writes_then c.decimal.ensures (
    writes_then c.put_name.ensures (
    writes_then (writes_same (ap values_text c.values.ensures) c.put_values.ensures) c.byte.ensures
    )))
