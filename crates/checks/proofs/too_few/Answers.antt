-- `checks::too_few` meets its contract.
use Rattle.semantics.proofs.Prelude.{◌∙◌, ◌||◌, ◌*◌, ltb, ap}
use Rattle.state.specs.Rows.{layout_of}
use Rattle.state.proofs.Layouts.{is_layout}
use Rattle.checks.proofs.too_few.Goals as goal

pub returns : goal.returns
returns c =
    let a = c.args in
    let laid = is_layout a.chart.now _ (c.layout_of-stride.ensures.layout ∙ ap layout_of c.words.ensures.words) in
    λ j. ltb a.table_length (a.capacity * laid.stride j) || ltb a.list_length a.capacity
