-- `checks::row_ok` meets its contract.
use Rattle.semantics.proofs.Prelude.{◌≡◌, ◌∙◌, ◌&&◌, length, drop, rules, w32, of_z, to_z, to_z-of_z}
use Rattle.semantics.specs.Lists.{all_pairs}
use Rattle.semantics.specs.Layout.{counts_size, variable_size}
use Rattle.semantics.specs.Encoding.{several, var_in}
use Rattle.semantics.specs.Memory.{value_ok, below}
use Rattle.state.specs.Rows.{location_word}
use Rattle.checks.proofs.FormTests.{row_is}
use Rattle.checks.proofs.row_ok.Goals as goal

pub returns : goal.returns
returns c =
    let w : to_z w32 (of_z w32 c.location_word-location.result) ≡ location_word c.args.row.now = to_z-of_z w32 _ (search rules) ∙ c.location_word-location.ensures in
    let v = c.values.ensures in
    (λ j. c.is_below.ensures j && c.values_ok.ensures j)
    ∙ (λ j. below (c.location_count.ensures.count j) (w j) && all_pairs value_ok (several var_in variable_size (length (v j)) (drop counts_size c.args.chart.now)) (v j))
    ∙ row_is c.args.chart.now c.args.row.now c.requires.0
