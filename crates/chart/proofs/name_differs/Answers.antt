-- `chart::name_differs` meets its contract.
use Rattle.semantics.proofs.Prelude.{ap, ◌∙◌, length, take, List, ℤ, w32, to_z-of_z}
use Rattle.std.specs.List.{zip}
use Rattle.semantics.specs.Layout.{location_size}
use Rattle.semantics.specs.Lists.{all}
use Rattle.semantics.specs.Encoding.{several}
use Rattle.chart.specs.Encoded.{name_number, other_row}
use Rattle.chart.proofs.NameNumbers.{rows_by_numbers}
use Rattle.chart.proofs.name_differs.Goals as goal

pub returns : goal.returns
returns c = λ p q.
    let row = c.args.row.now in
    let ns = c.args.numbers.now in
    let rs = several (take location_size) location_size (length ns) c.args.locations.now in
    c.differs.ensures
    ∙ ap (λ k. all (other_row row k) (zip rs ns)) (to_z-of_z w32 c.args.number c.ranges.number ∙ p)
    ∙ ap (λ (l : List ℤ). all (other_row row (name_number row)) (zip rs l)) q
    ∙ rows_by_numbers row (length ns) c.args.locations.now c.requires
