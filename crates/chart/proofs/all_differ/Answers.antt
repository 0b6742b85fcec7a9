-- `chart::all_differ` meets its contract.
use Rattle.semantics.proofs.Prelude.{◌∙◌, ◌+◌, ◌*◌, get_or, pos, SFits, w32, to_z-of_z, length-drop, rules}
use Rattle.semantics.specs.Layout.{location_size}
use Rattle.words.proofs.Rows.{tail}
use Rattle.chart.proofs.NameNumbers.{differ_turn}
use Rattle.chart.proofs.all_differ.Goals as goal

pub loop-i-preserved : goal.loop-i-preserved
loop-i-preserved c =
    let l = c.loop-i in
    let ws = c.args.locations.now in
    let ns = c.args.numbers.now in
    let fits : SFits w32 (get_or ns l.i (pos 0)) = search rules in
    let e = rw (to_z-of_z w32 (get_or ns l.i (pos 0)) fits, tail ws (location_size * (l.i + 1)), tail ns (l.i + 1), length-drop (l.i + 1) ns, c.row_at-row.ensures) at c.differs-ok.ensures in
    l.invariant ∙ differ_turn ns ws l.i c.loop-i-test.true c.requires.0 c.requires.1 l.ok c.differs-ok.result e
