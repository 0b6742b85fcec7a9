-- `chart::name` meets its contract.
use Rattle.semantics.proofs.Prelude.{◌≡◌, ◌+◌, ◌*◌, ◌<◌, length, sym, ap, ◌∙◌, arith, length-take, drop_of_length-le}
use Rattle.semantics.specs.Layout.{name_size, name_place, location_size}
use Rattle.semantics.specs.Encoding.{name_in}
use Rattle.chart.proofs.NameBytes.{bytes_in, name_from, no_name}
use Rattle.words.proofs.Rows.{tail}
use Rattle.chart.specs.Encoded.{locations_at}
use Rattle.chart.proofs.name.Goals as goal

pub returns-then-location_count-l : goal.returns-then-location_count-l
returns-then-location_count-l c = sym (no_name c.args.chart.now c.args.l.0 (omega (arith, c.location_count.ensures)))

pub slice_bounds-result-end-in-Some : goal.slice_bounds-result-end-in-Some
slice_bounds-result-end-in-Some c =
    let ws = c.in-Some.words.now in
    simp length-take (omega (arith, c.name_length.ensures, (bytes_in name_size ws).1))

pub returns-in-Some : goal.returns-in-Some
returns-in-Some c =
    let ws = c.in-Some.words.now in
    let cs = c.args.chart.now in
    let e : c.locations_at.result + location_size * c.args.l.0 + name_place ≡ locations_at cs + location_size * c.args.l.0 + name_place = rw c.locations_at.ensures.place in
    rw c.name_length.ensures ((bytes_in name_size ws).0 ∙ ap (name_in name_size) (c.in-Some.ensures.lookup.0.2 ∙ tail cs _) ∙ sym (name_from cs c.args.l.0 _ e (omega (arith, c.location_count.ensures))))

pub returns-in-None : goal.returns-in-None
returns-in-None c =
    let cs = c.args.chart.now in
    let at = c.locations_at.result + location_size * c.args.l.0 + name_place in
    let e : at ≡ locations_at cs + location_size * c.args.l.0 + name_place = rw c.locations_at.ensures.place in
    let h : length cs < at = omega (arith, c.in-None.ensures.lookup) in
    sym (name_from cs c.args.l.0 at e (omega (arith, c.location_count.ensures)) ∙ ap (name_in name_size) (drop_of_length-le cs {i = at} (omega arith)))
