-- `checks::edge_joins` meets its contract: no edge, one past the last, or one of the chart.
use Rattle.semantics.proofs.Prelude.{◌≡◌, sym, ap, ◌∙◌, ◌&&◌, ◌+◌, ◌-◌, ◌*◌, ◌≤◌, ◌<◌, arith, eqb, eqb-true, eqb-false, leb-true, leb-false}
use Rattle.semantics.specs.Layout.{edge_size}
use Rattle.semantics.specs.Encoding.{edge_count}
use Rattle.chart.specs.Encoded.{edges_at}
use Rattle.chart.proofs.Places.{edges_near}
use Rattle.checks.proofs.Origins.{joins_at, joins_past}
use Rattle.checks.proofs.edge_joins.Goals.{then-is_none-via-then-is_none, then-is_none-via-else-is_none+then-not-is_within}
use Rattle.checks.proofs.edge_joins.Goals as goal

pub returns-then-is_none : goal.returns-then-is_none
returns-then-is_none c =
    elim c.then-is_none.branch [
      | then-is_none-via-then-is_none w ↦ rw (eqb-true _ _ (sym c.is_none.ensures ∙ w.if-is_none.true))
      | then-is_none-via-else-is_none+then-not-is_within w ↦
          let past : edge_count c.args.chart.now < c.args.edge.0 =
          omega (arith, leb-false _ _ (sym w.is_within.ensures ∙ w.if-not-is_within.true), w.edge_count.ensures.count ∙ ap edge_count c.words-words.ensures.words) in
          sym (joins_past c.args.chart.now c.args.edge.0 c.args.from.0 c.args.to.0 past)
    ]

pub edge_of-row-requires : goal.edge_of-row-requires
edge_of-row-requires c =
    let some : 1 ≤ c.args.edge.0 = omega (arith, eqb-false _ _ (sym c.is_none.ensures ∙ c.if-is_none.false)) in
    let within = rw c.words-words.ensures.words at c.edge_count.ensures.count in
    let near = edges_near c.args.chart.now c.words-words.ensures.in_form in
    let at = rw c.words-words.ensures.words at c.first_edge.ensures.place in
    (omega (arith, near, at), some, omega (arith, leb-true _ _ (sym c.is_within.ensures ∙ c.if-not-is_within.false), within, near))

pub edge_to-requires : goal.edge_to-requires
edge_to-requires c =
    let a = c.args in
    let within = rw c.words-words.ensures.words at c.edge_count.ensures.count in
    let at = rw c.words-words.ensures.words at c.first_edge.ensures.place in
    omega (arith, c.edge_of-row.ensures.place, at, leb-true _ _ (sym c.is_within.ensures ∙ c.if-not-is_within.false), within, edges_near a.chart.now c.words-words.ensures.in_form)

pub returns : goal.returns
returns c =
    let a = c.args in
    let ws = c.words-words.ensures.words in
    let some : 1 ≤ a.edge.0 = omega (arith, eqb-false _ _ (sym c.is_none.ensures ∙ c.if-is_none.false)) in
    let within : a.edge.0 ≤ edge_count a.chart.now = omega (arith, leb-true _ _ (sym c.is_within.ensures ∙ c.if-not-is_within.false), rw ws at c.edge_count.ensures.count) in
    let place : c.edge_of-row.result.at ≡ edges_at a.chart.now + edge_size * (a.edge.0 - 1) = omega (arith, c.edge_of-row.ensures.place, rw ws at c.first_edge.ensures.place) in
    (λ j. c.eq.ensures j && c.eq-2.ensures j)
    ∙ (λ j. eqb (c.edge_from.ensures.location j) a.from.0 && eqb (c.edge_to.ensures.location j) a.to.0)
    ∙ rw ws (sym (joins_at a.chart.now a.edge.0 c.edge_of-row.result.at a.from.0 a.to.0 some within place))
