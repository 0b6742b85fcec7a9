use Rattle.semantics.proofs.Prelude.{◌≡◌, sym, ap, ◌∙◌, Bool, true, false, List, ℕ, ◌+◌, ◌-◌, ◌*◌, ◌≤◌, arith, ℤ, drop}
use Rattle.semantics.specs.Layout.{edge_size}
use Rattle.semantics.specs.RunListing.{wide_input}
use Rattle.semantics.specs.Encoding.{decode, edge_in, edge_count}
use Rattle.chart.specs.Encoded.{edges_at}
use Rattle.chart.proofs.Places.{edges_near}
use Rattle.descent.proofs.StartingValues.{next_edge, no_edge, some_wide, wide_turn}
use Rattle.descent.proofs.starts.has_wide_input.Goals as goal

-- a turn, at edge n
record Turn (ws : List ℤ) (n at : ℕ) (b : Bool) : Type 0 where
  some : 1 ≤ n
  within : n ≤ edge_count ws
  place : at ≡ edges_at ws + edge_size * (n - 1)
  wide : b ≡ wide_input (edge_in (drop at ws)).op
  left : some_wide (decode ws).edges ≡ some_wide (drop (n - 1) (decode ws).edges)

found : (ws : List ℤ) (n at : ℕ) (b : Bool) → Turn ws n at b → b ≡ true → true ≡ some_wide (decode ws).edges
found ws n at b t e = sym (t.left ∙ wide_turn (decode ws).edges (n - 1) (edge_in (drop at ws)) true (next_edge ws (n - 1) at (omega (arith, t.some, t.within)) t.place) (sym t.wide ∙ e))

passed : (ws : List ℤ) (n at : ℕ) (b : Bool) → Turn ws n at b → b ≡ false → some_wide (decode ws).edges ≡ some_wide (drop n (decode ws).edges)
passed ws n at b t e =
    let next : n - 1 + 1 ≡ n = omega (arith, t.some) in
    t.left ∙ wide_turn (decode ws).edges (n - 1) (edge_in (drop at ws)) false (next_edge ws (n - 1) at (omega (arith, t.some, t.within)) t.place) (sym t.wide ∙ e) ∙ ap (λ (k : ℕ). some_wide (drop k (decode ws).edges)) next

pub edge_of-requires : goal.edge_of-requires
edge_of-requires c =
    let near = edges_near c.args.chart.now c.words-words.ensures.in_form in
    let place = c.first_edge-first.ensures.place ∙ ap edges_at c.words-words.ensures.words in
    (omega arith, omega (arith, c.loop-number.auto.number), omega (arith, c.edge_count-number-end.ensures.small))

pub is_wide-requires : goal.is_wide-requires
is_wide-requires c =
    let near = edges_near c.args.chart.now c.words-words.ensures.in_form in
    let place = c.first_edge-first.ensures.place ∙ ap edges_at c.words-words.ensures.words in
    let count = c.edge_count-number-end.ensures.count ∙ ap edge_count c.words-words.ensures.words in
    omega (arith, c.edge_of.ensures.place)

pub returns-then-is_wide : goal.returns-then-is_wide
returns-then-is_wide c =
    let place = c.first_edge-first.ensures.place ∙ ap edges_at c.words-words.ensures.words in
    let count = c.edge_count-number-end.ensures.count ∙ ap edge_count c.words-words.ensures.words in
    found c.args.chart.now c.loop-number.number c.edge_of.result.at c.is_wide.result (record {
      some = omega (arith, c.loop-number.auto.number);
      within = omega arith;
      place = omega (arith, c.edge_of.ensures.place);
      wide = rw c.words-words.ensures.words at c.is_wide.ensures;
      left = c.loop-number.invariant;
    }) c.if-is_wide.true

pub loop-number-preserved : goal.loop-number-preserved
loop-number-preserved c =
    let place = c.first_edge-first.ensures.place ∙ ap edges_at c.words-words.ensures.words in
    let count = c.edge_count-number-end.ensures.count ∙ ap edge_count c.words-words.ensures.words in
    let next : c.loop-number.number + 1 - 1 ≡ c.loop-number.number = omega arith in
    rw next (passed c.args.chart.now c.loop-number.number c.edge_of.result.at c.is_wide.result (record {
      some = omega (arith, c.loop-number.auto.number);
      within = omega arith;
      place = omega (arith, c.edge_of.ensures.place);
      wide = rw c.words-words.ensures.words at c.is_wide.ensures;
      left = c.loop-number.invariant;
    }) c.if-is_wide.false)

-- there is no edge
pub returns : goal.returns
returns c =
    let count = c.edge_count-number-end.ensures.count ∙ ap edge_count c.words-words.ensures.words in
    let start = c.loop-number.auto in
    sym (c.loop-number.invariant ∙ ap some_wide (no_edge c.args.chart.now (c.loop-number.number - 1) (omega (arith, start.number, start.number-end))))

-- the last is not wide either
pub returns-else-is_wide : goal.returns-else-is_wide
returns-else-is_wide c =
    let place = c.first_edge-first.ensures.place ∙ ap edges_at c.words-words.ensures.words in
    let count = c.edge_count-number-end.ensures.count ∙ ap edge_count c.words-words.ensures.words in
    let last = passed c.args.chart.now c.loop-number.number c.edge_of.result.at c.is_wide.result (record {
      some = omega (arith, c.loop-number.auto.number);
      within = omega arith;
      place = omega (arith, c.edge_of.ensures.place);
      wide = rw c.words-words.ensures.words at c.is_wide.ensures;
      left = c.loop-number.invariant;
    }) c.if-is_wide.false in
    sym (last ∙ ap some_wide (no_edge c.args.chart.now c.loop-number.number (omega arith)))
