use Rattle.semantics.proofs.Prelude.{◌≡◌, sym, ap, subst, ◌∙◌, inl, inr, ℕ, ◌-◌, ◌≤◌, ◌<◌, dec_lt, arith, drop}
use Rattle.semantics.specs.Encoding.{edge_in, edge_count}
use Rattle.chart.specs.Encoded.{edges_at}
use Rattle.transfer.specs.Transfer.{edge_at}
use Rattle.descent.specs.Rows.{edge_of}
use Rattle.descent.specs.Distances.{distance_in, NearBy}
use Rattle.descent.proofs.Moves.{leaves}
use Rattle.descent.proofs.DistanceTests.{Asked, edge_asks, is_edge, every_edge, settled_turn}
use Rattle.descent.proofs.distances.lower_by_edges.Goals as goal

pub edge_of-edge-requires : goal.edge_of-edge-requires
edge_of-edge-requires c =
    let place = c.first_edge-first.ensures.place ∙ ap edges_at c.words-words.ensures.words in
    let count = c.edge_count-number.ensures.count ∙ ap edge_count c.words-words.ensures.words in
    edge_asks c.args.chart.now c.words-words.ensures.in_form c.first_edge-first.result c.loop-number.number place (omega (arith, c.loop-number-test.true)) (omega (arith, c.loop-number.auto.number))

pub loop-number-preserved : goal.loop-number-preserved
loop-number-preserved c =
    let ws = c.args.chart.now in
    let ds = c.loop-number.dist in
    let n = c.loop-number.number in
    let e = c.edge_of-edge.result in
    let place = c.first_edge-first.ensures.place ∙ ap edges_at c.words-words.ensures.words in
    let count = c.edge_count-number.ensures.count ∙ ap edge_count c.words-words.ensures.words in
    let is = is_edge ws c.words-words.ensures.in_form c.first_edge-first.result n place (omega (arith, c.loop-number-test.true)) (omega (arith, c.loop-number.auto.number)) e c.edge_of-edge.ensures.id c.edge_of-edge.ensures.place in
    let at = is.at ∙ ap (λ (n : ℕ). edge_at ws (n - 1)) c.edge_of-edge.ensures.id in
    let from = rw c.words-words.ensures.words at c.edge_from.ensures.location in
    let same : distance_in ds (edge_of ws e).edge.from ≡ distance_in ds c.edge_from.result.0 = ap (distance_in ds) (leaves ws e ∙ sym from) in
    settled_turn (Asked ws) (λ k. (n < k) × (k ≤ edge_count ws)) (λ k. (n - 1 < k) × (k ≤ edge_count ws)) c.args.dist.now ds c.lower-still.new.dist c.loop-number.still c.lower-still.result n
    (λ k h. elim (dec_lt n k) [ yes r ↦ inl (r, h.1) | no r ↦ inr (omega (arith, h.0)) ])
    c.loop-number.invariant
    (λ q. let w = c.lower-still.ensures q in (w.0, λ z. subst (λ (k : ℕ). NearBy ws ds (edge_in (drop k ws))) at (c.by_edge-most.ensures (omega (arith, same, w.1)))))

pub returns : goal.returns
returns c =
    λ e. let w = c.loop-number.invariant e in (w.0, every_edge c.args.chart.now c.words-words.ensures.in_form c.loop-number.dist (λ n h z. w.1 n (omega (arith, z, c.loop-number-test.false), h) z))
