-- `analysis::visit_all` meets its contract.
use Rattle.semantics.proofs.Prelude.{◌≡◌, sym, ap, ◌∙◌, List, [], ◌++◌, ℕ, suc, ◌+◌, ◌-◌, ◌≤◌, ◌<◌, max, arith, leb-true, ℤ, length, get_or}
use Rattle.semantics.specs.declared.Settings.{Settings}
use Rattle.semantics.specs.Algorithm.{Origin, Out, then, taking, brought, visit, visit_all, takers}
use Rattle.state.specs.declared.Layout.{Layout}
use Rattle.state.specs.Rows.{location_in, rows_of, origins_of}
use Rattle.waitlist.specs.Waits.{waits}
use Rattle.reached.proofs.Table.{rows_length}
use Rattle.transfer.specs.Transfer.{edge_at, post_at, post_words, edges_from}
use Rattle.progress.specs.Progress.{out_of}
use Rattle.analysis.specs.Chains.{from_at}
use Rattle.analysis.specs.Loaded.{domain_of}
use Rattle.analysis.proofs.Arrival.{edges_turn, post_is, then_on, then_ended, origins_on, origins_ended}
use Rattle.analysis.proofs.PassedEdges.{passed_over, passed_takers}
use Rattle.analysis.proofs.visit_all.Goals as goal

-- the edge as the rules play it, by its number and its place
out_is : (chart e : List ℤ) (g : ℕ) (z : Settings) (en : List (List ℤ)) (wa : List ℕ) (out : Out (List ℤ)) (id at r r' : ℕ) → id ≡ suc g → at ≡ edge_at chart g → r ≡ r'
    → out ≡ visit (domain_of chart) z r id (post_at chart at e) en wa → out ≡ visit (domain_of chart) z r' (suc g) (post_words chart g e) en wa
out_is chart e g z en wa out id at r r' n p q h =
    let w : post_words chart g e ≡ post_at chart at e = post_is chart g e ∙ ap (λ (k : ℕ). post_at chart k e) (sym p) in
    h ∙ (λ i. visit (domain_of chart) z (q i) (n i) (sym w i) en wa)

-- what comes of the edges after g
module _ (chart : List ℤ) (z : Settings) (r : ℕ) (e : List ℤ) (edges g : ℕ) where
  abbrev rest : List (List ℤ) → List ℕ → Out (List ℤ)
  rest en wa = visit_all (domain_of chart) z r e (edges_from (g + 1) (edges - (g + 1))) en wa

  abbrev rest-takers : List (List ℤ) → List ℕ → List ℕ
  rest-takers en wa = takers (domain_of chart) z r e (edges_from (g + 1) (edges - (g + 1))) en wa

-- a turn, once edge g is played
module _ (chart : List ℤ) (z : Settings) (r : ℕ) (e : List ℤ) (edges g : ℕ) (h : g < edges) (y : Layout) (used : ℕ) (t : List ℤ) (wa : List ℕ) (out : Out (List ℤ))
    (is : out ≡ visit (domain_of chart) z r (suc g) (post_words chart g e) (rows_of y used t) wa) where
  turn : (whole : Out (List ℤ)) → whole ≡ visit_all (domain_of chart) z r e (edges_from g (edges - g)) (rows_of y used t) wa → whole ≡ then out (rest chart z r e edges g)
  turn whole inv =
      inv
      ∙ ap (λ (x : List ℕ). visit_all (domain_of chart) z r e x (rows_of y used t) wa) (edges_turn g edges h)
      ∙ ap (λ (x : Out (List ℤ)). then x (rest chart z r e edges g)) (sym is)

  origins-turn : (before-it whole : List Origin) (slot : ℕ) → whole ≡ before-it ++ brought slot (takers (domain_of chart) z r e (edges_from g (edges - g)) (rows_of y used t) wa)
      → whole ≡ before-it ++ brought slot (taking (suc g) used out (rest-takers chart z r e edges g))
  origins-turn before-it whole slot inv =
      inv
      ∙ ap (λ (x : List ℕ). before-it ++ brought slot (takers (domain_of chart) z r e x (rows_of y used t) wa)) (edges_turn g edges h)
      ∙ (λ i. before-it ++ brought slot (taking (suc g) (rows_length y used t i) (sym is i) (rest-takers chart z r e edges g)))

pub loop-slot-init : goal.loop-slot-init
loop-slot-init c =
    let s = c.args in
    let e = s.copy.now in
    let o = s.outline.now in
    let l = s.list.now in
    let en = rows_of o.layout s.a.used s.table.now in
    let wa = waits s.a.waiting l in
    let id = c.first-id.result.0 in
    let n : o.edges ≡ o.edges - 0 = omega arith in
    let m : id ≡ max 1 (get_or s.outline.now.heads.now (location_in e) 0) = c.first-id.ensures ∙ ap (λ (k : ℕ). max 1 (get_or s.outline.now.heads.now k 0)) c.location_of-location.ensures.location in (
      c.requires.0,
      omega (arith, m),
      ap (λ (k : ℕ). visit_all (domain_of s.outline.now.chart.now) s.a.settings (length l) e (edges_from 0 k) en wa) n
          ∙ passed_over s.outline.now.chart.now s.a.settings (length l) e o.edges en wa 0 (id - 1) (omega arith) (λ j lo hi q. c.args.outline.now.outlined.chained.head (location_in e) j lo (omega (arith, m)) q),
      ap (λ (ns : List ℕ). origins_of o.layout s.a.used s.table.now ++ brought s.slot.0 ns)
          (ap (λ (k : ℕ). takers (domain_of s.outline.now.chart.now) s.a.settings (length l) e (edges_from 0 k) en wa) n
          ∙ passed_takers s.outline.now.chart.now s.a.settings (length l) e o.edges en wa 0 (id - 1) (omega arith) (λ j lo hi q. c.args.outline.now.outlined.chained.head (location_in e) j lo (omega (arith, m)) q)),
    )

pub returns-then-has_ended-clause-progressed : goal.returns-then-has_ended-clause-progressed
returns-then-has_ended-clause-progressed c =
    let s = c.args in
    let b = c.loop-slot in
    let v = c.visit-p in
    let edge = c.edge_of-edge in
    let y = s.outline.now.layout in
    let edges = s.outline.now.edges in
    let g = b.id.0 - 1 in
    let wa = waits b.at.waiting b.list in
    let out = out_of y v.new.table v.new.list v.result in
    let inside : b.id.0 ≤ edges = leb-true _ _ (sym c.is_within.ensures ∙ c.loop-slot-test.true) in
    let number : edge.result.id.0 ≡ suc g = omega (arith, b.invariant.1, edge.ensures.id) in
    let at : edge.result.at ≡ edge_at s.outline.now.chart.now g = omega (arith, c.args.outline.now.outlined.first.at, edge.ensures.place) in
    let is = out_is s.outline.now.chart.now s.copy.now g b.at.settings (rows_of y b.at.used b.table) wa out _ _ _ _ number at b.auto.list v.ensures.progressed.out in
    let over = sym c.has_ended.ensures ∙ c.if-has_ended.true in
    let whole = turn s.outline.now.chart.now b.at.settings (length s.list.now) s.copy.now edges g (omega (arith, b.invariant.1, inside)) y b.at.used b.table wa out is _ b.invariant.2 in
    record { out = sym (whole ∙ then_ended _ _ _ v.result.exit over); kept = v.ensures.progressed.kept; linked = v.ensures.progressed.linked }

pub returns-then-has_ended-clause-origins : goal.returns-then-has_ended-clause-origins
returns-then-has_ended-clause-origins c =
    let s = c.args in
    let b = c.loop-slot in
    let v = c.visit-p in
    let edge = c.edge_of-edge in
    let y = s.outline.now.layout in
    let edges = s.outline.now.edges in
    let g = b.id.0 - 1 in
    let wa = waits b.at.waiting b.list in
    let out = out_of y v.new.table v.new.list v.result in
    let inside : b.id.0 ≤ edges = leb-true _ _ (sym c.is_within.ensures ∙ c.loop-slot-test.true) in
    let number : edge.result.id.0 ≡ suc g = omega (arith, b.invariant.1, edge.ensures.id) in
    let at : edge.result.at ≡ edge_at s.outline.now.chart.now g = omega (arith, c.args.outline.now.outlined.first.at, edge.ensures.place) in
    let is = out_is s.outline.now.chart.now s.copy.now g b.at.settings (rows_of y b.at.used b.table) wa out _ _ _ _ number at b.auto.list v.ensures.progressed.out in
    let over = sym c.has_ended.ensures ∙ c.if-has_ended.true in
    let before-it = origins_of y b.at.used b.table in
    let after-it = origins_of y v.result.used v.new.table in
    let noted : after-it ≡ before-it ++ brought s.slot.0 (taking (suc g) b.at.used out (λ en wa. [])) =
    v.ensures.origins ∙ (λ i. before-it ++ brought s.slot.0 (taking (number i) b.at.used (sym v.ensures.progressed.out i) (λ en wa. []))) in
    let whole = origins-turn s.outline.now.chart.now b.at.settings (length s.list.now) s.copy.now edges g (omega (arith, b.invariant.1, inside)) y b.at.used b.table wa out is before-it _ s.slot.0 b.invariant.3 in
    sym (whole ∙ origins_ended _ _ before-it after-it _ _ _ (rest-takers s.outline.now.chart.now b.at.settings (length s.list.now) s.copy.now edges g) v.result.exit over noted)

pub loop-slot-preserved : goal.loop-slot-preserved
loop-slot-preserved c =
    let s = c.args in
    let b = c.loop-slot in
    let v = c.visit-p in
    let edge = c.edge_of-edge in
    let y = s.outline.now.layout in
    let edges = s.outline.now.edges in
    let g = b.id.0 - 1 in
    let r = length s.list.now in
    let wa = waits b.at.waiting b.list in
    let out = out_of y v.new.table v.new.list v.result in
    let inside : b.id.0 ≤ edges = leb-true _ _ (sym c.is_within.ensures ∙ c.loop-slot-test.true) in
    let number : edge.result.id.0 ≡ suc g = omega (arith, b.invariant.1, edge.ensures.id) in
    let at : edge.result.at ≡ edge_at s.outline.now.chart.now g = omega (arith, c.args.outline.now.outlined.first.at, edge.ensures.place) in
    let is = out_is s.outline.now.chart.now s.copy.now g b.at.settings (rows_of y b.at.used b.table) wa out _ _ _ _ number at b.auto.list v.ensures.progressed.out in
    let going = sym c.has_ended.ensures ∙ c.if-has_ended.false in
    let before-it = origins_of y b.at.used b.table in
    let after-it = origins_of y v.result.used v.new.table in
    let noted : after-it ≡ before-it ++ brought s.slot.0 (taking (suc g) b.at.used out (λ en wa. [])) =
    v.ensures.origins ∙ (λ i. before-it ++ brought s.slot.0 (taking (number i) b.at.used (sym v.ensures.progressed.out i) (λ en wa. []))) in
    let inside-g : g < edges = omega (arith, b.invariant.1, inside) in
    let k : edge.result.id.0 ≡ b.id.0 = edge.ensures.id in
    let en' = rows_of y v.result.used v.new.table in
    let wa' = waits v.result.waiting v.new.list in
    let next = c.next-id.result.0 in
    let later : g + 1 ≤ next - 1 = omega (arith, c.next-id.ensures.later, k, b.invariant.1) in
    let passed = λ (j : ℕ) (lo : g + 1 ≤ j) (hi : j < next - 1) (q : from_at s.outline.now.chart.now j ≡ location_in s.copy.now). c.next-id.ensures.passed j (omega (arith, k, b.invariant.1)) hi (q ∙ sym c.location_of-location.ensures.location) in
    rw c.with_counts-at.ensures (
      record { kept = v.ensures.progressed.kept; allowed = b.invariant.0.allowed; row = b.invariant.0.row; linked = v.ensures.progressed.linked },
      omega (arith, c.next-id.ensures.later, k),
      turn s.outline.now.chart.now b.at.settings r s.copy.now edges g inside-g y b.at.used b.table wa out is _ b.invariant.2
          ∙ then_on _ _ _ v.result.exit going
          ∙ passed_over s.outline.now.chart.now b.at.settings r s.copy.now edges en' wa' (g + 1) (next - 1) later passed,
      origins-turn s.outline.now.chart.now b.at.settings r s.copy.now edges g inside-g y b.at.used b.table wa out is before-it _ s.slot.0 b.invariant.3
          ∙ origins_on _ _ before-it after-it _ _ _ (rest-takers s.outline.now.chart.now b.at.settings r s.copy.now edges g) v.result.exit going noted
          ∙ ap (λ (ns : List ℕ). after-it ++ brought s.slot.0 ns) (passed_takers s.outline.now.chart.now b.at.settings r s.copy.now edges en' wa' (g + 1) (next - 1) later passed),
    )
