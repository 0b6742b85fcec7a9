-- `checks::InUse::origin_ok` meets its contract: slot 0 apart, and for any other the locations of two slots in use.
use Rattle.semantics.proofs.Prelude.{◌≡◌, sym, ap, ◌∙◌, true, ℕ, ◌<◌, arith, ltb, ltb-true, get_or}
use Rattle.semantics.specs.Encoding.{decode}
use Rattle.semantics.specs.Memory.{states_in, origin_in, joins, locations}
use Rattle.state.specs.Rows.{location_in, row_of, tail_of}
use Rattle.state.proofs.Layouts.{is_layout}
use Rattle.checks.proofs.Origins.{location_at, origin_later}
use Rattle.checks.proofs.InUse.origin_ok.Goals as goal

pub returns : goal.returns
returns c =
    let a = c.args in
    let u = a.self.now in
    let d = decode u.chart.now in
    let t = u.table.now in
    let y = u.layout in
    let s = a.slot.id.0 in
    let ls = locations (states_in d u.used t) in
    let o = origin_in (tail_of y s t) in
    let p = c.origin_parent-parent.result.0 in
    let layout = is_layout u.chart.now y u.laid.0 in
    let parent : p ≡ o.parent = rw c.tail_of-tail.ensures.tail at c.origin_parent-parent.ensures.parent in
    let edge : c.origin_edge-edge.result.0 ≡ o.edge = rw c.tail_of-tail.ensures.tail at c.origin_edge-edge.ensures.edge in
    let is_later : c.is_below.result ≡ true = c.if-not-is_below.false in
    let in_use : p < u.used = omega (arith, ltb-true p s (sym c.is_below.ensures ∙ is_later), c.requires.1) in
    let from : c.location_of-from.result.0 ≡ get_or ls o.parent 0 =
    c.location_of-from.ensures.location ∙ ap location_in c.row_of.ensures.row ∙ ap (λ (i : ℕ). location_in (row_of y i t)) c.slot.ensures.id
    ∙ sym (location_at d y layout u.used p t in_use) ∙ ap (λ (i : ℕ). get_or ls i 0) parent in
    let to : c.location_of-to.result.0 ≡ get_or ls s 0 =
    c.location_of-to.ensures.location ∙ ap location_in c.row_of-2.ensures.row ∙ sym (location_at d y layout u.used s t c.requires.1) in
    let q = ap (λ (i : ℕ). ltb i s) (sym parent) ∙ sym c.is_below.ensures ∙ is_later in
    c.edge_joins.ensures ∙ (λ j. joins d (edge j) (from j) (to j)) ∙ sym (origin_later d ls s o c.if-slot-eq0.false true q)
