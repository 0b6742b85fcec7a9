-- `checks::lent_ok` meets its contract: the counts first, then all the rest.
use Rattle.semantics.proofs.Prelude.{sym, ap, ◌∙◌, ◌≤◌, ◌*◌, arith, le-leb, mul-le-mul, take, drop, length}
use Rattle.semantics.specs.Encoding.{decode}
use Rattle.semantics.specs.Memory.{zeros}
use Rattle.words.proofs.Rows.{drop_take}
use Rattle.state.specs.Rows.{layout_of}
use Rattle.state.proofs.Layouts.{is_layout, slots_in}
use Rattle.state.proofs.Slots.{place_of}
use Rattle.checks.proofs.FormTests.{lent_passes}
use Rattle.checks.proofs.lent_ok.Goals as goal

pub invariant_of-slots : goal.invariant_of-slots
invariant_of-slots c =
    let a = c.args in
    let d = c.layout_of-layout.result.stride in
    let layout = c.layout_of-layout.ensures.layout ∙ ap layout_of c.words.ensures.words in
    let table = slots_in (is_layout a.chart.now _ layout) a.a.capacity (length a.table.now) c.requires.0.0 in
    let some : a.a.used * d ≤ a.a.capacity * d = mul-le-mul c.if-a-capacity.false (omega arith) in
    record { laid = (layout, c.layout_of-layout.ensures.small); fits = omega (arith, some, table) }

pub slice_bounds-all_zero-end : goal.slice_bounds-all_zero-end
slice_bounds-all_zero-end c =
    slots_in (is_layout c.args.chart.now _ (c.layout_of-layout.ensures.layout ∙ ap layout_of c.words.ensures.words)) c.args.a.capacity (length c.args.table.now) c.requires.0.0

pub returns : goal.returns
returns c =
    let a = c.args in
    let r = a.a in
    let t = a.table.now in
    let y = c.layout_of-layout.result in
    let n = (is_layout a.chart.now _ (c.layout_of-layout.ensures.layout ∙ ap layout_of c.words.ensures.words)).stride in
    let from = place_of y c.slot-from.result c.slot-from.ensures.placed r.used c.slot-from.ensures.id in
    let slots = (rw from at c.all_zero.ensures) ∙ ap zeros (sym (drop_take (r.used * y.stride) (r.capacity * y.stride) t))
    ∙ λ j. zeros (drop (r.used * n j) (take (r.capacity * n j) t)) in
    let list = c.all_zero-2.ensures ∙ ap zeros (sym (drop_take r.waiting r.capacity a.list.now)) in
    lent_passes (decode a.chart.now) r.capacity r.used r.waiting t a.list.now (le-leb _ _ c.if-a-capacity.false) (le-leb _ _ c.if-a.false) c.slots_ok.ensures c.origins_ok.ensures c.waits_ok.ensures slots list
