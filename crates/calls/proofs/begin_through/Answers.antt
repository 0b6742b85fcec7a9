-- `calls::begin_through` meets its contract: the capacity's words are lent, and the beginning is put into them.
use Rattle.semantics.proofs.Prelude.{refl, sym, ap, subst, ◌∙◌, List, ◌-◌, ◌*◌, arith, min, ℤ, length-take-le}
use Rattle.semantics.specs.Layout.{most_iterations}
use Rattle.semantics.specs.Algorithm.{Exploration, run, start}
use Rattle.semantics.specs.Encoding.{edge_count}
use Rattle.semantics.proofs.Decoded.{edges_count}
use Rattle.state.specs.declared.Layout.{Layout}
use Rattle.state.specs.Rows.{layout_of}
use Rattle.state.proofs.Layouts.{is_layout}
use Rattle.transfer.specs.Transfer.{edges_from}
use Rattle.checks.specs.Form.{lent}
use Rattle.analysis.specs.Loaded.{domain_of, Loaded}
use Rattle.analysis.proofs.MemoryAtExit.{begin_at_exit}
use Rattle.calls.proofs.CallSizes.{is_of, fits, part}
use Rattle.calls.proofs.begin_through.Goals as goal

pub slice_bounds-table-end : goal.slice_bounds-table-end
slice_bounds-table-end c = fits c.args.chart.now _ c.words.ensures.words _ c.layout_of.ensures.layout c.args.capacity c.args.table.now c.requires.3.0

pub slice_bounds-table-end-2 : goal.slice_bounds-table-end-2
slice_bounds-table-end-2 c = sym (part c.args.chart.now _ c.words.ensures.words _ c.layout_of.ensures.layout c.args.capacity c.args.table.now c.requires.3.0)

pub start-a-requires : goal.start-a-requires
start-a-requires c =
    let s = c.args in
    let p = c.requires in
    let table = part s.chart.now _ c.words.ensures.words _ c.layout_of.ensures.layout s.capacity s.table.now p.3.0 in
    let laid = is_of s.chart.now _ c.words.ensures.words _ c.layout_of.ensures.layout in
    (p.1, omega (arith, p.2), table ∙ ap (λ (y : Layout). s.capacity * y.stride) laid, length-take-le s.capacity s.list.now p.3.1, p.0)

pub resume-requires : goal.resume-requires
unfolding start
resume-requires c =
    let l = c.start-a.ensures (edge_count c.args.chart.now) in
    (l.form, omega (arith, ap (λ (x : Exploration (List ℤ)). x.iterations) l.load))

pub returns : goal.returns
unfolding start
returns c =
    let s = c.args in
    let ws = s.chart.now in
    let y = layout_of ws in
    let r = c.resume in
    let begun = subst (λ (x : Exploration (List ℤ)). Loaded y (edge_count ws) r.result r.new.table r.new.list (run (domain_of ws) (edges_from 0 (edge_count ws)) (min s.budget (most_iterations - x.iterations)) x))
    (c.start-a.ensures (edge_count ws)).load r.ensures in
    rw (is_of ws _ c.words.ensures.words _ c.layout_of.ensures.layout)
    (λ a. begin_at_exit ws c.words.ensures.in_form y (is_layout ws y refl) (lent s.table.now s.list.now a) r.result r.new.table r.new.list s.settings s.capacity s.budget (rw (← edges_count ws) at begun))
