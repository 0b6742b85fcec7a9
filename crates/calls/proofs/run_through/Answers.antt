-- `calls::run_through` meets its contract: the capacity's words, in form, are lent, and the run is put into them.
use Rattle.semantics.proofs.Prelude.{refl, sym}
use Rattle.semantics.specs.Encoding.{decode}
use Rattle.semantics.proofs.Decoded.{edges_count}
use Rattle.state.specs.Rows.{layout_of}
use Rattle.state.proofs.Layouts.{is_layout}
use Rattle.checks.specs.Form.{lent}
use Rattle.analysis.proofs.RunEntry.{entered, iterations_few}
use Rattle.analysis.proofs.MemoryAtExit.{run_at_exit}
use Rattle.calls.proofs.CallSizes.{is_of, fits, part}
use Rattle.calls.proofs.run_through.Goals as goal

pub slice_bounds-resume-end : goal.slice_bounds-resume-end
slice_bounds-resume-end c = fits c.args.chart.now _ c.words.ensures.words _ c.layout_of.ensures.layout c.args.a.capacity c.args.table.now c.requires.table

pub slice_bounds-resume-end-2 : goal.slice_bounds-resume-end-2
slice_bounds-resume-end-2 c = sym (part c.args.chart.now _ c.words.ensures.words _ c.layout_of.ensures.layout c.args.a.capacity c.args.table.now c.requires.table)

pub resume-requires : goal.resume-requires
resume-requires c =
    let s = c.args in
    let p = c.requires in
    let ws = s.chart.now in
    let y = layout_of ws in
    let memory = lent s.table.now s.list.now s.a in
    let entry = entered (decode ws) y (is_layout ws y refl) memory p.table p.list p.analysis in
    rw (is_of ws _ c.words.ensures.words _ c.layout_of.ensures.layout) (rw (edges_count ws) at entry, iterations_few (decode ws) memory p.analysis)

pub returns : goal.returns
returns c =
    let s = c.args in
    let p = c.requires in
    let ws = s.chart.now in
    let y = layout_of ws in
    let k = c.resume in
    let played = rw (is_of ws _ c.words.ensures.words _ c.layout_of.ensures.layout) at k.ensures in
    rw (is_of ws _ c.words.ensures.words _ c.layout_of.ensures.layout)
    (run_at_exit ws p.chart y (is_layout ws y refl) (lent s.table.now s.list.now s.a) k.result k.new.table k.new.list p.table p.list p.analysis s.budget (rw (← edges_count ws) at played))
