-- `search::put_found` meets its contract.
use Rattle.semantics.proofs.Prelude.{sym, subst, ◌∙◌, append-nil}
use Rattle.semantics.specs.Encoding.{decode}
use Rattle.semantics.specs.Search.{explicit, first_run}
use Rattle.semantics.specs.RunListing.{run_text}
use Rattle.descent.specs.Trails.{Holds}
use Rattle.writer.proofs.Written.{writes_same}
use Rattle.search.specs.RunLines.{states_text}
use Rattle.search.proofs.FoundText.{none_is, shown}
use Rattle.search.proofs.put_found.Goals as goal

pub put_states-requires : goal.put_states-requires
put_states-requires c =
    let found = c.args.found.now in
    let d = decode found.chart.now in
    let o = first_run (explicit d) found.k in
    let f = shown d found.k found.start.now found.path.now c.in-Some.run' o (subst (Holds d o found.start.now found.path.now) c.in-Some.is found.held) in
    (f.first, rw c.in-AtError.is at f.rows)

pub put_overrun-requires : goal.put_overrun-requires
put_overrun-requires c =
    let found = c.args.found.now in
    let d = decode found.chart.now in
    let o = first_run (explicit d) found.k in
    let f = shown d found.k found.start.now found.path.now c.in-Some.run' o (subst (Holds d o found.start.now found.path.now) c.in-Some.is found.held) in
    (f.first, rw c.in-Overrun.is at f.rows, rw c.in-Overrun.is at f.counted)

pub returns-in_default : goal.returns-in_default
unfolding run_text
returns-in_default c =
    let found = c.args.found.now in
    let d = decode found.chart.now in
    let o = first_run (explicit d) found.k in
    writes_same (none_is d found.k found.start.now found.path.now o (subst (Holds d o found.start.now found.path.now) c.in_default.is found.held)) c.put_none.ensures

pub returns-in-AtError : goal.returns-in-AtError
unfolding run_text
returns-in-AtError c =
    let found = c.args.found.now in
    let d = decode found.chart.now in
    let o = first_run (explicit d) found.k in
    let f = shown d found.k found.start.now found.path.now c.in-Some.run' o (subst (Holds d o found.start.now found.path.now) c.in-Some.is found.held) in
    let lines = states_text d c.in-Some.run'.moves c.in-Some.run'.moves found.start.now found.path.now in
    writes_same {bs = lines} (sym (append-nil lines) ∙ rw c.in-AtError.is at f.text) c.put_states.ensures

pub returns-in-Overrun : goal.returns-in-Overrun
unfolding run_text
returns-in-Overrun c =
    let found = c.args.found.now in
    let d = decode found.chart.now in
    let o = first_run (explicit d) found.k in
    let f = shown d found.k found.start.now found.path.now c.in-Some.run' o (subst (Holds d o found.start.now found.path.now) c.in-Some.is found.held) in
    writes_same (rw c.in-Overrun.is at f.text) c.put_overrun.ensures
