-- `analysis::visit` meets its contract.
use Rattle.semantics.proofs.Prelude.{◌≡◌, refl, sym, ap, ◌∙◌}
use Rattle.state.specs.Rows.{origins_of}
use Rattle.waitlist.specs.Waits.{waits}
use Rattle.transfer.specs.declared.Move.{Move}
use Rattle.transfer.specs.declared.Move.TheVariants.{Blocked}
use Rattle.transfer.specs.Transfer.{step_of, post_at}
use Rattle.analysis.proofs.Arrival.{noted_none}
use Rattle.analysis.proofs.visit.Goals as goal

pub returns-in-Blocked : goal.returns-in-Blocked
returns-in-Blocked c =
    let e = c.args in
    let row = c.successor.new.out in
    let moved : post_at e.outline.now.chart.now e.edge.at e.copy.now ≡ step_of Blocked row = sym c.successor.ensures ∙ ap (λ (m : Move). step_of m row) c.in-Blocked.is in
    rw (c.went_on.ensures, moved)
    (record { progressed = record { out = refl; kept = c.requires.0.kept; linked = c.requires.0.linked }; origins = noted_none (origins_of e.outline.now.layout e.a.used e.table.now) e.slot.0 e.edge.id.0 e.outline.now.layout e.a.used e.table.now (waits e.a.waiting e.list.now) })
