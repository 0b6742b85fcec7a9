-- `reached::links::link_all` meets its contract.
use Rattle.semantics.proofs.Prelude.{sym, ap, ◌∙◌}
use Rattle.state.specs.Rows.{location_in}
use Rattle.reached.specs.Links.{chains_of}
use Rattle.reached.proofs.SlotChains.{chains_length, chains_next}
use Rattle.reached.proofs.links.link_all.Goals as goal

pub loop-id-preserved : goal.loop-id-preserved
loop-id-preserved c =
    let y = c.args.layout in
    let t = c.args.table.now in
    let s = c.loop-id.id in
    let e = c.slot-slot.ensures.id in
    let here = rw e at (c.location_of.ensures.location ∙ ap location_in c.row_of-row.ensures.row) in
    rw (chains_next y s t) (rw here at (c.add.ensures (chains_of y s t) (chains_length y s t ∙ sym e) c.loop-id.invariant))
