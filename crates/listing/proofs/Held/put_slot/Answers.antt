-- `listing::Held::put_slot` meets its contract.
use Rattle.semantics.proofs.Prelude.{◌≡◌, ap, ◌∙◌, ℕ, arith}
use Rattle.semantics.specs.Encoding.{decode}
use Rattle.semantics.specs.Memory.{state_in}
use Rattle.semantics.specs.Listing.{slot_text}
use Rattle.state.specs.Rows.{row_of}
use Rattle.writer.proofs.Written.{writes_then, writes_same}
use Rattle.listing.specs.Pieces.{values_text}
use Rattle.listing.proofs.TextPieces.{slot_is}
use Rattle.listing.proofs.Shown.{in_table, mark_says}
use Rattle.listing.proofs.Held.put_slot.Goals as goal

pub returns : goal.returns
returns c =
    let h = c.args.self.now in
    let s = c.args.id.0 in
    let row = c.row_of-row.result.now in
    let p = in_table h s c.requires in
    let words : row ≡ row_of h.layout s h.table.now = c.row_of-row.ensures.row ∙ ap (λ (k : ℕ). row_of h.layout k h.table.now) c.slot.ensures.id in
    let line = slot_is (decode h.chart) s row _ _ (omega (arith, c.row_of-row.ensures.long, p.some)) c.location_of.ensures.location
    ∙ (λ j. slot_text (decode h.chart) s (state_in (words j)) (mark_says h s c.requires j)) in
    writes_same line (
    writes_then c.decimal.ensures (
    writes_then c.put_name.ensures (
    writes_then (writes_same (ap values_text c.values.ensures) c.put_values.ensures) (
    writes_then c.put_mark.ensures c.byte.ensures
    ))))
