-- `listing::Held::put_listing` meets its contract: with the lines of the slots left, all are written.
use Rattle.semantics.proofs.Prelude.{◌≡◌, ◌∙◌, suc, ◌+◌, ◌-◌, ◌*◌, arith, drop}
use Rattle.semantics.specs.Encoding.{decode}
use Rattle.semantics.specs.Memory.{states_in}
use Rattle.semantics.specs.Listing.{slots_text}
use Rattle.writer.proofs.Written.{writes_then, writes_same, one_more, all_put}
use Rattle.listing.specs.Shown.{waiting}
use Rattle.listing.proofs.TextPieces.{slots_turn, listing_is}
use Rattle.listing.proofs.Shown.{laid}
use Rattle.listing.proofs.Held.put_listing.Goals as goal

pub loop-id-preserved : goal.loop-id-preserved
loop-id-preserved c =
    let h = c.args.self.now in
    let s = c.loop-id.id in
    let left : h.analysis.used - s ≡ suc (h.analysis.used - (s + 1)) = omega (arith, c.loop-id-test.true) in
    let turn = (λ j. slots_text (decode h.chart) (waiting h) s (states_in (decode h.chart) (left j) (drop (s * h.layout.stride) h.table.now)))
    ∙ slots_turn (decode h.chart) (waiting h) h.layout (laid h) s (h.analysis.used - (s + 1)) h.table.now in
    one_more c.loop-id.invariant turn c.put_slot.ensures

pub returns : goal.returns
returns c =
    let h = c.args.self.now in
    let none : h.analysis.used - c.loop-id.id ≡ 0 = omega (arith, c.loop-id-test.false) in
    writes_same (listing_is (decode h.chart) h.table.now h.list.now h.analysis) (writes_then c.put_header.ensures (all_put c.loop-id.invariant (rw none)))
