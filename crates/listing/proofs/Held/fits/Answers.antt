-- `listing::Held::fits` meets its contract: no text is longer than the bytes that always do.
use Rattle.semantics.proofs.Prelude.{sym, ap, ◌∙◌, not, arith, le-leb, le-ltb, length}
use Rattle.semantics.specs.Layout.{listing_bytes}
use Rattle.semantics.specs.Encoding.{decode}
use Rattle.listing.specs.Views.{view_text}
use Rattle.listing.specs.Shown.{memory}
use Rattle.listing.proofs.Refusals.{view_short}
use Rattle.listing.proofs.Held.fits.Goals as goal

pub returns-then-room-ge-LISTING_BYTES : goal.returns-then-room-ge-LISTING_BYTES
returns-then-room-ge-LISTING_BYTES c =
    let h = c.args.self.now in
    let short = view_short c.args.view h.chart (memory h) h.in_form in
    le-leb listing_bytes c.args.room c.if-room-ge-LISTING_BYTES.true ∙ sym (ap not (le-ltb c.args.room (length (view_text c.args.view (decode h.chart) (memory h))) (omega (arith, short, c.if-room-ge-LISTING_BYTES.true))))
