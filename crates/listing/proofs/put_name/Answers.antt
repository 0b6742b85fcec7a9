-- `listing::put_name` meets its contract: with the bytes left, the name is written after the tab.
use Rattle.semantics.proofs.Prelude.{◌≡◌, sym, ap, ◌∙◌, map, ◌≤◌, add-one, pos, nat_abs, rules, length, get_or, length-map, get_or-map, drop_of_length-le, drop-cons}
use Rattle.semantics.specs.Encoding.{decode}
use Rattle.semantics.specs.Listing.{loc_text}
use Rattle.chart.specs.Encoded.{byte_of}
use Rattle.chart.proofs.NameBytes.{names_are_bytes}
use Rattle.writer.proofs.Written.{writes_then, one_more, all_put}
use Rattle.listing.proofs.TextPieces.{field}
use Rattle.listing.proofs.put_name.Goals as goal

pub loop-w-preserved : goal.loop-w-preserved
loop-w-preserved c =
    let name = c.name-name.result.now in
    let i = c.loop-w.w-index in
    let bytes = map nat_abs name in
    let e : bytes ≡ loc_text (decode c.args.chart.now).locs c.args.l.0 = rw (← c.words.ensures.words) c.name-name.ensures in
    let q : c.byte_of.result ≡ byte_of (nat_abs (get_or name i (pos 0))) = search rules in
    let byte : c.byte_of.result ≡ get_or bytes i 0 = q ∙ ap byte_of (sym (get_or-map nat_abs name i (pos 0))) ∙ rw e (names_are_bytes c.args.chart.now c.words.ensures.in_form c.args.l.0 i) in
    one_more c.loop-w.invariant (rw (add-one, drop-cons bytes i 0 (rw length-map c.loop-w-test.true), ← byte)) c.byte-in-loop-w.ensures

pub returns : goal.returns
returns c =
    let long : length (map nat_abs c.name-name.result.now) ≤ c.loop-w.w-index = rw length-map c.loop-w-test.false in
    field (rw (← c.words.ensures.words) c.name-name.ensures) (writes_then c.byte.ensures (all_put c.loop-w.invariant (drop_of_length-le _ long)))
