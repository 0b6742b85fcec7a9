-- `listing::Held::trace_back` meets its contract. The invariant: the way to the loop's slot, and what is written after that
-- slot, are the whole. A slot is never above its place, since parents fall.
use Rattle.semantics.proofs.Prelude.{◌∙◌, ◌-◌, ◌≤◌, ◌<◌, arith, length-set, get_or-set_same}
use Rattle.semantics.specs.Path.{parent_of, way_to}
use Rattle.listing.specs.Shown.{origins}
use Rattle.listing.proofs.Ways.{traced_turn}
use Rattle.listing.proofs.Shown.{falls}
use Rattle.listing.proofs.Held.trace_back.Goals as goal

pub loop-slot-preserved : goal.loop-slot-preserved
loop-slot-preserved c =
    let h = c.args.self.now in
    let l = c.loop-slot in
    let i = l.invariant in
    let s = l.slot.0 in
    let os = origins h in
    let p = c.parent-slot.result.0 in
    let lower : parent_of os s < s = falls h s (omega (arith, c.loop-slot-test.true)) i.used in
    let below : p < s = omega (arith, c.parent-slot.ensures, lower) in
    let place : 1 ≤ l.at = omega (arith, c.loop-slot-test.true, i.below) in
    let long = length-set l.way (l.at - 1) p in
    record {
      long = long ∙ i.long;
      inside = omega (arith, long, i.inside);
      below = omega (arith, below, place, i.below);
      used = omega (arith, below, i.used);
      here = get_or-set_same l.way (l.at - 1) p 0 (omega (arith, i.inside));
      left = traced_turn os h.analysis.used (falls h) (way_to os c.args.to.0 c.args.to.0) l.way l.at s i.inside i.here i.left c.loop-slot-test.true i.used place p c.parent-slot.ensures;
    }

pub loop-slot-smaller : goal.loop-slot-smaller
loop-slot-smaller c =
    let lower = falls c.args.self.now c.loop-slot.slot.0 (omega (arith, c.loop-slot-test.true)) c.loop-slot.invariant.used in
    omega (arith, c.parent-slot.ensures, lower)
