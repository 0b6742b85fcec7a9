-- `listing::Held::put_path` meets its contract: with the lines of the slots left, all are written.
use Rattle.semantics.proofs.Prelude.{◌≡◌, sym, ap, ◌∙◌, List, ℕ, ◌-◌, ◌<◌, arith, rules, length, take, drop, drop_of_length-le}
use Rattle.semantics.specs.Layout.{most_slots}
use Rattle.semantics.specs.Lists.{each}
use Rattle.semantics.specs.Encoding.{decode}
use Rattle.semantics.specs.Memory.{load}
use Rattle.semantics.specs.Path.{way_to, path_line}
use Rattle.semantics.specs.Tidy.{Every}
use Rattle.semantics.proofs.MemoryInForm.{form}
use Rattle.words.proofs.Rows.{tail}
use Rattle.writer.proofs.Written.{writes_then, writes_same, one_more, all_put}
use Rattle.listing.specs.Shown.{memory, origins}
use Rattle.listing.proofs.Ways.{every_at, way_below, some_waits, next_used}
use Rattle.listing.proofs.TextPieces.{waiting_long, steps_turn, path_is}
use Rattle.listing.proofs.Shown.{laid, few, falls}
use Rattle.listing.proofs.Held.put_path.Goals as goal

pub slice_bounds-waiting-end : goal.slice_bounds-waiting-end
slice_bounds-waiting-end c = let h = c.args.self.now in sym (waiting_long h.chart (memory h) h.in_form)

pub next_slot-taken-requires : goal.next_slot-taken-requires
next_slot-taken-requires c =
    let h = c.args.self.now in
    omega (arith, waiting_long h.chart (memory h) h.in_form, some_waits h.analysis.verdict h.analysis.waiting c.requires (form (decode h.chart) (memory h) h.in_form.analysis).verdict)

pub trace_back-first-requires : goal.trace_back-first-requires
trace_back-first-requires c =
    let h = c.args.self.now in
    (next_used h.chart (memory h) h.in_form c.next_slot-taken.result.0 c.next_slot-taken.ensures, omega (arith, few h))

-- the slots of a way that ends where its row of n places ends
part_of : (n : ℕ) (way path : List ℕ) (r : ℕ) → length way ≡ n → drop r way ≡ path → take (n - r) (drop r way) ≡ path
part_of n way path r long e = ap (λ (k : ℕ). take (k - r) (drop r way)) (sym long) ∙ tail way r ∙ e

pub put_step-requires : goal.put_step-requires
put_step-requires c =
    let h = c.args.self.now in
    let k = c.next_slot-taken.result.0 in
    let way = c.trace_back-first.new.way in
    let first = c.trace_back-first.result in
    let long : length way ≡ most_slots = search rules in
    let is_way = part_of most_slots way (way_to (origins h) k k) first long c.trace_back-first.ensures.way in
    let slots = take (most_slots - first) (drop first way) in
    let used : Every (λ s. s < h.analysis.used) slots = rw is_way (way_below (origins h) h.analysis.used (falls h) k k (next_used h.chart (memory h) h.in_form k c.next_slot-taken.ensures)) in
    every_at (λ s. s < h.analysis.used) slots c.loop-id.id-index used c.loop-id-test.true

pub loop-id-preserved : goal.loop-id-preserved
loop-id-preserved c = one_more c.loop-id.invariant (steps_turn _ _ c.loop-id.id-index c.loop-id-test.true) c.put_step.ensures

pub returns : goal.returns
returns c =
    let h = c.args.self.now in
    let d = decode h.chart in
    let k = c.next_slot-taken.result.0 in
    let way = c.trace_back-first.new.way in
    let first = c.trace_back-first.result in
    let lines = each (path_line d (load d (memory h))) in
    let long : length way ≡ most_slots = search rules in
    let is_way = part_of most_slots way (way_to (origins h) k k) first long c.trace_back-first.ensures.way in
    writes_same
    (path_is d h.layout (laid h) h.table.now h.list.now h.analysis k c.next_slot-taken.ensures)
    (writes_then c.put_path_header.ensures (writes_same (ap lines is_way) (all_put c.loop-id.invariant (ap lines (drop_of_length-le _ c.loop-id-test.false)))))
