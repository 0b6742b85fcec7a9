-- `reached::merge_slots` meets its contract.
use Rattle.semantics.proofs.Prelude.{◌≡◌, refl, sym, ap, subst, ◌∙◌, List, ◌++◌, ℕ, suc, ◌+◌, ◌-◌, ◌*◌, ◌≤◌, ◌<◌, mul-le-mul_right, suc-mul, sub-zero, add-one, ltb-true, arith, ℤ, length, get_or, take, drop, drop-drop}
use Rattle.semantics.specs.Lists.{pick}
use Rattle.semantics.specs.Algorithm.{wait}
use Rattle.semantics.proofs.Tidy.{queue_in_more}
use Rattle.words.proofs.Rows.{row_in, span, part_length, length_put, drop_put}
use Rattle.state.specs.declared.Layout.{Layout}
use Rattle.state.specs.Rows.{width_of, row_of, row_merge, same_words, rows_merge, rows_of}
use Rattle.state.proofs.Slots.{place_of, put_slot, slot_length, slot, merge_turn}
use Rattle.waitlist.specs.Waits.{waits}
use Rattle.waitlist.proofs.WaitWords.{waits_are, kept}
use Rattle.reached.specs.Reached.{rewaits}
use Rattle.reached.specs.Links.{chain_of, chain_in, chains_of, Passed}
use Rattle.reached.proofs.SlotLoops.{unless_queue}
use Rattle.reached.proofs.SlotChains.{chains_length, chains_get, drop_later, passed_rows, passed_waits, passed_merge}
use Rattle.reached.proofs.merge_slots.Goals as goal

pub loop-layout-init : goal.loop-layout-init
loop-layout-init c =
    let a = c.args in
    let g = c.requires in
    let t = a.table.now in
    let e = a.e.now in
    let y = a.layout in
    let m = c.first-id.result.0 in
    let z : 0 * y.stride ≡ 0 = omega arith in
    let p : Passed (chains_of y a.used t) (chain_in e) 0 m = rw c.location_of-l.ensures.location at (c.first-id.ensures (chains_of y a.used t) g.linked) in
    let over = passed_rows y a.used e t t 0 m p refl in
    let n = sub-zero a.used in (
      refl,
      refl,
      rw (z, n) at (passed_merge y a.used e t g.laid.apart g.laid.table 0 m (omega arith) over),
      refl,
      g.waits.0,
      g.waits.1,
      rw (z, n) at (passed_waits y a.used e t (waits a.waiting a.list.now) 0 m (omega arith) over),
    )

-- the row of slot s becomes ws, in a table t that is t₀ from there on; k is the slot that is looked at next
record Turn (y : Layout) (used : ℕ) (e t₀ t ws : List ℤ) (s k : ℕ) : Type 0 where
  in_use : s < used
  later : s < k
  apart : width_of y ≤ y.stride
  fits : used * y.stride ≤ length t
  rest : drop (s * y.stride) t ≡ drop (s * y.stride) t₀
  len : length ws ≡ width_of y
  is_merged : ws ≡ row_merge e (row_of y s t)
  over : Passed (chains_of y used t₀) (chain_in e) (s + 1) k

module _ {y : Layout} {used : ℕ} {e t₀ t ws : List ℤ} {s k : ℕ} (h : Turn y used e t₀ t ws s k) where
  abbrev a : ℕ
  a = s * y.stride

  abbrev new : List ℤ
  new = take a t ++ (ws ++ drop (width_of y) (drop a t))

  room : a + y.stride ≤ length t
  room = omega (arith, h.fits, row_in s used y.stride h.in_use)

  size : length new ≡ length t
  size = length_put t a (width_of y) ws (omega (arith, room, h.apart)) h.len

  next_place : (s + 1) * y.stride ≡ a + y.stride
  next_place = rw add-one (suc-mul s y.stride)

  left : used - s ≡ suc (used - (s + 1))
  left = omega (arith, h.in_use)

  past : drop (a + y.stride) new ≡ drop y.stride (drop a t)
  past = rw (put_slot t a (width_of y) y.stride ws room h.apart h.len) (drop_put t a y.stride (slot t a (width_of y) y.stride ws room h.apart h.len) room (slot_length t a (width_of y) y.stride ws room h.apart h.len))

  rest_next : drop ((s + 1) * y.stride) new ≡ drop ((s + 1) * y.stride) t₀
  rest_next = rw next_place (past ∙ drop-drop y.stride a t ∙ drop_later t t₀ a (a + y.stride) (omega arith) h.rest)

  rest_then : drop (k * y.stride) new ≡ drop (k * y.stride) t₀
  rest_then = drop_later new t₀ ((s + 1) * y.stride) (k * y.stride) (mul-le-mul_right y.stride (omega (arith, h.later))) rest_next

  merged_then : take a t ++ rows_merge e y (used - s) (drop a t) ≡ take (k * y.stride) new ++ rows_merge e y (used - k) (drop (k * y.stride) new)
  merged_then =
      ap (λ (n : ℕ). take a t ++ rows_merge e y n (drop a t)) left ∙ merge_turn e t y a (used - (s + 1)) ws room h.apart h.len h.is_merged
      ∙ ap (λ (n : ℕ). take n new ++ rows_merge e y (used - (s + 1)) (drop n new)) (sym next_place)
      ∙ passed_merge y used e new h.apart (omega (arith, size, h.fits)) (s + 1) k (omega (arith, h.later)) (passed_rows y used e t₀ new (s + 1) k h.over rest_next)

  waits_then : (wa : List ℕ) → let r = row_of y s t in
      rewaits e s (rows_of y (used - s) (drop a t)) wa ≡ rewaits e k (rows_of y (used - k) (drop (k * y.stride) new)) (pick (same_words (row_merge e r) r) wa (wait s wa))
  waits_then wa =
      let r = row_of y s t in
      let wa' = pick (same_words (row_merge e r) r) wa (wait s wa) in
      ap (λ (n : ℕ). rewaits e s (rows_of y n (drop a t)) wa) left
      ∙ (λ i. rewaits e (sym (add-one s) i) (rows_of y (used - (s + 1)) ((sym past ∙ ap (λ (n : ℕ). drop n new) (sym next_place)) i)) wa')
      ∙ passed_waits y used e new wa' (s + 1) k (omega (arith, h.later)) (passed_rows y used e t₀ new (s + 1) k h.over rest_next)

pub wait_unless-count-requires : goal.wait_unless-count-requires
wait_unless-count-requires c =
    let b = c.loop-layout in
    let g = c.requires.waits in
    let l = b.invariant.3 in
    let below : b.id.0 < c.args.used = ltb-true b.id.0 c.args.used (sym c.is_below.ensures ∙ c.loop-layout-test.true) in
    record { stored = b.invariant.4; slot = omega (arith, below, l, g.2); small = omega (arith, l, g.3); queue = queue_in_more c.args.used (length b.list) (waits b.count b.list) (omega (arith, l, g.2)) b.invariant.5 }

pub loop-layout-preserved : goal.loop-layout-preserved
loop-layout-preserved c =
    let j = c.wait_unless-count in
    let m = c.merge_row-same in
    let b = c.loop-layout in
    let a = c.args in
    let g = c.requires.laid in
    let y = a.layout in
    let e = a.e.now in
    let t = b.table in
    let t₀ = a.table.now in
    let i = b.id.0 in
    let k = c.next-id.result.0 in
    let ws = m.new.s in
    let cs = chains_of y a.used t₀ in
    let row = row_of y i t in
    let at = c.slot-slot.result.at in
    let below : i < a.used = ltb-true i a.used (sym c.is_below.ensures ∙ c.loop-layout-test.true) in
    let place : at ≡ i * y.stride = place_of y c.slot-slot.result c.slot-slot.ensures.placed i c.slot-slot.ensures.id in
    let inside : at + length e ≤ length t = omega (arith, row_in i a.used y.stride below, g.table, b.invariant.1, place, g.apart, g.row) in
    let row_is : c.row_of.result.now ≡ row = c.row_of.ensures.row ∙ ap (λ (n : ℕ). row_of y n t) c.slot-slot.ensures.id in
    let part : take (length e) (drop at t) ≡ row = λ x. take (g.row x) (drop (place x) t) in
    let flag : m.result ≡ same_words (row_merge e row) row = rw (span, part) at m.ensures.same in
    let here : get_or cs i 0 ≡ chain_of c.location_of-at.result.0 = chains_get y a.used i t₀ below ∙ ap (λ (x : List ℤ). chain_in (take (width_of y) x)) (sym b.invariant.0) ∙ ap chain_in (sym row_is) ∙ ap chain_of (sym c.location_of-at.ensures.location) in
    let turn : Turn y a.used e t₀ t ws i k = record {
      in_use = below;
      later = c.next-id.ensures.later;
      apart = g.apart;
      fits = omega (arith, g.table, b.invariant.1);
      rest = b.invariant.0;
      len = (rw span at m.auto.s) ∙ part_length t at (length e) inside ∙ g.row;
      is_merged = rw (span, part) at m.ensures.row;
      over = subst (λ (x : ℕ). Passed cs (chain_of x) (i + 1) k) c.location_of-l.ensures.location (c.next-id.ensures.passed cs c.requires.linked (omega (arith, below, chains_length y a.used t₀)) here);
    } in
    let now_waits = waits_are j.ensures in
    let is_new : take at t ++ (ws ++ drop (width_of y) (drop at t)) ≡ new turn = λ x. take (place x) t ++ (ws ++ drop (width_of y) (drop (place x) t)) in (
      rw (span, g.row, is_new) (rest_then turn),
      rw (span, g.row, is_new) (size turn ∙ b.invariant.1),
      rw (span, g.row, is_new) (b.invariant.2 ∙ merged_then turn),
      j.auto.list ∙ b.invariant.3,
      kept j.ensures,
      rw now_waits (unless_queue m.result a.used i (waits b.count b.list) below b.invariant.5),
      rw (span, g.row, is_new, now_waits, flag) (b.invariant.6 ∙ waits_then turn (waits b.count b.list)),
    )
