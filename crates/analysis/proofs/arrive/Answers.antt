-- `analysis::arrive` meets its contract.
use Rattle.semantics.proofs.Prelude.{◌≡◌, refl, sym, ap, ◌∙◌, List, [], ◌∷◌, ◌++◌, ◌<◌, arith, ℤ, length}
use Rattle.semantics.proofs.Tidy.{queue_few}
use Rattle.waitlist.specs.Waits.{waits}
use Rattle.waitlist.proofs.WaitWords.{waits_are}
use Rattle.semantics.specs.Algorithm.{Origin, Out, taking, brought}
use Rattle.state.specs.Rows.{tail_words, rows_of, origins_of}
use Rattle.reached.specs.Links.{chains_of, Linked}
use Rattle.reached.proofs.Table.{rows_stored}
use Rattle.reached.proofs.SlotChains.{chains_length}
use Rattle.reached.proofs.FormKept.{next_slot_in, origins_stored, chains_stored, kept_stored}
use Rattle.analysis.proofs.Arrival.{arrive_drop, arrive_store, arrive_full, noted_none, noted_one, noted_full}
use Rattle.analysis.proofs.arrive.Goals as goal

pub returns-then-covered : goal.returns-then-covered
returns-then-covered c =
    let a = c.args in
    let m = c.merge_by-count in
    let after = m.ensures in
    let os = origins_of a.layout a.a.used a.table.now in
    let note = λ (o : Out (List ℤ)). os ++ brought a.parent.0 (taking a.edge.0 a.a.used o (λ en wa. [])) in
    let out = arrive_drop c.requires.0 after (sym c.covered.ensures ∙ c.if-covered.true) in
    rw c.went_on.ensures (record {
      progressed = record { out = out; kept = after.kept; linked = rw after.chains c.requires.0.linked };
      origins = after.origins ∙ noted_none os a.parent.0 a.edge.0 a.layout a.a.used m.new.table (waits m.result m.new.list) ∙ ap note out;
    })

pub append-more-requires : goal.append-more-requires
append-more-requires c =
    let m = c.merge_by-count in
    let k = m.ensures.kept in
    let used = c.args.a.used in
    let u : used < length m.new.list = c.if-a-list.true in
    (k.slots, omega (arith, queue_few used (waits m.result m.new.list) k.queue, k.slots.count, u), omega (arith, u, k.small))

pub returns-then-a-list : goal.returns-then-a-list
returns-then-a-list c =
    let s = c.args in
    let m = c.merge_by-count in
    let after = m.ensures in
    let k = after.kept in
    let t = m.new.table in
    let l = m.new.list in
    let e = s.e.now in
    let app = c.append-more in
    let u : s.a.used < length l = c.if-a-list.true in
    let size : length l ≡ length s.list.now = m.auto.list in
    let row = c.requires.0.row in
    let linked : Linked (chains_of s.layout s.a.used t) s.links.now = rw after.chains c.requires.0.linked in
    let tail = tail_words s.parent.0 s.edge.0 in
    let os = origins_of s.layout s.a.used s.table.now in
    let note = λ (o : Out (List ℤ)). os ++ brought s.parent.0 (taking s.edge.0 s.a.used o (λ en wa. [])) in
    let stored = arrive_store c.requires.0 after (sym c.covered.ensures ∙ c.if-covered.false) (omega (arith, u, size)) in
    rw (c.went_on-then-a-list.ensures, c.store_slot.ensures) (record {
      progressed = record {
        out = rw (rows_stored s.layout s.a.used t e tail (next_slot_in k u) k.tailed row refl, waits_are app.ensures) stored;
        kept = kept_stored k u e row s.parent.0 s.edge.0 c.requires.1 c.requires.2 app.ensures app.auto.list;
        linked = rw (chains_stored k u e row s.parent.0 s.edge.0 c.requires.1 c.requires.2, ← c.location_of.ensures.location)
            (c.add.ensures (chains_of s.layout s.a.used t) (chains_length s.layout s.a.used t) linked);
      };
      origins = origins_stored k u e row s.parent.0 s.edge.0 c.requires.1 c.requires.2
          ∙ ap (λ (l : List Origin). l ++ (record { parent = s.parent.0; edge = s.edge.0 } ∷ [])) after.origins
          ∙ noted_one os s.parent.0 s.edge.0 s.layout s.a.used t e (waits m.result l ++ (s.a.used ∷ []))
          ∙ ap note stored;
    })

pub returns : goal.returns
returns c =
    let a = c.args in
    let m = c.merge_by-count in
    let after = m.ensures in
    let size : length m.new.list ≡ length a.list.now = m.auto.list in
    let os = origins_of a.layout a.a.used a.table.now in
    let note = λ (o : Out (List ℤ)). os ++ brought a.parent.0 (taking a.edge.0 a.a.used o (λ en wa. [])) in
    let out = arrive_full c.requires.0 after (sym c.covered.ensures ∙ c.if-covered.false) (omega (arith, c.if-a-list.false, size)) in
    rw c.table_full.ensures (record {
      progressed = record { out = out; kept = after.kept; linked = rw after.chains c.requires.0.linked };
      origins = after.origins ∙ noted_full os a.parent.0 a.edge.0 a.a.used (rows_of a.layout a.a.used m.new.table) (waits m.result m.new.list) ∙ ap note out;
    })
