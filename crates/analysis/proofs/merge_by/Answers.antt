-- `analysis::merge_by` meets its contract.
use Rattle.semantics.proofs.Prelude.{ap, ◌∙◌, map, ◌+◌, ◌≤◌, arith, length}
use Rattle.state.specs.Rows.{rows_of, tails_of}
use Rattle.semantics.specs.Memory.{origin_in}
use Rattle.waitlist.specs.Waits.{waits}
use Rattle.waitlist.proofs.WaitWords.{waits_are}
use Rattle.reached.specs.Links.{chain_in}
use Rattle.reached.proofs.SlotChains.{chains_merged}
use Rattle.reached.proofs.Table.{rows_length, rows_merged, tails_merged, drop_merged, rewaits_queue}
use Rattle.reached.proofs.FormKept.{apart, in_table, kept_after}
use Rattle.analysis.proofs.Merges.{rewaits_all}
use Rattle.analysis.proofs.merge_by.Goals as goal

pub returns-in-Join : goal.returns-in-Join
returns-in-Join c =
    let k = c.requires.kept in
    let a = c.args.a in
    let y = c.args.layout in
    let t = c.args.table.now in
    let e = c.args.e.now in
    let m = c.merge_slots in
    let h = m.ensures in
    let q = c.in-Join.is in
    let rows = rows_of y a.used t in
    let wa = waits a.waiting c.args.list.now in
    let n : 0 + length rows ≤ a.used = omega (arith, rows_length y a.used t) in
    let merged-rows = ap (rows_of y a.used) h.table ∙ rows_merged y (apart k) e a.used t (in_table k) in
    let tails = ap (tails_of y a.used) h.table ∙ tails_merged y (apart k) e a.used t (in_table k) in
    record {
      rows = rw q merged-rows;
      waiting = rw q (waits_are h.waits ∙ rewaits_all e 0 rows wa);
      origins = ap (map origin_in) tails;
      chains = ap (map chain_in) merged-rows ∙ chains_merged e rows;
      kept = kept_after k m.new.table m.auto.table (rw h.table (drop_merged y (apart k) e a.used t (in_table k))) tails h.waits m.auto.list (rewaits_queue e a.used 0 rows wa n k.queue);
    }
