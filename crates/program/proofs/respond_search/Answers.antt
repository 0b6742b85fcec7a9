-- `program::respond_search` meets its contract.
use Rattle.semantics.proofs.Prelude.{◌≡◌, rules, length}
use Rattle.semantics.specs.Layout.{listing_bytes}
use Rattle.semantics.proofs.OutputShort.{search_short}
use Rattle.program.proofs.Said.{refusal_printed}
use Rattle.program.proofs.respond_search.Goals as goal

pub returns-in-Err : goal.returns-in-Err
returns-in-Err c =
    let h : length c.args.out.now ≡ listing_bytes = search rules in
    let p = refusal_printed _ _ _ _ _ h (search_short c.args.k.now c.args.chart.now) c.in-Err.ensures c.put_refusal.ensures in
    record { count = p.long; bytes = p.bytes }
