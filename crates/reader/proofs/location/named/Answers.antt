-- `reader::location::named` meets its contract.
use Rattle.semantics.proofs.Prelude.{◌≡◌, sym, ◌∙◌, List, arith, ℤ, length, take, drop, length-take-le, length-drop, rules}
use Rattle.semantics.specs.Chart.{Loc}
use Rattle.semantics.specs.Reading.{with_loc}
use Rattle.words.proofs.Rows.{span}
use Rattle.chart.specs.Rows.{the_location}
use Rattle.reader.specs.ReadSoFar.{numbers_at}
use Rattle.reader.proofs.OneRowMore.{rows_loc}
use Rattle.reader.proofs.NewNames.{new_location}
use Rattle.reader.proofs.CheckSteps.{check_no, check_yes}
use Rattle.reader.proofs.location.named.Goals as goal

pub returns-then-not-name_differs : goal.returns-then-not-name_differs
returns-then-not-name_differs c = λ s h.
    let t = c.args.draft.now.tally in
    let location : Loc = the_location c.args.error c.args.name.now in
    let rows : List ℤ = c.put_location.new.rows in
    let long : length rows ≡ length c.args.draft.now.rows = c.put_location.auto.rows in
    let kept : length (take t.locs (drop numbers_at rows)) ≡ t.locs = length-take-le _ _ (simp length-drop (omega (arith, long))) in
    let laid = new_location h.rows location c.requires.2 c.requires.0 c.used_words-at.result c.rows_size-first.result rows c.put_location.ensures c.used_words-at.ensures c.rows_size-first.ensures (omega arith) (omega arith) in
    let new = (rw (span numbers_at t.locs, kept) at c.name_differs.ensures) ((search rules) ∙ c.name_number-number.ensures) laid.1 ∙ laid.2 in
    check_no _ _ (sym new ∙ c.if-not-name_differs.true)

pub returns : goal.returns
returns c = λ s h.
    let t = c.args.draft.now.tally in
    let location : Loc = the_location c.args.error c.args.name.now in
    let rows : List ℤ = c.put_location.new.rows in
    let long : length rows ≡ length c.args.draft.now.rows = c.put_location.auto.rows in
    let kept : length (take t.locs (drop numbers_at rows)) ≡ t.locs = length-take-le _ _ (simp length-drop (omega (arith, long))) in
    let laid = new_location h.rows location c.requires.2 c.requires.0 c.used_words-at.result c.rows_size-first.result rows c.put_location.ensures c.used_words-at.ensures c.rows_size-first.ensures (omega arith) (omega arith) in
    let new = (rw (span numbers_at t.locs, kept) at c.name_differs.ensures) ((search rules) ∙ c.name_number-number.ensures) laid.1 ∙ laid.2 in
    record {
      read = with_loc s location;
      is = check_yes _ _ (sym new ∙ c.if-not-name_differs.false);
      holds = record {
        rows = rows_loc s h.rows c.used_words-at.ensures location c.put_location.ensures c.requires.0 c.requires.2 ((search rules) ∙ c.name_number-number.ensures ∙ laid.0) (omega (arith, long));
        names = h.names;
      };
    }
