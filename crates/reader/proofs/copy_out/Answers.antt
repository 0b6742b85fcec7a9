-- `reader::copy_out` meets its contract.
use Rattle.semantics.proofs.Prelude.{◌∙◌, ◌+◌, ◌≤◌, arith, length}
use Rattle.semantics.specs.Layout.{counts_size}
use Rattle.semantics.proofs.AtAndIn.{some_list}
use Rattle.reader.specs.ReadSoFar.{used_words}
use Rattle.reader.proofs.CopiedOut.{held_words, too_short, room_for_chart}
use Rattle.reader.proofs.copy_out.Goals as goal

pub returns-then-words-size : goal.returns-then-words-size
returns-then-words-size c =
    let few = c.args.draft.now.few in
    record {
      answered = λ d h. rw (c.no_line-then-words-size.ensures, some_list d.locs (omega (arith, h.locs)), too_short h (omega arith) c.args.words.now (omega (arith, c.used_words-size.ensures, c.if-words-size.true)));
      written = λ d h. rw (some_list d.locs (omega (arith, h.locs)), too_short h (omega arith) c.args.words.now (omega (arith, c.used_words-size.ensures, c.if-words-size.true)));
    }

pub returns : goal.returns
returns c =
    let d = c.args.draft.now in
    let i : used_words d.tally ≤ length d.rows = omega arith in
    let f : used_words d.tally + counts_size ≤ length c.args.words.now = omega (arith, c.used_words-size.ensures, c.if-words-size.false) in
    record {
      answered = λ e h. rw (some_list e.locs (omega (arith, h.locs)), room_for_chart h i c.args.words.now f);
      written = λ e h. rw (some_list e.locs (omega (arith, h.locs)), room_for_chart h i c.args.words.now f) (c.put_chart.ensures ∙ rw c.used_words-size.ensures (held_words h i c.args.words.now));
    }
