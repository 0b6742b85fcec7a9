-- `reader::judge_lines` meets its contract: the lines judged so far, with the reader at its place in the text lent.
use Rattle.semantics.proofs.Prelude.{◌≡◌}
use Rattle.reader.proofs.NextLine.{Along}
use Rattle.reader.proofs.judge_lines.Given as goal

abbrev pub invariant-loop-n : goal.invariant-loop-n
invariant-loop-n l = record {
  lent : l.n-iterator.iter.text.now ≡ l.text;
  along : Along l.text l.n-iterator.iter.at l.n-iterator.count l.draft;
}
