-- `text::lines::ReaderIterator::next` meets its contract: the line ends within the text.
use Rattle.semantics.proofs.Prelude.{◌≤◌, ap, arith, length, rules}
use Rattle.text.specs.declared.lines.Shape.{Shape}
use Rattle.text.proofs.Places.{ends_within}
use Rattle.text.proofs.lines.ReaderIterator.next.Goals as goal

pub slice_bounds-bytes-end : goal.slice_bounds-bytes-end
slice_bounds-bytes-end c =
    let r = c.args.self.now in
    let end : c.measure-shape.result.end ≤ length r.text.now = omega (arith, ap (λ (s : Shape). s.end) c.measure-shape.ensures, ends_within r.text.now r.at (omega arith)) in
    search rules
