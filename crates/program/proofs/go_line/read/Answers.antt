-- `program::go_line::read` meets its contract: the line is judged by the place of its LF.
use Rattle.semantics.proofs.Prelude.{sym, ◌∙◌, ◌+◌, ◌<◌, arith, length, lt-ltb, le-ltb}
use Rattle.semantics.specs.Reading.{check}
use Rattle.text.specs.Fields.{res_by}
use Rattle.program.proofs.FirstLine.{end_within, part_long, judged, rest_is}
use Rattle.words.proofs.Rows.{tail}
use Rattle.std.proofs.lemmas.Result.{err_from_is_err_and}
use Rattle.program.proofs.go_line.read.Goals as goal

pub slice_bounds-line-end : goal.slice_bounds-line-end
slice_bounds-line-end c = part_long _ _ c.measure-shape.ensures

pub returns-then-input-shape : goal.returns-then-input-shape
unfolding check
returns-then-input-shape c = judged _ _ c.measure-shape.ensures ∙ rw c.if-input-shape.true

pub returns-then-not-bytes_ok : goal.returns-then-not-bytes_ok
unfolding check
returns-then-not-bytes_ok c = judged _ _ c.measure-shape.ensures ∙ rw (c.if-input-shape.false, sym c.bytes_ok.ensures ∙ c.if-not-bytes_ok.true)

pub returns-then-shape-input : goal.returns-then-shape-input
unfolding check
returns-then-shape-input c =
    let s = c.measure-shape.result in
    judged _ _ c.measure-shape.ensures
    ∙ rw (c.if-input-shape.false, sym c.bytes_ok.ensures ∙ c.if-not-bytes_ok.false, le-ltb s.end (length c.args.input.now) (omega (arith, c.if-shape-input.true)))

pub returns-in_err-go : goal.returns-in_err-go
unfolding res_by check
returns-in_err-go c =
    let s = c.measure-shape.result in
    let ended : s.end < length c.args.input.now = omega (arith, c.if-shape-input.false, end_within _ _ c.measure-shape.ensures) in
    let p = err_from_is_err_and c.from_residual.result c.from_residual.ensures.1 in
    rw (p.1, p.2) (judged _ _ c.measure-shape.ensures ∙ rw (c.if-input-shape.false, sym c.bytes_ok.ensures ∙ c.if-not-bytes_ok.false, lt-ltb _ _ ended) (sym c.in_err-go.ensures))

pub returns : goal.returns
unfolding res_by check
returns c =
    let s = c.measure-shape.result in
    let input = c.args.input.now in
    let ended : s.end < length input = omega (arith, c.if-shape-input.false, end_within _ _ c.measure-shape.ensures) in
    (judged _ _ c.measure-shape.ensures ∙ rw (c.if-input-shape.false, sym c.bytes_ok.ensures ∙ c.if-not-bytes_ok.false, lt-ltb _ _ ended) (sym c.in_ok-go.ensures), rw (tail input (s.end + 1)) (rest_is _ _ c.measure-shape.ensures))
