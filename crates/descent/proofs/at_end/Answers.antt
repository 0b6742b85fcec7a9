use Rattle.semantics.proofs.Prelude.{◌∙◌, sym}
use Rattle.semantics.specs.Encoding.{decode}
use Rattle.semantics.specs.Search.{found}
use Rattle.transfer.proofs.Agree.{agree}
use Rattle.descent.proofs.Moves.{concrete_says}
use Rattle.descent.proofs.at_end.Goals as goal

pub returns-then-is_error : goal.returns-then-is_error
unfolding found
returns-then-is_error c =
    let e = (rw c.args.guide.now.same at c.is_error.ensures) ∙ (agree c.args.guide.now.chart.now c.args.guide.now.formed).error c.args.row.now _ (concrete_says (decode c.args.guide.now.chart.now) c.args.row.now c.requires) in
    rw (sym e ∙ c.if-is_error.true)

pub returns : goal.returns
unfolding found
returns c =
    let e = (rw c.args.guide.now.same at c.is_error.ensures) ∙ (agree c.args.guide.now.chart.now c.args.guide.now.formed).error c.args.row.now _ (concrete_says (decode c.args.guide.now.chart.now) c.args.row.now c.requires) in
    rw (sym e ∙ c.if-is_error.false)
