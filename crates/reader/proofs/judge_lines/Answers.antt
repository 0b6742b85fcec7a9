-- `reader::judge_lines` meets its contract: by what is answered to the next line, if there is one.
use Rattle.semantics.proofs.Prelude.{◌+◌, refl, rules, sym}
use Rattle.std.proofs.lemmas.Result.{err_from_is_err_and}
use Rattle.text.specs.Lines.{Begins}
use Rattle.reader.proofs.NextLine.{Along, all_judged, at_first, lines_on, lines_refused}
use Rattle.reader.proofs.judge_lines.Goals as goal

pub loop-n-init : goal.loop-n-init
loop-n-init c = rw (c.into_iter-n-iterator.ensures.into_iter_gives, c.enumerate-n-items.ensures.source, c.enumerate-n-items.ensures.count, c.open.ensures.0, c.open.ensures.1) (record { lent = refl; along = at_first c.args.text.now c.args.draft.now c.requires })

pub loop-n-preserved : goal.loop-n-preserved
loop-n-preserved c =
    let i = c.loop-n.invariant in
    let a : Along c.args.text.now c.loop-n.n-iterator.iter.at c.in-Some.n c.loop-n.draft = rw (sym c.in-Some.ensures.steps.1) at i.along in
    let b : Begins c.args.text.now c.loop-n.n-iterator.iter.at c.in-Some.line c.next.new.self.iter.at = rw i.lent at c.in-Some.ensures.steps.0.0 in
    let on : Along c.args.text.now c.next.new.self.iter.at (c.in-Some.n + 1) c.judge_line.new.draft = lines_on a b c.judge_line.result c.map_err.result c.judge_line.new.draft (c.judge_line.ensures a.read a.holds) (λ x k. search rules) (λ e k. search rules) c.in_ok-map_err.was in
    record {
      lent = rw c.in-Some.ensures.steps.0.1 i.lent;
      along = rw c.in-Some.ensures.steps.2 (rw c.in-Some.ensures.steps.1 at on);
    }

pub returns-in_err-map_err : goal.returns-in_err-map_err
returns-in_err-map_err c =
    let i = c.loop-n.invariant in
    let a : Along c.args.text.now c.loop-n.n-iterator.iter.at c.in-Some.n c.loop-n.draft = rw (sym c.in-Some.ensures.steps.1) at i.along in
    let b : Begins c.args.text.now c.loop-n.n-iterator.iter.at c.in-Some.line c.next.new.self.iter.at = rw i.lent at c.in-Some.ensures.steps.0.0 in
    let p = err_from_is_err_and c.from_residual.result c.from_residual.ensures.1 in
    rw (p.1, p.2) (lines_refused a b c.judge_line.result c.map_err.result c.judge_line.new.draft (c.judge_line.ensures a.read a.holds) (λ x k. search rules) (λ e k. search rules) c.in_err-map_err.was)

pub returns : goal.returns
returns c = all_judged c.loop-n.invariant.along (rw c.loop-n.invariant.lent at c.in-None.ensures.steps.0.0.0)
