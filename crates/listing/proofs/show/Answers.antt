-- `listing::show` meets its contract.
use Rattle.semantics.proofs.Prelude.{sym, ap, ◌∙◌, true, false, not, ◌++◌, ℕ, ◌+◌, ◌≤◌, zero-add, arith, ltb, ltb-false, not-true, length, drop}
use Rattle.std.proofs.lemmas.Result.{err_from_is_err_and}
use Rattle.semantics.specs.declared.Refusal.TheVariants as refused
use Rattle.semantics.specs.Encoding.{decode}
use Rattle.semantics.specs.Outcomes.{fine}
use Rattle.semantics.specs.Refusals.{number_of}
use Rattle.checks.specs.Form.{lent}
use Rattle.checks.proofs.Numbered.{numbered}
use Rattle.writer.proofs.Written.{put_fits}
use Rattle.listing.specs.Views.{view_text}
use Rattle.listing.proofs.Refusals.{by_form, by_text, refuses, shows}
use Rattle.listing.proofs.show.Goals as goal

pub returns-in_err-held : goal.returns-in_err-held
returns-in_err-held c =
    let a = c.args in
    let m = lent a.table.now a.list.now a.a in
    let r = c.in_err-held.field-0.0 in
    let p = err_from_is_err_and c.from_residual.result c.from_residual.ensures.1 in
    let o = refuses a.view a.chart.now m a.space.now r (by_form a.view a.chart.now m a.space.now (number_of r) c.in_err-held.ensures.refused (numbered r)) in
    record { answer = rw (p.1, p.2) o.0; space = o.1 }

pub returns-then-not-has_text : goal.returns-then-not-has_text
returns-then-not-has_text c =
    let a = c.args in
    let m = lent a.table.now a.list.now a.a in
    let o = refuses a.view a.chart.now m a.space.now refused.NoAlarm (sym (by_text a.view a.chart.now m a.space.now c.in_ok-held.ensures.refused false _ c.if-not-has_text.ensures (λ i. not (ltb (length a.space.now) (length (view_text a.view (decode a.chart.now) m)))))) in
    record { answer = o.0; space = o.1 }

pub returns-then-not-fits : goal.returns-then-not-fits
returns-then-not-fits c =
    let a = c.args in
    let m = lent a.table.now a.list.now a.a in
    let fits = rw (c.in_ok-held.ensures.chart, c.in_ok-held.ensures.memory) at c.if-not-fits.ensures in
    let o = refuses a.view a.chart.now m a.space.now refused.FewBytes (sym (by_text a.view a.chart.now m a.space.now c.in_ok-held.ensures.refused true false c.if-not-has_text.ensures fits)) in
    record { answer = o.0; space = o.1 }

pub returns : goal.returns
returns c =
    let a = c.args in
    let m = lent a.table.now a.list.now a.a in
    let space = a.space.now in
    let text = view_text a.view (decode a.chart.now) m in
    let fits = rw (c.in_ok-held.ensures.chart, c.in_ok-held.ensures.memory) at c.if-not-fits.ensures in
    let o = shows a.view a.chart.now m space (by_text a.view a.chart.now m space c.in_ok-held.ensures.refused true true c.if-not-has_text.ensures fits) in
    let put = rw (c.in_ok-held.ensures.chart, c.in_ok-held.ensures.memory) at c.write.ensures in
    let room : 0 + length text ≤ length space = omega (arith, ltb-false (length space) (length text) (not-true _ (sym fits))) in
    let f = put_fits put room in
    record {
      answer = ap fine (f.1 ∙ zero-add (length text)) ∙ o.0;
      space = f.0 ∙ ap (λ (n : ℕ). text ++ drop n space) (zero-add (length text)) ∙ o.1;
    }
