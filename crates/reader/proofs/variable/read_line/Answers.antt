-- `reader::variable::read_line` meets its contract.
use Rattle.semantics.proofs.Prelude.{◌≡◌, sym, ap, ◌∙◌, T, rules}
use Rattle.std.proofs.lemmas.Result.{err_from_is_err_and}
use Rattle.semantics.specs.Text.{name_ok, fields}
use Rattle.semantics.specs.Reading.{ok}
use Rattle.semantics.proofs.ReadInBounds.{check_ok}
use Rattle.text.specs.Fields.{res_by}
use Rattle.text.proofs.FieldTests.{then_fail, then_ok}
use Rattle.reader.specs.Answers.{var_of}
use Rattle.reader.specs.Lines.{var_judged}
use Rattle.reader.proofs.Reading.{var_late, var_full, var_read}
use Rattle.reader.proofs.variable.read_line.Goals as goal

pub named-requires : goal.named-requires
unfolding res_by
named-requires c =
    let said : var_judged (fields c.args.line.now.bytes.now) ≡ ok (var_of c.in_ok-v.v) = sym c.judged.ensures ∙ ap (res_by var_of) c.in_ok-v.was in
    let name = c.field_bytes.ensures 1 (c.field_after-name.ensures 0 c.requires) in
    let named : T (name_ok c.field_bytes.result.now) = rw name (check_ok _ _ _ (check_ok _ _ _ said).1).0 in
    (named, search rules, search rules, search rules)

pub returns-then-t-ne0 : goal.returns-then-t-ne0
returns-then-t-ne0 c = λ s h. var_late s _ h.rows c.then-t-ne0.either

pub returns-then-t-ge-MOST_VARIABLES : goal.returns-then-t-ge-MOST_VARIABLES
returns-then-t-ge-MOST_VARIABLES c = λ s h. var_full s _ h.rows c.if-t-ne0.false c.if-t-ne0-2.false c.if-t-ge-MOST_VARIABLES.true

pub returns-in_err-v : goal.returns-in_err-v
unfolding res_by
returns-in_err-v c = λ s h.
    let p = err_from_is_err_and c.from_residual.result c.from_residual.ensures.1 in
    rw (p.1, p.2) (var_read s _ h.rows c.if-t-ne0.false c.if-t-ne0-2.false c.if-t-ge-MOST_VARIABLES.false ∙ then_fail _ (sym c.judged.ensures ∙ ap (res_by var_of) c.in_err-v.was))

pub returns : goal.returns
unfolding res_by
returns c = λ s h.
    let fs = fields c.args.line.now.bytes.now in
    let said : var_judged fs ≡ ok (var_of c.in_ok-v.v) = sym c.judged.ensures ∙ ap (res_by var_of) c.in_ok-v.was in
    let name = c.field_bytes.ensures 1 (c.field_after-name.ensures 0 c.requires) in
    rw (var_read s fs h.rows c.if-t-ne0.false c.if-t-ne0-2.false c.if-t-ge-MOST_VARIABLES.false ∙ then_ok _ said) (rw name at (c.named.ensures s h))
