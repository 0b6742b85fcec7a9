-- `reader::location::read_line` meets its contract.
use Rattle.semantics.proofs.Prelude.{◌≡◌, sym, ap, ◌∙◌, T, rules}
use Rattle.std.proofs.lemmas.Result.{err_from_is_err_and}
use Rattle.semantics.specs.Text.{name_ok, fields}
use Rattle.semantics.specs.Reading.{ok}
use Rattle.semantics.proofs.ReadInBounds.{check_ok}
use Rattle.text.specs.Fields.{res_by, res}
use Rattle.text.proofs.FieldTests.{then_fail, then_ok}
use Rattle.reader.specs.Lines.{loc_judged}
use Rattle.reader.proofs.Reading.{loc_late, loc_full, loc_read}
use Rattle.reader.proofs.location.read_line.Goals as goal

pub named-requires : goal.named-requires
unfolding res_by
named-requires c =
    let kind : loc_judged (fields c.args.line.now.bytes.now) ≡ ok c.in_ok-error.error = sym c.judged.ensures ∙ ap res c.in_ok-error.was in
    let name = c.field_bytes.ensures 1 (c.field_after-name.ensures 0 c.requires) in
    let named : T (name_ok c.field_bytes.result.now) = rw name (check_ok _ _ _ (check_ok _ _ _ kind).1).0 in
    (named, search rules, search rules)

pub returns-then-draft-ne0 : goal.returns-then-draft-ne0
returns-then-draft-ne0 c = λ s h. loc_late s _ h.rows c.if-draft-ne0.true

pub returns-then-draft-ge-MOST_LOCATIONS : goal.returns-then-draft-ge-MOST_LOCATIONS
returns-then-draft-ge-MOST_LOCATIONS c = λ s h. loc_full s _ h.rows c.if-draft-ne0.false c.if-draft-ge-MOST_LOCATIONS.true

pub returns-in_err-error : goal.returns-in_err-error
unfolding res_by
returns-in_err-error c = λ s h.
    let p = err_from_is_err_and c.from_residual.result c.from_residual.ensures.1 in
    rw (p.1, p.2) (loc_read s _ h.rows c.if-draft-ne0.false c.if-draft-ge-MOST_LOCATIONS.false ∙ then_fail _ (sym c.judged.ensures ∙ ap res c.in_err-error.was))

pub returns : goal.returns
unfolding res_by
returns c = λ s h.
    let fs = fields c.args.line.now.bytes.now in
    let kind : loc_judged fs ≡ ok c.in_ok-error.error = sym c.judged.ensures ∙ ap res c.in_ok-error.was in
    let name = c.field_bytes.ensures 1 (c.field_after-name.ensures 0 c.requires) in
    rw (loc_read s fs h.rows c.if-draft-ne0.false c.if-draft-ge-MOST_LOCATIONS.false ∙ then_ok _ kind) (rw name at (c.named.ensures s h))
