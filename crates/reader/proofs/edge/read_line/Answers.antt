-- `reader::edge::read_line` meets its contract.
use Rattle.semantics.proofs.Prelude.{◌≡◌, sym, ap, ◌∙◌, Bool, ◌&&◌, true, List, ℕ, ◌<◌, arith, eqb, leb, length, eq-eqb, ne_eqb}
use Rattle.std.proofs.lemmas.Result.{err_from_is_err_and}
use Rattle.semantics.specs.Text.{fields}
use Rattle.semantics.specs.Chart.{Edge}
use Rattle.std.specs.Prelude.{Result, Ok, Option}
use Rattle.semantics.specs.Layout.{most_edges}
use Rattle.semantics.specs.declared.Refusal.{Refusal}
use Rattle.text.specs.declared.Action.{Action}
use Rattle.text.specs.declared.line.Line.{Line}
use Rattle.reader.specs.declared.draft.Draft.{Draft}
use Rattle.semantics.specs.Reading.{ok, nth, SoFar, none_empty, op_word_field, field_count, with_edge, edge_line}
use Rattle.text.specs.Fields.{res_by, the_word}
use Rattle.text.specs.declared.lines.Form.{Form}
use Rattle.text.proofs.LineFields.{field_lies_at}
use Rattle.text.proofs.FieldTests.{field_said, then_fail, then_ok}
use Rattle.reader.specs.Answers.{edge_of}
use Rattle.reader.specs.Drafts.{Holds}
use Rattle.reader.specs.Lines.{op_read, edge_read, edge_worded}
use Rattle.reader.proofs.Reading.{edge_full, edge_few_fields, edge_no_word, edge_by_word, edge_counted, edge_near}
use Rattle.reader.proofs.OneRowMore.{rows_edge}
use Rattle.reader.proofs.CheckSteps.{check_no}
use Rattle.reader.proofs.edge.read_line.Goals as goal

pub returns-then-draft-ge-MOST_EDGES : goal.returns-then-draft-ge-MOST_EDGES
returns-then-draft-ge-MOST_EDGES c = λ s h. edge_full s _ (omega (arith, h.rows.edges))

pub returns-then-not-has_at_least : goal.returns-then-not-has_at_least
returns-then-not-has_at_least c = λ s h.
    let line = c.args.line.now in
    let enough : c.has_at_least.result ≡ leb 4 (length (fields line.bytes.now)) && none_empty (fields line.bytes.now) = c.has_at_least.ensures ∙ rw line.measured in
    edge_few_fields s _ (omega (arith, h.rows.edges)) (sym enough ∙ c.if-not-has_at_least.true)

pub field_bytes-requires : goal.field_bytes-requires
field_bytes-requires c = field_lies_at _ 3 (c.field_after-word.ensures 2 (c.field_after-to.ensures 1 (c.field_after-from.ensures 0 c.requires)))

pub field_bytes-requires-2 : goal.field_bytes-requires-2
field_bytes-requires-2 c = field_lies_at _ 1 (c.field_after-from.ensures 0 c.requires)

pub field_bytes-requires-3 : goal.field_bytes-requires-3
field_bytes-requires-3 c = field_lies_at _ 2 (c.field_after-to.ensures 1 (c.field_after-from.ensures 0 c.requires))

pub returns-in_err-action : goal.returns-in_err-action
unfolding res_by
returns-in_err-action c = λ s h.
    let line = c.args.line.now in
    let enough : c.has_at_least.result ≡ leb 4 (length (fields line.bytes.now)) && none_empty (fields line.bytes.now) = c.has_at_least.ensures ∙ rw line.measured in
    let word = c.field_bytes.ensures 3 (c.field_after-word.ensures 2 (c.field_after-to.ensures 1 (c.field_after-from.ensures 0 c.requires))) in
    let p = err_from_is_err_and c.from_residual.result c.from_residual.ensures.1 in
    rw (p.1, p.2) (edge_no_word s _ (omega (arith, h.rows.edges)) (sym enough ∙ c.if-not-has_at_least.false) (field_said op_word_field (res_by the_word) word c.op_word_field.ensures c.in_err-action.was))

-- the line by its operation's word
by_word : (line : Line) {draft : Draft} {s : SoFar} → Holds draft s → draft.tally.edges < most_edges → {b : Bool} → b ≡ leb 4 line.form.fields && line.form.filled → b ≡ true
    → {f : List ℕ} {r : Result (Option Action) Refusal} {w : Option Action} → f ≡ nth (fields line.bytes.now) 3 → res_by the_word r ≡ op_word_field f → r ≡ Ok w
    → edge_line s (fields line.bytes.now) ≡ edge_worded s (the_word w) (fields line.bytes.now)
unfolding res_by
by_word line {s = s} h few {b} e t word said is =
    let enough : b ≡ leb 4 (length (fields line.bytes.now)) && none_empty (fields line.bytes.now) = e ∙ rw line.measured in
    edge_by_word s _ (omega (arith, h.rows.edges)) (sym enough ∙ t) (field_said op_word_field (res_by the_word) word said is)

pub returns-then-line-field_count : goal.returns-then-line-field_count
returns-then-line-field_count c = λ s h.
    let line = c.args.line.now in
    let word = c.field_bytes.ensures 3 (c.field_after-word.ensures 2 (c.field_after-to.ensures 1 (c.field_after-from.ensures 0 c.requires))) in
    by_word line h c.if-draft-ge-MOST_EDGES.false c.has_at_least.ensures c.if-not-has_at_least.false word c.op_word_field.ensures c.in_ok-action.was
    ∙ check_no _ _ (ne_eqb _ _ (λ e. c.if-line-field_count.true (ap (λ (f : Form). f.fields) line.measured ∙ e ∙ sym c.field_count.ensures)))

pub returns-in_err-edge : goal.returns-in_err-edge
unfolding res_by
returns-in_err-edge c = λ s h.
    let d = c.args.draft.now in
    let line = c.args.line.now in
    let fs : List (List ℕ) = fields line.bytes.now in
    let w = c.in_ok-action.action in
    let word = c.field_bytes.ensures 3 (c.field_after-word.ensures 2 (c.field_after-to.ensures 1 (c.field_after-from.ensures 0 c.requires))) in
    let from = c.field_bytes-2.ensures 1 (c.field_after-from.ensures 0 c.requires) in
    let to = c.field_bytes-3.ensures 2 (c.field_after-to.ensures 1 (c.field_after-from.ensures 0 c.requires)) in
    let counted : eqb (length fs) (field_count (the_word w)) ≡ true = eq-eqb _ _ (sym (ap (λ (f : Form). f.fields) line.measured) ∙ c.if-line-field_count.false ∙ c.field_count.ensures) in
    let said : res_by edge_of c.judged.result ≡ edge_read d.tally.locs (op_read d.rows d.tally.vars w fs) fs = rw (from, to) at c.judged.ensures in
    let p = err_from_is_err_and c.from_residual-in_err-edge.result c.from_residual-in_err-edge.ensures.1 in
    rw (p.1, p.2)
    (by_word line h c.if-draft-ge-MOST_EDGES.false c.has_at_least.ensures c.if-not-has_at_least.false word c.op_word_field.ensures c.in_ok-action.was
    ∙ edge_counted s h.rows w fs counted ∙ then_fail _ (sym said ∙ ap (res_by edge_of) c.in_err-edge.was))

pub put_edge-requires : goal.put_edge-requires
unfolding res_by
put_edge-requires c =
    let near = edge_near _ _ _ _ (sym c.judged.ensures ∙ ap (res_by edge_of) c.in_ok-edge.was) in
    (omega (arith, near.0), omega (arith, near.1), omega (arith, c.used_words-end.ensures))

pub returns : goal.returns
unfolding res_by
returns c = λ s h.
    let d = c.args.draft.now in
    let line = c.args.line.now in
    let fs : List (List ℕ) = fields line.bytes.now in
    let w = c.in_ok-action.action in
    let edge : Edge = edge_of c.in_ok-edge.edge in
    let word = c.field_bytes.ensures 3 (c.field_after-word.ensures 2 (c.field_after-to.ensures 1 (c.field_after-from.ensures 0 c.requires))) in
    let from = c.field_bytes-2.ensures 1 (c.field_after-from.ensures 0 c.requires) in
    let to = c.field_bytes-3.ensures 2 (c.field_after-to.ensures 1 (c.field_after-from.ensures 0 c.requires)) in
    let counted : eqb (length fs) (field_count (the_word w)) ≡ true = eq-eqb _ _ (sym (ap (λ (f : Form). f.fields) line.measured) ∙ c.if-line-field_count.false ∙ c.field_count.ensures) in
    let said : res_by edge_of c.judged.result ≡ edge_read d.tally.locs (op_read d.rows d.tally.vars w fs) fs = rw (from, to) at c.judged.ensures in
    record {
      read = with_edge s edge;
      is =
          by_word line h c.if-draft-ge-MOST_EDGES.false c.has_at_least.ensures c.if-not-has_at_least.false word c.op_word_field.ensures c.in_ok-action.was
          ∙ edge_counted s h.rows w fs counted ∙ then_ok (λ (x : Edge). ok (with_edge s x)) (sym said ∙ ap (res_by edge_of) c.in_ok-edge.was);
      holds = record { rows = rows_edge s h.rows c.used_words-end.ensures edge c.put_edge.ensures (omega arith); names = h.names };
    }
