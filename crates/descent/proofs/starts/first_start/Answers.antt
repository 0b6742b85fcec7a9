use Rattle.semantics.proofs.Prelude.{sym, ap, ◌∙◌, append-nil, ◌+◌, ◌<◌, arith, sfits_of, pos, length, take_all, take-suc-set}
use Rattle.semantics.specs.Encoding.{variable_count, decode}
use Rattle.semantics.proofs.Encoded.{formed_bounds}
use Rattle.words.proofs.Words.{told}
use Rattle.state.specs.Rows.{id_word, with_value}
use Rattle.descent.specs.Starts.{variable_in}
use Rattle.descent.proofs.StartingValues.{next_variable, no_variable, first_row, written_one}
use Rattle.descent.proofs.starts.first_start.Goals as goal

pub loop-k-init : goal.loop-k-init
unfolding id_word
loop-k-init c =
    let o = c.args.row.now in
    let h : 0 < length o = omega arith in
    (omega (arith, c.set_location.auto.row), rw (c.set_location.ensures, take-suc-set o 0 (pos 0) h))

pub loop-k-preserved : goal.loop-k-preserved
loop-k-preserved c =
    let s = c.set_value in
    let i = c.first_value in
    let ws = c.args.chart.now in
    let k = c.loop-k.k in
    let count = c.variable_count-k-end.ensures.count ∙ ap variable_count c.words-words.ensures.words in
    let h : k + 1 < length c.loop-k.row = omega (arith, c.loop-k.invariant.0) in
    let next = next_variable ws k (omega arith) in
    let value = told {z = i.result} (sfits_of {z = i.result} i.type_inv) (rw c.words-words.ensures.words at i.ensures) in
    let put = s.ensures ∙ ap (with_value c.loop-k.row k) value in
    (s.auto.row ∙ c.loop-k.invariant.0, rw put (written_one (decode ws).vars c.loop-k.row k (variable_in ws k) next h c.loop-k.invariant.1))

pub returns : goal.returns
returns c =
    let ws = c.args.chart.now in
    let k = c.loop-k.k in
    let o = c.loop-k.row in
    let count = c.variable_count-k-end.ensures.count ∙ ap variable_count c.words-words.ensures.words in
    let all = take_all (k + 1) o (omega (arith, c.loop-k.invariant.0)) in
    let none = no_variable ws k (omega arith) in
    first_row (decode ws) o (formed_bounds ws c.words-words.ensures.in_form) (sym (c.loop-k.invariant.1 ∙ rw (all, none) (append-nil o)))
