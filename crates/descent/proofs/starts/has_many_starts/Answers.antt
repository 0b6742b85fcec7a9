use Rattle.semantics.proofs.Prelude.{sym, ap, ◌∙◌, ℕ, ◌+◌, ◌*◌, arith, le-ltb, drop}
use Rattle.semantics.specs.Layout.{most_starts}
use Rattle.semantics.specs.RunListing.{start_count}
use Rattle.semantics.specs.Encoding.{variable_count, decode}
use Rattle.semantics.proofs.Encoded.{formed_bounds}
use Rattle.descent.specs.Starts.{variable_in}
use Rattle.descent.proofs.StartingValues.{next_variable, no_variable, count_turn, count_end, too_many}
use Rattle.descent.proofs.starts.has_many_starts.Goals as goal

pub returns-then-starts-gt-MOST_STARTS : goal.returns-then-starts-gt-MOST_STARTS
returns-then-starts-gt-MOST_STARTS c =
    let l = c.loop-k in
    let ws = c.args.chart.now in
    let vars = (decode ws).vars in
    let n = c.variable_count-k-end.ensures.count ∙ ap variable_count c.words-words.ensures.words in
    let v = variable_in ws l.k in
    let values = rw c.words-words.ensures.words at c.start_values-starts.ensures.count in
    let turn = count_turn vars l.starts l.k l.invariant.1 v (next_variable ws l.k (omega arith)) ∙ ap (λ (m : ℕ). l.starts * m * start_count (drop (l.k + 1) vars)) (sym values) in
    sym (too_many vars (l.starts * c.start_values-starts.result) (l.k + 1) turn (formed_bounds ws c.words-words.ensures.in_form).vars c.if-starts-gt-MOST_STARTS.true)

pub loop-k-preserved : goal.loop-k-preserved
loop-k-preserved c =
    let l = c.loop-k in
    let ws = c.args.chart.now in
    let vars = (decode ws).vars in
    let n = c.variable_count-k-end.ensures.count ∙ ap variable_count c.words-words.ensures.words in
    let values = rw c.words-words.ensures.words at c.start_values-starts.ensures.count in
    let turn = count_turn vars l.starts l.k l.invariant.1 (variable_in ws l.k) (next_variable ws l.k (omega arith)) ∙ ap (λ (m : ℕ). l.starts * m * start_count (drop (l.k + 1) vars)) (sym values) in
    (omega arith, turn)

pub returns : goal.returns
returns c =
    let l = c.loop-k in
    let ws = c.args.chart.now in
    let n = c.variable_count-k-end.ensures.count ∙ ap variable_count c.words-words.ensures.words in
    let all = count_end (decode ws).vars l.starts l.k l.invariant.1 (no_variable ws l.k (omega arith)) in
    sym (le-ltb most_starts (start_count (decode ws).vars) (omega (arith, all)))
