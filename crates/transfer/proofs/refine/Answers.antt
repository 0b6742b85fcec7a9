use Rattle.semantics.proofs.Prelude.{◌≡◌, sym, ap, subst, ◌∙◌, rules, T, le_z, w32, w64, SFits, of_z, to_z, to_z-of_z, sfits_of}
use Rattle.semantics.proofs.Bools.{to_true}
use Rattle.semantics.proofs.Integers.{not_lt}
use Rattle.semantics.specs.declared.Span.{Span}
use Rattle.semantics.specs.Operations.{the_relation}
use Rattle.semantics.specs.Constants.{satisfying}
use Rattle.semantics.specs.Algorithm.{to}
use Rattle.state.specs.Rows.{with_value, word_join}
use Rattle.transfer.specs.Transfer.{Narrow, range_at, refine_by}
use Rattle.transfer.proofs.TransferTests.{satisfying_fits}
use Rattle.transfer.proofs.refine.Goals as goal

pub returns : goal.returns
unfolding refine_by
returns c =
    let a = c.args in
    let left = c.satisfying-left.result in
    let low_fits : SFits w64 left.low = search rules in
    let high_fits : SFits w64 left.high = search rules in
    let low_read : to_z w64 (of_z w64 left.low) ≡ left.low = to_z-of_z w64 left.low low_fits in
    let high_read : to_z w64 (of_z w64 left.high) ≡ left.high = to_z-of_z w64 left.high high_fits in
    let some : T (le_z left.low left.high) = not_lt left.high left.low (rw (low_read, high_read) at c.if-left.false) in
    let narrow : Narrow left = subst (λ (s : Span). T (le_z s.low s.high) → Narrow s) (sym c.satisfying-left.ensures) (satisfying_fits (the_relation a.rel) _ c.range_of.result c.range_of.ensures.narrow) some in
    let joined : c.join_word-v.result ≡ word_join left.low left.high = rw (low_read, high_read, to_z-of_z w32 left.low narrow.0, to_z-of_z w32 left.high narrow.1) at c.join_word-v.ensures in
    let left_is : left ≡ satisfying (the_relation a.rel) a.x (range_at a.chart.now a.k) = search rules in
    rw (← left_is, to_true (le_z left.low left.high) some) (ap to (c.set_value.ensures ∙ ap (with_value a.row.now a.k) (to_z-of_z w32 _ (sfits_of c.join_word-v.type_inv) ∙ joined)))
