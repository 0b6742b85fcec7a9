-- `transfer::compute` meets its contract.
use Rattle.semantics.proofs.Prelude.{◌∙◌, sfits_of, sfits_lit}
use Rattle.semantics.specs.Layout.{top_word}
use Rattle.words.proofs.Words.{told, told_eqb}
use Rattle.transfer.specs.Transfer.{compute_at}
use Rattle.transfer.proofs.compute.Goals as goal

pub returns : goal.returns
unfolding compute_at
returns c =
    let f = sfits_of {z = c.operand-a.result} c.operand-a.type_inv in
    let g = sfits_of {z = c.operand-b.result} c.operand-b.type_inv in
    c.assign_result.ensures
    ∙ rw (
      told_eqb f c.operand-a.ensures {n = top_word} (sfits_lit tt),
      told_eqb g c.operand-b.ensures {n = top_word} (sfits_lit tt),
      c.results-span.ensures,
      c.span_of.ensures.span,
      c.span_of-2.ensures.span,
      told f c.operand-a.ensures,
      told g c.operand-b.ensures,
      c.variable.ensures.number,
      c.variable-2.ensures.number,
      c.edge_target-k.ensures.number,
      c.edge_operand-first.ensures.tag,
      c.edge_operand-first.ensures.value,
      c.edge_operand-second.ensures.tag,
      c.edge_operand-second.ensures.value,
    )
