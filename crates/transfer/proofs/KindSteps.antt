-- The operation of a code is that of its kind. Assumes nothing.
use Rattle.semantics.proofs.Prelude.{◌≡◌, ap, ◌∙◌, List, ℕ, ℤ}
use Rattle.semantics.specs.Operations.{the_relation}
use Rattle.chart.specs.declared.Kind.{Kind}
use Rattle.chart.specs.Kinds.{kind_of}
use Rattle.chart.proofs.KindOf.{by_kinds, by_relations}
use Rattle.transfer.specs.Transfer.{op_by, op_of_kind}

pub kind_is : (n : ℕ) {k : Kind} → k ≡ kind_of n → (c : List ℤ) (i : ℕ) (e : List ℤ) → op_of_kind k c i e ≡ op_by n c i e
unfolding op_by
kind_is n q c i e = ap (λ k. op_of_kind k c i e) q ∙ by_kinds (λ k. op_of_kind k c i e) n ∙ rw (by_relations the_relation n)
