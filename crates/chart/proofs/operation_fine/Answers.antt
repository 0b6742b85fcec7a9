-- `chart::operation_fine` meets its contract.
use Rattle.semantics.proofs.Prelude.{◌∙◌, sym, ap, rules, ⊎_elim}
use Rattle.chart.specs.declared.Kind.TheVariants.{Skip, Set, Compute, In, If}
use Rattle.chart.specs.Kinds.{kind_of}
use Rattle.chart.proofs.KindTests.{tested_by}
use Rattle.chart.proofs.operation_fine.Goals as goal

pub returns-in-Skip : goal.returns-in-Skip
returns-in-Skip c =
    let told = ap kind_of (sym c.magnitude.ensures.number) ∙ sym c.kind_of.ensures in
    c.all_zero.ensures ∙ tested_by c.args.vars.now c.args.v c.args.row.now (search rules) (search rules) Skip (told ∙ c.in-Skip.is)

pub returns-in-Compute : goal.returns-in-Compute
returns-in-Compute c =
    let told = ap kind_of (sym c.magnitude.ensures.number) ∙ sym c.kind_of.ensures in
    rw (c.is_below-target.ensures, c.two_fine.ensures) (tested_by c.args.vars.now c.args.v c.args.row.now (search rules) (search rules) (Compute c.in-Compute.field-0) (told ∙ c.in-Compute.is))

pub returns-in-In : goal.returns-in-In
returns-in-In c =
    let told = ap kind_of (sym c.magnitude.ensures.number) ∙ sym c.kind_of.ensures in
    rw (c.is_below-target.ensures, c.input_fine.ensures) (tested_by c.args.vars.now c.args.v c.args.row.now (search rules) (search rules) In (told ∙ c.in-In.is))

pub returns-in-Set : goal.returns-in-Set
returns-in-Set c =
    let told = ap kind_of (sym c.magnitude.ensures.number) ∙ sym c.kind_of.ensures in
    let by = tested_by c.args.vars.now c.args.v c.args.row.now (search rules) (search rules) in
    rw (c.is_below-target.ensures, c.one_fine.ensures) (⊎_elim (λ e. by Set (told ∙ e)) (λ e. by (If e.0) (told ∙ e.1)) c.in-Set.is)
