-- `transfer::apply` meets its contract.
use Rattle.semantics.proofs.Prelude.{sym, ◌∙◌}
use Rattle.transfer.proofs.KindSteps.{kind_is}
use Rattle.transfer.proofs.apply.Goals as goal

pub returns-in-Skip : goal.returns-in-Skip
returns-in-Skip c = kind_is _ (sym c.in-Skip.is ∙ c.edge_kind.ensures) c.args.chart.now c.args.edge.at c.args.row.now

pub returns-in-Set : goal.returns-in-Set
returns-in-Set c = c.assign.ensures ∙ kind_is _ (sym c.in-Set.is ∙ c.edge_kind.ensures) c.args.chart.now c.args.edge.at c.args.row.now

pub returns-in-Compute : goal.returns-in-Compute
returns-in-Compute c = c.compute.ensures ∙ kind_is _ (sym c.in-Compute.is ∙ c.edge_kind.ensures) c.args.chart.now c.args.edge.at c.args.row.now

pub returns-in-In : goal.returns-in-In
returns-in-In c = c.input.ensures ∙ kind_is _ (sym c.in-In.is ∙ c.edge_kind.ensures) c.args.chart.now c.args.edge.at c.args.row.now

pub returns-in-If : goal.returns-in-If
returns-in-If c = c.assume.ensures ∙ kind_is _ (sym c.in-If.is ∙ c.edge_kind.ensures) c.args.chart.now c.args.edge.at c.args.row.now
