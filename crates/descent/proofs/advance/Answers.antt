use Rattle.semantics.proofs.Prelude.{sym, ◌∙◌, w32, to_z-of_z}
use Rattle.chart.proofs.KindOf.{code_of_in, in_of_code}
use Rattle.descent.proofs.Moves.{edge_small, row_some, advanced_by, advanced_input}
use Rattle.descent.proofs.advance.Goals as goal

pub successor-moved-requires : goal.successor-moved-requires
successor-moved-requires c =
    let h = c.requires in
    (row_some _ c.args.guide.now.formed _ _ _ _ h, h.room, edge_small _ c.args.guide.now.formed _ h.edge)

pub edge_kind-requires : goal.edge_kind-requires
edge_kind-requires c = edge_small _ c.args.guide.now.formed _ c.requires.edge

pub edge_target-requires : goal.edge_target-requires
edge_target-requires c = edge_small _ c.args.guide.now.formed _ c.requires.edge

pub returns-in-In : goal.returns-in-In
returns-in-In c =
    let a = c.args in
    let input = in_of_code _ (rw c.args.guide.now.same at (sym c.edge_kind.ensures ∙ c.in-In.is)) in
    let target = rw c.args.guide.now.same at c.edge_target.ensures.number in
    rw (c.set_value.ensures, to_z-of_z w32 a.z c.ranges.z)
    (advanced_input a.guide.now.chart.now c.args.guide.now.formed a.edge a.z a.row.now _ c.requires c.successor-moved.result _ c.edge_target.result input target (rw c.args.guide.now.same at c.successor-moved.ensures))

pub returns-in_default : goal.returns-in_default
returns-in_default c =
    let a = c.args in
    let kind = rw c.args.guide.now.same at c.edge_kind.ensures in
    advanced_by a.guide.now.chart.now c.args.guide.now.formed a.edge a.z a.row.now _ c.requires c.successor-moved.result _ (λ e. c.in_default.not-In (kind ∙ code_of_in _ e)) (rw c.args.guide.now.same at c.successor-moved.ensures)
