-- `listing::Held::put_step` meets its contract.
use Rattle.semantics.proofs.Prelude.{ap, ◌∙◌, List, ℕ, ℤ}
use Rattle.semantics.specs.Text.{decimal}
use Rattle.semantics.specs.Encoding.{decode}
use Rattle.semantics.specs.Memory.{origin_in}
use Rattle.state.specs.Rows.{tail_of}
use Rattle.writer.proofs.Written.{writes_then, writes_same}
use Rattle.listing.proofs.TextPieces.{step_is}
use Rattle.listing.proofs.Shown.{laid}
use Rattle.listing.proofs.Held.put_step.Goals as goal

pub returns : goal.returns
returns c =
    let h = c.args.self.now in
    let edge = c.origin_edge.ensures.edge ∙ ap (λ (ws : List ℤ). (origin_in ws).edge) (c.tail_of-tail.ensures.tail ∙ ap (λ (s : ℕ). tail_of h.layout s h.table.now) c.slot.ensures.id) in
    writes_same (step_is (decode h.chart) h.layout (laid h) h.table.now h.list.now h.analysis c.args.id.0 c.requires)
    (writes_then (writes_same (ap decimal edge) c.decimal.ensures) (writes_then c.byte.ensures c.put_slot.ensures))
