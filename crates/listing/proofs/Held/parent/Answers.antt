-- `listing::Held::parent` meets its contract.
use Rattle.semantics.proofs.Prelude.{sym, ap, ◌∙◌, List, ℕ, ℤ}
use Rattle.semantics.specs.Memory.{origin_in}
use Rattle.state.specs.Rows.{tail_of}
use Rattle.listing.proofs.Ways.{parent_get}
use Rattle.listing.proofs.Held.parent.Goals as goal

pub returns : goal.returns
returns c =
    let h = c.args.self.now in
    c.origin_parent.ensures.parent
    ∙ ap (λ (ws : List ℤ). (origin_in ws).parent) (c.tail_of.ensures.tail ∙ ap (λ (k : ℕ). tail_of h.layout k h.table.now) c.slot.ensures.id)
    ∙ sym (parent_get h.layout h.analysis.used c.args.id.0 h.table.now c.requires)
