-- `reached::Scan::on_from` meets its contract.
use Rattle.semantics.proofs.Prelude.{◌≡◌, refl, sym, ap, subst, ◌∙◌, ℕ, ◌+◌, arith, get_or}
use Rattle.reached.specs.Links.{chain_of, chain_in, chains_of, Passed}
use Rattle.reached.proofs.SlotChains.{chains_length, chains_get, passed_rows, passed_test}
use Rattle.reached.proofs.Scan.on_from.Goals as goal

pub returns-clause-apart : goal.returns-clause-apart
returns-clause-apart c =
    let n = c.args.self.now in
    let p = c.pass-last.ensures.slot in
    let y = n.layout in
    let t = n.table.now in
    let e = n.e.now in
    let cs = chains_of y n.used t in
    let s = c.pass-last.result.id.0 in
    let m = c.next.result.0 in
    let here : get_or cs s 0 ≡ chain_of c.location_of-at.result.0 = chains_get y n.used s t p.2 ∙ ap chain_in (sym c.row_of.ensures.row) ∙ ap chain_of (sym c.location_of-at.ensures.location) in
    let over : Passed cs (chain_in e) (s + 1) m = subst (λ (l : ℕ). Passed cs (chain_of l) (s + 1) m) c.location_of.ensures.location (c.next.ensures.passed cs n.linked (omega (arith, p.2, chains_length y n.used t)) here) in
    c.pass-last.ensures.apart ∙ passed_test y n.used e t (s + 1) m (omega (arith, c.next.ensures.later)) (passed_rows y n.used e t t (s + 1) m over refl)
