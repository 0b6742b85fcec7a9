-- `analysis::start_core` meets its contract.
use Rattle.semantics.proofs.Prelude.{◌≡◌, refl, ap, ◌∙◌, sym, ℕ, ◌*◌, ◌<◌, arith, pos, length, replicate}
use Rattle.semantics.specs.Algorithm.{first_verdict}
use Rattle.reached.specs.Reached.{Kept}
use Rattle.reached.proofs.FormKept.{empty_kept}
use Rattle.analysis.proofs.StartWords.{start_loaded}
use Rattle.analysis.proofs.start_core.Goals as goal

pub returns : goal.returns
returns c =
    let s = c.args in
    let p = c.requires in
    let table = c.fill_zero.new.s in
    let list = c.fill_zero-2.new.s in
    let lt : length table ≡ length s.table.now = c.fill_zero.auto.s in
    let ll : length list ≡ length s.list.now = c.fill_zero-2.auto.s in
    let size : length list ≡ s.capacity = ll ∙ p.6 in
    let some : 0 < length list = omega (arith, size, p.3) in
    let form : Kept s.layout table list 0 0 =
    empty_kept s.layout table list (omega (arith, p.0, p.1)) p.2 (omega (arith, p.4, size)) (lt ∙ p.5 ∙ ap (λ (n : ℕ). n * s.layout.stride) (sym size))
    (c.fill_zero.ensures ∙ ap (λ (n : ℕ). replicate n (pos 0)) (sym lt)) (c.fill_zero-2.ensures ∙ ap (λ (n : ℕ). replicate n (pos 0)) (sym ll)) in
    let app = c.append-count in
    let v = ap first_verdict c.is_error-error.ensures in
    λ last. rw (c.first_record.ensures, c.store_slot.ensures) (start_loaded s.layout table list form some s.row.now p.1 last s.chart.now _ app.new.list app.ensures app.auto.list p.7 size refl refl refl v)
