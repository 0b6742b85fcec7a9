-- `chart::put_chart` meets its contract.
use Rattle.semantics.proofs.Prelude.{[], ◌∷◌, ◌≡◌, ◌∙◌, arith, pos, to_z, w32, to_z_pos}
use Rattle.chart.proofs.Storing.{stored_then}
use Rattle.chart.proofs.put_chart.Goals as goal

pub returns : goal.returns
returns c =
    let a = c.args in
    let v : to_z w32 a.vars ≡ pos a.vars = to_z_pos w32 (omega arith) in
    let l : to_z w32 a.locations ≡ pos a.locations = to_z_pos w32 (omega arith) in
    let e : to_z w32 a.edges ≡ pos a.edges = to_z_pos w32 (omega arith) in
    c.store_words-2.ensures ∙ rw (c.store_words.ensures, v, l, e) (stored_then 0 (pos a.vars ∷ pos a.locations ∷ pos a.edges ∷ []) a.chart.now (omega arith) a.rows.now)
