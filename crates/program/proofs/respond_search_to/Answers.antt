-- `program::respond_search_to` meets its contract.
use Rattle.semantics.proofs.Prelude.{◌≡◌, sym, ap, ◌∙◌, rules, length}
use Rattle.semantics.specs.Layout.{input_bytes}
use Rattle.semantics.specs.Program.{search_output}
use Rattle.semantics.proofs.InputCut.{search_cut_same}
use Rattle.program.proofs.BufferEnough.{buffer_enough}
use Rattle.program.proofs.respond_search_to.Goals as goal

pub returns : goal.returns
returns c = λ chart b.
    let a = c.args in
    let k = a.k.now in
    let h : length a.buffer.now ≡ input_bytes = search rules in
    let e : search_output k chart ≡ search_output k c.front.result.now = buffer_enough (search_output k) (search_cut_same k) chart a.buffer.now a.count h b ∙ ap (search_output k) (sym c.front.ensures) in
    rw e (record { long = c.respond_search.ensures.count; bytes = c.respond_search.ensures.bytes })
