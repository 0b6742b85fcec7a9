-- `program::respond_to` meets its contract.
use Rattle.semantics.proofs.Prelude.{◌≡◌, sym, ap, ◌∙◌, rules, length}
use Rattle.semantics.specs.Layout.{input_bytes}
use Rattle.semantics.specs.Program.{output}
use Rattle.semantics.proofs.InputCut.{cut_same}
use Rattle.program.proofs.BufferEnough.{buffer_enough}
use Rattle.program.proofs.respond_to.Goals as goal

pub returns : goal.returns
returns c = λ input b.
    let a = c.args in
    let h : length a.buffer.now ≡ input_bytes = search rules in
    let e : output a.view input ≡ output a.view c.front.result.now = buffer_enough (output a.view) (cut_same a.view) input a.buffer.now a.count h b ∙ ap (output a.view) (sym c.front.ensures) in
    rw e (record { long = c.respond.ensures.count; bytes = c.respond.ensures.bytes })
