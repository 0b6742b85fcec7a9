-- `writer::Writer::signed` meets its contract: the sign, and the number without it.
use Rattle.semantics.proofs.Prelude.{◌≡◌, sym, ap, subst, nat_abs, w32, to_z-of_z}
use Rattle.semantics.specs.Text.{decimal}
use Rattle.writer.specs.declared.Writer.{Writer}
use Rattle.writer.specs.Writers.{Writes}
use Rattle.writer.proofs.Written.{writes_then, writes_same}
use Rattle.writer.proofs.Decimals.{decimal_z_below, decimal_z_else}
use Rattle.writer.proofs.Writer.signed.Goals.{then-z-lt0, else-z-lt0}
use Rattle.writer.proofs.Writer.signed.Goals as goal

pub returns : goal.returns
returns c =
    let q = to_z-of_z w32 c.args.z c.ranges.z in
    let e : c.magnitude.result ≡ nat_abs c.args.z = rw q at c.magnitude.ensures.number in
    let digits = writes_same (ap decimal e) c.decimal.ensures in
    elim c.if-z-lt0.branch [
      | then-z-lt0 w ↦ writes_same (sym (decimal_z_below c.args.z (rw q at w.if-z-lt0.true))) (writes_then w.byte.ensures (subst (λ (a : Writer). Writes (decimal (nat_abs c.args.z)) a c.decimal.new.self) w.self-is digits))
      | else-z-lt0 w ↦ writes_same (sym (decimal_z_else c.args.z (rw q at w.if-z-lt0.false))) (subst (λ (a : Writer). Writes (decimal (nat_abs c.args.z)) a c.decimal.new.self) w.self-is digits)
    ]
