use Rattle.semantics.proofs.Prelude.{refl, sym, ap, ◌∙◌, subst, ℕ, ◌*◌, ◌≤◌, suc, arith, length}
use Rattle.semantics.specs.Encoding.{decode}
use Rattle.semantics.specs.Memory.{width}
use Rattle.semantics.specs.Search.{first_of}
use Rattle.semantics.proofs.Decoded.{vars_count}
use Rattle.semantics.proofs.Encoded.{formed_bounds}
use Rattle.descent.proofs.StartingValues.{starts_concrete}
use Rattle.descent.proofs.Descending.{concrete_length}
use Rattle.descent.proofs.Attempts.{from_values, attempts, start_found}
use Rattle.descent.proofs.attempt.Goals as goal

pub first_start-requires : goal.first_start-requires
first_start-requires c = omega (arith, c.requires.row, vars_count c.args.guide.now.chart.now)

pub loop-end-init : goal.loop-end-init
loop-end-init c =
    let d = decode c.args.guide.now.chart.now in
    let first = c.first_start.ensures in
    (refl, first.starts, attempts d c.args.moves ∙ ap (first_of (from_values d c.args.moves)) first.all)

pub go_down-requires : goal.go_down-requires
go_down-requires c =
    let guide = c.args.guide.now in
    let d = decode guide.chart.now in
    let b = c.loop-end in
    let concrete = starts_concrete d (formed_bounds guide.chart.now guide.formed) b.start b.invariant.1 in
    record {
      concrete = concrete;
      room = subst (λ (n : ℕ). c.args.moves * suc n ≤ length b.path) (sym (concrete_length d b.start concrete)) (subst (λ (n : ℕ). c.args.moves * suc (width d) ≤ n) (sym (ap length b.invariant.0)) c.requires.room);
    }

pub returns-in-Some : goal.returns-in-Some
returns-in-Some c =
    let guide = c.args.guide.now in
    let b = c.loop-end in
    start_found (decode guide.chart.now) (formed_bounds guide.chart.now guide.formed) c.args.moves b.start b.path c.go_down.new.path b.invariant.1 c.go_down.ensures b.invariant.2 c.in-Some.is
