use Rattle.semantics.proofs.Prelude.{subst, ◌+◌, arith}
use Rattle.semantics.specs.Encoding.{decode}
use Rattle.semantics.specs.Search.{attempt, explicit}
use Rattle.descent.specs.Trails.{Holds}
use Rattle.descent.proofs.Attempts.{attempt_found, attempt_next, none_deeper}
use Rattle.descent.proofs.deepen.Goals as goal

pub returns-in-Some : goal.returns-in-Some
returns-in-Some c =
    let d = decode c.args.guide.now.chart.now in
    let m = c.loop-moves.moves in
    attempt_found d c.args.k m c.attempt.new.start c.attempt.new.path (omega (arith, c.loop-moves-test.true)) c.loop-moves.invariant _ (subst (Holds d (attempt (explicit d) m) c.attempt.new.start c.attempt.new.path) c.in-Some.is c.attempt.ensures)

pub loop-moves-preserved : goal.loop-moves-preserved
loop-moves-preserved c =
    let d = decode c.args.guide.now.chart.now in
    let m = c.loop-moves.moves in
    attempt_next d c.args.k m c.attempt.new.start c.attempt.new.path (omega (arith, c.loop-moves-test.true)) c.loop-moves.invariant (subst (Holds d (attempt (explicit d) m) c.attempt.new.start c.attempt.new.path) c.in_default.is c.attempt.ensures)

pub returns-in_default : goal.returns-in_default
returns-in_default c =
    let d = decode c.args.guide.now.chart.now in
    let m = c.loop-moves.moves in
    let left = attempt_next d c.args.k m c.attempt.new.start c.attempt.new.path (omega (arith, c.loop-moves-test.true)) c.loop-moves.invariant (subst (Holds d (attempt (explicit d) m) c.attempt.new.start c.attempt.new.path) c.in_default.is c.attempt.ensures) in
    none_deeper d c.args.k (m + 1) _ _ left (omega arith)
