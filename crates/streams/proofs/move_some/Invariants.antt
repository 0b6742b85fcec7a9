-- `streams::move_some`: a call leaves as many bytes as there were.
use Rattle.std.proofs.Common.{◌≡◌}
use Rattle.streams.proofs.move_some.Given as goal

abbrev pub invariant-loop : goal.invariant-loop
invariant-loop g l = g.S.Stream.size l.stream ≡ g.S.Stream.size l.fn.stream
