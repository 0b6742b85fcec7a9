-- `streams::move_all`: the calls have moved nothing, or no less than the last one answered.
use Rattle.std.proofs.Common.{◌≡◌, ◌-◌, ◌≤◌, MatchResult}
use Rattle.streams.proofs.move_all.Given as goal

abbrev pub invariant-loop-count : goal.invariant-loop-count
invariant-loop-count g l =
    (g.S.Stream.size l.stream ≡ g.S.Stream.size l.fn.stream)
    × (l.count ≤ g.S.Stream.size l.stream)
    × MatchResult l.last (λ n. (n ≤ l.count) × (n ≡ 0 → l.count ≡ 0)) (λ _. ⊥)

abbrev pub decreases-loop-count : goal.decreases-loop-count
decreases-loop-count g l = g.S.Stream.size l.stream - l.count
