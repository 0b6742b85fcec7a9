-- `analysis::outgoing::chain` meets its contract.
use Rattle.analysis.specs.Chains.{Chained}
use Rattle.analysis.proofs.outgoing.chain.Given as goal

abbrev pub invariant-loop-number : goal.invariant-loop-number
invariant-loop-number l = Chained l.chart l.number l.heads l.nexts
