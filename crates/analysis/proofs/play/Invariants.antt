-- `analysis::play` meets its contract.
use Rattle.semantics.proofs.Prelude.{◌≡◌, ◌+◌, ◌-◌, ◌≤◌}
use Rattle.semantics.specs.Layout.{most_iterations}
use Rattle.semantics.specs.Algorithm.{run}
use Rattle.reached.specs.Links.{chains_of, Linked}
use Rattle.transfer.specs.Transfer.{edges_from}
use Rattle.progress.specs.Progress.{load_of}
use Rattle.analysis.specs.Loaded.{domain_of, Resumable}
use Rattle.analysis.proofs.play.Given as goal

abbrev pub invariant-loop : goal.invariant-loop
invariant-loop l =
    let o = l.outline in
    Resumable o.layout o.edges l.at l.table l.list
    × (l.at.iterations + (l.most - l.counter) ≤ most_iterations)
    × (run (domain_of o.chart.now) (edges_from 0 o.edges) l.most (load_of o.layout l.initial.at l.initial.table l.initial.list)
    ≡ run (domain_of o.chart.now) (edges_from 0 o.edges) (l.most - l.counter) (load_of o.layout l.at l.table l.list))
    × Linked (chains_of o.layout l.at.used l.table) l.links
