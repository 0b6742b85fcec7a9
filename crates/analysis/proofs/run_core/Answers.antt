-- `analysis::run_core` meets its contract.
use Rattle.semantics.proofs.Prelude.{◌+◌, ◌*◌, arith}
use Rattle.semantics.specs.Layout.{most_locations, most_edges, most_slots}
use Rattle.reached.proofs.Linking.{unlinked}
use Rattle.reached.proofs.FormKept.{apart, in_table}
use Rattle.analysis.proofs.Chaining.{unchained}
use Rattle.analysis.proofs.run_core.Goals as goal

pub chain-requires : goal.chain-requires
chain-requires c = (unchained c.args.chart.now c.args.edges most_locations most_edges, c.requires.3)

pub link_all-requires : goal.link_all-requires
link_all-requires c =
    let k = c.requires.0.kept in
    (unlinked (2 * most_locations + most_slots) (omega arith), apart k, in_table k, omega (arith, k.capacity, k.small))

pub invariant_of-outline : goal.invariant_of-outline
invariant_of-outline c = record { outlined = record { first = record { id = c.first_edge.ensures.id; at = omega (arith, c.first_edge.ensures.place) }; small = c.requires.3; narrow = c.requires.2; chained = c.chain.ensures } }
