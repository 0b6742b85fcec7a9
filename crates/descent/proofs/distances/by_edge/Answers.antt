use Rattle.descent.proofs.Moves.{edge_small}
use Rattle.descent.proofs.distances.by_edge.Goals as goal

pub edge_to-requires : goal.edge_to-requires
edge_to-requires c = edge_small c.args.chart.now c.words.ensures.in_form c.args.edge c.requires
