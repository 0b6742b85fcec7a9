-- `reached::links::link_all` meets its contract. The invariant: the slots before the loop's are linked.
use Rattle.reached.specs.Links.{chains_of, Linked}
use Rattle.reached.proofs.links.link_all.Given as goal

abbrev pub invariant-loop-id : goal.invariant-loop-id
invariant-loop-id l = Linked (chains_of l.layout l.id l.table) l.links
