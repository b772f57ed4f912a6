use Rattle.path_sweep.proofs.Linked.{LinksFrom}
use Rattle.path_sweep.proofs.links.links_of.Given as goal

abbrev pub invariant-loop-left : goal.invariant-loop-left
invariant-loop-left l = LinksFrom l.graph.nodes l.edges l.left l.first.items l.next.items

abbrev pub decreases-loop-left : goal.decreases-loop-left
decreases-loop-left l = l.left
