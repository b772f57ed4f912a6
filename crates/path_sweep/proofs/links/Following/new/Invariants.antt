use Rattle.path_sweep.proofs.Linked.{AllSoFar}
use Rattle.path_sweep.proofs.links.Following.new.Given as goal

abbrev pub invariant-loop-graph : goal.invariant-loop-graph
invariant-loop-graph l = AllSoFar l.graphs l.graph-index l.all.items
