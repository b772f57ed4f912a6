use Rattle.std.proofs.Common.{◌≡◌, take, map}
use Rattle.flow_graph.specs.Readings.{term_at}
use Rattle.path_sweep.proofs.terms.terms_at.Given as goal

abbrev pub invariant-loop-place : goal.invariant-loop-place
invariant-loop-place l = l.items.items ≡ map (term_at l.terms) (take l.place-index l.places)
