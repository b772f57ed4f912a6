use Rattle.must_region.proofs.Terms.{IsSetFrom}
use Rattle.path_sweep.proofs.terms.with_terms.Given as goal

abbrev pub invariant-loop-left : goal.invariant-loop-left
invariant-loop-left l = IsSetFrom l.left l.all l.places l.terms l.items.items

abbrev pub decreases-loop-left : goal.decreases-loop-left
decreases-loop-left l = l.left
