use Rattle.linear_formula.proofs.Gathering.{Listing}
use Rattle.linear_formula.proofs.sums.Sums.parts.Given as goal

abbrev pub invariant-loop-column : goal.invariant-loop-column
invariant-loop-column l = Listing l.self.adds l.self.parts l.out.items l.column-iterator
