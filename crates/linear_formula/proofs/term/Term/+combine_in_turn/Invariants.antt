use Rattle.std.proofs.Common.{length}
use Rattle.linear_formula.proofs.term.Term.+combine_in_turn.Given as goal

abbrev pub decreases-combine_in_turn : goal.decreases-combine_in_turn
decreases-combine_in_turn l = length l.parts.now
