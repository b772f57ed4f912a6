use Rattle.std.proofs.Common.{take}
use Rattle.std.specs.Prelude.{All}
use Rattle.lia_solver.specs.steps.Implied.{IsShort}
use Rattle.lia_solver.proofs.implied.are_short.Given as goal

abbrev pub invariant-loop-atom : goal.invariant-loop-atom
invariant-loop-atom l = All (λ a. IsShort a.term) (take l.atom-index l.atoms)
