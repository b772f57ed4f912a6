use Rattle.lia_solver.specs.steps.Asked.{IsLeft}
use Rattle.lia_solver.proofs.Asking.{SoFar}
use Rattle.lia_solver.proofs.entails.entails.Given as goal

abbrev pub invariant-loop-atom : goal.invariant-loop-atom
invariant-loop-atom l = SoFar l.left.atoms l.atom-items l.atom-index l.certificates.items × IsLeft l.left.atoms l.asked
