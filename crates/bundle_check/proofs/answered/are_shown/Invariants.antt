use Rattle.bundle_check.proofs.Answering.{AreLeftShown}
use Rattle.bundle_check.proofs.answered.are_shown.Given as goal

abbrev pub invariant-loop-atom : goal.invariant-loop-atom
invariant-loop-atom l = AreLeftShown l.rows.atoms l.atoms l.proof l.atom-index l.used
