use Rattle.std.proofs.Common.{take}
use Rattle.punch_step.proofs.EntailedByExtremes.{AreRenumbered}
use Rattle.punch_step.proofs.entailing.renumbered.Given as goal

abbrev pub invariant-loop-proof : goal.invariant-loop-proof
invariant-loop-proof l = AreRenumbered l.numbers.items l.count (take l.proof-index l.proofs) l.all.items
