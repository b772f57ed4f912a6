use Rattle.std.proofs.Common.{◌++◌}
use Rattle.bundle_make.proofs.Keeping.{AreKept}
use Rattle.bundle_make.proofs.kept.keep_onto.Given as goal

abbrev pub invariant-loop-i : goal.invariant-loop-i
invariant-loop-i l = AreKept (l.asked.start.atoms ++ l.asked.end.atoms) l.atoms l.proof l.fn.out.items l.out.items l.i
