use Rattle.std.proofs.Common.{arith, refl}
use Rattle.bundle_check.proofs.Answering.{all_used}
use Rattle.bundle_check.proofs.answered.are_shown.Goals as goal

pub returns : goal.returns
returns c =
    all_used c.args.rows.now.atoms c.args.atoms.now c.args.proof.now c.loop-atom.atom-index c.loop-atom.used c.loop-atom.invariant
    (omega (arith, c.loop-atom-test.false)) _ refl
