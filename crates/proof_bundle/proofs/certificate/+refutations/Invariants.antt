use Rattle.std.proofs.Common.{◌+◌, ◌*◌}
use Rattle.proof_bundle.proofs.certificate.+refutations.Given as goal

abbrev pub decreases-read_refutation : goal.decreases-read_refutation
decreases-read_refutation l = 2 * l.depth

abbrev pub decreases-read_branch : goal.decreases-read_branch
decreases-read_branch l = 2 * l.depth + 1
