use Rattle.infeasible_cert.specs.Refutation.{refutation_of}
use Rattle.infeasible_cert.specs.declared.certificate.Certificate.{Certificate}
use Rattle.proof_bundle.specs.Text.{HasRanges}
use Rattle.bundle_make.proofs.Each.{HoldBelow}
use Rattle.bundle_make.proofs.ranges.proof_fits.Given as goal

abbrev pub invariant-loop-certificate : goal.invariant-loop-certificate
invariant-loop-certificate l = HoldBelow (λ (c : Certificate). HasRanges (refutation_of c)) l.proof l.certificate-index
