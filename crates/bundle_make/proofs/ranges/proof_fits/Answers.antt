use Rattle.infeasible_cert.specs.Refutation.{refutation_of}
use Rattle.infeasible_cert.specs.declared.certificate.Certificate.{Certificate}
use Rattle.std.proofs.Common.{subst}
use Rattle.proof_bundle.specs.Text.{HasRanges}
use Rattle.bundle_make.proofs.Each.{all_below, below_next}
use Rattle.bundle_make.proofs.ranges.proof_fits.Goals as goal

pub loop-certificate-preserved : goal.loop-certificate-preserved
loop-certificate-preserved c =
    below_next (λ (c : Certificate). HasRanges (refutation_of c)) c.args.proof.now c.loop-certificate.certificate-index
    c.certificate-item.result c.loop-certificate-test.true c.loop-certificate.invariant
    (subst (λ (c : Certificate). HasRanges (refutation_of c)) c.certificate-item.is c.certificate_fits.ensures)

pub returns : goal.returns
returns c = (
  c.well_formed.0.0,
  all_below (λ (c : Certificate). HasRanges (refutation_of c)) c.args.proof.now
      c.loop-certificate.certificate-index c.loop-certificate-test.false c.loop-certificate.invariant,
)
