use Rattle.std.proofs.Common.{List, arith, subst, sym}
use Rattle.infeasible_cert.specs.Refutation.{refutation_of}
use Rattle.infeasible_cert.specs.declared.certificate.Certificate.{Certificate}
use Rattle.proof_bundle.specs.Claims.{move_of}
use Rattle.proof_bundle.specs.Text.{HasRanges}
use Rattle.proof_bundle.specs.declared.bundle.Move.{Move}
use Rattle.bundle_make.specs.steps.Ranges.{IsSizedMove, IsSizedProof}
use Rattle.bundle_make.proofs.Sizing.{each_map}
use Rattle.bundle_make.proofs.ranges.move_fits.Goals as goal

pub returns-in-KillCall : goal.returns-in-KillCall
returns-in-KillCall c =
    let proof = subst (λ (cs : List Certificate). IsSizedProof cs) c.as_slice-in-KillCall.ensures c.proof_fits.ensures in
    subst (λ (m : Move). IsSizedMove (move_of m)) (sym c.in-KillCall.is) (
      c.edge_fits-in-KillCall.ensures,
      omega arith,
      each_map HasRanges refutation_of c.in-KillCall.proof proof,
    )
