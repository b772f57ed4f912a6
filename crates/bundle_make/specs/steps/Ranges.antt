-- Claims whose numbers are of their types, however deep their certificates nest.
use Rattle.std.specs.Prelude.{List}
use Rattle.infeasible_cert.specs.Refutation.{refutation_of}
use Rattle.infeasible_cert.specs.declared.certificate.Certificate.{Certificate}
use Rattle.proof_bundle.specs.Claims.{PureClaim, PureMove, split, kill, kill_call}
use Rattle.proof_bundle.specs.Text.{AreEach, HasRanges, Is32, IsEdge, IsExit, IsRow}

abbrev pub IsSizedProof : List Certificate → Type 0
IsSizedProof cs = AreEach (λ c. HasRanges (refutation_of c)) cs

abbrev pub IsSizedMove : PureMove → Type 0
IsSizedMove (split k atoms) = IsEdge k × AreEach IsRow atoms
IsSizedMove (kill k c) = IsEdge k × HasRanges c
IsSizedMove (kill_call k number cs) = IsEdge k × Is32 number × AreEach HasRanges cs

pub record IsSizedClaim (c : PureClaim) : Type 0 where
  pub proc : Is32 c.query.proc
  pub exit : IsExit c.query.exit
  pub start : AreEach IsRow c.query.start.atoms
  pub end : AreEach IsRow c.query.end.atoms
  pub moves : AreEach IsSizedMove c.moves
