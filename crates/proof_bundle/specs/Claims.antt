-- Bundles without where they lie in memory.
use Rattle.std.specs.Prelude.{ℕ, List, map}
use Rattle.linear_formula.specs.declared.formula.Atom.{Atom}
use Rattle.infeasible_cert.specs.Refutation.{Refutation, refutation_of}
use Rattle.summary_form.specs.declared.query.Query.{Query}
use Rattle.may_partition.specs.declared.region.RegionEdge.{RegionEdge}
use Rattle.proof_bundle.specs.declared.bundle.Bundle.{Bundle}
use Rattle.proof_bundle.specs.declared.bundle.Claim.{Claim}
use Rattle.proof_bundle.specs.declared.bundle.Move.{Move}
use Rattle.proof_bundle.specs.declared.bundle.Move.TheVariants as stored

pub data PureMove : Type 0 where
  split : RegionEdge → List Atom → PureMove
  kill : RegionEdge → Refutation → PureMove
  -- by the claim of this number
  kill_call : RegionEdge → ℕ → List Refutation → PureMove

pub record PureClaim : Type 0 where
  pub query : Query
  pub moves : List PureMove

-- the assertion is counted from 0
pub record PureBundle : Type 0 where
  pub source : List ℕ
  pub id : ℕ
  pub claims : List PureClaim

abbrev pub move_of : Move → PureMove
move_of (stored.Split k atoms) = split k atoms
move_of (stored.Kill k by) = kill k (refutation_of by)
move_of (stored.KillCall k claim proof) = kill_call k claim (map refutation_of proof)

abbrev pub claim_of : Claim → PureClaim
claim_of c = record { query = c.query; moves = map move_of c.moves }

abbrev pub pure_of : Bundle → PureBundle
pure_of b = record { source = b.source.items; id = b.id; claims = map claim_of b.claims.items }
