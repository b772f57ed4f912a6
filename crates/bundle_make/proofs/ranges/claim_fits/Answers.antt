use Rattle.std.proofs.Common.{List, arith, subst}
use Rattle.linear_formula.specs.declared.formula.Atom.{Atom}
use Rattle.proof_bundle.specs.Claims.{move_of}
use Rattle.proof_bundle.specs.Text.{AreEach, IsRow}
use Rattle.proof_bundle.specs.declared.bundle.Move.{Move}
use Rattle.bundle_make.specs.steps.Ranges.{IsSizedMove}
use Rattle.bundle_make.proofs.Sizing.{each_map}
use Rattle.bundle_make.proofs.ranges.claim_fits.Goals as goal

pub returns : goal.returns
returns c = record {
  proc = omega arith;
  exit = c.exit_fits.ensures;
  start = subst (λ (xs : List Atom). AreEach IsRow xs) c.as_slice.ensures.value c.atoms_fit.ensures;
  end = subst (λ (xs : List Atom). AreEach IsRow xs) c.as_slice-2.ensures.value c.atoms_fit-2.ensures;
  moves = each_map IsSizedMove move_of c.args.claim.now.moves
      (subst (λ (xs : List Move). AreEach (λ m. IsSizedMove (move_of m)) xs) c.as_slice-3.ensures c.moves_fit.ensures);
}
