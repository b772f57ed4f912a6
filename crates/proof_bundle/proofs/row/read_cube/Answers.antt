use Rattle.proof_bundle.proofs.Rows.{cubes_are_terms}
use Rattle.proof_bundle.proofs.row.read_cube.Goals as goal

pub from_vec-requires : goal.from_vec-requires
from_vec-requires c = cubes_are_terms c.args.bytes.now c.in_ok-atoms.atoms.items c.in_ok-atoms.rest.now c.in_ok-atoms.ensures
