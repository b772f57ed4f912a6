use Rattle.linear_formula.proofs.Limits.{IsTerm-from_test}
use Rattle.shadow_elim.proofs.sizes.sizes_of.Goals as goal

pub greatest-requires : goal.greatest-requires
greatest-requires c = (IsTerm-from_test (record { parts = c.args.parts.now; constant = c.args.constant }) c.requires).within.coefficients
