use Rattle.std.proofs.Common.{rules, ◌≡◌}
use Rattle.linear_formula.specs.Equality.{same_atoms}
use Rattle.linear_formula.specs.steps.SameValues.{atoms-same, says}
use Rattle.linear_formula.proofs.shared.BlockPartialEq.eq.Goals as goal

pub returns-clause-same : goal.returns-clause-same
returns-clause-same c =
    let x = c.args.self.now in
    let y = c.args.other.now in
    let e : c.eq.result ≡ same_atoms x y = search rules in
    says c.eq.result (same_atoms x y) e (atoms-same x y)
