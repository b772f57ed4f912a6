use Rattle.std.proofs.Common.{◌∙◌, ◌+◌, ◌*◌, ◌/◌, ap}
use Rattle.lia_solver.proofs.Halving.{in_two}
use Rattle.lia_solver.proofs.division.in_two_steps.Goals as goal

pub returns : goal.returns
returns c =
    let n = c.args.number in let d = c.args.divisor in
    ap (λ k. k * 4294967296 + c.from-2.result) c.from.ensures
    ∙ (ap (λ k. n / 4294967296 / d * 4294967296 + k) c.from-2.ensures ∙ in_two n 4294967296 d c.requires.some)
