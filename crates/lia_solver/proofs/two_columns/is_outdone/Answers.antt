use Rattle.std.proofs.Common.{arith}
use Rattle.std.proofs.lemmas.Int.{ints}
use Rattle.linear_formula.proofs.Finishing.{cast_wide}
use Rattle.lia_solver.proofs.TwoColumns.{value-cast, zero-times}
use Rattle.lia_solver.proofs.two_columns.is_outdone.Goals as goal

pub returns-then-coefficient-gt0 : goal.returns-then-coefficient-gt0
returns-then-coefficient-gt0 c = λ e.
    let value = value-cast c.args.coefficient c.args.sides.greatest c.args.constant c.requires.coefficient c.requires.greatest
    c.requires.constant in
    let cast = cast_wide c.args.coefficient (omega (arith, c.requires.coefficient)) in
    record {
      above = λ _. omega (arith, ints, e, value);
      below = λ h. absurd (omega (arith, ints, cast, c.if-coefficient-gt0.true, h));
      none = λ h. absurd (omega (arith, ints, cast, c.if-coefficient-gt0.true, h));
    }

pub returns-else-coefficient-gt0 : goal.returns-else-coefficient-gt0
returns-else-coefficient-gt0 c = λ e.
    let value = value-cast c.args.coefficient c.args.sides.least c.args.constant c.requires.coefficient c.requires.least
    c.requires.constant in
    let cast = cast_wide c.args.coefficient (omega (arith, c.requires.coefficient)) in
    record {
      above = λ h. absurd (omega (arith, ints, cast, c.if-coefficient-gt0.false, h));
      below = λ _. omega (arith, ints, e, value);
      none = λ h. omega (arith, ints, e, value, zero-times c.args.coefficient c.args.sides.least c.args.constant h);
    }
