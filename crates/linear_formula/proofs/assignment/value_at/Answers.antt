use Rattle.std.proofs.Common.{◌+◌, ◌-◌, ◌/◌, arith, rules, sym, ◌∙◌, to_z-of_z, FitsSigned}
use Rattle.std.specs.Int.{w64}
use Rattle.linear_formula.proofs.Merging.{at}
use Rattle.linear_formula.proofs.Searching.{between-up, between-down, between-ends, listed-at_place}
use Rattle.linear_formula.proofs.assignment.value_at.Goals as goal

pub returns-then-x-column : goal.returns-then-x-column
returns-then-x-column c =
    let f : FitsSigned w64 (at c.args.values.now (c.loop-low.low + (c.loop-low.high - c.loop-low.low) / 2)).1 = search rules in
    to_z-of_z f ∙ sym (listed-at_place 0 c.args.column (c.loop-low.low + (c.loop-low.high - c.loop-low.low) / 2) c.args.values.now
    c.requires
    (omega (arith, c.loop-low.invariant.bound)) (omega arith))

pub loop-low-preserved-then-x-column-2 : goal.loop-low-preserved-then-x-column-2
loop-low-preserved-then-x-column-2 c =
    between-up c.args.values.now c.args.column c.loop-low.low c.loop-low.high (c.loop-low.low + (c.loop-low.high - c.loop-low.low) / 2)
    c.requires c.loop-low.invariant (omega arith) (omega arith) (omega arith)

pub loop-low-preserved : goal.loop-low-preserved
loop-low-preserved c =
    between-down c.args.values.now c.args.column c.loop-low.low c.loop-low.high (c.loop-low.low + (c.loop-low.high - c.loop-low.low) / 2)
    c.requires c.loop-low.invariant (omega arith) (omega arith) (omega arith)

pub returns : goal.returns
returns c = sym (between-ends c.args.values.now c.args.column c.loop-low.low c.loop-low.high c.loop-low.invariant (omega arith))
