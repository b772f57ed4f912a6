use Rattle.std.proofs.Common.{arith, ap}
use Rattle.std.specs.Prelude.{unsigned_abs}
use Rattle.linear_formula.proofs.Finishing.{AllWithin-at}
use Rattle.linear_formula.proofs.Merging.{at, cast_same}
use Rattle.lia_solver.proofs.table.hash_of.Goals as goal

pub overflow_cast-size : goal.overflow_cast-size
overflow_cast-size c =
    let small = AllWithin-at c.args.parts.now c.loop-column.column-index (omega arith) c.requires in
    omega (
      arith,
      small,
      c.unsigned_abs-size.ensures.value,
      ap unsigned_abs (cast_same (at c.args.parts.now c.loop-column.column-index).1 (omega (arith, small))),
    )

pub overflow_mul-code-in-loop-column : goal.overflow_mul-code-in-loop-column
overflow_mul-code-in-loop-column c =
    let small = AllWithin-at c.args.parts.now c.loop-column.column-index (omega arith) c.requires in
    let bound = c.loop-column.invariant.1 in
    omega (
      arith,
      small,
      bound,
      c.unsigned_abs-size.ensures.value,
      ap unsigned_abs (cast_same (at c.args.parts.now c.loop-column.column-index).1 (omega (arith, small))),
    )

pub overflow_add-code : goal.overflow_add-code
overflow_add-code c =
    let small = AllWithin-at c.args.parts.now c.loop-column.column-index (omega arith) c.requires in
    let bound = c.loop-column.invariant.1 in
    omega (
      arith,
      small,
      bound,
      c.unsigned_abs-size.ensures.value,
      ap unsigned_abs (cast_same (at c.args.parts.now c.loop-column.column-index).1 (omega (arith, small))),
    )

pub overflow_add-code-in-loop-column : goal.overflow_add-code-in-loop-column
overflow_add-code-in-loop-column c =
    let small = AllWithin-at c.args.parts.now c.loop-column.column-index (omega arith) c.requires in
    let bound = c.loop-column.invariant.1 in
    omega (
      arith,
      small,
      bound,
      c.sign_code.ensures.bound,
      c.unsigned_abs-size.ensures.value,
      ap unsigned_abs (cast_same (at c.args.parts.now c.loop-column.column-index).1 (omega (arith, small))),
    )

pub overflow_add-hash : goal.overflow_add-hash
overflow_add-hash c =
    let small = AllWithin-at c.args.parts.now c.loop-column.column-index (omega arith) c.requires in
    let bound = c.loop-column.invariant.1 in
    omega (
      arith,
      small,
      bound,
      c.sign_code.ensures.bound,
      c.unsigned_abs-size.ensures.value,
      ap unsigned_abs (cast_same (at c.args.parts.now c.loop-column.column-index).1 (omega (arith, small))),
    )
