use Rattle.std.proofs.Common.{ℤ, IsTrue, sym, subst}
use Rattle.std.specs.Int.{w64}
use Rattle.std.proofs.lemmas.Int.{to_z-of_z}
use Rattle.linear_formula.specs.LinearSum.{is_within}
use Rattle.flow_build.specs.steps.Operands.{row}
use Rattle.flow_build.proofs.SmallRows.{row_within}
use Rattle.flow_build.proofs.linear.row.Goals as goal

pub weighted_row-requires : goal.weighted_row-requires
weighted_row-requires c = λ ha hb.
    let P : ℤ → Type 0 = λ k. IsTrue (is_within (row c.args.a c.args.b k).term) in
    subst P (sym (to_z-of_z w64 c.args.k c.ranges.k)) (row_within c.args.a c.args.b c.args.k ha hb c.requires)
