use Rattle.std.proofs.Common.{IsTrue, ℕ, ℤ, List, arith, sym, subst}
use Rattle.flow_graph.specs.declared.columns.TheConstants.{FIRST_SYMBOL}
use Rattle.linear_formula.specs.LinearSum.{is_ascending}
use Rattle.lia_solver.proofs.Ranges.{ascending-lower}
use Rattle.punch_step.proofs.entry_points.point_of.Goals as goal

pub new-requires : goal.new-requires
new-requires c =
    let values = c.in_ok-all.all.items in
    let ascends = ascending-lower FIRST_SYMBOL 0 values (omega arith) c.in_ok-all.ensures.ascending in
    subst (λ (ps : List (ℕ × ℤ)). IsTrue (is_ascending ps)) (sym c.from_vec.ensures) ascends
