use Rattle.std.proofs.Common.{◌+◌, ◌*◌, IsTrue, drop}
use Rattle.flow_build.specs.steps.Building.{are_lowerable_statements}
use Rattle.c_tree.specs.View.{expression_of, statement_of, statements_of}
use Rattle.c_tree.specs.WellFormed.{nodes, statement_nodes, statements_nodes}
use Rattle.flow_build.proofs.AddingStatements.{Left}
use Rattle.flow_build.proofs.statement.+statements.Given as goal

abbrev pub decreases-statement : goal.decreases-statement
decreases-statement l = 3 * statement_nodes (statement_of l.s.now)

abbrev pub decreases-block : goal.decreases-block
decreases-block l = 3 * statements_nodes (statements_of l.ss.now) + 1

abbrev pub decreases-choice : goal.decreases-choice
decreases-choice l = 3 * (nodes (expression_of l.e.now) + statement_nodes (statement_of l.met.now) + statement_nodes
    (statement_of l.unmet.now))
    + 1

abbrev pub decreases-repetition : goal.decreases-repetition
decreases-repetition l = 3 * (nodes (expression_of l.e.now) + statement_nodes (statement_of l.step.now) + statement_nodes
    (statement_of l.body.now))
    + 1

abbrev pub decreases-tested_repetition : goal.decreases-tested_repetition
decreases-tested_repetition l = 3 * (statement_nodes (statement_of l.body.now) + nodes (expression_of l.e.now)) + 1

abbrev pub invariant-block-loop-i : goal.invariant-block-loop-i
invariant-block-loop-i l = record {
  left : Left (statements_of l.fn.ss) (statements_of (drop l.i l.ss)) l.fn.frame l.fn.from l.fn.exits l.fn.b l.b l.node l.free;
  lowerable : IsTrue (are_lowerable_statements (statements_of (drop l.i l.ss)));
}
