use Rattle.std.proofs.Common.{◌+◌, ◌*◌}
use Rattle.c_tree.specs.View.{statement_of, statements_of}
use Rattle.c_tree.specs.WellFormed.{statement_nodes, statements_nodes}
use Rattle.summary_keep.proofs.assertions.+statements.Given as goal

abbrev pub decreases-push_by : goal.decreases-push_by
decreases-push_by l = 2 * statement_nodes (statement_of l.statement.now)

abbrev pub decreases-push_in : goal.decreases-push_in
decreases-push_in l = 2 * statements_nodes (statements_of l.statements.now) + 1
