use Rattle.std.proofs.Common.{◌+◌, ◌*◌}
use Rattle.c_tree.specs.View.{expression_of, expressions_of}
use Rattle.flow_build.proofs.Measures.{weight, weight_of_all}
use Rattle.flow_build.proofs.expression.+expressions.Given as goal

abbrev pub decreases-value : goal.decreases-value
decreases-value l = 6 * weight (expression_of l.e.now)

abbrev pub decreases-test : goal.decreases-test
decreases-test l = 6 * weight (expression_of l.e.now) + 1

abbrev pub decreases-call : goal.decreases-call
decreases-call l = 6 * weight_of_all (expressions_of l.es.now) + 2

abbrev pub decreases-arguments : goal.decreases-arguments
decreases-arguments l = 6 * weight_of_all (expressions_of l.es.now) + 1

abbrev pub decreases-argument : goal.decreases-argument
decreases-argument l = 6 * weight (expression_of l.e.now) + 1

abbrev pub decreases-product : goal.decreases-product
decreases-product l = 6 * weight (expression_of l.e.now) + 1

abbrev pub decreases-sides : goal.decreases-sides
decreases-sides l = 6 * weight (expression_of l.left.now) + 6 * weight (expression_of l.right.now) + 1

abbrev pub decreases-sum : goal.decreases-sum
decreases-sum l = 6 * weight (expression_of l.left.now) + 6 * weight (expression_of l.right.now) + 2

abbrev pub decreases-difference : goal.decreases-difference
decreases-difference l = 6 * weight (expression_of l.left.now) + 6 * weight (expression_of l.right.now) + 2

abbrev pub decreases-arithmetic : goal.decreases-arithmetic
decreases-arithmetic l = 6 * weight (expression_of l.left.now) + 6 * weight (expression_of l.right.now) + 3

abbrev pub decreases-condition : goal.decreases-condition
decreases-condition l = 6 * weight (expression_of l.left.now) + 6 * weight (expression_of l.right.now) + 2

abbrev pub decreases-operation : goal.decreases-operation
decreases-operation l = 6 * weight (expression_of l.left.now) + 6 * weight (expression_of l.right.now) + 4

abbrev pub decreases-division : goal.decreases-division
decreases-division l = 6 * weight (expression_of l.left.now) + 6 * weight (expression_of l.right.now) + 3

abbrev pub decreases-quotient : goal.decreases-quotient
decreases-quotient l = 6 * weight (expression_of l.e.now) + 2

abbrev pub decreases-remainder : goal.decreases-remainder
decreases-remainder l = 6 * weight (expression_of l.e.now) + 2
