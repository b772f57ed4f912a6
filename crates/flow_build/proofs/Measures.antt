-- What a recursion over expressions counts down.
use Rattle.std.proofs.Common.{ℕ, ◌+◌}
use Rattle.c_tree.specs.Syntax.{Expression, literal, read, read_global, input, call, negate, not as not_of, binary, Expressions, no_expressions, expression}

abbrev mutual
  pub weight : Expression → ℕ
  weight (literal n) = 1
  weight (read x) = 1
  weight (read_global y) = 1
  weight input = 1
  weight (call p es) = 1 + weight_of_all es
  weight (negate e) = 1 + weight e
  weight (not_of e) = 1 + weight e
  weight (binary op a b) = 1 + weight a + weight b

  pub weight_of_all : Expressions → ℕ
  weight_of_all no_expressions = 0
  weight_of_all (expression e es) = 1 + weight e + weight_of_all es
