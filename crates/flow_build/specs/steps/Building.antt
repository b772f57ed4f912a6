-- What the builder adds.
use Rattle.std.specs.Prelude.{ℕ, nat_lt, Bool, true, false, not, ◌&&◌, ◌||◌, List, [], ◌∷◌, Option, None, Some}
use Rattle.c_tree.specs.Syntax.{Expression, literal, read, read_global, input, call, negate, not as not_of, binary, Expressions, no_expressions, expression, Statement, block, set, set_global, ignore, assume, assert, if_else, loop, do_while, break, continue, return, Statements, no_statements, statement}
use Rattle.c_tree.specs.Operators.{is_division}
use Rattle.c_tree.specs.WellFormed.{is_divisor}
use Rattle.c_tree.specs.Meaning.{is_value}
use Rattle.flow_graph.specs.declared.graph.Edge.{Edge}
use Rattle.flow_graph.specs.declared.graph.Edge.TheVariants.{Assign}
use Rattle.flow_build.specs.declared.operand.Operand.{Operand}
use Rattle.flow_build.specs.declared.operand.Operand.TheVariants.{Variable, Constant}
use Rattle.flow_build.specs.declared.landing.Landed.{Landed}
use Rattle.flow_build.specs.steps.Forms.{Value}
use Rattle.flow_build.specs.steps.Forms as form
use Rattle.flow_build.specs.steps.Operands.{operand_lin}

abbrev pub is_in_place : Value → Bool
is_in_place (form.literal false n) = true
is_in_place (form.read false x) = true
is_in_place v = false

-- a literal as an operand is in place
abbrev pub is_operand_landed : Operand → (in_place : Bool) → Bool
is_operand_landed (Variable x) p = true
is_operand_landed (Constant n) p = p && is_value n

abbrev pub is_landed : Landed → Bool
is_landed l = is_operand_landed l.operand l.in_place

-- the copy of a value in place to its slot, where it is to be kept
abbrev pub copied_where : Bool → Landed → (next : ℕ) → List Edge
copied_where true l next = Assign l.node next l.slot (operand_lin l.operand) ∷ []
copied_where false l next = []

abbrev pub copied : (keep : Bool) → Landed → (next : ℕ) → List Edge
copied keep l next = copied_where (keep && l.in_place) l next

abbrev pub one_if : Bool → ℕ
one_if true = 1
one_if false = 0

abbrev pub copied_nodes : (keep : Bool) → Landed → ℕ
copied_nodes keep l = one_if (keep && l.in_place)

abbrev pub node_where : Bool → (old new : ℕ) → ℕ
node_where true old new = new
node_where false old new = old

abbrev pub copied_node : (keep : Bool) → Landed → (next : ℕ) → ℕ
copied_node keep l next = node_where (keep && l.in_place) l.node next

abbrev pub operand_where : Bool → Landed → Operand
operand_where true l = Variable l.slot
operand_where false l = l.operand

abbrev pub copied_operand : (keep : Bool) → Landed → Operand
copied_operand keep l = operand_where (keep && l.in_place) l

-- each literal is a value
abbrev mutual
  pub literals_fit : Expression → Bool
  literals_fit (literal n) = is_value n
  literals_fit (read x) = true
  literals_fit (read_global y) = true
  literals_fit input = true
  literals_fit (call p es) = all_literals_fit es
  literals_fit (negate e) = literals_fit e
  literals_fit (not_of e) = literals_fit e
  literals_fit (binary op a b) = literals_fit a && literals_fit b

  pub all_literals_fit : Expressions → Bool
  all_literals_fit no_expressions = true
  all_literals_fit (expression e es) = literals_fit e && all_literals_fit es

abbrev pub result_literals_fit : Option Expression → Bool
result_literals_fit None = true
result_literals_fit (Some e) = literals_fit e

abbrev mutual
  pub statement_literals_fit : Statement → Bool
  statement_literals_fit (block ss) = statements_literals_fit ss
  statement_literals_fit (set x e) = literals_fit e
  statement_literals_fit (set_global y e) = literals_fit e
  statement_literals_fit (ignore e) = literals_fit e
  statement_literals_fit (assume e) = literals_fit e
  statement_literals_fit (assert id e) = literals_fit e
  statement_literals_fit (if_else e a b) = literals_fit e && statement_literals_fit a &&
      statement_literals_fit b
  statement_literals_fit (loop e step body) = literals_fit e && statement_literals_fit body &&
      statement_literals_fit step
  statement_literals_fit (do_while body e) = statement_literals_fit body && literals_fit e
  statement_literals_fit break = true
  statement_literals_fit continue = true
  statement_literals_fit (return o) = result_literals_fit o

  pub statements_literals_fit : Statements → Bool
  statements_literals_fit no_statements = true
  statements_literals_fit (statement s ss) = statement_literals_fit s && statements_literals_fit ss

-- names within the limits of programs, and divisors that are literals
abbrev mutual
  pub is_lowerable : Expression → Bool
  is_lowerable (literal n) = true
  is_lowerable (read x) = nat_lt x 24
  is_lowerable (read_global y) = nat_lt y 16
  is_lowerable input = true
  is_lowerable (call p es) = are_lowerable es
  is_lowerable (negate e) = is_lowerable e
  is_lowerable (not_of e) = is_lowerable e
  is_lowerable (binary op a b) = (not (is_division op) || is_divisor b) && is_lowerable a &&
      is_lowerable b

  pub are_lowerable : Expressions → Bool
  are_lowerable no_expressions = true
  are_lowerable (expression e es) = is_lowerable e && are_lowerable es

abbrev pub is_lowerable_result : Option Expression → Bool
is_lowerable_result None = true
is_lowerable_result (Some e) = is_lowerable e

abbrev mutual
  pub is_lowerable_statement : Statement → Bool
  is_lowerable_statement (block ss) = are_lowerable_statements ss
  is_lowerable_statement (set x e) = nat_lt x 24 && is_lowerable e
  is_lowerable_statement (set_global y e) = nat_lt y 16 && is_lowerable e
  is_lowerable_statement (ignore e) = is_lowerable e
  is_lowerable_statement (assume e) = is_lowerable e
  is_lowerable_statement (assert id e) = is_lowerable e
  is_lowerable_statement (if_else e a b) = is_lowerable e && is_lowerable_statement a &&
      is_lowerable_statement b
  is_lowerable_statement (loop e step body) = is_lowerable e && is_lowerable_statement step &&
      is_lowerable_statement body
  is_lowerable_statement (do_while body e) = is_lowerable_statement body && is_lowerable e
  is_lowerable_statement break = true
  is_lowerable_statement continue = true
  is_lowerable_statement (return o) = is_lowerable_result o

  pub are_lowerable_statements : Statements → Bool
  are_lowerable_statements no_statements = true
  are_lowerable_statements (statement s ss) = is_lowerable_statement s && are_lowerable_statements
      ss
