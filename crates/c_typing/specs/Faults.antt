-- All faults of a tree. They stand in any order; the one that is reported is the first by position.
use Rattle.std.specs.Prelude.{ℕ, ℤ, ◌+◌, ◌==◌, Bool, true, false, ◌&&◌, ◌||◌, not as not_bool, List, [], ◌∷◌, ◌++◌, length, Option, Some, None, is_some, is_none, slice_get}
use Rattle.c_tree.specs.declared.tree.Pos.{Pos}
use Rattle.c_tree.specs.declared.tree.Op.{Op}
use Rattle.c_tree.specs.Constants.{constant_value}
use Rattle.c_tree.specs.Operators.{is_arithmetic, is_division, is_product}
use Rattle.c_tree.specs.Syntax as program
use Rattle.c_tree.specs.WellFormed.{is_divisor}
use Rattle.c_tree.specs.SourceTree.{Identifier, ExpressionTree, literal, name, call, not, negate, plus, binary, ExpressionTrees, no_arguments, argument, SimpleStatement, set, change, add_one, subtract_one, call_statement, Declarator, ForInit, no_init, declaring, starting, StatementTree, block, empty, declare, simple, if_then, if_else, while_loop, do_while, for_loop, break, continue, return, StatementTrees, no_statements, statement, ProcedureTree, Global, FileItem, prototype, procedure, globals}
use Rattle.c_typing.specs.declared.fault.TheConstants.{MAX_PROCEDURES, MAX_PARAMETERS, MAX_VARIABLES, MAX_GLOBALS, MAX_ASSERTIONS}
use Rattle.c_typing.specs.declared.fault.TypeFault.{TypeFault}
use Rattle.c_typing.specs.declared.fault.TypeFault.TheVariants.{UnknownName, Duplicate, WrongCount, VoidValue, NotLinear, MainShape, OutsideLoop, OverLimit, BadDivisor}
use Rattle.c_typing.specs.declared.fault.Which.{Which}
use Rattle.c_typing.specs.declared.fault.Which.TheVariants.{Procedures, Parameters, Variables, Tokens, Assertions}
use Rattle.c_typing.specs.Scope.{is_built_in, is_main, procedures_of, number_of, globals_of, global_of, FileScope, ScopedProcedure, scoped_procedures, Callee, input, assume, assert, defined, unknown, callee_of, Scope, slot_of, with_variable, with_names, names_of, is_declared_here, parameter_scope, declared_by_init, variables_of, asserts_in_file}
use Rattle.c_typing.specs.Lowering.{lowered}

pub record Fault : Type 0 where
  pub fault : TypeFault
  pub at : Pos

abbrev pub fault_if : Bool → TypeFault → Pos → List Fault
fault_if true f p = record { fault = f; at = p } ∷ []
fault_if false f p = []

-- Expressions

-- built of literals, unary `+` and `-`, and binary `+`, `-` and `*`
abbrev pub is_constant : ExpressionTree → Bool
is_constant (literal n) = true
is_constant (negate e) = is_constant e
is_constant (plus e) = is_constant e
is_constant (binary o at a b) = is_arithmetic o && is_constant a && is_constant b
is_constant (name n) = false
is_constant (call n es) = false
is_constant (not e) = false

abbrev pub argument_count : ExpressionTrees → ℕ
argument_count no_arguments = 0
argument_count (argument e es) = 1 + argument_count es

-- a call with `count` arguments; `used` says that its value is used
abbrev pub callee_faults : Callee → Identifier → ℕ → (used : Bool) → List Fault
callee_faults input n count used = fault_if (not_bool (count == 0)) WrongCount n.at
callee_faults assume n count used = fault_if (not_bool (count == 1)) WrongCount n.at
    ++ fault_if used VoidValue n.at
callee_faults assert n count used = fault_if (not_bool (count == 1)) WrongCount n.at
    ++ fault_if used VoidValue n.at
callee_faults (defined number params void) n count used =
    fault_if (not_bool (count == params)) WrongCount n.at
    ++ (fault_if (used && void) VoidValue n.at ++ fault_if (is_main n.name) MainShape n.at)
callee_faults unknown n count used = fault_if true UnknownName n.at

-- a divisor: a value (without one the run would stop) that isn't 0, and at most 2^40 in magnitude
abbrev pub may_divide : Option ℤ → Bool
may_divide None = false
may_divide (Some n) = is_divisor (program.literal n)

module _ (file : FileScope) where
  -- a variable that isn't in scope
  abbrev pub name_faults : List Scope → Identifier → List Fault
  name_faults scopes n = fault_if
      (is_none (slot_of scopes n.name) && is_none (global_of file.globals n.name)) UnknownName n.at

  -- the side of a division is constant, and what it becomes has a value that may divide
  abbrev pub has_divisor : List Scope → ExpressionTree → Bool
  has_divisor scopes e = is_constant e && may_divide (constant_value (lowered file scopes e))

  -- an operator, one of whose sides is constant or none, with this right side
  abbrev pub operator_faults : List Scope → Op → Pos → (constant : Bool) →
      (right : ExpressionTree) →
      List Fault
  operator_faults scopes o at constant right =
      fault_if (is_product o && not_bool constant) NotLinear at
      ++ fault_if (is_division o && not_bool (has_divisor scopes right)) BadDivisor at

  abbrev mutual
    pub expression_faults : List Scope → ExpressionTree → List Fault
    expression_faults scopes (literal n) = []
    expression_faults scopes (name n) = name_faults scopes n
    expression_faults scopes (call n es) = callee_faults (callee_of file.procedures n.name) n
        (argument_count es)
        true ++ arguments_faults scopes es
    expression_faults scopes (not e) = expression_faults scopes e
    expression_faults scopes (negate e) = expression_faults scopes e
    expression_faults scopes (plus e) = expression_faults scopes e
    expression_faults scopes (binary o at a b) =
        operator_faults scopes o at (is_constant a || is_constant b) b
        ++ (expression_faults scopes a ++ expression_faults scopes b)

    pub arguments_faults : List Scope → ExpressionTrees → List Fault
    arguments_faults scopes no_arguments = []
    arguments_faults scopes (argument e es) = expression_faults scopes e ++ arguments_faults scopes
        es

  abbrev pub optional_faults : List Scope → Option ExpressionTree → List Fault
  optional_faults scopes None = []
  optional_faults scopes (Some e) = expression_faults scopes e

  -- Statements

  abbrev pub simple_faults : List Scope → SimpleStatement → List Fault
  simple_faults scopes (set n e) = name_faults scopes n ++ expression_faults scopes e
  simple_faults scopes (change o at n e) =
      name_faults scopes n
      ++ (operator_faults scopes o at (is_constant e) e ++ expression_faults scopes e)
  simple_faults scopes (add_one n) = name_faults scopes n
  simple_faults scopes (subtract_one n) = name_faults scopes n
  simple_faults scopes (call_statement n es) = callee_faults (callee_of file.procedures n.name) n
      (argument_count es) false ++ arguments_faults scopes es

  abbrev pub step_faults : List Scope → Option SimpleStatement → List Fault
  step_faults scopes None = []
  step_faults scopes (Some s) = simple_faults scopes s

  -- a name that its scope has already, or that no variable may have
  abbrev pub declared_faults : List Scope → Identifier → List Fault
  declared_faults scopes n = fault_if (is_declared_here scopes n.name || is_built_in n.name)
      Duplicate n.at

  -- an initialiser doesn't see its name; the slots don't matter here
  abbrev pub declarators_faults : List Scope → List Declarator → List Fault
  declarators_faults scopes [] = []
  declarators_faults scopes (d ∷ ds) =
      optional_faults scopes d.value
      ++ (declared_faults scopes d.named ++ declarators_faults (with_variable scopes d.named.name 0)
      ds)

  abbrev pub init_faults : List Scope → ForInit → List Fault
  init_faults scopes no_init = []
  init_faults scopes (declaring ds) = declarators_faults scopes ds
  init_faults scopes (starting s) = simple_faults scopes s

  -- the scopes in which the other parts of a `for` stand
  abbrev pub init_scopes : List Scope → ForInit → List Scope
  init_scopes scopes f = with_names ([] ∷ scopes) 0 (declared_by_init f)

  -- after a statement of a block
  abbrev pub scopes_after : List Scope → StatementTree → List Scope
  scopes_after scopes (declare ds) = with_names scopes 0 (names_of ds)
  scopes_after scopes _ = scopes

  abbrev pub return_faults : (void : Bool) → Pos → Option ExpressionTree → List Fault
  return_faults void at None = []
  return_faults void at (Some e) = fault_if void VoidValue at

  module _ (void : Bool) where
    abbrev mutual
      pub statement_faults : (in_loop : Bool) → List Scope → StatementTree → List Fault
      statement_faults l scopes (block ss) = statements_faults l ([] ∷ scopes) ss
      statement_faults l scopes empty = []
      statement_faults l scopes (declare ds) = declarators_faults scopes ds
      statement_faults l scopes (simple s) = simple_faults scopes s
      statement_faults l scopes (if_then e a) = expression_faults scopes e ++ statement_faults l
          scopes a
      statement_faults l scopes (if_else e a b) = expression_faults scopes e
          ++ (statement_faults l scopes a ++ statement_faults l scopes b)
      statement_faults l scopes (while_loop e a) = expression_faults scopes e ++ statement_faults
          true scopes a
      statement_faults l scopes (do_while a e) = statement_faults true scopes a ++ expression_faults
          scopes e
      statement_faults l scopes (for_loop f t s a) =
          init_faults ([] ∷ scopes) f
          ++ (optional_faults (init_scopes scopes f) t
          ++ (step_faults (init_scopes scopes f) s ++ statement_faults true (init_scopes scopes f)
          a))
      statement_faults l scopes (break at) = fault_if (not_bool l) OutsideLoop at
      statement_faults l scopes (continue at) = fault_if (not_bool l) OutsideLoop at
      statement_faults l scopes (return at e) = return_faults void at e ++ optional_faults scopes e

      pub statements_faults : (in_loop : Bool) → List Scope → StatementTrees → List Fault
      statements_faults l scopes no_statements = []
      statements_faults l scopes (statement s ss) = statement_faults l scopes s ++ statements_faults
          l (scopes_after scopes s) ss

-- Procedures and files

-- the first place past a limit
abbrev pub limit_fault : Which → Option Pos → List Fault
limit_fault w None = []
limit_fault w (Some p) = record { fault = OverLimit w; at = p } ∷ []

abbrev pub place_of : Option Identifier → Option Pos
place_of None = None
place_of (Some n) = Some n.at

abbrev pub parameters_faults : List Scope → List Identifier → List Fault
parameters_faults scopes [] = []
parameters_faults scopes (n ∷ ns) = fault_if (is_declared_here scopes n.name || is_built_in n.name)
    Duplicate n.at ++ parameters_faults (with_variable scopes n.name 0) ns

-- the name is one that no procedure may have, or an earlier procedure has it; `main` is no `void`
-- and has no parameters
abbrev pub heading_faults : (earlier : List ProcedureTree) → ProcedureTree → List Fault
heading_faults earlier p =
    fault_if (is_built_in p.named.name || is_some (number_of earlier p.named.name)) Duplicate
    p.named.at
    ++ fault_if (is_main p.named.name && (p.void || not_bool (length p.params == 0))) MainShape
    p.named.at

abbrev pub procedure_faults : FileScope → (earlier : List ProcedureTree) → ProcedureTree →
    List Fault
procedure_faults file earlier p =
    heading_faults earlier p
    ++ (parameters_faults ([] ∷ []) p.params
    ++ (limit_fault Parameters (place_of (slice_get p.params MAX_PARAMETERS))
    ++ (limit_fault Variables (place_of (slice_get (variables_of p) MAX_VARIABLES))
    ++ (limit_fault Tokens p.past
    ++ statements_faults file p.void false (parameter_scope p) p.body))))

abbrev pub procedures_faults : (all earlier : List ProcedureTree) → List ScopedProcedure →
    List Fault
procedures_faults all earlier [] = []
procedures_faults all earlier (q ∷ qs) =
    procedure_faults (record { procedures = all; globals = q.globals }) earlier q.tree
    ++ procedures_faults all (earlier ++ q.tree ∷ []) qs

-- a global whose name no variable may have, or an earlier global has
abbrev pub global_faults : (earlier : List (List ℕ)) → Global → List Fault
global_faults earlier g = fault_if
    (is_built_in g.named.name || is_some (global_of earlier g.named.name)) Duplicate g.named.at

abbrev pub globals_faults : (earlier : List (List ℕ)) → List Global → List Fault
globals_faults earlier [] = []
globals_faults earlier (g ∷ gs) = global_faults earlier g ++ globals_faults
    (earlier ++ g.named.name ∷ []) gs

-- a prototype of a name that isn't built in and that no procedure has
abbrev pub prototypes_faults : List ProcedureTree → List FileItem → List Fault
prototypes_faults ps [] = []
prototypes_faults ps (prototype n ∷ is) = fault_if
    (not_bool (is_built_in n.name || is_some (number_of ps n.name))) UnknownName n.at
    ++ prototypes_faults ps is
prototypes_faults ps (procedure p ∷ is) = prototypes_faults ps is
prototypes_faults ps (globals gs ∷ is) = prototypes_faults ps is

abbrev pub procedure_place : Option ProcedureTree → Option Pos
procedure_place None = None
procedure_place (Some p) = Some p.named.at

abbrev pub global_place : Option Global → Option Pos
global_place None = None
global_place (Some g) = Some g.named.at

abbrev pub all_faults : List FileItem → List Fault
all_faults is =
    prototypes_faults (procedures_of is) is
    ++ (globals_faults [] (globals_of is)
    ++ (procedures_faults (procedures_of is) [] (scoped_procedures [] is)
    ++ (limit_fault Procedures (procedure_place (slice_get (procedures_of is) MAX_PROCEDURES))
    ++ (limit_fault Variables (global_place (slice_get (globals_of is) MAX_GLOBALS))
    ++ limit_fault Assertions (slice_get (asserts_in_file (procedures_of is)) MAX_ASSERTIONS)))))
