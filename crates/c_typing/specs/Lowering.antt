-- The program of a tree without faults.
use Rattle.std.specs.Prelude.{ℕ, ℤ, ◌+◌, not as not_bool, if◌then◌else◌, List, [], ◌∷◌, ◌++◌, length, map, Option, Some, None, unwrap_or, codes, pos}
use Rattle.c_tree.specs.declared.tree.Op.{Op}
use Rattle.c_tree.specs.declared.tree.Op.TheVariants as op
use Rattle.c_tree.specs.declared.tree.AssertPlace.{AssertPlace}
use Rattle.c_tree.specs.Constants.{constant_value}
use Rattle.c_tree.specs.Operators.{is_division}
use Rattle.c_tree.specs.Syntax as program
use Rattle.c_tree.specs.Syntax.{Expression, Expressions, no_expressions, expression, Statement, Statements, PureProcedure, PureProgram}
use Rattle.c_tree.specs.SourceTree.{ExpressionTree, literal, name, call, not, negate, plus, binary, ExpressionTrees, no_arguments, argument, SimpleStatement, set, change, add_one, subtract_one, call_statement, Declarator, ForInit, no_init, declaring, starting, StatementTree, block, empty, declare, simple, if_then, if_else, while_loop, do_while, for_loop, break, continue, return, StatementTrees, no_statements, statement, ProcedureTree, Global, FileItem}
use Rattle.c_typing.specs.Scope.{procedures_of, number_of, globals_of, global_of, FileScope, ScopedProcedure, scoped_procedures, Callee, input, assume, assert, defined, unknown, callee_of, Scope, slot_of, with_variable, with_names, names_of, parameter_scope, declared_by, declared_by_init, variables_of, asserts_in, asserts_by, asserts_by_init, asserts_by_step}

-- what the name of a variable means: a slot of the procedure, or a global by its number
pub data VariablePlace : Type 0 where
  local : ℕ → VariablePlace
  global : ℕ → VariablePlace

-- a variable of the procedure hides a global
abbrev pub place_from : (slot number : Option ℕ) → VariablePlace
place_from (Some s) number = local s
place_from None (Some y) = global y
place_from None None = local 0

abbrev pub place : FileScope → List Scope → List ℕ → VariablePlace
place file scopes x = place_from (slot_of scopes x) (global_of file.globals x)

abbrev pub read_of : VariablePlace → Expression
read_of (local s) = program.read s
read_of (global y) = program.read_global y

abbrev pub set_of : VariablePlace → Expression → Statement
set_of (local s) e = program.set s e
set_of (global y) e = program.set_global y e

-- a variable gets the result of an operator on its value and another one
abbrev pub changed : VariablePlace → Op → Expression → Statement
changed v o e = set_of v (program.binary o (read_of v) e)

-- the right side of an operator: a divisor is its value
abbrev pub right_side : Op → Expression → Expression
right_side o e = if is_division o then program.literal (unwrap_or (constant_value e) (pos 0)) else e

abbrev pub joined : Statements → Statements → Statements
joined program.no_statements ss = ss
joined (program.statement s rest) ss = program.statement s (joined rest ss)

-- an empty block stands for what is absent
abbrev pub nothing : Statement
nothing = program.block program.no_statements

-- (of `assume` and `assert` no value is used)
abbrev pub lowered_call : Callee → Expressions → Expression
lowered_call input es = program.input
lowered_call (defined number params void) es = program.call number es
lowered_call assume es = program.literal (pos 0)
lowered_call assert es = program.literal (pos 0)
lowered_call unknown es = program.literal (pos 0)

abbrev pub first_of : Expressions → Expression
first_of no_expressions = program.literal (pos 0)
first_of (expression e es) = e

-- a call that is a statement; `id` assertions stand before it
abbrev pub called_statement : Callee → ℕ → Expressions → Statement
called_statement assume id es = program.assume (first_of es)
called_statement assert id es = program.assert id (first_of es)
called_statement input id es = program.ignore program.input
called_statement (defined number params void) id es = program.ignore (program.call number es)
called_statement unknown id es = nothing

module _ (file : FileScope) where
  abbrev mutual
    pub lowered : List Scope → ExpressionTree → Expression
    lowered scopes (literal n) = program.literal n
    lowered scopes (name n) = read_of (place file scopes n.name)
    lowered scopes (call n es) = lowered_call (callee_of file.procedures n.name)
        (lowered_all scopes es)
    lowered scopes (not e) = program.not (lowered scopes e)
    lowered scopes (negate e) = program.negate (lowered scopes e)
    lowered scopes (plus e) = lowered scopes e
    lowered scopes (binary o at a b) = program.binary o (lowered scopes a)
        (right_side o (lowered scopes b))

    pub lowered_all : List Scope → ExpressionTrees → Expressions
    lowered_all scopes no_arguments = no_expressions
    lowered_all scopes (argument e es) = expression (lowered scopes e) (lowered_all scopes es)

  -- the value of a declaration without an initialiser is 0
  abbrev pub lowered_value : List Scope → Option ExpressionTree → Expression
  lowered_value scopes None = program.literal (pos 0)
  lowered_value scopes (Some e) = lowered scopes e

  -- the condition of a `for` without one is 1
  abbrev pub lowered_test : List Scope → Option ExpressionTree → Expression
  lowered_test scopes None = program.literal (pos 1)
  lowered_test scopes (Some e) = lowered scopes e

  abbrev pub lowered_result : List Scope → Option ExpressionTree → Option Expression
  lowered_result scopes None = None
  lowered_result scopes (Some e) = Some (lowered scopes e)

  -- `id` is the number of the next assertion
  abbrev pub lowered_simple : List Scope → ℕ → SimpleStatement → Statement
  lowered_simple scopes id (set n e) = set_of (place file scopes n.name) (lowered scopes e)
  lowered_simple scopes id (change o at n e) = changed (place file scopes n.name) o
      (right_side o (lowered scopes e))
  lowered_simple scopes id (add_one n) = changed (place file scopes n.name) op.Add
      (program.literal (pos 1))
  lowered_simple scopes id (subtract_one n) = changed (place file scopes n.name) op.Subtract
      (program.literal (pos 1))
  lowered_simple scopes id (call_statement n es) = called_statement
      (callee_of file.procedures n.name)
      id
      (lowered_all scopes es)

  abbrev pub lowered_step : List Scope → ℕ → Option SimpleStatement → Statement
  lowered_step scopes id None = nothing
  lowered_step scopes id (Some s) = lowered_simple scopes id s

  -- a set for each declared name, from the slot `next` on
  abbrev pub lowered_declarators : List Scope → (next : ℕ) → List Declarator → Statements
  lowered_declarators scopes next [] = program.no_statements
  lowered_declarators scopes next (d ∷ ds) =
      program.statement (program.set next (lowered_value scopes d.value))
      (lowered_declarators (with_variable scopes d.named.name next) (next + 1) ds)

  abbrev pub init_scopes : List Scope → (next : ℕ) → ForInit → List Scope
  init_scopes scopes next f = with_names ([] ∷ scopes) next (declared_by_init f)

  -- the first part of a `for`, and then its loop: a block of them, and without a first part the
  -- loop itself
  abbrev pub with_init : List Scope → (next id : ℕ) → ForInit → Statement → Statement
  with_init scopes next id no_init whole = whole
  with_init scopes next id (declaring ds) whole = program.block
      (joined (lowered_declarators ([] ∷ scopes) next ds)
      (program.statement whole program.no_statements))
  with_init scopes next id (starting s) whole = program.block
      (program.statement (lowered_simple ([] ∷ scopes) id s)
      (program.statement whole program.no_statements))

  -- after a statement of a block
  abbrev pub scopes_after : List Scope → (next : ℕ) → StatementTree → List Scope
  scopes_after scopes next (declare ds) = with_names scopes next (names_of ds)
  scopes_after scopes next _ = scopes

  -- what a statement of a block becomes there: a declaration the sets themselves
  abbrev pub spliced : List Scope → (next : ℕ) → StatementTree → Statement → Statements
  spliced scopes next (declare ds) whole = lowered_declarators scopes next ds
  spliced scopes next s whole = program.statement whole program.no_statements

  -- `next` is the next slot, and `id` the number of the next assertion
  abbrev mutual
    pub lowered_statement : List Scope → (next id : ℕ) → StatementTree → Statement
    lowered_statement scopes next id (block ss) = program.block
        (lowered_statements ([] ∷ scopes) next id ss)
    lowered_statement scopes next id empty = nothing
    lowered_statement scopes next id (declare ds) = program.block
        (lowered_declarators scopes next ds)
    lowered_statement scopes next id (simple s) = lowered_simple scopes id s
    lowered_statement scopes next id (if_then e a) = program.if_else (lowered scopes e)
        (lowered_statement scopes next id a) nothing
    lowered_statement scopes next id (if_else e a b) =
        program.if_else (lowered scopes e) (lowered_statement scopes next id a)
        (lowered_statement scopes (next + length (declared_by a)) (id + length (asserts_by a)) b)
    lowered_statement scopes next id (while_loop e a) = program.loop (lowered scopes e) nothing
        (lowered_statement scopes next id a)
    lowered_statement scopes next id (do_while a e) = program.do_while
        (lowered_statement scopes next id a) (lowered scopes e)
    lowered_statement scopes next id (for_loop f t s a) =
        with_init scopes next id f
        (program.loop (lowered_test (init_scopes scopes next f) t)
        (lowered_step (init_scopes scopes next f) (id + length (asserts_by_init f)) s)
        (lowered_statement (init_scopes scopes next f) (next + length (declared_by_init f))
        (id + length (asserts_by_init f) + length (asserts_by_step s)) a))
    lowered_statement scopes next id (break at) = program.break
    lowered_statement scopes next id (continue at) = program.continue
    lowered_statement scopes next id (return at e) = program.return (lowered_result scopes e)

    -- a declaration becomes sets of the block that it stands in
    pub lowered_statements : List Scope → (next id : ℕ) → StatementTrees → Statements
    lowered_statements scopes next id no_statements = program.no_statements
    lowered_statements scopes next id (statement s ss) =
        joined (spliced scopes next s (lowered_statement scopes next id s))
        (lowered_statements (scopes_after scopes next s) (next + length (declared_by s))
        (id + length (asserts_by s)) ss)

  abbrev pub lowered_procedure : (id : ℕ) → ProcedureTree → PureProcedure
  lowered_procedure id p = record {
    name = p.named.name;
    params = length p.params;
    slots = length (variables_of p);
    gives = not_bool p.void;
    body = lowered_statements (parameter_scope p) (length p.params) id p.body;
  }

abbrev pub lowered_procedures : (all : List ProcedureTree) → (id : ℕ) → List ScopedProcedure →
    List PureProcedure
lowered_procedures all id [] = []
lowered_procedures all id (q ∷ qs) =
    lowered_procedure (record { procedures = all; globals = q.globals }) id q.tree
    ∷ lowered_procedures all (id + length (asserts_in q.tree.body)) qs

-- where the assertions of the procedures from the number `proc` on stand
abbrev pub assert_places : (proc : ℕ) → List ProcedureTree → List AssertPlace
assert_places proc [] = []
assert_places proc (p ∷ ps) = map (λ at. record { at = at; proc = proc }) (asserts_in p.body)
    ++ assert_places (proc + 1) ps

-- a global without a value opens with 0
abbrev pub opening_values : List Global → List ℤ
opening_values gs = map (λ (g : Global). unwrap_or g.value (pos 0)) gs

abbrev pub lowered_file : List FileItem → PureProgram
lowered_file is = record {
  procedures = lowered_procedures (procedures_of is) 0 (scoped_procedures [] is);
  main = unwrap_or (number_of (procedures_of is) (codes "main")) 0;
  asserts = assert_places 0 (procedures_of is);
  globals = opening_values (globals_of is);
}
