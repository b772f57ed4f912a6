-- The steps from a tree without faults to its program: what each takes, and what it makes. (No
-- assertion stands in an expression there.)
use Rattle.std.specs.Prelude.{◌≡◌, ℕ, ◌+◌, ◌≤◌, length, List, [], ◌∷◌, Option, Some, None}
use Rattle.c_tree.specs.SourceTree.{SimpleStatement, set, change, add_one, subtract_one, call_statement, ForInit, no_init, declaring, starting, StatementTree, block, empty, declare, simple, if_then, if_else, while_loop, do_while, for_loop, break, continue, return, StatementTrees, no_statements, statement, ProcedureTree}
use Rattle.c_tree.specs.declared.tree.Pos.{Pos}
use Rattle.c_tree.specs.declared.tree.AssertPlace.{AssertPlace}
use Rattle.c_tree.specs.Syntax as program
use Rattle.c_tree.specs.Syntax.{Statement, Statements}
use Rattle.c_typing.specs.declared.fault.TheConstants.{MAX_PROCEDURES, MAX_VARIABLES, MAX_GLOBALS, MAX_ASSERTIONS}
use Rattle.c_typing.specs.Scope.{Scope, FileScope, variables_of, declared_by, declared_in, asserts_of, asserts_of_all, asserts_of_optional, asserts_by_declarators, asserts_by, asserts_in}
use Rattle.c_typing.specs.Lowering.{joined, lowered_simple, lowered_declarators, spliced, scopes_after, lowered_statement, lowered_statements}
use Rattle.c_typing.specs.steps.Tables.{outer_of}

-- the numbers of procedures and globals are small
pub record IsWithinLimits (file : FileScope) : Type 0 where
  pub procedures : length file.procedures ≤ MAX_PROCEDURES
  pub globals : length file.globals ≤ MAX_GLOBALS

abbrev pub IsQuietSimple : SimpleStatement → Type 0
IsQuietSimple (set n e) = asserts_of e ≡ []
IsQuietSimple (change o at n e) = asserts_of e ≡ []
IsQuietSimple (add_one n) = Unit {0}
IsQuietSimple (subtract_one n) = Unit {0}
IsQuietSimple (call_statement n es) = asserts_of_all es ≡ []

abbrev pub IsQuietStep : Option SimpleStatement → Type 0
IsQuietStep None = Unit {0}
IsQuietStep (Some s) = IsQuietSimple s

abbrev pub IsQuietInit : ForInit → Type 0
IsQuietInit no_init = Unit {0}
IsQuietInit (declaring ds) = asserts_by_declarators ds ≡ []
IsQuietInit (starting s) = IsQuietSimple s

abbrev mutual
  pub IsQuiet : StatementTree → Type 0
  IsQuiet (block ss) = AreQuiet ss
  IsQuiet empty = Unit {0}
  IsQuiet (declare ds) = asserts_by_declarators ds ≡ []
  IsQuiet (simple s) = IsQuietSimple s
  IsQuiet (if_then e a) = (asserts_of e ≡ []) × IsQuiet a
  IsQuiet (if_else e a b) = (asserts_of e ≡ []) × IsQuiet a × IsQuiet b
  IsQuiet (while_loop e a) = (asserts_of e ≡ []) × IsQuiet a
  IsQuiet (do_while a e) = (asserts_of e ≡ []) × IsQuiet a
  IsQuiet (for_loop f t s a) = IsQuietInit f × (asserts_of_optional t ≡ []) × IsQuietStep s
      × IsQuiet a
  IsQuiet (break at) = Unit {0}
  IsQuiet (continue at) = Unit {0}
  IsQuiet (return at e) = asserts_of_optional e ≡ []

  pub AreQuiet : StatementTrees → Type 0
  AreQuiet no_statements = Unit {0}
  AreQuiet (statement s ss) = IsQuiet s × AreQuiet ss

-- the variables and assertions before a statement leave room for its own
pub record HasRoomFor (next id : ℕ) (s : StatementTree) : Type 0 where
  pub names : next + length (declared_by s) ≤ MAX_VARIABLES
  pub places : id + length (asserts_by s) ≤ MAX_ASSERTIONS
  pub quiet : IsQuiet s

pub record HasRoomForAll (next id : ℕ) (ss : StatementTrees) : Type 0 where
  pub names : next + length (declared_in ss) ≤ MAX_VARIABLES
  pub places : id + length (asserts_in ss) ≤ MAX_ASSERTIONS
  pub quiet : AreQuiet ss

-- what a statement becomes, and the numbers and scopes after it
pub record IsLowered (file : FileScope) (before after : List Scope) (next id next' id' : ℕ)
    (s : StatementTree) (made : Statement) : Type 0 where
  pub statement_is : made ≡ lowered_statement file before next id s
  pub next_is : next' ≡ next + length (declared_by s)
  pub id_is : id' ≡ id + length (asserts_by s)
  pub scopes : after ≡ before

-- the same of a statement of a block, whose statements so far it lengthens
pub record IsPlaced (file : FileScope) (before after : List Scope) (next id next' id' : ℕ)
    (s : StatementTree) (old new : Statements) : Type 0 where
  pub statements_are : new
      ≡ joined old (spliced file before next s (lowered_statement file before next id s))
  pub next_is : next' ≡ next + length (declared_by s)
  pub id_is : id' ≡ id + length (asserts_by s)
  pub scopes : after ≡ scopes_after file before next s

pub record AreLowered (file : FileScope) (before after : List Scope) (next id next' id' : ℕ)
    (ss : StatementTrees) (made : Statements) : Type 0 where
  pub statements_are : made ≡ lowered_statements file before next id ss
  pub next_is : next' ≡ next + length (declared_in ss)
  pub id_is : id' ≡ id + length (asserts_in ss)
  pub outer : outer_of after ≡ outer_of before

-- the statements that the first part of a `for` becomes
abbrev pub init_statements : FileScope → List Scope → (next id : ℕ) → ForInit → Statements
init_statements file ss next id no_init = program.no_statements
init_statements file ss next id (declaring ds) = lowered_declarators file ss next ds
init_statements file ss next id (starting s) = program.statement (lowered_simple file ss id s)
    program.no_statements

-- those statements and then a loop
abbrev pub wrapped : ForInit → Statements → Statement → Statement
wrapped no_init before whole = whole
wrapped (declaring ds) before whole = program.block
    (joined before (program.statement whole program.no_statements))
wrapped (starting s) before whole = program.block
    (joined before (program.statement whole program.no_statements))

-- the same of a procedure: its parameters are its first variables
pub record ProcedureFits (id : ℕ) (p : ProcedureTree) : Type 0 where
  pub names : length (variables_of p) ≤ MAX_VARIABLES
  pub places : id + length (asserts_in p.body) ≤ MAX_ASSERTIONS
  pub quiet : AreQuiet p.body

abbrev pub ProceduresFit : ℕ → List ProcedureTree → Type 0
ProceduresFit id [] = Unit {0}
ProceduresFit id (p ∷ ps) = ProcedureFits id p × ProceduresFit (id + length (asserts_in p.body)) ps

-- the assertions of a procedure with their places
abbrev pub placed : (proc : ℕ) → List Pos → List AssertPlace
placed proc [] = []
placed proc (at ∷ rest) = record { at = at; proc = proc } ∷ placed proc rest
