-- Names: procedures, variables and their scopes.
use Rattle.std.specs.Prelude.{ℕ, ◌+◌, Bool, false, ◌||◌, List, [], ◌∷◌, ◌++◌, length, map, Option, Some, None, is_some, codes, bytes_eq, if◌then◌else◌}
use Rattle.c_tree.specs.declared.tree.Pos.{Pos}
use Rattle.c_tree.specs.SourceTree.{Identifier, ExpressionTree, literal, name, call, not, negate, plus, binary, ExpressionTrees, no_arguments, argument, SimpleStatement, set, change, add_one, subtract_one, call_statement, Declarator, ForInit, no_init, declaring, starting, StatementTree, block, empty, declare, simple, if_then, if_else, while_loop, do_while, for_loop, break, continue, return, StatementTrees, no_statements, statement, ProcedureTree, Global, FileItem, prototype, procedure, globals}

-- Procedures

abbrev pub is_input : List ℕ → Bool
is_input x = bytes_eq x (codes "input")

abbrev pub is_assume : List ℕ → Bool
is_assume x = bytes_eq x (codes "assume")

abbrev pub is_assert : List ℕ → Bool
is_assert x = bytes_eq x (codes "assert")

abbrev pub is_main : List ℕ → Bool
is_main x = bytes_eq x (codes "main")

-- names that no procedure and no variable may have
abbrev pub is_built_in : List ℕ → Bool
is_built_in x = is_input x || is_assume x || is_assert x

-- the procedures of a file, in order
abbrev pub procedures_of : List FileItem → List ProcedureTree
procedures_of [] = []
procedures_of (prototype n ∷ is) = procedures_of is
procedures_of (procedure p ∷ is) = p ∷ procedures_of is
procedures_of (globals gs ∷ is) = procedures_of is

-- the number of a procedure: that of the first definition of the name
abbrev pub number_from : ℕ → List ProcedureTree → List ℕ → Option ℕ
number_from i [] x = None
number_from i (p ∷ ps) x = if bytes_eq p.named.name x then Some i else number_from (i + 1) ps x

abbrev pub number_of : List ProcedureTree → List ℕ → Option ℕ
number_of ps x = number_from 0 ps x

-- what is called by a name
pub data Callee : Type 0 where
  input : Callee
  assume : Callee
  assert : Callee
  defined : (number params : ℕ) (void : Bool) → Callee
  unknown : Callee

abbrev pub defined_from : ℕ → List ProcedureTree → List ℕ → Callee
defined_from i [] x = unknown
defined_from i (p ∷ ps) x = if bytes_eq p.named.name x then defined i (length p.params) p.void else
    defined_from (i + 1) ps x

abbrev pub callee_of : List ProcedureTree → List ℕ → Callee
callee_of ps x = if is_input x then input else
    (if is_assume x then assume else (if is_assert x then assert else defined_from 0 ps x))

-- Globals

-- the globals of a file, in order
abbrev pub globals_of : List FileItem → List Global
globals_of [] = []
globals_of (prototype n ∷ is) = globals_of is
globals_of (procedure p ∷ is) = globals_of is
globals_of (globals gs ∷ is) = gs ++ globals_of is

abbrev pub global_names : List Global → List (List ℕ)
global_names gs = map (λ (g : Global). g.named.name) gs

-- the number of a global: the place of the first one of the name
abbrev pub global_from : ℕ → List (List ℕ) → List ℕ → Option ℕ
global_from i [] x = None
global_from i (y ∷ ys) x = if bytes_eq y x then Some i else global_from (i + 1) ys x

abbrev pub global_of : (known : List (List ℕ)) → List ℕ → Option ℕ
global_of known x = global_from 0 known x

-- File scope

-- what a procedure sees of its file: all procedures, and the names of the globals before it
pub record FileScope : Type 0 where
  pub procedures : List ProcedureTree
  pub globals : List (List ℕ)

-- a procedure with the names of the globals that are declared before it
pub record ScopedProcedure : Type 0 where
  pub tree : ProcedureTree
  pub globals : List (List ℕ)

-- the procedures of a file after globals of these names, in order
abbrev pub scoped_procedures : (known : List (List ℕ)) → List FileItem → List ScopedProcedure
scoped_procedures known [] = []
scoped_procedures known (prototype n ∷ is) = scoped_procedures known is
scoped_procedures known (procedure p ∷ is) = record { tree = p; globals = known }
    ∷ scoped_procedures known is
scoped_procedures known (globals gs ∷ is) = scoped_procedures (known ++ global_names gs) is

-- Variables

-- a variable and its slot
pub record Variable : Type 0 where
  pub name : List ℕ
  pub slot : ℕ

-- a scope has its variables, the latest first; an inner scope stands before the outer ones
abbrev pub Scope : Type 0
Scope = List Variable

abbrev pub slot_in : Scope → List ℕ → Option ℕ
slot_in [] x = None
slot_in (v ∷ vs) x = if bytes_eq v.name x then Some v.slot else slot_in vs x

abbrev pub or_outer : Option ℕ → Option ℕ → Option ℕ
or_outer (Some s) o = Some s
or_outer None o = o

-- the slot that a name means: that of the innermost scope that has it
abbrev pub slot_of : List Scope → List ℕ → Option ℕ
slot_of [] x = None
slot_of (s ∷ ss) x = or_outer (slot_in s x) (slot_of ss x)

-- a variable more in the innermost scope
abbrev pub with_variable : List Scope → List ℕ → ℕ → List Scope
with_variable [] x slot = (record { name = x; slot = slot } ∷ []) ∷ []
with_variable (s ∷ ss) x slot = (record { name = x; slot = slot } ∷ s) ∷ ss

abbrev pub is_declared_here : List Scope → List ℕ → Bool
is_declared_here [] x = false
is_declared_here (s ∷ ss) x = is_some (slot_in s x)

-- names declared one after another, from a slot on
abbrev pub with_names : List Scope → ℕ → List Identifier → List Scope
with_names scopes slot [] = scopes
with_names scopes slot (n ∷ ns) = with_names (with_variable scopes n.name slot) (slot + 1) ns

abbrev pub names_of : List Declarator → List Identifier
names_of ds = map (λ d. d.named) ds

-- the scope of the parameters, which is that of the body too
abbrev pub parameter_scope : ProcedureTree → List Scope
parameter_scope p = with_names ([] ∷ []) 0 p.params

-- Declarations, in source order

abbrev pub declared_by_init : ForInit → List Identifier
declared_by_init no_init = []
declared_by_init (declaring ds) = names_of ds
declared_by_init (starting s) = []

abbrev mutual
  pub declared_by : StatementTree → List Identifier
  declared_by (block ss) = declared_in ss
  declared_by empty = []
  declared_by (declare ds) = names_of ds
  declared_by (simple s) = []
  declared_by (if_then e a) = declared_by a
  declared_by (if_else e a b) = declared_by a ++ declared_by b
  declared_by (while_loop e a) = declared_by a
  declared_by (do_while a e) = declared_by a
  declared_by (for_loop f t s a) = declared_by_init f ++ declared_by a
  declared_by (break at) = []
  declared_by (continue at) = []
  declared_by (return at e) = []

  pub declared_in : StatementTrees → List Identifier
  declared_in no_statements = []
  declared_in (statement s ss) = declared_by s ++ declared_in ss

-- parameters, and then the names declared in the body: a variable's slot is its place here
abbrev pub variables_of : ProcedureTree → List Identifier
variables_of p = p.params ++ declared_in p.body

-- Calls of `assert`, in source order

abbrev pub if_assert : Identifier → List Pos
if_assert n = if is_assert n.name then (n.at ∷ []) else []

abbrev mutual
  pub asserts_of : ExpressionTree → List Pos
  asserts_of (literal n) = []
  asserts_of (name n) = []
  asserts_of (call n es) = if_assert n ++ asserts_of_all es
  asserts_of (not e) = asserts_of e
  asserts_of (negate e) = asserts_of e
  asserts_of (plus e) = asserts_of e
  asserts_of (binary op at a b) = asserts_of a ++ asserts_of b

  pub asserts_of_all : ExpressionTrees → List Pos
  asserts_of_all no_arguments = []
  asserts_of_all (argument e es) = asserts_of e ++ asserts_of_all es

abbrev pub asserts_of_optional : Option ExpressionTree → List Pos
asserts_of_optional None = []
asserts_of_optional (Some e) = asserts_of e

abbrev pub asserts_by_simple : SimpleStatement → List Pos
asserts_by_simple (set n e) = asserts_of e
asserts_by_simple (change op at n e) = asserts_of e
asserts_by_simple (add_one n) = []
asserts_by_simple (subtract_one n) = []
asserts_by_simple (call_statement n es) = if_assert n ++ asserts_of_all es

abbrev pub asserts_by_step : Option SimpleStatement → List Pos
asserts_by_step None = []
asserts_by_step (Some s) = asserts_by_simple s

abbrev pub asserts_by_declarators : List Declarator → List Pos
asserts_by_declarators [] = []
asserts_by_declarators (d ∷ ds) = asserts_of_optional d.value ++ asserts_by_declarators ds

abbrev pub asserts_by_init : ForInit → List Pos
asserts_by_init no_init = []
asserts_by_init (declaring ds) = asserts_by_declarators ds
asserts_by_init (starting s) = asserts_by_simple s

abbrev mutual
  pub asserts_by : StatementTree → List Pos
  asserts_by (block ss) = asserts_in ss
  asserts_by empty = []
  asserts_by (declare ds) = asserts_by_declarators ds
  asserts_by (simple s) = asserts_by_simple s
  asserts_by (if_then e a) = asserts_of e ++ asserts_by a
  asserts_by (if_else e a b) = asserts_of e ++ (asserts_by a ++ asserts_by b)
  asserts_by (while_loop e a) = asserts_of e ++ asserts_by a
  asserts_by (do_while a e) = asserts_by a ++ asserts_of e
  asserts_by (for_loop f t s a) = asserts_by_init f
      ++ (asserts_of_optional t ++ (asserts_by_step s ++ asserts_by a))
  asserts_by (break at) = []
  asserts_by (continue at) = []
  asserts_by (return at e) = asserts_of_optional e

  pub asserts_in : StatementTrees → List Pos
  asserts_in no_statements = []
  asserts_in (statement s ss) = asserts_by s ++ asserts_in ss

abbrev pub asserts_in_file : List ProcedureTree → List Pos
asserts_in_file [] = []
asserts_in_file (p ∷ ps) = asserts_in p.body ++ asserts_in_file ps
