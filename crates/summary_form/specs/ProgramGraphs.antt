-- Graphs with the numbers of values of a program's procedures.
use Rattle.std.specs.Prelude.{◌≡◌, ℕ, List, length}
use Rattle.c_tree.specs.Syntax.{PureProgram}
use Rattle.flow_graph.specs.declared.graph.Graph.{Graph}
use Rattle.summary_form.specs.Instances.{arity_in, arity_of_program}

-- There is a graph for each procedure, by its number, with as many entry values and exit values as
-- the procedure has; that of `main` has no entry values.
pub record SameArities (P : PureProgram) (gs : List Graph) : Type 0 where
  pub each_procedure : length gs ≡ length P.procedures
  pub arities : (p : ℕ) → arity_in gs p ≡ arity_of_program P p
