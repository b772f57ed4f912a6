-- The graphs of procedures.
use Rattle.std.specs.Prelude.{◌≡◌, ℕ, ◌+◌, ◌<◌, suc, ◌==◌, cond, max, List, [], ◌∷◌, ◌++◌, length, take, slice_get, Some, ℤ, pos, IsTrue}
use Rattle.c_tree.specs.Syntax.{block, PureProcedure, PureProgram}
use Rattle.flow_graph.specs.declared.graph.Edge.{Edge}
use Rattle.flow_graph.specs.declared.graph.Edge.TheVariants.{Entry, Assign, Return}
use Rattle.flow_graph.specs.declared.graph.Graph.{Graph}
use Rattle.flow_graph.specs.Columns.{AreAllValues}
use Rattle.flow_build.specs.declared.layout.Layout.{Layout}
use Rattle.flow_build.specs.declared.builder.Builder.{Builder}
use Rattle.flow_build.specs.steps.Building.{statements_literals_fit}
use Rattle.flow_build.specs.steps.Layouts.{global_slots}
use Rattle.flow_build.specs.steps.Operands.{constant_lin}
use Rattle.flow_build.specs.steps.Blocks.{Block, edges_of, one, opening_blocks, exit_node, fail_node, end_node, return_node, entry_node, body_node, first_free}
use Rattle.flow_build.specs.steps.Lowering.{nodes_of_statements, slots_of_statements, statement_blocks}

-- where the names of a procedure lie, in a program with n globals
abbrev pub layout_of : (globals : ℕ) → PureProcedure → Layout
layout_of n p = record { params = p.params; globals = n }

-- the first free slot
abbrev pub free_slot : (globals : ℕ) → PureProcedure → ℕ
free_slot n p = p.slots + n

-- What stands before and after the body: the entry leads to it, over the opening values, and 0 is
-- returned at its end.
abbrev pub procedure_blocks : (globals : ℕ) (opening : List ℤ) → PureProcedure → List Block
procedure_blocks n opening p =
    opening_blocks entry_node body_node first_free 0 opening
    ++ one end_node (Assign end_node return_node (free_slot n p) (constant_lin (pos 0)))
    ∷ one return_node (Return return_node exit_node
    (free_slot n p ∷ global_slots (layout_of n p)))
    ∷ statement_blocks (layout_of n p) p.gives (free_slot n p) (block p.body) body_node end_node
    end_node end_node (first_free + length opening)

abbrev pub procedure_edges : (globals : ℕ) (opening : List ℤ) (entries : ℕ) → PureProcedure →
    List Edge
procedure_edges n opening entries p = Entry entry_node entries
    ∷ edges_of (procedure_blocks n opening p)

abbrev pub nodes_of_procedure : (globals : ℕ) (opening : List ℤ) → PureProcedure → ℕ
nodes_of_procedure n opening p = first_free + length opening
    + nodes_of_statements (layout_of n p) p.body

-- the variables and globals, and the slots above them
abbrev pub slots_of_procedure : (globals : ℕ) → PureProcedure → ℕ
slots_of_procedure n p = free_slot n p + max 1 (slots_of_statements (layout_of n p) p.body)

-- the graph of the procedure of this number
pub record IsGraphWith (n : ℕ) (opening : List ℤ) (entries : ℕ) (p : PureProcedure) (g : Graph) :
    Type 0 where
  pub nodes : g.nodes ≡ nodes_of_procedure n opening p
  pub exit : g.exit ≡ exit_node
  pub fail : g.fail ≡ fail_node
  pub params : g.params ≡ entries
  pub exits : g.exits ≡ 1 + n
  pub slots : g.slots ≡ slots_of_procedure n p
  pub edges : g.edges ≡ procedure_edges n opening entries p

-- `main` sets the globals itself, and has no entry values
abbrev pub opening_of : PureProgram → ℕ → List ℤ
opening_of P i = cond (i == P.main) P.globals []

abbrev pub entries_of : PureProgram → ℕ → PureProcedure → ℕ
entries_of P i p = cond (i == P.main) 0 (p.params + length P.globals)

abbrev pub IsGraphOf : PureProgram → ℕ → PureProcedure → Graph → Type 0
IsGraphOf P i p g = IsGraphWith (length P.globals) (opening_of P i) (entries_of P i p) p g

-- the graphs of the procedures from the number i on
abbrev pub AreGraphsOf : PureProgram → ℕ → List PureProcedure → List Graph → Type 0
AreGraphsOf P i [] [] = Unit {0}
AreGraphsOf P i [] (g ∷ gs) = ⊥
AreGraphsOf P i (p ∷ ps) [] = ⊥
AreGraphsOf P i (p ∷ ps) (g ∷ gs) = IsGraphOf P i p g × AreGraphsOf P (suc i) ps gs

-- what a procedure's graph is made of, with this number of slots in all
pub record Makes (n : ℕ) (opening : List ℤ) (entries : ℕ) (p : PureProcedure) (b : Builder)
    (slots : ℕ) : Type 0 where
  pub nodes : b.next ≡ nodes_of_procedure n opening p
  pub slots_are : slots ≡ slots_of_procedure n p
  pub edges : b.edges.items ≡ procedure_edges n opening entries p

-- the graphs of the procedures below a number, whose literals are values
pub record Made (P : PureProgram) (i : ℕ) (gs : List Graph) : Type 0 where
  pub graphs : AreGraphsOf P 0 (take i P.procedures) gs
  pub literals : (j : ℕ) (p : PureProcedure) → j < i → slice_get P.procedures j ≡ Some p →
      IsTrue (statements_literals_fit p.body)
  pub opening : (j : ℕ) → j < i → j ≡ P.main → AreAllValues P.globals
