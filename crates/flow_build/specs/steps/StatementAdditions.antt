-- What is added for statements.
use Rattle.std.specs.Prelude.{◌≡◌, ℕ, ◌+◌, [], ◌∷◌, ◌++◌}
use Rattle.c_tree.specs.Syntax.{Expression, Statement}
use Rattle.flow_graph.specs.declared.graph.Edge.TheVariants.{Assign}
use Rattle.flow_build.specs.declared.builder.Builder.{Builder}
use Rattle.flow_build.specs.declared.statement.Frame.{Frame}
use Rattle.flow_build.specs.declared.statement.Exits.{Exits}
use Rattle.flow_build.specs.steps.Translation.{value_of}
use Rattle.flow_build.specs.steps.Operands.{operand_lin}
use Rattle.flow_build.specs.steps.Blocks.{one}
use Rattle.flow_build.specs.steps.Lowering.{operand_at, argument_slot, landing, nodes_of, slots_of, value_blocks, result_of, return_edge, nodes_of_statement, slots_of_statement, statement_blocks}
use Rattle.flow_build.specs.steps.Additions.{AddsBlocks}

-- the assignment of an expression's value to a variable
pub record AddsSet (x : ℕ) (e : Expression) (frame : Frame) (from to : ℕ) (old new : Builder)
    (free : ℕ) : Type 0 where
  pub blocks : AddsBlocks (value_blocks (value_of frame.layout e) from frame.free old.next
      ++ one (landing (value_of frame.layout e) from old.next)
      (Assign (landing (value_of frame.layout e) from old.next) to x
      (operand_lin (operand_at (value_of frame.layout e) frame.free))) ∷ []) (nodes_of (value_of
      frame.layout e)) old new
  pub slot : free ≡ frame.free + slots_of (value_of frame.layout e)

-- the return of an expression's value
pub record AddsResult (e : Expression) (frame : Frame) (from : ℕ) (old new : Builder) (free : ℕ) :
    Type 0 where
  pub blocks : AddsBlocks (value_blocks (result_of frame.layout e) from frame.free old.next
      ++ one (landing (result_of frame.layout e) from old.next)
      (return_edge frame.layout frame.gives (landing (result_of frame.layout e) from old.next)
      (argument_slot (result_of frame.layout e) frame.free) frame.free) ∷ []) (nodes_of (result_of
      frame.layout e)) old new
  pub slot : free ≡ frame.free + slots_of (result_of frame.layout e)

-- a statement's blocks are added, from a node on
pub record AddsStatement (s : Statement) (frame : Frame) (from : ℕ) (exits : Exits)
    (old new : Builder) (free : ℕ) : Type 0 where
  pub blocks : AddsBlocks (statement_blocks frame.layout frame.gives frame.free s from exits.to
      exits.on_break
      exits.on_continue old.next) (nodes_of_statement frame.layout s) old new
  pub slot : free ≡ frame.free + slots_of_statement frame.layout s
