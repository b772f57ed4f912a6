-- The graphs that a program is lowered to.
use Rattle.std.specs.Prelude.{◌≡◌, List}
use Rattle.c_tree.specs.Syntax.{PureProgram}
use Rattle.flow_graph.specs.declared.graph.Graph.{Graph}
use Rattle.flow_build.specs.steps.Procedures.{AreGraphsOf}

-- One graph for each procedure, by its number, with exactly these nodes, slots and edges. How they
-- are made of the procedure, `specs/steps` says edge by edge; who relies on them needs that they
-- are one function of the program, and what `SameRuns` and `AreBounded` say of them.
abbrev pub AreLowered : PureProgram → List Graph → Type 0
AreLowered P gs = AreGraphsOf P 0 P.procedures gs

-- no program is lowered to two lists of graphs
abbrev pub OneLowering : Type 0
OneLowering = (P : PureProgram) (gs hs : List Graph) → AreLowered P gs → AreLowered P hs → gs ≡ hs
