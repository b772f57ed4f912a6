-- The laws of programs and their graphs.
use Rattle.std.specs.Prelude.{List, slice_get, IsTrue}
use Rattle.c_tree.specs.Syntax.{PureProgram}
use Rattle.c_tree.specs.WellFormed.{takes}
use Rattle.flow_graph.specs.Columns.{AreAllValues}
use Rattle.flow_graph.specs.declared.graph.Graph.{Graph}
use Rattle.flow_build.specs.Promises.{AreBounded}
use Rattle.flow_graph.specs.ProgramGraphs.{SameRuns}
use Rattle.summary_form.specs.Instances.{program_runs}
use Rattle.summary_form.specs.Laws.{HasValues, AnsweredHasNoRun}

-- as `build` promises of the graphs that it makes, for a program whose `main` has no parameters and
-- whose globals open with values
pub record AreGraphsOf (P : PureProgram) (gs : List Graph) : Type 0 where
  pub runs : SameRuns P gs
  pub bounds : AreBounded P gs
  pub main_takes_none : IsTrue (takes (slice_get P.procedures P.main) 0)
  pub opening : AreAllValues P.globals

abbrev pub ProgramsReturnValues : Type 0
ProgramsReturnValues =
    (P : PureProgram) (gs : List Graph) → AreGraphsOf P gs → HasValues (program_runs P)

abbrev pub AnsweredInPrograms : Type 0
AnsweredInPrograms =
    (P : PureProgram) (gs : List Graph) → AreGraphsOf P gs → AnsweredHasNoRun (program_runs P)
