-- Graphs that have the runs of a program.
use Rattle.std.specs.Prelude.{◌≡◌, ℕ, List, length, ℤ, slice_get, IsTrue}
use Rattle.c_tree.specs.Syntax.{PureProgram}
use Rattle.c_tree.specs.WellFormed.{takes}
use Rattle.c_tree.specs.Meaning.{Outcome, MayBegin, Runs}
use Rattle.flow_graph.specs.declared.graph.Graph.{Graph}
use Rattle.flow_graph.specs.Columns.{AreAllValues}
use Rattle.flow_graph.specs.Runs.{End, GraphRuns, entry_list, end_of}

-- a run of the procedure may begin with these lists: as many arguments as it has parameters, as
-- many globals as the program has, all of them values, and `main` with the opening values
pub record MayTake (P : PureProgram) (p : ℕ) (args before : List ℤ) : Type 0 where
  pub arguments : IsTrue (takes (slice_get P.procedures p) (length args))
  pub begins : MayBegin P p before
  pub values : AreAllValues args
  pub global_values : AreAllValues before

-- The runs of the program's procedures are those of their graphs: equal depth, entry list, inputs,
-- and end with its exit list.
pub record SameRuns (P : PureProgram) (gs : List Graph) : Type 0 where
  pub program_to_graphs : (d p : ℕ) (args before ins : List ℤ) (out : Outcome) (after : List ℤ) →
      MayTake P p args before → Runs P d p args before ins out after →
      GraphRuns gs d p (entry_list P p args before) ins (end_of out after)
  pub graphs_to_program : (d p : ℕ) (args before ins : List ℤ) (end : End) →
      MayTake P p args before → GraphRuns gs d p (entry_list P p args before) ins end →
      (out : Outcome) × (after : List ℤ) × (end ≡ end_of out after)
      × Runs P d p args before ins out after
