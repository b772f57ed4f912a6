-- The runs of a program are those of its graphs.
use Rattle.std.proofs.Common.{◌≡◌, ℕ, List, length, Some, IsTrue}
use Rattle.std.specs.Prelude.{slice_get}
use Rattle.c_tree.specs.Syntax.{PureProcedure, PureProgram}
use Rattle.c_tree.specs.WellFormed.{IsWellFormed, DividesByLiterals}
use Rattle.flow_graph.specs.declared.graph.Graph.{Graph}
use Rattle.flow_graph.specs.Columns.{AreAllValues}
use Rattle.flow_build.specs.steps.Building.{statements_literals_fit}
use Rattle.flow_build.specs.steps.Procedures.{AreGraphsOf, opening_of, entries_of}
use Rattle.flow_graph.specs.ProgramGraphs.{SameRuns}
use Rattle.flow_build.proofs.Placed.{procedure_at}
use Rattle.flow_build.proofs.Plain.{kept, body_plain}
use Rattle.flow_build.proofs.Ready.{Ready}
use Rattle.flow_build.proofs.ForwardRuns.{run_of_graph}
use Rattle.flow_build.proofs.BackwardRuns.{graph_of_run}

abbrev pub AllFit : List PureProcedure → Type 0
AllFit ps = (j : ℕ) (p : PureProcedure) → slice_get ps j ≡ Some p → IsTrue (statements_literals_fit p.body)

-- Literals and opening values are values, and divisors are literals.
module _ (P : PureProgram) (well : IsWellFormed P) (divides : DividesByLiterals P) (opening : AreAllValues P.globals) (gs : List Graph)
    (graphs : AreGraphsOf P 0 P.procedures gs) (literals : AllFit P.procedures) where
  ready : Ready P gs
  ready = record {
    graphs = graphs;
    placed = λ i p e. procedure_at (length P.globals) (opening_of P i) (entries_of P i p) p;
    plain = λ i p e. body_plain P p (well.procedures_well_formed i p e) (well.products_linear i p e) (divides i p e) (literals i p e);
    low = λ i p e. let k = kept P p (well.procedures_well_formed i p e) in k.params_in_slots;
    opening = opening;
    main_takes_none = well.main_takes_none;
  }

  pub same_runs : SameRuns P gs
  same_runs = record {
    program_to_graphs = λ d p args before ins out after may h. run_of_graph P gs ready d p args before ins out after may h;
    graphs_to_program = λ d p args before ins end may h. graph_of_run P gs ready d p args before ins end may h;
  }
