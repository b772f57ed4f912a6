use Rattle.std.proofs.Common.{◌≤◌, List, length, sym, ◌∙◌, subst, arith}
use Rattle.c_tree.specs.declared.tree.Program.{Program}
use Rattle.c_tree.specs.WellFormed.{DividesByLiterals}
use Rattle.c_tree.specs.Whole.{program_of}
use Rattle.flow_graph.specs.declared.graph.Graph.{Graph}
use Rattle.flow_graph.specs.Linked.{AreGraphs}
use Rattle.flow_build.specs.Lowered.{AreLowered}
use Rattle.flow_build.specs.Promises.{AreBounded}
use Rattle.flow_graph.specs.ProgramGraphs.{SameRuns}
use Rattle.flow_build.specs.steps.Procedures.{Made}
use Rattle.flow_build.proofs.Facts.{all_bounded}
use Rattle.flow_build.proofs.Linking.{graphs_kept}
use Rattle.flow_build.proofs.SameRuns.{same_runs}
use Rattle.flow_build.proofs.Whole.{length_mapped, all_graphs, all_opening, all_literals}
use Rattle.flow_build.proofs.build.build.Goals as goal

module _ (program : Program) (divides : DividesByLiterals (program_of program)) (gs : List Graph)
    (made : Made (program_of program) (length program.procedures.items) gs) where
  all : length (program_of program).procedures ≤ length program.procedures.items
  all = let many = length_mapped program.procedures.items in omega (arith, many)

  linked : AreGraphs gs
  linked = graphs_kept (program_of program) program.well_formed divides gs
      (all_graphs (program_of program) (length program.procedures.items) gs made all)
      (all_literals (program_of program) (length program.procedures.items) gs made all)

  bounds : AreBounded (program_of program) gs
  bounds = all_bounded (program_of program) program.well_formed divides gs
      (all_graphs (program_of program) (length program.procedures.items) gs made all)
      (all_literals (program_of program) (length program.procedures.items) gs made all)

  built : AreLowered (program_of program) gs
  built = all_graphs (program_of program) (length program.procedures.items) gs made all

  runs : SameRuns (program_of program) gs
  runs = same_runs (program_of program) program.well_formed divides
      (all_opening (program_of program) (length program.procedures.items) gs made all program.well_formed.main_takes_none) gs
      (all_graphs (program_of program) (length program.procedures.items) gs made all)
      (all_literals (program_of program) (length program.procedures.items) gs made all)

pub new-requires : goal.new-requires
new-requires c =
    subst AreGraphs (sym c.from_vec.ensures)
    (linked c.args.program.now c.requires.divisors c.push_graphs.new.graphs.items c.in_ok-push_graphs.ensures)

pub returns-clause-runs : goal.returns-clause-runs
returns-clause-runs c =
    let P : List Graph → Type 0 = SameRuns (program_of c.args.program.now) in
    subst P (sym (c.new.ensures ∙ c.from_vec.ensures))
    (runs c.args.program.now c.requires.divisors c.push_graphs.new.graphs.items c.in_ok-push_graphs.ensures)

pub returns-clause-bounds : goal.returns-clause-bounds
returns-clause-bounds c =
    let P : List Graph → Type 0 = AreBounded (program_of c.args.program.now) in
    subst P (sym (c.new.ensures ∙ c.from_vec.ensures))
    (bounds c.args.program.now c.requires.divisors c.push_graphs.new.graphs.items c.in_ok-push_graphs.ensures)

pub returns-clause-built : goal.returns-clause-built
returns-clause-built c =
    let P : List Graph → Type 0 = AreLowered (program_of c.args.program.now) in
    subst P (sym (c.new.ensures ∙ c.from_vec.ensures))
    (built c.args.program.now c.requires.divisors c.push_graphs.new.graphs.items c.in_ok-push_graphs.ensures)
