use Rattle.std.proofs.Common.{List, length, map, ap, ◌∙◌, arith}
use Rattle.std.specs.Arc.{arc_value}
use Rattle.flow_graph.specs.declared.graph.Graph.{Graph}
use Rattle.flow_graph.specs.declared.graphs.Graphs.{Graphs}
use Rattle.query_tree.proofs.Lists.{present}
use Rattle.board_tests.proofs.Informed.{kept_hold}
use Rattle.board_tests.proofs.Plays.{opened}
use Rattle.board_tests.proofs.kept.begun_again.Goals as goal

pub begin_with-requires-clause-main : goal.begin_with-requires-clause-main
begin_with-requires-clause-main c =
    present c.in_ok-graphs.graphs.value.graphs c.args.main
    (omega (
      arith,
      ap (λ (l : List Graph). length l) c.as_slice-procedures.ensures,
      ap (λ (g : Graphs). length g.graphs) c.deref.ensures,
      c.if-main-procedures.false,
    ))

pub begin_with-requires-clause-hold : goal.begin_with-requires-clause-hold
begin_with-requires-clause-hold c =
    kept_hold c.args.board.now c.in_ok-graphs.graphs.value.graphs (map arc_value c.in_ok-kept.kept.items) c.reached.ensures
    (ap (λ (g : Graphs). g.graphs) c.in_ok-graphs.ensures.cases ∙ c.graphs.ensures) c.in_ok-kept.ensures

pub returns : goal.returns
returns c =
    opened c.in_ok-graphs.graphs.value.graphs c.args.main c.args.asserts c.args.budget (map arc_value c.in_ok-kept.kept.items)
    c.in_ok-begin_with.field-0 c.in_ok-begin_with.ensures
