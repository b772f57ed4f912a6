use Rattle.std.proofs.Common.{List, [], Some, length, sym, ap, subst, arith, ◌≡◌}
use Rattle.std.specs.Prelude.{slice_get}
use Rattle.flow_graph.specs.declared.graph.Graph.{Graph}
use Rattle.query_tree.proofs.Lists.{present}
use Rattle.board_tests.proofs.Plays.{opened}
use Rattle.board_tests.proofs.programs.opened.Goals as goal

pub begin-requires-clause-main : goal.begin-requires-clause-main
begin-requires-clause-main c =
    let there = present c.args.graphs.graphs c.args.main
    (omega (arith, ap (λ (l : List Graph). length l) c.as_slice.ensures, c.if-main-as_slice.false)) in
    subst (λ (l : List Graph). (g : Graph) × (slice_get l c.args.main ≡ Some g)) (sym (ap (λ g. g.graphs) c.in_ok-graphs.ensures.ok)) there

pub returns-clause-opened : goal.returns-clause-opened
returns-clause-opened c =
    opened c.in_ok-graphs.graphs.value.graphs c.args.main c.args.asserts c.args.budget [] c.in_ok-board.board c.in_ok-board.ensures
