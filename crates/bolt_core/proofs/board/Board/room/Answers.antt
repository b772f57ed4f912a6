use Rattle.std.proofs.Common.{◌≤◌, length, ap, arith}
use Rattle.std.proofs.lemmas.List.{length-map}
use Rattle.bolt_core.specs.Boards.{Shown, most_summaries}
use Rattle.bolt_core.specs.States.{reads}
use Rattle.bolt_core.specs.contracts.board.Board.{the_view}
use Rattle.bolt_core.proofs.BoardKeeps.{board_keeps, nodes_of}
use Rattle.bolt_core.proofs.Going.{board_queries}
use Rattle.bolt_core.proofs.Nodes.{table_within}
use Rattle.bolt_core.proofs.board.Board.room.Goals as goal

pub returns-clause-within : goal.returns-clause-within
returns-clause-within c =
    let p : Shown = the_view c.self.inside in
    let k = board_keeps p c.self.invariant.0 in
    let within = table_within (reads p.graphs) p.core (nodes_of (reads p.graphs) p.asserts p.core k) in
    let most : length p.core.table ≤ most_summaries p = omega (arith, within, k.paired.count, board_queries p c.self.invariant.0) in
    let many = length-map c.self.inside.kept.items (λ a. a.value) in
    let table = ap (λ (x : Shown). length x.core.table) c.self.view_is in
    omega (arith, most, many, c.len.ensures, c.self.inside.kept.ok.0, table)
