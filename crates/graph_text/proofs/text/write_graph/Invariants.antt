use Rattle.std.proofs.Common.{◌≡◌, ◌++◌, drop}
use Rattle.std.specs.Prelude.{flat_map, string_bytes}
use Rattle.graph_text.specs.Text.{edge_text}
use Rattle.graph_text.proofs.text.write_graph.Given as goal

abbrev pub invariant-loop-edge : goal.invariant-loop-edge
invariant-loop-edge l =
    string_bytes l.out ++ flat_map edge_text (drop l.edge-index l.edges) ≡ string_bytes l.initial.out ++ flat_map edge_text l.edges
