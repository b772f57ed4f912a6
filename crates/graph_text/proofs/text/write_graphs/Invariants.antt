use Rattle.std.proofs.Common.{◌≡◌, ◌++◌, drop}
use Rattle.std.specs.Prelude.{flat_map, string_bytes}
use Rattle.graph_text.specs.Text.{graph_text}
use Rattle.graph_text.proofs.text.write_graphs.Given as goal

abbrev pub invariant-loop-graph : goal.invariant-loop-graph
invariant-loop-graph l =
    string_bytes l.out ++ flat_map graph_text (drop l.graph-index l.graphs) ≡ string_bytes l.initial.out ++ flat_map graph_text l.graphs
