-- The states of queries are what the machine needs.
use Rattle.std.specs.Prelude.{List}
use Rattle.flow_graph.specs.Linked.{AreGraphs}
use Rattle.flow_graph.specs.declared.graph.Graph.{Graph}
use Rattle.bolt_core.specs.Lawful.{IsLawful}
use Rattle.bolt_core.specs.States.{reads}

abbrev pub StatesAreLawful : Type 0
StatesAreLawful = (gs : List Graph) → AreGraphs gs → IsLawful (reads gs)
