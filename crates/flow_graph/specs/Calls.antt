-- A call as it stands on an edge.
use Rattle.std.specs.Prelude.{ℕ, List, []}
use Rattle.flow_graph.specs.declared.graph.Edge.{Edge}
use Rattle.flow_graph.specs.declared.graph.Edge.TheVariants.{Call}

-- the called procedure, the slots whose values are the entry values, and those that get the exit
-- values
pub record CallSite : Type 0 where
  pub procedure : ℕ
  pub arguments : List ℕ
  pub results : List ℕ

-- the call of an edge
abbrev pub call_site : Edge → CallSite
call_site (Call from to proc args results) = record {
  procedure = proc;
  arguments = args;
  results = results;
}
call_site _ = record { procedure = 0; arguments = []; results = [] }

-- the edge of a call
abbrev pub call_edge : (from to : ℕ) → CallSite → Edge
call_edge from to site = Call from to site.procedure site.arguments site.results
