-- What stands before and after a call, and the first of a list of graphs.
use Rattle.std.specs.Prelude.{◌≡◌, ℕ, ℤ, true, IsTrue, List, [], Some, slice_get}
use Rattle.flow_graph.specs.Shapes.{is_call, source}
use Rattle.flow_graph.specs.WellFormed.{has_slots, max_slots}
use Rattle.flow_graph.specs.declared.graph.Edge.{Edge}
use Rattle.flow_graph.specs.declared.graph.Graph.{Graph}
use Rattle.summary_form.specs.declared.query.Query.{Query}
use Rattle.must_region.specs.declared.trail.Trail.{Trail}

-- a call that leaves the trail's node, a query without a start, and the origin
pub record IsScene (q : Query) (t : Trail) (call : Edge) (at : List (ℕ × ℤ)) : Type 0 where
  pub a_call : is_call call ≡ true
  pub leaves : source call ≡ Some t.node
  pub slots : IsTrue (has_slots max_slots call)
  pub start : q.start.atoms ≡ []
  pub origin : at ≡ []

-- the first graph has n entry values
abbrev pub BeginsWith : List Graph → ℕ → Type 0
BeginsWith gs n = (g : Graph) × (slice_get gs 0 ≡ Some g) × (g.params ≡ n)
