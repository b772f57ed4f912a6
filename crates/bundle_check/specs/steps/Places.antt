-- The graph edge of a region edge, its regions, the preimage over it, and the query that it asks.
use Rattle.std.specs.Prelude.{◌≡◌, false, List, Option, None, Some, slice_get}
use Rattle.linear_formula.specs.declared.formula.Atom.{Atom}
use Rattle.linear_formula.specs.declared.formula.Cube.{Cube}
use Rattle.flow_graph.specs.declared.graph.Edge.{Edge}
use Rattle.flow_graph.specs.declared.graph.Graph.{Graph}
use Rattle.flow_graph.specs.Shapes.{is_call}
use Rattle.summary_form.specs.declared.query.ExitKind.{ExitKind}
use Rattle.summary_form.specs.declared.query.Query.{Query}
use Rattle.may_partition.specs.declared.region.Region.{Region}
use Rattle.may_partition.specs.declared.region.RegionEdge.{RegionEdge}
use Rattle.may_partition.specs.Parted.{Parted}
use Rattle.may_partition.specs.Shown.{Shown, Shows}
use Rattle.query_rules.specs.Rows.{IsPreimage}
use Rattle.bundle_check.specs.RightClaims.{HasAsked, asked_query}

-- the graph edge and the two regions
pub record IsPlace (g : Graph) (s : Shown) (k : RegionEdge) (edge : Edge)
    (source target : Region) : Type 0 where
  pub at_edge : slice_get g.edges k.edge ≡ Some edge
  pub at_source : slice_get s.regions k.from ≡ Some source
  pub at_target : slice_get s.regions k.to ≡ Some target

-- one of them doesn't exist
abbrev pub HasNoPlace : Graph → Shown → RegionEdge → Type 0
HasNoPlace g s k = (edge : Edge) (source target : Region) → IsPlace g s k edge source target → ⊥

-- the preimage over an edge that is no call, without a limit; or there is none
abbrev pub IfPreimage : Edge → List Atom → Option Cube → Type 0
IfPreimage edge target (Some before) =
    (is_call edge ≡ false) × IsPreimage edge target before.atoms
IfPreimage edge target None =
    (rows : List Atom) → is_call edge ≡ false → IsPreimage edge target rows → ⊥

-- the query that the call of an edge asks, or none: there is no call, it meets a limit, or it can't
-- end as the query does
abbrev pub Asks : Graph → ExitKind → Shown → RegionEdge → Query → Type 0
Asks g exit s k q =
    (p : Parted) → Shows s p → (h : HasAsked g exit p k) × (asked_query h ≡ q)

abbrev pub AsksNone : Graph → ExitKind → Shown → RegionEdge → Type 0
AsksNone g exit s k = (p : Parted) → Shows s p → HasAsked g exit p k → ⊥

abbrev pub IfAsked : Graph → ExitKind → Shown → RegionEdge → Option Query → Type 0
IfAsked g exit s k (Some q) = Asks g exit s k q
IfAsked g exit s k None = AsksNone g exit s k
