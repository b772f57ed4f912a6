-- Marks of the target of a query that asks for a failure.
use Rattle.std.specs.Prelude.{◌≡◌, ℕ, ℤ, List}
use Rattle.linear_formula.specs.LinearSum.{valuation}
use Rattle.flow_graph.specs.declared.graph.Graph.{Graph}
use Rattle.summary_form.specs.Musts.{values_of}
use Rattle.summary_form.specs.declared.path.Path.{Path}
use Rattle.summary_form.specs.declared.query.ExitKind.TheVariants.{Fail}
use Rattle.summary_form.specs.declared.summary.Summary.{Summary}
use Rattle.must_region.specs.Traces.{Trace}
use Rattle.query_rules.specs.Closings.{IsClosedAs, IsTargetMark}
use Rattle.query_rules.specs.Laws.{IsGrounded}
use Rattle.query_rules.specs.Seen.{Seen, ShowsModel}
use Rattle.query_rules.specs.Steps.{Model}
use Rattle.query_rules.specs.declared.step.Closing.TheVariants as closing
use Rattle.query_rules.specs.declared.step.Mark.{Mark}

-- a state of a query that asks for a failure, closed by a path
pub record HasTargetMark (g : Graph) (s : Seen) : Type 0 where
  pub graphs : List Graph
  pub table : List Summary
  pub id : ℕ
  pub model : Model
  pub grounded : IsGrounded graphs g table model.query model.ancestors model
  pub shows : ShowsModel s model
  pub exit : model.query.exit ≡ Fail id
  pub path : Path
  pub closed : IsClosedAs g model (closing.Must path)

-- the list is of the inputs at the point of a mark of the target
pub record AreInputsAt (g : Graph) (s : Seen) (list : List ℤ) : Type 0 where
  pub mark : Mark
  pub trail : Trace
  pub at_target : (m : Model) → ShowsModel s m → IsTargetMark g m mark trail
  pub inputs : list ≡ values_of (valuation mark.point) trail.inputs
