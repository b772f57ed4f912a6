-- What right claims say of the runs of graphs.
use Rattle.std.specs.Prelude.{◌≡◌, ℕ, List, Some, slice_get}
use Rattle.flow_graph.specs.Linked.{AreGraphs}
use Rattle.flow_graph.specs.declared.graph.Graph.{Graph}
use Rattle.summary_form.specs.Instances.{graph_runs}
use Rattle.summary_form.specs.NotMays.{NotMayHolds}
use Rattle.proof_bundle.specs.Claims.{PureBundle, PureClaim}
use Rattle.bundle_check.specs.RightClaims.{AreRightClaims, IsRightProof, failure_at}

-- Claims may name each other and themselves, since a called run has a smaller depth.
abbrev pub ClaimsHold : Type 0
ClaimsHold =
    (gs : List Graph) → AreGraphs gs → (claims : List PureClaim) → AreRightClaims gs claims →
    (n : ℕ) (c : PureClaim) → slice_get claims n ≡ Some c → NotMayHolds (graph_runs gs) c.query

abbrev pub ProofsHold : Type 0
ProofsHold =
    (gs : List Graph) (main : ℕ) (b : PureBundle) → AreGraphs gs → IsRightProof gs main b →
    NotMayHolds (graph_runs gs) (failure_at main b.id)
