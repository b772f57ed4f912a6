-- Of right claims none has a run: by induction on the depth, over all claims at once.
use Rattle.std.proofs.Common.{◌≡◌, ℕ, zero, suc, List, [], ◌∷◌, Some, refl, subst}
use Rattle.std.specs.Prelude.{slice_get}
use Rattle.std.proofs.lemmas.Option.{same_Some, none-some}
use Rattle.flow_graph.specs.declared.graph.Graph.{Graph}
use Rattle.flow_graph.specs.Linked.{AreGraphs}
use Rattle.summary_form.specs.Instances.{graph_runs}
use Rattle.summary_form.specs.NotMays.{NotMayWithin, NotMayHolds}
use Rattle.query_rules.specs.Conditional.{AllNotMay, Gives}
use Rattle.query_rules.proofs.Discharging.{graphs_deepen, not_may_none}
use Rattle.may_partition.specs.Parted.{begin_parted}
use Rattle.proof_bundle.specs.Claims.{PureClaim, PureBundle}
use Rattle.bundle_check.specs.RightClaims.{AreRightClaims, IsRightClaim, IsRightProof, failure_at, moved_all, queries_of}
use Rattle.bundle_check.proofs.Moving.{begins, gives, move_all}

module _ (gs : List Graph) (linked : AreGraphs gs) (claims : List PureClaim) (right : AreRightClaims gs claims) where
  -- where no claim has a run of depth d, a right one has none of depth d + 1
  given : (c : PureClaim) → IsRightClaim gs (queries_of claims) c → Gives (graph_runs gs) (queries_of claims) c.query
  given c r =
      gives gs linked r.graph c.query (queries_of claims) (moved_all c.moves (begin_parted r.graph c.query))
      (move_all gs linked r.graph c.query (queries_of claims) c.moves (begin_parted r.graph c.query)
      (begins gs linked r.graph c.query (queries_of claims) r.at r.fits) r.all_move) r.none

  none_at : (cs : List PureClaim) → AllNotMay (graph_runs gs) 0 (queries_of cs)
  none_at [] = tt
  none_at (c ∷ cs) = (not_may_none (graph_runs gs) (graphs_deepen gs) c.query, none_at cs)

  next : (d : ℕ) → AllNotMay (graph_runs gs) d (queries_of claims) → (cs : List PureClaim) →
      ((n : ℕ) (c : PureClaim) → slice_get cs n ≡ Some c → IsRightClaim gs (queries_of claims) c) → AllNotMay (graph_runs gs) (suc d)
      (queries_of cs)
  next d a [] r = tt
  next d a (c ∷ cs) r = (given c (r 0 c refl) d a, next d a cs (λ n x e. r (suc n) x e))

  all_within : (d : ℕ) → AllNotMay (graph_runs gs) d (queries_of claims)
  all_within zero = none_at claims
  all_within (suc d) = next d (all_within d) claims right

  at_place : (d : ℕ) (cs : List PureClaim) → AllNotMay (graph_runs gs) d (queries_of cs) → (n : ℕ) (c : PureClaim) →
      slice_get cs n ≡ Some c → NotMayWithin (graph_runs gs) d c.query
  at_place d [] a n c e = absurd (none-some c e)
  at_place d (x ∷ cs) a zero c e = subst (λ (y : PureClaim). NotMayWithin (graph_runs gs) d y.query) (same_Some x c e) a.0
  at_place d (x ∷ cs) a (suc n) c e = at_place d cs a.1 n c e

  pub claims_hold : (n : ℕ) (c : PureClaim) → slice_get claims n ≡ Some c → NotMayHolds (graph_runs gs) c.query
  claims_hold n c e d = at_place d claims (all_within d) n c e

pub proofs_hold : (gs : List Graph) (main : ℕ) (b : PureBundle) → AreGraphs gs → IsRightProof gs main b →
    NotMayHolds (graph_runs gs) (failure_at main b.id)
proofs_hold gs main b linked r =
    let first = r.begins in
    subst (NotMayHolds (graph_runs gs)) first.asks (claims_hold gs linked b.claims r.right 0 first.first first.at)
