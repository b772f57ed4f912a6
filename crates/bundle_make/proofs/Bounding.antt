-- Right claims keep the ranges of the text where their numbers are of their types.
use Rattle.std.proofs.Common.{◌≡◌, ℕ, ◌<◌, List, [], ◌∷◌, length, Some}
use Rattle.std.specs.Prelude.{slice_get}
use Rattle.std.specs.List.{AllByRecursion}
use Rattle.std.proofs.lemmas.Option.{slice_get_within}
use Rattle.linear_formula.specs.declared.formula.Atom.{Atom}
use Rattle.infeasible_cert.specs.Refutation.{Refutation}
use Rattle.flow_graph.specs.declared.graph.Graph.{Graph}
use Rattle.summary_form.specs.declared.query.ExitKind.{ExitKind}
use Rattle.summary_form.specs.declared.query.Query.{Query}
use Rattle.may_partition.specs.declared.region.RegionEdge.{RegionEdge}
use Rattle.may_partition.specs.Parted.{Parted}
use Rattle.query_rules.specs.Seen.{Seen}
use Rattle.query_rules.specs.declared.step.Closing.TheVariants as closing
use Rattle.query_rules.specs.declared.step.Killer.TheVariants as killer
use Rattle.query_rules.specs.declared.step.Step.TheVariants as step
use Rattle.bolt_core.specs.Anchors.{IsAnchored}
use Rattle.bolt_core.specs.Boards.{IsBoard, Shown}
use Rattle.bolt_core.specs.Verdicts.{IsClosedIn}
use Rattle.bolt_core.proofs.Leading.{kills_lead}
use Rattle.proof_bundle.specs.Claims.{PureClaim, PureMove, kill, kill_call, split}
use Rattle.proof_bundle.specs.Text.{HasRanges, IsCertificate, IsClaim, IsMove}
use Rattle.bundle_check.specs.RightClaims.{AllMove, AreShown, IsRightClaim, Moves, moved}
use Rattle.bundle_make.specs.Bundling.{IsBare}
use Rattle.bundle_make.specs.steps.Ranges.{IsSizedClaim, IsSizedMove}

certificates : (rows atoms : List Atom) (cs : List Refutation) → AreShown rows atoms cs → AllByRecursion HasRanges cs →
    AllByRecursion IsCertificate cs
certificates rows [] [] h r = tt
certificates rows [] (c ∷ cs) h r = absurd h
certificates rows (a ∷ atoms) [] h r = absurd h
certificates rows (a ∷ atoms) (c ∷ cs) h r = ((h.0.right.shallow, r.0), certificates rows atoms cs h.1 r.1)

module _ (g : Graph) (exit : ExitKind) (claims : List Query) where
  move : (m : PureMove) (p : Parted) → Moves g exit claims m p → IsSizedMove m → IsMove m
  move (split k atoms) p h r = r
  move (kill k c) p h r = (r.0, (h.refuted.right.shallow, r.1))
  move (kill_call k n cs) p h r = (r.0, r.1, (r.2.0, certificates _ _ cs h.shown r.2.1))

  moves : (ms : List PureMove) (p : Parted) → AllMove g exit claims ms p → AllByRecursion IsSizedMove ms → AllByRecursion IsMove ms
  moves [] p h r = tt
  moves (m ∷ ms) p h r = (move m p h.0 r.0, moves ms (moved m p) h.1 r.1)

pub claim_ranges : (gs : List Graph) (claims : List Query) (c : PureClaim) → IsRightClaim gs claims c → IsSizedClaim c → IsClaim c
claim_ranges gs claims c h r = record {
  proc = r.proc;
  exit = r.exit;
  start = r.start;
  end = r.end;
  moves = (r.moves.0, moves h.graph c.query.exit claims c.moves _ h.all_move r.moves.1);
}

-- the asked query by which a step kills is there
pub child_within : (b : Shown) (h : IsBoard b) (bare : IsBare b) (i : ℕ) (a : (l : ℕ) × IsAnchored b.core.nodes l i) (s : Seen) →
    IsClosedIn b i s closing.NotMay → (n j : ℕ) (k : RegionEdge) → slice_get s.steps n ≡ Some (step.Kill k (killer.Child j)) →
    j < length s.asked
child_within b h bare i a s c n j k at =
    let w = kills_lead b h bare.unsaid i a.0 a.1 s c n k (killer.Child j) at in
    slice_get_within s.asked j w.0 w.1
