use Rattle.std.proofs.Common.{map, drop}
use Rattle.proof_bundle.specs.Claims.{claim_of, move_of}
use Rattle.bundle_check.specs.RightClaims.{queries_of}
use Rattle.bundle_check.specs.steps.Checks.{AreLeft}
use Rattle.bundle_check.proofs.moves.Checker.make_all.Given as goal

-- what is left to do
abbrev pub invariant-loop-step : goal.invariant-loop-step
invariant-loop-step l =
    AreLeft l.self.graph.now l.self.exit (queries_of (map claim_of l.self.claims.now)) (map move_of l.moves)
    (map move_of (drop l.step-index l.moves)) l.fn.partition l.partition
