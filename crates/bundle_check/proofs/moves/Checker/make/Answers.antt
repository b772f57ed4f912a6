use Rattle.std.proofs.Common.{List, map, sym, subst}
use Rattle.std.specs.Prelude.{IfOk}
use Rattle.infeasible_cert.specs.declared.certificate.Certificate.{Certificate}
use Rattle.infeasible_cert.specs.Refutation.{refutation_of}
use Rattle.may_partition.specs.Parted.{kill_edge}
use Rattle.proof_bundle.specs.Claims.{claim_of, move_of}
use Rattle.proof_bundle.specs.declared.bundle.Move.{Move}
use Rattle.bundle_check.specs.RightClaims.{KillsCall, Moves, moved, queries_of}
use Rattle.bundle_check.specs.steps.Checks.{Becomes}
use Rattle.bundle_check.proofs.moves.Checker.make.Goals as goal

pub returns-in-Split : goal.returns-in-Split
returns-in-Split c =
    subst (λ (m : Move). IfOk c.split.result (Becomes c.args.partition.now c.split.new.partition (Moves c.args.self.now.graph.now
    c.args.self.now.exit (queries_of (map claim_of c.args.self.now.claims.now)) (move_of m)) (moved (move_of m)))) (sym c.in-Split.is)
    c.split.ensures

pub returns-in-Kill : goal.returns-in-Kill
returns-in-Kill c =
    subst (λ (m : Move). IfOk c.kill.result (Becomes c.args.partition.now c.kill.new.partition (Moves c.args.self.now.graph.now
    c.args.self.now.exit (queries_of (map claim_of c.args.self.now.claims.now)) (move_of m)) (moved (move_of m)))) (sym c.in-Kill.is)
    c.kill.ensures

pub returns-in-KillCall : goal.returns-in-KillCall
returns-in-KillCall c =
    let qs = queries_of (map claim_of c.args.self.now.claims.now) in
    let k = c.in-KillCall.edge in
    subst (λ (m : Move). IfOk c.kill_call.result (Becomes c.args.partition.now c.kill_call.new.partition (Moves c.args.self.now.graph.now
    c.args.self.now.exit (queries_of (map claim_of c.args.self.now.claims.now)) (move_of m)) (moved (move_of m)))) (sym c.in-KillCall.is)
    (subst (λ (proof : List Certificate). IfOk c.kill_call.result (Becomes c.args.partition.now c.kill_call.new.partition
    (λ p. KillsCall c.args.self.now.graph.now c.args.self.now.exit (queries_of (map claim_of c.args.self.now.claims.now)) p k
    c.in-KillCall.claim (map refutation_of proof)) (kill_edge k))) c.as_slice.ensures c.kill_call.ensures)
