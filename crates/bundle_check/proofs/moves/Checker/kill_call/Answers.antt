use Rattle.std.proofs.Common.{List, map, subst}
use Rattle.infeasible_cert.specs.Refutation.{Refutation, refutation_of}
use Rattle.summary_form.specs.declared.query.Query.{Query}
use Rattle.may_partition.specs.Parted.{kill_edge}
use Rattle.proof_bundle.specs.Claims.{claim_of}
use Rattle.bundle_check.specs.RightClaims.{KillsCall, queries_of}
use Rattle.bundle_check.specs.steps.Checks.{Decides}
use Rattle.bundle_check.proofs.Doing.{call_within, killed, stays}
use Rattle.bundle_check.proofs.moves.Checker.kill_call.Goals as goal

pub returns-then-not-branch : goal.returns-then-not-branch
returns-then-not-branch c =
    let g = c.args.self.now.graph.now in
    let s = c.args.partition.now in
    let k = c.args.edge.now in
    let qs : List Query = queries_of (map claim_of c.args.self.now.claims.now) in
    let cs : List Refutation = map refutation_of c.args.proof.now in
    stays s s (λ p. KillsCall g c.args.self.now.exit qs p k c.args.number cs) (kill_edge k)
    (subst (Decides s (λ p. KillsCall g c.args.self.now.exit qs p k c.args.number cs)) c.if-not-branch.true c.in_ok-is_answered.ensures)

pub kill-requires-clause-from : goal.kill-requires-clause-from
kill-requires-clause-from c =
    (call_within c.args.self.now.graph.now c.args.edge.now c.args.partition.now c.args.self.now.exit
    (queries_of (map claim_of c.args.self.now.claims.now)) c.args.number (map refutation_of c.args.proof.now) c.in_ok-is_answered.field-0
    c.in_ok-is_answered.ensures c.if-not-branch.false).0

pub kill-requires-clause-to : goal.kill-requires-clause-to
kill-requires-clause-to c =
    (call_within c.args.self.now.graph.now c.args.edge.now c.args.partition.now c.args.self.now.exit
    (queries_of (map claim_of c.args.self.now.claims.now)) c.args.number (map refutation_of c.args.proof.now) c.in_ok-is_answered.field-0
    c.in_ok-is_answered.ensures c.if-not-branch.false).1

pub returns : goal.returns
returns c =
    let g = c.args.self.now.graph.now in
    let s = c.args.partition.now in
    let k = c.args.edge.now in
    let qs : List Query = queries_of (map claim_of c.args.self.now.claims.now) in
    let cs : List Refutation = map refutation_of c.args.proof.now in
    killed s c.kill.new.self k (λ p. KillsCall g c.args.self.now.exit qs p k c.args.number cs)
    (subst (Decides s (λ p. KillsCall g c.args.self.now.exit qs p k c.args.number cs)) c.if-not-branch.false c.in_ok-is_answered.ensures)
    c.in_ok-kill.ensures.regions c.in_ok-kill.ensures.live
