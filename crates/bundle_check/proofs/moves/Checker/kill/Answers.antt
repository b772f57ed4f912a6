use Rattle.std.proofs.Common.{subst}
use Rattle.infeasible_cert.specs.Refutation.{refutation_of}
use Rattle.may_partition.specs.Parted.{kill_edge}
use Rattle.bundle_check.specs.RightClaims.{Kills}
use Rattle.bundle_check.specs.steps.Checks.{Decides}
use Rattle.bundle_check.proofs.Doing.{kill_within, killed, stays}
use Rattle.bundle_check.proofs.moves.Checker.kill.Goals as goal

pub returns-then-not-branch : goal.returns-then-not-branch
returns-then-not-branch c =
    let g = c.args.self.now.graph.now in
    let s = c.args.partition.now in
    let k = c.args.edge.now in
    stays s s (λ p. Kills g p k (refutation_of c.args.by.now)) (kill_edge k)
    (subst (Decides s (λ p. Kills g p k (refutation_of c.args.by.now))) c.if-not-branch.true c.in_ok-is_killed.ensures)

pub kill-requires-clause-from : goal.kill-requires-clause-from
kill-requires-clause-from c =
    (kill_within c.args.self.now.graph.now c.args.edge.now c.args.partition.now (refutation_of c.args.by.now) c.in_ok-is_killed.field-0
    c.in_ok-is_killed.ensures c.if-not-branch.false).0

pub kill-requires-clause-to : goal.kill-requires-clause-to
kill-requires-clause-to c =
    (kill_within c.args.self.now.graph.now c.args.edge.now c.args.partition.now (refutation_of c.args.by.now) c.in_ok-is_killed.field-0
    c.in_ok-is_killed.ensures c.if-not-branch.false).1

pub returns : goal.returns
returns c =
    let g = c.args.self.now.graph.now in
    let s = c.args.partition.now in
    let k = c.args.edge.now in
    killed s c.kill.new.self k (λ p. Kills g p k (refutation_of c.args.by.now))
    (subst (Decides s (λ p. Kills g p k (refutation_of c.args.by.now))) c.if-not-branch.false c.in_ok-is_killed.ensures)
    c.in_ok-kill.ensures.regions c.in_ok-kill.ensures.live
