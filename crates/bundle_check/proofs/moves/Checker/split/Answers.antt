use Rattle.std.proofs.Common.{◌⊎◌, subst}
use Rattle.bundle_check.specs.RightClaims.{SplitsByPreimage, SplitsRegion}
use Rattle.bundle_check.specs.steps.Checks.{Decides}
use Rattle.bundle_check.proofs.Doing.{no_split, split_within}
use Rattle.bundle_check.proofs.moves.Checker.split.Goals as goal

pub returns-then-not-branch : goal.returns-then-not-branch
returns-then-not-branch c =
    let g = c.args.self.now.graph.now in
    let s = c.args.partition.now in
    let k = c.args.edge.now in
    let atoms = c.args.atoms.now in
    no_split g k atoms s s (subst (Decides s (λ p. SplitsByPreimage g p k atoms ⊎ SplitsRegion g p k atoms)) c.if-not-branch.true
    c.in_ok-may_split.ensures)

pub split-requires-clause-from : goal.split-requires-clause-from
split-requires-clause-from c =
    (split_within c.args.self.now.graph.now c.args.edge.now c.args.partition.now c.args.atoms.now c.in_ok-may_split.field-0
    c.in_ok-may_split.ensures c.if-not-branch.false).0

pub split-requires-clause-to : goal.split-requires-clause-to
split-requires-clause-to c =
    (split_within c.args.self.now.graph.now c.args.edge.now c.args.partition.now c.args.atoms.now c.in_ok-may_split.field-0
    c.in_ok-may_split.ensures c.if-not-branch.false).1
