use Rattle.std.proofs.Common.{List, arith, map, subst}
use Rattle.proof_bundle.specs.Claims.{PureMove, claim_of, move_of}
use Rattle.summary_form.specs.declared.query.Query.{Query}
use Rattle.bundle_check.specs.RightClaims.{Moves, moved, queries_of}
use Rattle.bundle_check.specs.steps.Checks.{AreLeft, Becomes}
use Rattle.bundle_check.proofs.Doing.{all_done, moves_ahead, none_ahead, one_done, one_wrong}
use Rattle.bundle_check.proofs.moves.Checker.make_all.Goals as goal

pub returns-then-not-branch : goal.returns-then-not-branch
returns-then-not-branch c =
    let g = c.args.self.now.graph.now in
    let exit = c.args.self.now.exit in
    let qs : List Query = queries_of (map claim_of c.args.self.now.claims.now) in
    let all : List PureMove = map move_of c.args.moves.now in
    let m = c.step-item.result in
    let i = c.loop-step.step-index in
    let ahead = moves_ahead c.args.moves.now i m c.loop-step-test.true c.step-item.is in
    one_wrong g exit qs all c.args.partition.now (move_of m) _ c.loop-step.partition
    (subst (λ (ms : List PureMove). AreLeft g exit qs all ms c.args.partition.now c.loop-step.partition) ahead c.loop-step.invariant)
    c.make.new.partition
    (subst (Becomes c.loop-step.partition c.make.new.partition (Moves g exit qs (move_of m)) (moved (move_of m))) c.if-not-branch.true
    c.in_ok-make.ensures)

pub loop-step-preserved : goal.loop-step-preserved
loop-step-preserved c =
    let g = c.args.self.now.graph.now in
    let exit = c.args.self.now.exit in
    let qs : List Query = queries_of (map claim_of c.args.self.now.claims.now) in
    let all : List PureMove = map move_of c.args.moves.now in
    let m = c.step-item.result in
    let i = c.loop-step.step-index in
    let ahead = moves_ahead c.args.moves.now i m c.loop-step-test.true c.step-item.is in
    one_done g exit qs all c.args.partition.now (move_of m) _ c.loop-step.partition
    (subst (λ (ms : List PureMove). AreLeft g exit qs all ms c.args.partition.now c.loop-step.partition) ahead c.loop-step.invariant)
    c.make.new.partition
    (subst (Becomes c.loop-step.partition c.make.new.partition (Moves g exit qs (move_of m)) (moved (move_of m))) c.if-not-branch.false
    c.in_ok-make.ensures)

pub returns : goal.returns
returns c =
    let g = c.args.self.now.graph.now in
    let exit = c.args.self.now.exit in
    let qs : List Query = queries_of (map claim_of c.args.self.now.claims.now) in
    let all : List PureMove = map move_of c.args.moves.now in
    let past = none_ahead c.args.moves.now c.loop-step.step-index (omega (arith, c.loop-step-test.false)) in
    all_done g exit qs all c.args.partition.now c.loop-step.partition
    (subst (λ (ms : List PureMove). AreLeft g exit qs all ms c.args.partition.now c.loop-step.partition) past c.loop-step.invariant)
