use Rattle.std.proofs.Common.{List, map, subst}
use Rattle.std.proofs.lemmas.Result.{IfOk-weaker}
use Rattle.proof_bundle.specs.Claims.{PureMove, claim_of, move_of}
use Rattle.summary_form.specs.declared.query.Query.{Query}
use Rattle.query_rules.specs.Paths.{HasNoPath}
use Rattle.bundle_check.specs.RightClaims.{AllMove, moved_all, queries_of}
use Rattle.bundle_check.specs.steps.Checks.{Becomes, Closes, Decides}
use Rattle.bundle_check.proofs.Doing.{ended}
use Rattle.bundle_check.proofs.claim.closes.Goals as goal

pub returns : goal.returns
returns c =
    let g = c.args.checker.now.graph.now in
    let exit = c.args.checker.now.exit in
    let q = c.args.query.now in
    let old = c.args.partition.now in
    let new = c.make_all.new.partition in
    let qs : List Query = queries_of (map claim_of c.args.checker.now.claims.now) in
    let ms : List PureMove = map move_of c.args.moves.now in
    let done = subst (Becomes old new (AllMove g exit qs ms) (moved_all ms)) c.if-not-branch.false c.in_ok-make_all.ensures in
    IfOk-weaker c.has_no_path.result (Decides new (HasNoPath g q)) (Decides old (Closes g exit qs q ms))
    (λ r d. ended g exit qs q ms old new done r d) c.has_no_path.ensures
