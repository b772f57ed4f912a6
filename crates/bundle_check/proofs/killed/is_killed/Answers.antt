use Rattle.std.proofs.Common.{◌↔◌, IsTrue, List, sym, subst}
use Rattle.linear_formula.specs.declared.formula.Atom.{Atom}
use Rattle.infeasible_cert.specs.Refutation.{refutation_of}
use Rattle.bundle_check.specs.RightClaims.{IsRefutedBy}
use Rattle.bundle_check.specs.steps.Places.{IfPreimage}
use Rattle.bundle_check.proofs.Deciding.{kill_decided, no_kill_refused}
use Rattle.bundle_check.proofs.killed.is_killed.Goals as goal

pub returns-in_default-2 : goal.returns-in_default-2
returns-in_default-2 c =
    let place = c.in-Some.place in
    no_kill_refused c.args.graph.now c.args.partition.now c.args.edge.now (refutation_of c.args.by.now) place.over.now place.source.now
    place.target.now c.in-Some.ensures.found
    (subst (IfPreimage place.over.now place.target.now.cube.atoms) c.in_default-2.is c.in_ok-before.ensures)

pub returns : goal.returns
returns c =
    let place = c.in-Some.place in
    kill_decided c.args.graph.now c.args.partition.now c.args.edge.now (refutation_of c.args.by.now) place.over.now place.source.now
    place.target.now c.in-Some.ensures.found (sym c.if-not-live.ensures) c.in-Some-2.before
    (subst (IfPreimage place.over.now place.target.now.cube.atoms) c.in-Some-2.is c.in_ok-before.ensures) c.is_refuted.result
    (subst (λ (xs : List Atom). IsTrue c.is_refuted.result ↔ IsRefutedBy xs (refutation_of c.args.by.now)) c.in_ok-rows.ensures
    c.is_refuted.ensures)
