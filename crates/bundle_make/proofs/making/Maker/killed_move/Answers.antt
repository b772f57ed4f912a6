use Rattle.std.proofs.Common.{◌∷◌, [], subst, sym}
use Rattle.query_rules.specs.declared.step.Killer.{Killer}
use Rattle.proof_bundle.specs.Claims.{move_of}
use Rattle.bundle_make.specs.steps.Making.{Does, KillMade}
use Rattle.bundle_make.proofs.Doing.{kill_done}
use Rattle.bundle_make.proofs.making.Maker.killed_move.Goals as goal

pub returns-in_ok-kill_move-in-Certificate : goal.returns-in_ok-kill_move-in-Certificate
returns-in_ok-kill_move-in-Certificate c =
    let m = c.args.self.now in
    let b = m.board.now in
    let ids = m.listing.now.ids.items in
    let s = m.state.now in
    let old = c.args.partition.now in
    let new = c.kill_move.new.partition in
    let made = move_of c.in_ok-kill_move-in-Certificate.field-0 in
    subst (λ (by : Killer). Does old new (KillMade b ids s m.graph.now m.killed.now by c.args.edge) (made ∷ [])) (sym c.in-Certificate.is)
    (kill_done b ids s m.graph.now m.killed.now old new c.args.edge c.in-Certificate.by c.in_ok-kill_move-in-Certificate.ensures.shows made
    c.in_ok-kill_move-in-Certificate.ensures.made)
