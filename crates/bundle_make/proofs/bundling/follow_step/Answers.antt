use Rattle.std.proofs.Common.{ℕ, ◌<◌, Some, sym, subst, ap, ◌∙◌}
use Rattle.std.proofs.lemmas.Result.{on_ok_weaker}
use Rattle.bolt_core.proofs.Leading.{kills_lead}
use Rattle.bundle_make.proofs.Following.{kill_listed, kill_within}
use Rattle.bundle_make.proofs.bundling.follow_step.Goals as goal

pub lead-requires-clause-leads : goal.lead-requires-clause-leads
lead-requires-clause-leads c =
    let at = c.requires.stored in
    let a = c.requires.anchored in
    kills_lead c.args.board.now c.reached.ensures c.requires.bare.unsaid c.args.id a.0 a.1 c.args.state.now c.requires.closed at.0
    c.in-Kill.edge c.in-Kill.by (at.1 ∙ ap Some c.in-Kill.is)

pub add-requires-clause-id : goal.add-requires-clause-id
add-requires-clause-id c =
    let at = c.requires.stored in
    subst (λ (n : ℕ). c.in-Some.other < n) (sym c.requires.listing.size)
    (kill_within c.args.board.now c.reached.ensures c.args.id c.args.state.now c.requires.closed at.0 c.in-Kill.edge c.in-Kill.by
    c.args.step.now at.1 c.in-Kill.is c.in-Some.other c.in-Some.ensures.some c.requires.bare c.requires.anchored)

pub returns-in-Some-clause-all : goal.returns-in-Some-clause-all
returns-in-Some-clause-all c =
    let at = c.requires.stored in
    on_ok_weaker c.add.result
    (kill_listed c.args.board.now c.reached.ensures c.args.id c.args.state.now c.requires.closed at.0 c.in-Kill.edge c.in-Kill.by
    c.args.step.now at.1 c.in-Kill.is c.in-Some.other c.in-Some.ensures.some c.add.new.self.ids.items) c.add.ensures.listed
