use Rattle.std.proofs.Common.{subst}
use Rattle.bolt_rounds.specs.steps.Places.{MayGive}
use Rattle.bolt_rounds.proofs.Rounding.{given_late, given_moved}
use Rattle.bolt_rounds.proofs.rounds.give_one.Goals as goal

pub returns-in-Ok-clause-given : goal.returns-in-Ok-clause-given
returns-in-Ok-clause-given g c =
    let old = c.args.board.now in
    let m = c.in-Made.field-0 in
    let may = subst (MayGive old) c.in-Made.is c.requires in
    given_moved old c.reached.ensures c.args.place m c.in-Made.is may.0 c.hand_in.new.board c.args.place.worker c.in-Ok.ensures.moved

pub returns-in-Err-clause-given : goal.returns-in-Err-clause-given
returns-in-Err-clause-given g c =
    let old = c.args.board.now in
    let m = c.in-Made.field-0 in
    let may = subst (MayGive old) c.in-Made.is c.requires in
    given_late old c.reached.ensures c.args.place m c.in-Made.is may.0 c.hand_in.new.board c.say.new.board c.args.place.worker
    c.in-Err.gone.job.id c.in-Err.gone c.in-Err.ensures.moved c.say.ensures.said
