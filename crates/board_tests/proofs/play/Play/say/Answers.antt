use Rattle.std.proofs.Common.{subst, sym}
use Rattle.bolt_rounds.specs.Moves.{MayBeShown}
use Rattle.bolt_rounds.proofs.Shown.{may_publish}
use Rattle.board_tests.proofs.Published.{play_said, shown_again}
use Rattle.board_tests.proofs.play.Play.say.Goals as goal

pub publish-requires-clause-here : goal.publish-requires-clause-here
publish-requires-clause-here c =
    let j = c.args.gone.now.job in
    (may_publish c.args.self.now.board j c.args.summary.now.value c.requires.say).0

pub publish-requires-clause-holds : goal.publish-requires-clause-holds
publish-requires-clause-holds c =
    let b = c.args.self.now.board in
    let j = c.args.gone.now.job in
    let own = c.in_ok-own.own.value in
    (may_publish b j own (subst (MayBeShown b j) (sym c.in_ok-own.ensures.cases) c.requires.say)).1

pub publish-requires-clause-fits : goal.publish-requires-clause-fits
publish-requires-clause-fits c =
    let b = c.args.self.now.board in
    let j = c.args.gone.now.job in
    let own = c.in_ok-own.own.value in
    (may_publish b j own (subst (MayBeShown b j) (sym c.in_ok-own.ensures.cases) c.requires.say)).2

pub returns-clause-say : goal.returns-clause-say
returns-clause-say c =
    let b = c.args.self.now.board in
    let j = c.args.gone.now.job in
    let same = c.in_ok-own.ensures.cases in
    subst (MayBeShown c.publish.new.self j) same
    (shown_again b c.publish.new.self c.args.worker j c.in_ok-own.own.value c.reached.ensures c.publish.ensures.same
    c.publish.ensures.published (subst (MayBeShown b j) (sym same) c.requires.say))

pub returns-clause-stands : goal.returns-clause-stands
returns-clause-stands c =
    let s = c.args.self.now in
    play_said s.board c.publish.new.self c.args.worker c.args.gone.now.job c.in_ok-own.own.value c.reached.ensures
    c.publish.ensures.same c.publish.ensures.published s.asserts s.known s.jobs.items c.requires.stands
