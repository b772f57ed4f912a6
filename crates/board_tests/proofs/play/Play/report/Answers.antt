use Rattle.std.proofs.Common.{refl}
use Rattle.query_tree.specs.declared.Rest.TheVariants as rest
use Rattle.bolt_core.specs.Histories.{parked}
use Rattle.board_tests.proofs.FirstTakes.{kept_still, parks_late, sound_of}
use Rattle.board_tests.proofs.Plays.{play_goes}
use Rattle.board_tests.proofs.play.Play.report.Goals as goal

pub park-requires : goal.park-requires
park-requires c =
    let b = c.args.self.now.board in
    let w = c.args.worked in
    record {
      job = parks_late b c.reached.ensures w.job (sound_of b w.job w.next c.requires.may) c.args.first.left c.args.first.stored
          c.args.spent c.args.first.id c.requires.first c.requires.since c.requires.bare;
    }

pub returns-in_default : goal.returns-in_default
returns-in_default c =
    let s = c.args.self.now in
    play_goes s.board c.park.new.self (parked c.args.worker c.args.worked.job.id c.args.spent rest.Ready) c.reached.ensures
    c.park.ensures.same c.in_default.ensures.parked s.asserts s.known s.jobs.items c.requires.stands

pub keep-requires-clause-job : goal.keep-requires-clause-job
keep-requires-clause-job c =
    let w = c.args.worked in
    kept_still c.args.self.now.board c.park.new.self w.job _ c.in-Err.gone w.next c.requires.may refl c.in-Err.ensures.parked
