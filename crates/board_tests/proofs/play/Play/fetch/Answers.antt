use Rattle.std.proofs.Common.{◌≡◌, Some, ap, ◌∙◌, sym, arith}
use Rattle.std.specs.Prelude.{slice_get}
use Rattle.query_tree.proofs.Lists.{at_place}
use Rattle.board_tests.proofs.Plays.{fetched_play, out_at}
use Rattle.board_tests.proofs.play.Play.fetch.Goals as goal

pub returns-then-place-len-clause-may : goal.returns-then-place-len-clause-may
returns-then-place-len-clause-may c =
    let s = c.args.self.now in
    let was = c.take.ensures.value ∙ c.index_mut.ensures.value in
    let at : slice_get s.jobs.items c.args.worker ≡ Some c.take.result = at_place s.jobs.items c.args.worker _ (omega (arith, s.jobs.ok.0))
    ∙ ap Some (sym was) in
    out_at s.board s.jobs.items c.args.worker c.take.result c.requires.out at

pub returns-then-place-len-clause-stands : goal.returns-then-place-len-clause-stands
returns-then-place-len-clause-stands c =
    let s = c.args.self.now in
    fetched_play s.board s.asserts s.known s.jobs.items c.requires c.args.worker c.take.new.self c.take.ensures.after
