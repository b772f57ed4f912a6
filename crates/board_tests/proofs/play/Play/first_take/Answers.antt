use Rattle.std.proofs.Common.{◌≡◌, Some, ap, ◌∙◌, sym, arith}
use Rattle.std.proofs.lemmas.Option.{IfSome_then}
use Rattle.std.specs.Prelude.{slice_get}
use Rattle.query_tree.proofs.Lists.{at_place}
use Rattle.board_tests.proofs.FirstTakes.{first_is, sound_of}
use Rattle.board_tests.proofs.Plays.{out_at}
use Rattle.board_tests.proofs.play.Play.first_take.Goals as goal

pub returns-in-Some : goal.returns-in-Some
returns-in-Some c =
    let s = c.args.self.now in
    let w = c.in-Some.worked in
    let at : slice_get s.jobs.items c.args.worker ≡ Some (Some w) =
    at_place s.jobs.items c.args.worker _ (omega (arith, c.if-place-len.false, c.len.ensures, s.jobs.ok.0))
    ∙ ap Some (sym c.index.ensures ∙ c.in-Some.is) in
    let may = out_at s.board s.jobs.items c.args.worker (Some w) c.requires.out at in
    IfSome_then c.first_of.result c.first_of.ensures
    (λ t p. first_is s.board w.job t.id t.left t.stored (sound_of s.board w.job w.next may) p)
