use Rattle.std.proofs.Common.{[], ◌≡◌, ◌∙◌, subst, sym}
use Rattle.std.specs.Arc.{arc_value}
use Rattle.bolt_core.specs.Boards.{Shown}
use Rattle.board_tests.specs.Plays.{IsFirstTake}
use Rattle.board_tests.proofs.FirstTakes.{first_stays}
use Rattle.board_tests.proofs.Informed.{no_table, nothing_kept}
use Rattle.board_tests.proofs.play.Play.report_again.Goals as goal

pub report-requires-clause-first : goal.report-requires-clause-first
report-requires-clause-first c =
    let f = c.in-Some.first in
    let old = c.args.self.now.board in
    let mid = c.hand_in-back.new.self.board in
    let new = c.take.new.self.board in
    subst (λ (b : Shown). IsFirstTake b f.id f.left f.stored) (sym c.fetch.ensures.board)
    (first_stays mid new f.id f.left f.stored c.in_ok-take.ensures.more
    (first_stays old mid f.id f.left f.stored c.hand_in-back.ensures.more c.in-Some.ensures))

pub report-requires-clause-bare : goal.report-requires-clause-bare
report-requires-clause-bare c =
    let b = c.take.new.self.board in
    subst (λ (x : Shown). x.core.kept ≡ []) (sym c.fetch.ensures.board)
    (nothing_kept b c.reached.ensures
    (no_table arc_value c.all.result.now b.core.table (c.all.ensures ∙ c.table.ensures) c.if-not-is_empty.ensures))
