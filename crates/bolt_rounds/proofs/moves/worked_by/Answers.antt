use Rattle.std.proofs.Common.{List, sym, subst}
use Rattle.flow_graph.specs.declared.graph.Graph.{Graph}
use Rattle.summary_form.specs.declared.summary.Summary.{Summary}
use Rattle.query_rules.specs.Answered.{AreAnswered}
use Rattle.bolt_rounds.specs.steps.Moving.{IsMoveOf, MayEnd}
use Rattle.bolt_rounds.proofs.Moving.{may_end, may_move}
use Rattle.bolt_rounds.proofs.Sliced.{begun_at, sliced_at}
use Rattle.bolt_rounds.proofs.moves.worked_by.Goals as goal

pub slice_with-requires-clause-state : goal.slice_with-requires-clause-state
slice_with-requires-clause-state c =
    let w = c.requires.job in (
      w.taken.sound.state.graph,
      w.taken.sound.state.model,
      begun_at w.board c.args.job w.is_board w.taken c.args.graphs.now.graphs c.args.known.now.summaries w.graphs w.table,
    )

pub slice_with-requires-clause-answered : goal.slice_with-requires-clause-answered
slice_with-requires-clause-answered c =
    let w = c.requires.job in
    subst (λ (l : List Summary). AreAnswered l c.args.job.state.asked) (sym w.table) w.taken.answered

pub move_of-requires : goal.move_of-requires
move_of-requires c =
    let w = c.requires.job in
    let s = c.slice_with.new.state in
    let made = c.in_ok-steps.field-0 in
    let o = sliced_at w.board c.args.job w.is_board w.taken c.args.graphs.now.graphs c.args.known.now.summaries w.graphs w.table
    c.args.at_most s made c.in_ok-steps.ensures in
    subst (λ (gs : List Graph). MayEnd gs s made.end) (sym w.graphs)
    (may_end w.board c.args.job w.is_board w.taken c.args.at_most c.requires.at_most s made o)

pub returns-clause-few : goal.returns-clause-few
returns-clause-few c =
    let w = c.requires.job in
    let made = c.in_ok-steps.field-0 in
    let o = sliced_at w.board c.args.job w.is_board w.taken c.args.graphs.now.graphs c.args.known.now.summaries w.graphs w.table
    c.args.at_most c.slice_with.new.state made c.in_ok-steps.ensures in
    o.sliced.in_most

pub returns-clause-may : goal.returns-clause-may
returns-clause-may c =
    let s = c.slice_with.new.state in
    let made = c.in_ok-steps.field-0 in
    λ b h e f t.
    let o = sliced_at b c.args.job h t c.args.graphs.now.graphs c.args.known.now.summaries e f c.args.at_most s made
    c.in_ok-steps.ensures in
    may_move b c.args.job h t c.args.at_most c.requires.at_most s made o c.in_ok-next.next
    (subst (λ (gs : List Graph). IsMoveOf gs s made.end c.in_ok-next.next) e c.in_ok-next.ensures)
