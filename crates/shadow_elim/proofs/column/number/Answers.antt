use Rattle.shadow_elim.proofs.Numbering.{numbered-more}
use Rattle.shadow_elim.proofs.column.number.Goals as goal

pub loop-candidate-preserved : goal.loop-candidate-preserved
loop-candidate-preserved c =
    numbered-more c.args.first c.args.steps.now.items c.loop-candidate.yielded c.loop-candidate.rows.items c.loop-candidate.steps.items
    c.in-Some.candidate c.in_ok-row.row c.push.new.self.items c.numbered_row.new.steps.items c.loop-candidate.invariant
    c.in_ok-row.ensures.row c.in_ok-push.ensures.items c.in_ok-row.ensures.steps
