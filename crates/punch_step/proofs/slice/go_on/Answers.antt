use Rattle.std.proofs.Common.{List, Option, subst}
use Rattle.std.specs.Prelude.{IfSome}
use Rattle.query_rules.specs.Seen.{ShowsModel}
use Rattle.query_rules.specs.Steps.{stepped}
use Rattle.query_rules.specs.declared.step.Step.{Step}
use Rattle.summary_form.specs.declared.summary.Summary.{Summary}
use Rattle.punch_step.proofs.Ending.{may_apply, has_stepped}
use Rattle.punch_step.specs.Confirming.{IsSideTurn}
use Rattle.punch_step.proofs.SideTurns.{side_legal}
use Rattle.punch_step.proofs.slice.go_on.Goals as goal

pub apply-requires : goal.apply-requires
apply-requires c =
    let h = c.requires.state in
    let gs = c.args.graphs.now.graphs in let g = c.args.graph.now in let table = c.args.table.now.summaries in
    let made = subst (λ (o : Option Step). IfSome o (IsSideTurn g c.args.state.now)) c.in-Some.is c.in_ok-step.ensures.step in
    let l = side_legal g table h.0 c.in-Some.step (made gs table h.0 c.args.at h.1 h.2) in
    rw c.all.ensures
    (may_apply gs g table c.args.state.now h.0 h.1 c.in-Some.step l.0)

pub returns-in_ok-apply-in-Some-clause-step : goal.returns-in_ok-apply-in-Some-clause-step
returns-in_ok-apply-in-Some-clause-step c = λ m analysed turn.
    let gs = c.args.graphs.now.graphs in let g = c.args.graph.now in let table = c.args.table.now.summaries in
    let made = subst (λ (o : Option Step). IfSome o (IsSideTurn g c.args.state.now)) c.in-Some.is c.in_ok-step.ensures.step in
    let l = side_legal g table m c.in-Some.step (made gs table m c.args.at analysed turn) in
    has_stepped gs g table c.args.state.now c.apply.new.self m analysed c.in-Some.step _ l.0 l.1 l.2
    (subst (λ (ss : List Summary). ShowsModel c.apply.new.self (stepped g ss c.in-Some.step m)) c.all.ensures
    (c.in_ok-apply-in-Some.ensures m g analysed.shows analysed.at))
