use Rattle.std.proofs.Common.{◌<◌, length, subst}
use Rattle.summary_table.proofs.Walks.{IsWithin, left_falls, within_next, within_on}
use Rattle.punch_step.proofs.over_call.has_dear_must.Goals as goal

pub loop-at-init : goal.loop-at-init
loop-at-init c =
    within_next c.args.frontier.now.table.now.summaries c.called.result c.args.frontier.now.calling.exit 0 c.next_from-at.result
    c.next_from-at.ensures

pub next_of-at-requires : goal.next_of-at-requires
next_of-at-requires c = subst (IsWithin c.args.frontier.now.table.now.summaries) c.in-Some.is c.loop-at.invariant

pub loop-at-smaller : goal.loop-at-smaller
loop-at-smaller c =
    let table = c.args.frontier.now.table.now.summaries in
    let low : c.in-Some.place < length table = subst (IsWithin table) c.in-Some.is c.loop-at.invariant in
    left_falls table c.loop-at.at c.in-Some.place c.next_of-at.result c.in-Some.is low c.next_of-at.ensures

pub loop-at-preserved : goal.loop-at-preserved
loop-at-preserved c =
    let table = c.args.frontier.now.table.now.summaries in
    let low : c.in-Some.place < length table = subst (IsWithin table) c.in-Some.is c.loop-at.invariant in
    within_on table c.in-Some.place c.next_of-at.result low c.next_of-at.ensures
