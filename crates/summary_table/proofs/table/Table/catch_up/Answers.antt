use Rattle.std.proofs.Common.{◌+◌, ◌∙◌, ap, map, subst}
use Rattle.std.specs.Arc.{arc_value}
use Rattle.summary_table.specs.Tables.{AreAllNumbered, Listed}
use Rattle.summary_table.proofs.Fronts.{item_there, starts_with_taken, keeps_front, one_more}
use Rattle.summary_table.proofs.table.Table.catch_up.Goals as goal

pub returns-in_err-clone-clause-front : goal.returns-in_err-clone-clause-front
returns-in_err-clone-clause-front c =
    starts_with_taken c.args.from.now.summaries c.loop-summary.self.summaries (c.len-known.result + c.loop-summary.summary-index)
    c.loop-summary.invariant.summaries

pub returns-in_err-clone-clause-kept : goal.returns-in_err-clone-clause-kept
returns-in_err-clone-clause-kept c =
    keeps_front c.args.from.now.summaries c.args.self.now.summaries c.loop-summary.self.summaries c.len-known.result
    c.loop-summary.summary-index c.requires.front c.loop-summary.invariant.known c.loop-summary.invariant.summaries

pub push-requires-clause-numbers : goal.push-requires-clause-numbers
push-requires-clause-numbers c =
    let from = ap (λ (t : Listed). t.summaries) c.from.view_is in
    let all : AreAllNumbered c.args.from.now.summaries = subst AreAllNumbered from c.from.invariant.4.numbered in
    let i = c.len-known.result + c.loop-summary.summary-index in
    all i c.in_ok-clone.field-0.value (item_there arc_value c.deref.result.now c.args.from.now.summaries c.len-known.result
    c.loop-summary.summary-index c.summary-item.result c.in_ok-clone.field-0.value (ap (map arc_value) c.deref.ensures.value ∙ from)
    c.loop-summary-test.true c.summary-item.is c.in_ok-clone.ensures.cases)

pub loop-summary-preserved : goal.loop-summary-preserved
loop-summary-preserved c =
    let from = ap (λ (t : Listed). t.summaries) c.from.view_is in
    record {
      room = c.push.ensures.room ∙ c.loop-summary.invariant.room;
      known = c.loop-summary.invariant.known;
      summaries = one_more arc_value c.deref.result.now c.args.from.now.summaries c.loop-summary.self.summaries c.push.new.self.summaries
          c.len-known.result c.loop-summary.summary-index c.summary-item.result c.in_ok-clone.field-0.value
          (ap (map arc_value) c.deref.ensures.value ∙ from) c.loop-summary-test.true c.summary-item.is c.in_ok-clone.ensures.cases
          c.loop-summary.invariant.summaries c.push.ensures.summaries;
    }
