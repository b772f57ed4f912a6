use Rattle.std.proofs.Common.{◌≡◌, ◌+◌, ◌∙◌, None, Some, ap, arith, length, sym, subst}
use Rattle.std.specs.Arc.{arc_value}
use Rattle.std.specs.Prelude.{slice_get}
use Rattle.std.proofs.lemmas.Option.{slice_get_within}
use Rattle.summary_table.specs.Tables.{Listed}
use Rattle.summary_table.specs.steps.Outcomes.{IsOutcome, IsMeant}
use Rattle.summary_table.proofs.SoFar.{IsSoFar, all_decided, first_limit, none_answers, so_far_begun, so_far_limit, so_far_not}
use Rattle.summary_table.proofs.Walks.{IsAsking, IsHere, asked_on, asking_on, summary_read}
use Rattle.summary_table.proofs.table.Table.answer.Goals as goal
use Rattle.summary_table.proofs.table.Table.answer.Goals.{in-Not, in-Limit}

pub loop-at-init : goal.loop-at-init
loop-at-init c =
    let q = c.args.query.now in
    let table = c.args.self.now.summaries in
    asking_on q table 0 c.next_from-at.result None (so_far_begun q table) c.next_from-at.ensures

pub loop-at-preserved : goal.loop-at-preserved
loop-at-preserved c =
    let q = c.args.query.now in
    let table = c.args.self.now.summaries in
    let place = c.in-Some.place in
    let s = c.deref.result.now in
    let view = ap (λ (t : Listed). t.summaries) c.self.view_is in
    let here : IsHere q table place c.loop-at.limit = subst (λ o. IsAsking q table o c.loop-at.limit) c.in-Some.is c.loop-at.invariant in
    let there : slice_get table place ≡ Some s = summary_read arc_value c.self.inside.summaries.items table place c.index.result.now s view
    (slice_get_within table place here.summary here.there) c.index.ensures c.deref.ensures in
    elim c.match-branch-3.branch [
      | in-Not w ↦
          let shown = subst (IsOutcome q s) w.in-Not.is c.in_ok-proof.ensures.outcome in
          let meant = subst (IsMeant q s) w.in-Not.is c.in_ok-proof.ensures.meant in
          asked_on q table place c.next_of-at.result c.match-branch-3.limit c.loop-at.limit here
          (subst (IsSoFar q table (place + 1)) (sym w.limit-is)
          (so_far_not q table place c.loop-at.limit s here.so_far there shown meant)) c.next_of-at.ensures
      | in-Limit w ↦
          let met = subst (IsOutcome q s) w.in-Limit.is c.in_ok-proof.ensures.outcome in
          asked_on q table place c.next_of-at.result c.match-branch-3.limit c.loop-at.limit here
          (subst (IsSoFar q table (place + 1)) (sym w.or-limit.ensures ∙ sym w.limit-is)
          (so_far_limit q table place c.loop-at.limit s w.in-Limit.kept here.so_far there met.0 met.1)) c.next_of-at.ensures
    ]

pub returns-in-Some-limit-clause-table : goal.returns-in-Some-limit-clause-table
returns-in-Some-limit-clause-table c =
    let q = c.args.query.now in
    let table = c.args.self.now.summaries in
    let all : IsSoFar q table (length table) c.loop-at.limit = subst (λ o. IsAsking q table o c.loop-at.limit) c.in_default.is
    c.loop-at.invariant in
    first_limit q table (length table) c.in-Some-limit.kept (omega arith) (subst (IsSoFar q table (length table)) c.in-Some-limit.is all)

pub returns-clause-table : goal.returns-clause-table
returns-clause-table c =
    let q = c.args.query.now in
    let table = c.args.self.now.summaries in
    let all : IsSoFar q table (length table) c.loop-at.limit = subst (λ o. IsAsking q table o c.loop-at.limit) c.in_default.is
    c.loop-at.invariant in
    all_decided q table (length table) (omega arith) (subst (IsSoFar q table (length table)) c.in-None.is all)

pub returns-clause-none : goal.returns-clause-none
returns-clause-none c =
    let q = c.args.query.now in
    let table = c.args.self.now.summaries in
    let all : IsSoFar q table (length table) c.loop-at.limit = subst (λ o. IsAsking q table o c.loop-at.limit) c.in_default.is
    c.loop-at.invariant in
    none_answers q table (length table) (omega arith) (subst (IsSoFar q table (length table)) c.in-None.is all)
