use Rattle.std.proofs.Common.{◌∙◌, suc, None, ap, arith, Option, subst}
use Rattle.may_partition.specs.Parted.{end_node}
use Rattle.summary_form.specs.declared.query.Query.{Query}
use Rattle.punch_step.proofs.Behind.{is_behind, stepped_query}
use Rattle.punch_step.specs.Analysed.{IsOutlook}
use Rattle.punch_step.specs.Sliced.{HasStepped}
use Rattle.punch_step.specs.declared.slice.SliceEnd.{SliceEnd}
use Rattle.punch_step.proofs.Ending.{answered_more, sliced_closed, sliced_goes, sliced_last, sliced_spent, sliced_waits, turn_waits_not, way_more}
use Rattle.punch_step.proofs.slice.slice_along.Goals as goal

pub look_ahead-requires-clause-analysed : goal.look_ahead-requires-clause-analysed
look_ahead-requires-clause-analysed c =
    let h = c.requires.state in let w = c.steps.invariant.way h.0 h.1 in
    (c.args.graphs.now.graphs, c.args.table.now.summaries, c.args.graph.now, w.new, w.analysed, c.steps.invariant.target)

pub returns-in-Closed : goal.returns-in-Closed
returns-in-Closed c = λ m h.
    let gs = c.args.graphs.now.graphs in let g = c.args.graph.now in let table = c.args.table.now.summaries in
    let w = c.steps.invariant.way m h in
    let o = subst (IsOutlook g w.new) c.in-Closed.is (c.in_ok-closing.ensures.outlook gs table g w.new w.analysed c.steps.invariant.target)
    in
    sliced_closed gs g table c.args.left c.args.at_most m c.steps.state c.steps.steps w c.steps.invariant.low c.steps.invariant.few
    c.in-Closed.closing o

pub returns-then-steps-left : goal.returns-then-steps-left
returns-then-steps-left c = λ m h.
    let gs = c.args.graphs.now.graphs in let g = c.args.graph.now in let table = c.args.table.now.summaries in
    let w = c.steps.invariant.way m h in
    let o = subst (IsOutlook g w.new) c.in-Waits.is (c.in_ok-closing.ensures.outlook gs table g w.new w.analysed c.steps.invariant.target)
    in
    sliced_spent gs g table c.args.left c.args.at_most m c.steps.state c.steps.steps w c.steps.invariant.low c.steps.invariant.few
    o.1 c.if-steps-left.true

pub returns-in-Waits : goal.returns-in-Waits
returns-in-Waits c = λ m h.
    let gs = c.args.graphs.now.graphs in let g = c.args.graph.now in let table = c.args.table.now.summaries in
    let w = c.steps.invariant.way m h in
    let o = subst (IsOutlook g w.new) c.in-Waits.is (c.in_ok-closing.ensures.outlook gs table g w.new w.analysed c.steps.invariant.target)
    in
    sliced_waits gs g table c.args.left c.args.at_most m c.steps.state c.steps.steps w c.steps.invariant.low c.steps.invariant.few
    o.1 c.if-steps-left.false o.0

pub returns-then-steps-left-2 : goal.returns-then-steps-left-2
returns-then-steps-left-2 c = λ m h.
    let gs = c.args.graphs.now.graphs in let g = c.args.graph.now in let table = c.args.table.now.summaries in
    let w = c.steps.invariant.way m h in
    let o = subst (IsOutlook g w.new) c.in-At.is (c.in_ok-closing.ensures.outlook gs table g w.new w.analysed c.steps.invariant.target) in
    sliced_spent gs g table c.args.left c.args.at_most m c.steps.state c.steps.steps w c.steps.invariant.low c.steps.invariant.few
    o.1 c.if-steps-left-2.true

pub returns-then-steps-at_most : goal.returns-then-steps-at_most
returns-then-steps-at_most c = λ m h.
    let gs = c.args.graphs.now.graphs in let g = c.args.graph.now in let table = c.args.table.now.summaries in
    let w = c.steps.invariant.way m h in
    let o = subst (IsOutlook g w.new) c.in-At.is (c.in_ok-closing.ensures.outlook gs table g w.new w.analysed c.steps.invariant.target) in
    sliced_goes gs g table c.args.left c.args.at_most m c.steps.state c.steps.steps w c.steps.invariant.low c.steps.invariant.few
    o.1 c.if-steps-left-2.false c.if-steps-at_most.true (turn_waits_not g w.new c.in-At.at o.0)

pub go_on-requires-clause-state : goal.go_on-requires-clause-state
go_on-requires-clause-state c =
    let gs = c.args.graphs.now.graphs in let g = c.args.graph.now in let table = c.args.table.now.summaries in
    let h = c.requires.state in
    let w = c.steps.invariant.way h.0 h.1 in
    let o = subst (IsOutlook g w.new) c.in-At.is (c.in_ok-closing.ensures.outlook gs table g w.new w.analysed c.steps.invariant.target) in
    (w.new, w.analysed, o.0)

pub returns-in-Some : goal.returns-in-Some
returns-in-Some c = λ m h.
    let gs = c.args.graphs.now.graphs in let g = c.args.graph.now in let table = c.args.table.now.summaries in
    let w = c.steps.invariant.way m h in
    let o = subst (IsOutlook g w.new) c.in-At.is (c.in_ok-closing.ensures.outlook gs table g w.new w.analysed c.steps.invariant.target) in
    let made = subst (λ (end : Option SliceEnd). HasStepped gs g table w.new c.go_on.new.state end) c.in-Some.is
    (c.in_ok-made-in-At.ensures.step w.new w.analysed o.0) in
    sliced_last gs g table c.args.left c.args.at_most m c.steps.state c.steps.steps w c.steps.invariant.low c.steps.invariant.few
    o.1 c.if-steps-left-2.false c.if-steps-at_most.false c.go_on.new.state c.in-Some.end made

pub follow-requires : goal.follow-requires
follow-requires c =
    let gs = c.args.graphs.now.graphs in let g = c.args.graph.now in let table = c.args.table.now.summaries in
    let h = c.requires.state in
    let w = c.steps.invariant.way h.0 h.1 in
    let o = subst (IsOutlook g w.new) c.in-At.is (c.in_ok-closing.ensures.outlook gs table g w.new w.analysed c.steps.invariant.target) in
    is_behind gs g table w.new c.steps.state c.go_on.new.state c.go_on.new.distances w.analysed c.in_ok-made-in-At.ensures.followed
    (subst (λ (end : Option SliceEnd). HasStepped gs g table w.new c.go_on.new.state end) c.in_default.is
    (c.in_ok-made-in-At.ensures.step w.new w.analysed o.0))

pub steps-preserved : goal.steps-preserved
steps-preserved c =
    let gs = c.args.graphs.now.graphs in let g = c.args.graph.now in let table = c.args.table.now.summaries in
    let h = c.requires.state in
    let v = c.steps.invariant.way h.0 h.1 in
    let p = subst (IsOutlook g v.new) c.in-At.is (c.in_ok-closing.ensures.outlook gs table g v.new v.analysed c.steps.invariant.target) in
    record {
      way = λ m k.
          let w = c.steps.invariant.way m k in
          let o = subst (IsOutlook g w.new) c.in-At.is (c.in_ok-closing.ensures.outlook gs table g w.new w.analysed
          c.steps.invariant.target)
          in
          way_more gs g table m c.steps.state c.go_on.new.state c.steps.steps w
          (subst (λ (end : Option SliceEnd). HasStepped gs g table w.new c.go_on.new.state end) c.in_default.is
          (c.in_ok-made-in-At.ensures.step w.new w.analysed o.0));
      answered = answered_more gs g table h.0 c.steps.state c.go_on.new.state c.steps.steps v
          (subst (λ (end : Option SliceEnd). HasStepped gs g table v.new c.go_on.new.state end) c.in_default.is
          (c.in_ok-made-in-At.ensures.step v.new v.analysed p.0)) c.steps.invariant.answered;
      followed = c.in_ok-follow-in-At.ensures.followed;
      target = c.in_ok-follow-in-At.ensures.target ∙ c.in_ok-made-in-At.ensures.same_target ∙ c.in_ok-closing.ensures.target
          ∙ c.steps.invariant.target
          ∙ ap (λ (q : Query). suc (end_node g q.exit)) (stepped_query gs g table v.new c.steps.state c.go_on.new.state v.analysed None
          (subst (λ (end : Option SliceEnd). HasStepped gs g table v.new c.go_on.new.state end) c.in_default.is
          (c.in_ok-made-in-At.ensures.step v.new v.analysed p.0)));
      low = omega (arith, c.steps.invariant.low, c.if-steps-left-2.false);
      few = omega (arith, c.steps.invariant.few, c.if-steps-at_most.false);
    }
