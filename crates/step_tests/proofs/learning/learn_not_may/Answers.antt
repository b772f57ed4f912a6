use Rattle.std.proofs.Common.{subst}
use Rattle.std.proofs.lemmas.Option.{slice_get_within}
use Rattle.summary_form.specs.declared.query.Query.{Query}
use Rattle.step_tests.specs.Ready.{IsAskedAs}
use Rattle.step_tests.proofs.Learned.{not_may_learned, not_may_tells}
use Rattle.step_tests.proofs.learning.learn_not_may.Goals as goal

pub tell-requires-clause-exists : goal.tell-requires-clause-exists
tell-requires-clause-exists c = slice_get_within c.args.parent.now.asked c.args.asked _ c.in_ok-see_asked.ensures.there

pub tell-requires-clause-tells : goal.tell-requires-clause-tells
tell-requires-clause-tells c =
    let asked = subst (λ (q : Query). IsAskedAs c.args.parent.now c.args.asked q) c.query_of-query.ensures
    c.in_ok-see_asked.ensures in
    not_may_tells c.args.graphs.now.graphs c.args.table.now.summaries c.args.table.now.summaries c.args.parent.now c.args.child.now
    c.args.parent.now c.args.asked 1 c.requires.parent asked c.no_run.ensures c.requires.child c.in_ok-leans_on_none.ensures

pub returns : goal.returns
returns c =
    let asked = subst (λ (q : Query). IsAskedAs c.args.parent.now c.args.asked q) c.query_of-query.ensures
    c.in_ok-see_asked.ensures in
    not_may_learned c.args.graphs.now.graphs c.args.table.now.summaries _ c.args.parent.now c.args.child.now c.tell.new.self c.args.asked 1
    c.requires.parent asked c.no_run.ensures c.requires.child c.in_ok-leans_on_none.ensures c.a_longer_table.ensures
    c.a_longer_state.ensures.news c.in_ok-copied.copied c.in_ok-copied.ensures c.in_ok-keep.ensures c.tell.ensures.shows
