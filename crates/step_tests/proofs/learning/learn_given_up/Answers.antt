use Rattle.std.proofs.lemmas.Option.{slice_get_within}
use Rattle.query_rules.specs.declared.step.News.TheVariants as news
use Rattle.step_tests.proofs.Learned.{open_learned, open_tells}
use Rattle.step_tests.proofs.learning.learn_given_up.Goals as goal

pub tell-requires-clause-exists : goal.tell-requires-clause-exists
tell-requires-clause-exists c = slice_get_within c.args.parent.now.asked c.args.asked _ c.in_ok-see_asked.ensures.there

pub tell-requires-clause-tells : goal.tell-requires-clause-tells
tell-requires-clause-tells c =
    open_tells c.args.graphs.now.graphs c.args.table.now.summaries c.args.parent.now c.args.parent.now c.args.asked 1 _
    (news.Stuck c.args.kind) c.requires c.in_ok-see_asked.ensures tt

pub returns : goal.returns
returns c =
    open_learned c.args.graphs.now.graphs c.args.table.now.summaries c.args.parent.now c.tell.new.self c.args.asked 1 _
    (news.Stuck c.args.kind) c.requires c.in_ok-see_asked.ensures tt c.a_longer_state.ensures.news (λ e. cc) c.tell.ensures.shows
