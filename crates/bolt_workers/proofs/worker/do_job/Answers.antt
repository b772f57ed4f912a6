use Rattle.std.proofs.Common.{ap}
use Rattle.flow_graph.specs.declared.graphs.Graphs.{Graphs}
use Rattle.bolt_workers.proofs.Turns.{back_made, made_gives, made_shows, work_taken}
use Rattle.bolt_workers.proofs.worker.do_job.Goals as goal

pub make_with-requires : goal.make_with-requires
make_with-requires g c =
    work_taken c.args.desk.now c.args.job c.deref.result.now.graphs (ap (λ (x : Graphs). x.graphs) c.deref.ensures) c.requires.job

pub give-requires-clause-may : goal.give-requires-clause-may
give-requires-clause-may g c = λ κs out.
    made_gives c.args.desk.now c.args.job c.in-Ok.made c.deref.result.now.graphs (ap (λ (x : Graphs). x.graphs) c.deref.ensures)
    c.requires.job c.in-Ok.ensures

pub give-requires-clause-shows : goal.give-requires-clause-shows
give-requires-clause-shows g c = λ κs out.
    made_shows c.args.desk.now c.args.job c.in-Ok.made c.deref.result.now.graphs (ap (λ (x : Graphs). x.graphs) c.deref.ensures)
    c.requires.job c.in-Ok.ensures

pub returns-in-Ok-clause-back : goal.returns-in-Ok-clause-back
returns-in-Ok-clause-back g c =
    back_made c.give.new.desk c.args.job c.in-Ok.made.worked.job c.in-Ok.ensures.id c.in-Ok.ensures.taken c.give.ensures.back
