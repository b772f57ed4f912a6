use Rattle.std.proofs.Common.{sym, subst, is_ok}
use Rattle.forest_tests.proofs.Jobs.{grown_either}
use Rattle.forest_tests.specs.Jobs.{AreOut}
use Rattle.forest_tests.proofs.play.Play.grow.Goals as goal

pub invariant_of-self : goal.invariant_of-self
invariant_of-self c = record {
  has_room = c.args.self.now.has_room;
  well_formed = subst (AreOut c.args.self.now.forest.entries) (sym c.push.ensures.items) (grown_either (is_ok c.push.result)
      c.args.self.now.forest.entries c.args.self.now.jobs.items c.args.self.now.well_formed);
}
