use Rattle.forest_tests.proofs.Jobs.{kept_out}
use Rattle.forest_tests.proofs.play.Play.keep.Goals as goal

pub invariant_of-self : goal.invariant_of-self
invariant_of-self c = record {
  has_room = c.args.self.now.has_room;
  well_formed = kept_out c.args.self.now.forest.entries c.args.self.now.jobs.items c.args.lent c.requires c.args.self.now.well_formed;
}
