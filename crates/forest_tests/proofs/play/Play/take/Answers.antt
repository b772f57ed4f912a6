use Rattle.std.proofs.Common.{◌∙◌}
use Rattle.forest_tests.proofs.Jobs.{taken_either}
use Rattle.forest_tests.proofs.play.Play.take.Goals as goal

pub invariant_of-self : goal.invariant_of-self
invariant_of-self c = record {
  has_room = c.take.ensures.room ∙ c.args.self.now.has_room;
  well_formed = taken_either c.args.self.now.forest.entries c.take.new.self.entries c.args.self.now.jobs.items c.take.result
      c.take.ensures.taken c.take.ensures.others c.args.self.now.well_formed;
}
