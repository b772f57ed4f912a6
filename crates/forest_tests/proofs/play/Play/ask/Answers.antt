use Rattle.std.proofs.Common.{◌∙◌}
use Rattle.forest_tests.proofs.Jobs.{given_out}
use Rattle.forest_tests.proofs.play.Play.ask.Goals as goal

pub invariant_of-self : goal.invariant_of-self
invariant_of-self c = record {
  has_room = c.ask.ensures.room ∙ c.fetch.new.self.has_room;
  well_formed = given_out c.fetch.new.self.forest.entries c.ask.new.self.entries c.fetch.new.self.jobs.items c.in-Some.lent.id c.args.id
      c.in-Some.ensures.number c.ask.ensures.others c.fetch.ensures.free c.fetch.new.self.well_formed;
}
