use Rattle.punch_step.proofs.Noting.{noted_in_none}
use Rattle.punch_step.proofs.noted.nothing.Goals as goal

pub returns : goal.returns
returns c = λ p. noted_in_none p c.new-noted.result.items c.make_room.new.noted.items c.new-noted.ensures.items c.in_ok-make_room.ensures
