use Rattle.infeasible_cert.proofs.Sound.{right-sound}
use Rattle.infeasible_cert.proofs.check.right_is_sound.Goals as goal

pub returns : goal.returns
returns c = right-sound
