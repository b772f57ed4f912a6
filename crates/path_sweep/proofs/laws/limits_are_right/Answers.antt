use Rattle.path_sweep.proofs.Limiting.{limits_are_right}
use Rattle.path_sweep.proofs.laws.limits_are_right.Goals as goal

pub returns : goal.returns
returns c = λ gs main path kept h. limits_are_right gs main path kept h
