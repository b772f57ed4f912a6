use Rattle.std.proofs.Common.{arith}
use Rattle.bolt_core.specs.Machine.{first_board}
use Rattle.bolt_core.specs.States.{reads}
use Rattle.bolt_core.proofs.Reserve.{opening_grants}
use Rattle.bolt_core.proofs.laws.opening_grants.Goals as goal

pub returns : goal.returns
returns c = λ gs grant ss ks. omega (arith, opening_grants (reads gs) grant ss (first_board (reads gs) ks))
