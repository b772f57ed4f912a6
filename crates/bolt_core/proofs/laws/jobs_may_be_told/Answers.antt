use Rattle.bolt_core.specs.States.{reads}
use Rattle.bolt_core.proofs.BoardKeeps.{nodes_of}
use Rattle.bolt_core.proofs.Telling.{told_true}
use Rattle.bolt_core.proofs.laws.jobs_may_be_told.Goals as goal

pub returns : goal.returns
returns c = λ gs roots b j i a k h s at lt stays is.
    told_true (reads gs) b (nodes_of (reads gs) roots b h) j s i a at lt k stays is
