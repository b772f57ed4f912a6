use Rattle.bolt_core.specs.States.{reads}
use Rattle.bolt_core.proofs.Sounds.{sound_more}
use Rattle.bolt_core.proofs.laws.jobs_stay_sound.Goals as goal

pub returns : goal.returns
returns c = λ gs roots old new e j lawful k t s. sound_more (reads gs) lawful old new e k.levelled t j s
