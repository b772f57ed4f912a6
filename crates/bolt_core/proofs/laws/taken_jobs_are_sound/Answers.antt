use Rattle.bolt_core.proofs.Hearing.{taken_answered, taken_sound, taken_waits}
use Rattle.bolt_core.proofs.laws.taken_jobs_are_sound.Goals as goal

pub returns : goal.returns
returns c = λ gs roots old new w i left steps waiting lawful k t. (
  taken_sound gs lawful roots old k new w i left steps waiting t,
  taken_answered gs lawful roots old k new w i left steps waiting t,
  taken_waits gs lawful roots old k new w i left steps waiting t,
)
