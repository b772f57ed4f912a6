use Rattle.smash_run.proofs.Accepting.{bundles_are_accepted}
use Rattle.smash_run.proofs.laws.bundles_are_accepted.Goals as goal

pub returns : goal.returns
returns c = bundles_are_accepted c.one_text.ensures c.one_lowering.ensures
