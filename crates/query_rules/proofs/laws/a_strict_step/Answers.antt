use Rattle.query_rules.proofs.Strict.{strict_legal}
use Rattle.query_rules.proofs.laws.a_strict_step.Goals as goal

pub returns : goal.returns
returns c = strict_legal
