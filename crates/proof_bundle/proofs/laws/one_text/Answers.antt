use Rattle.proof_bundle.proofs.Bundles.{one_text}
use Rattle.proof_bundle.proofs.laws.one_text.Goals as goal

pub returns : goal.returns
returns c = one_text
