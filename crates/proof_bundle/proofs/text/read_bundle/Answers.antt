use Rattle.proof_bundle.proofs.Answering.{read_again, read_not, read_ok}
use Rattle.proof_bundle.proofs.text.read_bundle.Goals as goal

pub returns-clause-ok : goal.returns-clause-ok
returns-clause-ok c = read_ok c.whole.result c.args.bytes.now c.whole.ensures

pub returns-clause-not : goal.returns-clause-not
returns-clause-not c = read_not c.whole.result c.args.bytes.now c.whole.ensures

pub returns-clause-again : goal.returns-clause-again
returns-clause-again c = read_again c.whole.result c.args.bytes.now c.whole.ensures
