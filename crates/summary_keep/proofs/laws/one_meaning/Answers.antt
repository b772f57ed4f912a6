use Rattle.summary_keep.proofs.SameMeaning.{same_summaries}
use Rattle.summary_keep.proofs.laws.one_meaning.Goals as goal

pub returns : goal.returns
returns c = λ P gs are s. same_summaries P gs are s
