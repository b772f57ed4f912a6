use Rattle.summary_keep.proofs.SameMeaning.{program_values}
use Rattle.graph_tests.proofs.SameMeaning.{has_graphs}
use Rattle.graph_tests.proofs.laws.programs_return_values.Goals as goal

pub returns : goal.returns
returns c = λ P gs are. program_values P gs (has_graphs P gs are)
