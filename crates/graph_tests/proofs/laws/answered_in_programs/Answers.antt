use Rattle.summary_keep.proofs.SameMeaning.{program_answered}
use Rattle.graph_tests.proofs.SameMeaning.{has_graphs}
use Rattle.graph_tests.proofs.laws.answered_in_programs.Goals as goal

pub returns : goal.returns
returns c = λ P gs are query summary a none. program_answered P gs (has_graphs P gs are) query summary a none
