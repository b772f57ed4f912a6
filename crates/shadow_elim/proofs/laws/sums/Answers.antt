use Rattle.shadow_elim.proofs.Summing.{sums-hold, hold-sums, equal-hold, hold-equal, renamed-rows, kept-rows}
use Rattle.shadow_elim.proofs.laws.sums.Goals as goal

pub returns-clause-hold : goal.returns-clause-hold
returns-clause-hold c = λ v by atoms. (hold-sums v by atoms, sums-hold v by atoms)

pub returns-clause-equal : goal.returns-clause-equal
returns-clause-equal c = λ v s t. (hold-equal v s t, equal-hold v s t)

pub returns-clause-rename : goal.returns-clause-rename
returns-clause-rename c = renamed-rows

pub returns-clause-keep : goal.returns-clause-keep
returns-clause-keep c = kept-rows
