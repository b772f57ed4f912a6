use Rattle.summary_keep.proofs.Kept.{keeps_runs, no_other_runs}
use Rattle.summary_keep.proofs.laws.matched_runs.Goals as goal

pub returns-clause-kept : goal.returns-clause-kept
returns-clause-kept c = λ P Q R m p q h d args before ins out after r. keeps_runs P Q R m p q h d args before ins out after r

pub returns-clause-no_others : goal.returns-clause-no_others
returns-clause-no_others c = λ P Q R m p q h d args before ins new after r. no_other_runs P Q R m p q h d args before ins new after r
