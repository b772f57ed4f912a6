use Rattle.shadow_elim.proofs.Projecting.{projections-keep, projections-lose-none, projections-name-none, projections-name-no-other, projections-terms, unlisted-unnamed}
use Rattle.shadow_elim.proofs.laws.projections.Goals as goal

pub returns-clause-keep : goal.returns-clause-keep
returns-clause-keep c = projections-keep

pub returns-clause-lose_none : goal.returns-clause-lose_none
returns-clause-lose_none c = projections-lose-none

pub returns-clause-name_none : goal.returns-clause-name_none
returns-clause-name_none c = projections-name-none

pub returns-clause-name_no_other : goal.returns-clause-name_no_other
returns-clause-name_no_other c = projections-name-no-other

pub returns-clause-terms : goal.returns-clause-terms
returns-clause-terms c = projections-terms

pub returns-clause-listed : goal.returns-clause-listed
returns-clause-listed c = unlisted-unnamed
