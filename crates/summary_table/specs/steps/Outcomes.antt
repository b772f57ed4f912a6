-- The answer to the question of one summary.
use Rattle.shadow_elim.specs.RightLimit.{IsRight}
use Rattle.summary_form.specs.Answering.{Answers}
use Rattle.summary_form.specs.declared.query.Query.{Query}
use Rattle.summary_form.specs.declared.summary.Summary.{Summary}
use Rattle.summary_table.specs.Asked.{IsShownToAnswer, IsShownNotToAnswer, IsProofOf, MeetsLimitAt}
use Rattle.summary_table.specs.declared.asking.Asked.{Asked}
use Rattle.summary_table.specs.declared.asking.Asked.TheVariants as asked

abbrev pub IsOutcome : Query → Summary → Asked → Type 0
IsOutcome q s (asked.Answers why) = IsShownToAnswer q s × IsProofOf q s why
IsOutcome q s asked.Not = IsShownNotToAnswer q s
IsOutcome q s (asked.Limit kept) = MeetsLimitAt q s kept × IsRight kept

-- in the words of summaries
abbrev pub IsMeant : Query → Summary → Asked → Type 0
IsMeant q s (asked.Answers why) = Answers q s
IsMeant q s asked.Not = ¬ Answers q s
IsMeant q s (asked.Limit kept) = Unit {0}
