-- What `edit` answers.
use Rattle.std.specs.Prelude.{◌≡◌, ◌++◌, ◌<◌, ℕ, List, [], length, Option, Some}
use Rattle.c_tree.specs.Syntax.{PureProgram}
use Rattle.summary_keep.specs.Keeping.{IsMatchingOf, kept}
use Rattle.bolt_core.specs.Boards.{Shown}
use Rattle.bolt_core.specs.declared.job.Verdict.{Verdict}
use Rattle.report_text.specs.Edits.{kept_line, old_refusal_text, short_source_text}
use Rattle.report_text.specs.Refused.{refusal_line}
use Rattle.report_text.specs.Report.{report_of}
use Rattle.c_tree.specs.declared.tree.Pos.{Pos}
use Rattle.smash_run.specs.Analysis.{IsAnalysis, IsBoardOf, Witness, no_witness}
use Rattle.smash_run.specs.Asked.{status_of}
use Rattle.source_program.specs.Source.{IsRefused}

-- there are fewer bytes than the old source is to have
pub record IsTooShort (old_length : ℕ) (bytes : List ℕ) (status : ℕ) (text : List ℕ) (w : Witness) :
    Type 0 where
  pub shorter : length bytes < old_length
  pub is_three : status ≡ 3
  pub told : text ≡ short_source_text old_length
  pub nothing : w ≡ no_witness

-- the first refusal of the old source
pub record IsOldRefused (bytes : List ℕ) (status : ℕ) (text : List ℕ) (w : Witness) : Type 0 where
  pub at : Pos
  pub why : List ℕ
  pub refused : IsRefused bytes at why
  pub is_three : status ≡ 3
  pub told : text ≡ old_refusal_text (refusal_line at why)
  pub nothing : w ≡ no_witness

-- The report of the new program's analysis, and how many summaries of the old one's table were kept
-- for it: those of procedures and assertions that the greatest matching relates, with their new
-- numbers. Both boards are handed back.
pub record IsEdited (P Q : PureProgram) (budget status : ℕ) (text : List ℕ) (w : Witness) :
    Type 0 where
  pub old : Shown
  pub old_is : IsBoardOf P budget [] old
  pub procs : List (Option ℕ)
  pub asserts : List (Option ℕ)
  pub matching : IsMatchingOf P Q procs asserts
  pub board : Shown
  pub verdicts : List Verdict
  pub judged : IsAnalysis Q budget (kept procs asserts old.core.table) board verdicts
  pub ended : status ≡ status_of verdicts
  pub told : text ≡ report_of Q.asserts verdicts
      ++ kept_line (length board.core.kept) (length old.core.table)
  pub handed : w ≡ record { board = Some board; old = Some old }
