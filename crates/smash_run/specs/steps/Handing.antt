-- What replies hand back, and how a reply to bytes ends.
use Rattle.std.specs.Prelude.{◌≡◌, ◌++◌, ℕ, List, Option, Some, length, slice_get}
use Rattle.c_tree.specs.Syntax.{PureProgram}
use Rattle.c_tree.specs.declared.tree.AssertPlace.{AssertPlace}
use Rattle.summary_keep.specs.Keeping.{IsMatchingOf, kept}
use Rattle.bolt_core.specs.Boards.{Shown}
use Rattle.bolt_core.specs.Verdicts.{HasVerdict}
use Rattle.bolt_core.specs.declared.job.Verdict.{Verdict}
use Rattle.bundle_check.specs.declared.check.Checked.{Checked}
use Rattle.bundle_check.specs.declared.check.Checked.TheVariants.{Right, Wrong}
use Rattle.report_text.specs.Bundles.{accepted_line, rejected_line}
use Rattle.report_text.specs.Edits.{kept_line}
use Rattle.path_sweep.specs.declared.swept.Swept.{Swept}
use Rattle.report_text.specs.Report.{report_of}
use Rattle.report_text.specs.Sweeps.{sweep_text}
use Rattle.smash_run.specs.Analysis.{IsAnalysis, Witness, board_alone, no_witness}
use Rattle.smash_run.specs.Answers.{AsksFor, Settles}
use Rattle.smash_run.specs.Asked.{status_of}
use Rattle.smash_run.specs.Bundled.{TellsVerdict}
use Rattle.source_program.specs.Ends.{Change, EndsWith, StaysAsItWas}
use Rattle.smash_run.specs.Swept.{entries_of, sweep_status, unfound_at}
use Rattle.command_words.specs.Words.{Command, edit, recheck}
use Rattle.smash_run.specs.declared.bundles.Told.{Told}
use Rattle.smash_run.specs.declared.replies.Reply.{Reply}

abbrev pub handed_in : Reply → Witness
handed_in a = record { board = a.board; old = a.old }

-- the end is what the bytes ask for under the command
pub record EndsAsked (c : Command) (bytes : List ℕ) (status : ℕ) (sink : Change) (w : Witness) :
    Type 0 where
  pub due : ℕ
  pub text : List ℕ
  pub asked : AsksFor c bytes due text w
  pub settled : Settles c bytes due text w
  pub ends : EndsWith status sink due text

-- memory ran out before anything was written
pub record EndsSilent (status : ℕ) (sink : Change) (w : Witness) : Type 0 where
  pub is_seven : status ≡ 7
  pub silent : StaysAsItWas sink
  pub nothing : w ≡ no_witness

-- what is written of an assertion at a board that is over
pub record IsTold (P : PureProgram) (board : Shown) (bytes : List ℕ) (id : ℕ) (t : Told) :
    Type 0 where
  pub place : AssertPlace
  pub at : slice_get P.asserts id ≡ Some place
  pub verdict : Verdict
  pub right : HasVerdict board id verdict
  pub told : TellsVerdict board bytes id place verdict t.status t.text.items

-- what is written of a bundle that was checked
abbrev pub TellsChecked : AssertPlace → Checked → (status : ℕ) → List ℕ → Witness → Type 0
TellsChecked place Right status text w =
    (status ≡ 0) × (text ≡ accepted_line place) × (w ≡ no_witness)
TellsChecked place (Wrong n) status text w =
    (status ≡ 2) × (text ≡ rejected_line n) × (w ≡ no_witness)

-- what an edit answers, by the board of the old program, which isn't handed back yet
pub record IsEditedFrom (P Q : PureProgram) (old : Shown) (budget status : ℕ) (text : List ℕ)
    (w : Witness) : Type 0 where
  pub procs : List (Option ℕ)
  pub asserts : List (Option ℕ)
  pub matching : IsMatchingOf P Q procs asserts
  pub board : Shown
  pub verdicts : List Verdict
  pub judged : IsAnalysis Q budget (kept procs asserts old.core.table) board verdicts
  pub ended : status ≡ status_of verdicts
  pub told : text ≡ report_of Q.asserts verdicts
      ++ kept_line (length board.core.kept) (length old.core.table)
  pub handed : w ≡ board_alone board

-- the command reads one source
abbrev pub IsOfOneSource : Command → Type 0
IsOfOneSource recheck = ⊥
IsOfOneSource (edit old_length budget workers) = ⊥
IsOfOneSource c = Unit {0}

-- what is written of a sweep of at most `edges` edges
pub record TellsSwept (P : PureProgram) (edges : ℕ) (swept : Swept) (status : ℕ) (text : List ℕ)
    (w : Witness) : Type 0 where
  pub ended : status ≡ sweep_status (unfound_at edges swept.end) (entries_of swept)
  pub told : text ≡ sweep_text (unfound_at edges swept.end) P.asserts (entries_of swept)
  pub nothing : w ≡ no_witness
