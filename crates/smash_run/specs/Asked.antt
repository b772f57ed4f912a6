-- What checks and replays answer, and the refusal of a source.
use Rattle.std.specs.Prelude.{◌≡◌, ℕ, List, [], ℤ, if◌then◌else◌}
use Rattle.std.specs.List.{list_any}
use Rattle.c_tree.specs.declared.tree.Pos.{Pos}
use Rattle.c_tree.specs.Syntax.{PureProgram}
use Rattle.c_tree.specs.Meaning.{Returned, Stopped, Failed, ReplayOutcome, Comes, Starved, Fuel, Replays}
use Rattle.bolt_core.specs.Boards.{Shown}
use Rattle.bolt_core.specs.declared.job.Verdict.{Verdict}
use Rattle.report_text.specs.Refused.{refusal_line}
use Rattle.report_text.specs.Replay.{replay_text}
use Rattle.report_text.specs.Report.{is_found, is_unknown, report_of}
use Rattle.source_program.specs.Source.{IsRefused}
use Rattle.smash_run.specs.Analysis.{IsAnalysis, Witness, board_alone, no_witness}

-- the first refusal of the bytes
pub record AsksRefusal (bytes : List ℕ) (status : ℕ) (text : List ℕ) (w : Witness) : Type 0 where
  pub at : Pos
  pub why : List ℕ
  pub refused : IsRefused bytes at why
  pub is_three : status ≡ 3
  pub told : text ≡ refusal_line at why
  pub nothing : w ≡ no_witness

-- Checks

-- 1 where an assertion is found, else 2 where one is unknown, and else 0
abbrev pub status_of : List Verdict → ℕ
status_of vs = if list_any is_found vs then 1 else (if list_any is_unknown vs then 2 else 0)

-- the report of an analysis, with its status and its board
pub record IsReported (program : PureProgram) (budget status : ℕ) (text : List ℕ) (w : Witness) :
    Type 0 where
  pub verdicts : List Verdict
  pub board : Shown
  pub handed : w ≡ board_alone board
  pub judged : IsAnalysis program budget [] board verdicts
  pub ended : status ≡ status_of verdicts
  pub told : text ≡ report_of program.asserts verdicts

-- Replays

abbrev pub replay_status : ReplayOutcome → ℕ
replay_status (Comes (Returned v)) = 0
replay_status (Comes (Failed id)) = 1
replay_status (Comes Stopped) = 0
replay_status Starved = 2
replay_status Fuel = 2

-- the one outcome of the program on the list
pub record IsReplayed (program : PureProgram) (fuel : ℕ) (list : List ℤ) (status : ℕ)
    (text : List ℕ) (w : Witness) : Type 0 where
  pub outcome : ReplayOutcome
  pub used : ℕ
  pub replayed : Replays program list fuel outcome used
  pub ended : status ≡ replay_status outcome
  pub told : text ≡ replay_text program fuel outcome used
  pub nothing : w ≡ no_witness
