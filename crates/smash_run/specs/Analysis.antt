-- The verdicts of an analysis, and the board at which they were reached.
use Rattle.std.specs.Prelude.{◌≡◌, ℕ, List, length, true, false, Option, None, Some, slice_get}
use Rattle.c_tree.specs.Syntax.{PureProgram}
use Rattle.flow_build.specs.Lowered.{AreLowered}
use Rattle.flow_build.specs.Promises.{AreBounded}
use Rattle.flow_graph.specs.ProgramGraphs.{SameRuns}
use Rattle.summary_form.specs.declared.summary.Summary.{Summary}
use Rattle.bolt_core.specs.Boards.{IsBoard, Shown}
use Rattle.bolt_core.specs.Machine.{is_over}
use Rattle.bolt_core.specs.States.{reads}
use Rattle.bolt_core.specs.Verdicts.{HasVerdict}
use Rattle.bolt_core.specs.declared.job.Verdict.{Verdict}
use Rattle.smash_run.specs.declared.run.Finish.{Finish}
use Rattle.smash_run.specs.Verdict.{VerdictSays}

-- The board is that of the program, with a root of this budget for each assertion, and began with
-- these summaries. It is over, and wasn't stopped.
pub record IsBoardOf (P : PureProgram) (budget : ℕ) (kept : List Summary) (b : Shown) : Type 0 where
  pub runs : SameRuns P b.graphs
  pub bounds : AreBounded P b.graphs
  pub built : AreLowered P b.graphs
  pub reached : IsBoard b
  pub main : b.main ≡ P.main
  pub roots : b.asserts ≡ length P.asserts
  pub granted : b.budget ≡ budget
  pub began : b.core.kept ≡ kept
  pub over : is_over (reads b.graphs) b.core ≡ true
  pub going : b.core.is_stopped ≡ false

-- The verdict of an assertion is right of the program, and the board shows it of the root of the
-- assertion's number.
abbrev pub IsVerdict : PureProgram → Shown → (id : ℕ) → Verdict → Type 0
IsVerdict P b id v = VerdictSays P id v × HasVerdict b id v

-- one verdict for each assertion, in source order
pub record IsAnalysis (P : PureProgram) (budget : ℕ) (kept : List Summary) (b : Shown)
    (vs : List Verdict) : Type 0 where
  pub board : IsBoardOf P budget kept b
  pub each : length vs ≡ length P.asserts
  pub right : (id : ℕ) (v : Verdict) → slice_get vs id ≡ Some v → IsVerdict P b id v

-- What an answer hands back beside its text: the board where an analysis ended, and that
-- of the old source of an edit.
pub record Witness : Type 0 where
  pub board : Option Shown
  pub old : Option Shown

abbrev pub no_witness : Witness
no_witness = record { board = None; old = None }

abbrev pub board_alone : Shown → Witness
board_alone b = record { board = Some b; old = None }

-- what the end of a run hands back
abbrev pub handed_by : Finish → Witness
handed_by f = record { board = f.board; old = f.old }
