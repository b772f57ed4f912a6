-- What an analysis begins with, and the verdicts of a board's roots.
use Rattle.std.specs.Prelude.{◌≡◌, ◌≤◌, ℕ, List, length, Option, Some, slice_get}
use Rattle.c_tree.specs.Syntax.{PureProgram}
use Rattle.flow_build.specs.Lowered.{AreLowered}
use Rattle.flow_build.specs.Promises.{AreBounded}
use Rattle.flow_graph.specs.ProgramGraphs.{SameRuns}
use Rattle.flow_graph.specs.declared.graph.Graph.{Graph}
use Rattle.summary_form.specs.declared.summary.Summary.{Summary}
use Rattle.summary_keep.specs.Keeping.{IsMatchingOf, SummariesHold, kept}
use Rattle.bolt_core.specs.Boards.{IsOneOf, Shown}
use Rattle.bolt_core.specs.Machine.{AllOf}
use Rattle.bolt_core.specs.Verdicts.{HasVerdict}
use Rattle.bolt_core.specs.declared.job.Verdict.{Verdict}

-- these are the graphs of the program
pub record AreGraphsFor (P : PureProgram) (gs : List Graph) : Type 0 where
  pub runs : SameRuns P gs
  pub bounds : AreBounded P gs
  pub built : AreLowered P gs

-- a board of the program may begin with these summaries
pub record MayBegin (P : PureProgram) (kept : List Summary) : Type 0 where
  pub few : length kept ≤ 2000000
  pub named : AllOf (IsOneOf (length P.procedures) (length P.asserts)) kept
  pub hold : SummariesHold P kept

-- these summaries are kept of a board's table for the new program
pub record IsKept (P Q : PureProgram) (old : Shown) (summaries : List Summary) : Type 0 where
  pub procs : List (Option ℕ)
  pub asserts : List (Option ℕ)
  pub matching : IsMatchingOf P Q procs asserts
  pub are : summaries ≡ kept procs asserts old.core.table

-- the first `count` roots have these verdicts
pub record AreVerdicts (b : Shown) (count : ℕ) (vs : List Verdict) : Type 0 where
  pub each : length vs ≡ count
  pub right : (id : ℕ) (v : Verdict) → slice_get vs id ≡ Some v → HasVerdict b id v
