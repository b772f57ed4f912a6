-- What `bundle` and `recheck` answer.
use Rattle.std.specs.Prelude.{◌≡◌, ◌⊎◌, ℕ, suc, ◌<◌, ◌≤◌, false, [], List, length, Some, slice_get, ℤ}
use Rattle.c_tree.specs.Meaning.{Reaches}
use Rattle.c_tree.specs.Syntax.{PureProgram}
use Rattle.c_tree.specs.declared.tree.AssertPlace.{AssertPlace}
use Rattle.flow_build.specs.Lowered.{AreLowered}
use Rattle.flow_build.specs.Promises.{AreBounded}
use Rattle.flow_graph.specs.ProgramGraphs.{SameRuns}
use Rattle.flow_graph.specs.declared.graph.Graph.{Graph}
use Rattle.summary_form.specs.ProgramGraphs.{SameArities}
use Rattle.bolt_core.specs.Boards.{Shown}
use Rattle.bolt_core.specs.Histories.{has_said}
use Rattle.bolt_core.specs.declared.job.Verdict.{Verdict}
use Rattle.bolt_core.specs.declared.job.Verdict.TheVariants.{Proved, Found, Budget, Limit}
use Rattle.proof_bundle.specs.Claims.{PureBundle}
use Rattle.proof_bundle.specs.Text.{IsBundle, bundle_text}
use Rattle.bundle_check.specs.RightClaims.{IsFirstWrong, IsRightProof}
use Rattle.report_text.specs.Bundles.{accepted_line, long_proof_line, no_assertion_text, rejected_line}
use Rattle.report_text.specs.Report.{line_of}
use Rattle.smash_run.specs.Analysis.{IsBoardOf, IsVerdict, Witness, board_alone, no_witness}
use Rattle.bundle_make.specs.Bundling.{IsBundleOf}

-- the most bytes that the text of a bundle may have
abbrev pub bundle_limit : ℕ
bundle_limit = 16777216

-- the bytes are the text of this bundle
abbrev pub IsTextOf : PureBundle → List ℕ → Type 0
IsTextOf b bytes = IsBundle b × (bytes ≡ bundle_text b)

-- the program has fewer assertions
pub record HasFewer (P : PureProgram) (number status : ℕ) (text : List ℕ) (w : Witness) :
    Type 0 where
  pub fewer : length P.asserts < number
  pub is_three : status ≡ 3
  pub told : text ≡ no_assertion_text
  pub nothing : w ≡ no_witness

-- Bundles that are made

-- The board's root of this number has this bundle, of this source: its claims are those of the
-- queries by which the root is proved, and it is right. What is written is its text, or that it
-- is longer than one may be.
pub record TellsProof (board : Shown) (bytes : List ℕ) (id : ℕ) (place : AssertPlace) (status : ℕ)
    (text : List ℕ) : Type 0 where
  pub bundle : PureBundle
  pub source : bundle.source ≡ bytes
  pub assertion : bundle.id ≡ id
  pub ranges : IsBundle bundle
  pub of_root : IsBundleOf board id bundle
  pub right : IsRightProof board.graphs board.main bundle
  pub fits : length (bundle_text bundle) ≤ bundle_limit → (status ≡ 0) × (text ≡ bundle_text bundle)
  pub long : bundle_limit < length (bundle_text bundle) →
      (status ≡ 2) × (text ≡ long_proof_line place)

-- what is written of an assertion with this verdict
abbrev pub TellsVerdict : Shown → (bytes : List ℕ) → (id : ℕ) → AssertPlace → Verdict → ℕ →
    List ℕ → Type 0
TellsVerdict board bytes id place Proved status text = TellsProof board bytes id place status text
TellsVerdict board bytes id place (Found list) status text =
    (status ≡ 1) × (text ≡ line_of place (Found list))
TellsVerdict board bytes id place (Budget n) status text =
    (status ≡ 2) × (text ≡ line_of place (Budget n))
TellsVerdict board bytes id place (Limit kind) status text =
    (status ≡ 2) × (text ≡ line_of place (Limit kind))

-- the assertion of this number, counted from 1, after an analysis by one worker: no query's answer
-- was published at the board while others worked
pub record IsBundled (P : PureProgram) (bytes : List ℕ) (number budget status : ℕ) (text : List ℕ)
    (w : Witness) : Type 0 where
  pub id : ℕ
  pub counted : number ≡ suc id
  pub place : AssertPlace
  pub at : slice_get P.asserts id ≡ Some place
  pub board : Shown
  pub board_is : IsBoardOf P budget [] board
  pub unsaid : (i : ℕ) → has_said board.core.history i ≡ false
  pub handed : w ≡ board_alone board
  pub verdict : Verdict
  pub right : IsVerdict P board id verdict
  pub told : TellsVerdict board bytes id place verdict status text

-- Bundles that are checked

-- The bundle is right over the graphs that the program is lowered to, or this is its first claim
-- that isn't. Where it is right, no inputs reach its assertion.
pub record IsRechecked (P : PureProgram) (b : PureBundle) (status : ℕ) (text : List ℕ)
    (w : Witness) : Type 0 where
  pub graphs : List Graph
  pub runs : SameRuns P graphs
  pub arities : SameArities P graphs
  pub bounds : AreBounded P graphs
  pub built : AreLowered P graphs
  pub place : AssertPlace
  pub at : slice_get P.asserts b.id ≡ Some place
  pub told : (IsRightProof graphs P.main b × (status ≡ 0) × (text ≡ accepted_line place))
      ⊎ ((n : ℕ) × IsFirstWrong graphs P.main b n × (status ≡ 2) × (text ≡ rejected_line n))
  pub sound : status ≡ 0 → (ins : List ℤ) → ¬ Reaches P b.id ins
  pub nothing : w ≡ no_witness
