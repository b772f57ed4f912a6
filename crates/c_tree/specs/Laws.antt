-- Laws of the meaning.
use Rattle.std.specs.Prelude.{◌≡◌, ℕ, suc, List, [], false, ℤ, take, IsTrue}
use Rattle.c_tree.specs.Syntax.{Expression, PureProgram}
use Rattle.c_tree.specs.Meaning.{State, World, Progress, Eval, Run, Runs, Outcome, Replays, ReplayOutcome, Comes}
use Rattle.c_tree.specs.WellFormed.{is_constant}
use Rattle.c_tree.specs.Constants.{constant_value, Known}

-- a run at depth d is one at depth d + 1
abbrev pub DepthGrows : Type 0
DepthGrows =
    (P : PureProgram) (d p : ℕ) (args before ins : List ℤ) (out : Outcome) (after : List ℤ) →
    Runs P d p args before ins out after → Runs P (suc d) p args before ins out after

-- with the same globals and inputs a run has one outcome and leaves one list of globals, whatever
-- the depths
abbrev pub HasOneOutcome : Type 0
HasOneOutcome =
    (P : PureProgram) (d d' p : ℕ) (args before ins : List ℤ) (out out' : Outcome)
    (after after' : List ℤ) →
    Runs P d p args before ins out after → Runs P d' p args before ins out' after' →
    (out ≡ out') × (after ≡ after')

-- a replay has one outcome and uses one number of inputs
abbrev pub HasOneReplay : Type 0
HasOneReplay =
    (P : PureProgram) (ins : List ℤ) (fuel : ℕ) (out out' : ReplayOutcome) (used used' : ℕ) →
    Replays P ins fuel out used → Replays P ins fuel out' used' → (out ≡ out') × (used ≡ used')

-- a replay that neither starves nor spends its fuel is a run on the inputs that it used
abbrev pub ReplaysRun : Type 0
ReplaysRun =
    (P : PureProgram) (ins : List ℤ) (fuel : ℕ) (out : Outcome) (used : ℕ) →
    Replays P ins fuel (Comes out) used →
    (d : ℕ) × (after : List ℤ) × Runs P d P.main [] P.globals (take used ins) out after

-- in each run a constant expression has the value known before the run, or stops where it has none
abbrev pub ConstantsAreKnown : Type 0
ConstantsAreKnown =
    (P : PureProgram) (d : ℕ) (e : Expression) (s : State) → IsTrue (is_constant e) →
    (w : World) (r : Progress ℤ) →
    (Eval false (Run false P d) e s w r → Known (constant_value e) w r)
    × (Known (constant_value e) w r → Eval false (Run false P d) e s w r)
