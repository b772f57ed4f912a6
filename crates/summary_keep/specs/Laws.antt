-- Matched procedures have the same runs.
use Rattle.std.specs.Prelude.{◌≡◌, ◌↔◌, ℕ, IsTrue, List, ℤ, Option, Some, slice_get}
use Rattle.c_tree.specs.Syntax.{PureProgram}
use Rattle.c_tree.specs.Meaning.{Outcome, Returned, Stopped, Failed, Runs}
use Rattle.c_tree.specs.WellFormed.{IsWellFormed, takes}
use Rattle.flow_graph.specs.Columns.{AreAllValues}
use Rattle.flow_graph.specs.ProgramGraphs.{SameRuns}
use Rattle.flow_graph.specs.declared.graph.Graph.{Graph}
use Rattle.summary_form.specs.ProgramGraphs.{SameArities}
use Rattle.summary_form.specs.declared.summary.Summary.{Summary}
use Rattle.summary_form.specs.Answering.{SummaryHolds}
use Rattle.summary_form.specs.Instances.{arity_in, arity_of_program, graph_runs, program_runs}
use Rattle.summary_keep.specs.Matching.{Related, IsMatching, CorrespondIn}
use Rattle.summary_keep.specs.Keeping.{IsMatchingOf, renumbered}

-- the same outcome, where assertions are related
abbrev pub SameOutcome : (ℕ → ℕ → Type 0) → Outcome → Outcome → Type 0
SameOutcome A (Returned v) y = y ≡ Returned v
SameOutcome A Stopped y = y ≡ Stopped
SameOutcome A (Failed a) y = (b : ℕ) × A a b × (y ≡ Failed b)

-- each run of the old procedure is one of the new procedure, of the same depth, from the same
-- globals and to the same
abbrev pub KeepsRuns : Type 0
KeepsRuns =
    (P Q : PureProgram) (R : Related) → IsMatching P Q R → (p q : ℕ) → IsTrue (R p q) →
    (d : ℕ) (args before ins : List ℤ) (out : Outcome) (after : List ℤ) →
    Runs P d p args before ins out after →
    (new : Outcome) × SameOutcome (CorrespondIn P Q R) out new
    × Runs Q d q args before ins new after

-- and the reverse
abbrev pub HasNoOtherRuns : Type 0
HasNoOtherRuns =
    (P Q : PureProgram) (R : Related) → IsMatching P Q R → (p q : ℕ) → IsTrue (R p q) →
    (d : ℕ) (args before ins : List ℤ) (new : Outcome) (after : List ℤ) →
    Runs Q d q args before ins new after →
    (out : Outcome) × SameOutcome (CorrespondIn P Q R) out new
    × Runs P d p args before ins out after

-- what is kept holds of the new program
abbrev pub KeptHold : Type 0
KeptHold =
    (P Q : PureProgram) → IsWellFormed P → IsWellFormed Q → (procs asserts : List (Option ℕ)) →
    IsMatchingOf P Q procs asserts → (s t : Summary) → renumbered procs asserts s ≡ Some t →
    SummaryHolds (program_runs P) (arity_of_program P) s →
    SummaryHolds (program_runs Q) (arity_of_program Q) t

-- Graphs of a program whose `main` has no parameters, and whose globals open with values
pub record HasGraphs (P : PureProgram) (gs : List Graph) : Type 0 where
  pub runs : SameRuns P gs
  pub arities : SameArities P gs
  pub main_takes_none : IsTrue (takes (slice_get P.procedures P.main) 0)
  pub opening : AreAllValues P.globals

-- a summary holds of a program exactly where it holds of its graphs
abbrev pub OneMeaning : Type 0
OneMeaning =
    (P : PureProgram) (gs : List Graph) → HasGraphs P gs → (summary : Summary) →
    (SummaryHolds (program_runs P) (arity_of_program P) summary
    ↔ SummaryHolds (graph_runs gs) (arity_in gs) summary)
