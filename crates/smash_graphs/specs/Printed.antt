-- What the program owes to its source and its sink.
use Rattle.std.specs.Prelude.{◌≡◌, ◌⊎◌, ◌+◌, ◌≤◌, ℕ, List, Some, length}
use Rattle.c_tree.specs.declared.tree.Pos.{Pos}
use Rattle.c_tree.specs.Syntax.{PureProgram}
use Rattle.flow_build.specs.Lowered.{AreLowered}
use Rattle.flow_graph.specs.declared.graph.Graph.{Graph}
use Rattle.graph_text.specs.Text.{graphs_text}
use Rattle.outer_io.specs.Causes.{Took}
use Rattle.report_text.specs.Refused.{refusal_line, too_long_text}
use Rattle.source_program.specs.Ends.{Change, EndsWith, HasFault, IsWhole, StaysAsItWas, TakesAtMost}
use Rattle.source_program.specs.Source.{IsAccepted, IsRefused, source_limit}

-- the text of the graphs of the program
pub record IsPrinted (program : PureProgram) (due : ℕ) (text : List ℕ) : Type 0 where
  pub graphs : List Graph
  pub built : AreLowered program graphs
  pub is_zero : due ≡ 0
  pub printed : text ≡ graphs_text program.main graphs

-- the first refusal of the bytes
pub record IsTurnedDown (bytes : List ℕ) (due : ℕ) (text : List ℕ) : Type 0 where
  pub at : Pos
  pub why : List ℕ
  pub refused : IsRefused bytes at why
  pub is_three : due ≡ 3
  pub told : text ≡ refusal_line at why

-- The source was read whole, and the end is that of its program, or its refusal. What is accepted
-- is never refused.
pub record EndsRead (status : ℕ) (source sink : Change) : Type 0 where
  pub bytes : List ℕ
  pub read : IsWhole source_limit source bytes
  pub due : ℕ
  pub text : List ℕ
  pub asked : IsTurnedDown bytes due text
      ⊎ ((program : PureProgram) × IsAccepted bytes program × IsPrinted program due text)
  pub settled : (program : PureProgram) → IsAccepted bytes program → IsPrinted program due text
  pub ends : EndsWith status sink due text

-- one byte more than a source may have was taken, and it is refused
pub record EndsLong (status : ℕ) (source sink : Change) : Type 0 where
  pub taken : Took source.before source.after (source_limit + 1)
  pub ends : EndsWith status sink 3 too_long_text

-- a read failed, and nothing was written
pub record EndsUnread (status : ℕ) (source sink : Change) : Type 0 where
  pub failed : HasFault source
  pub taken : TakesAtMost source source_limit
  pub is_five : status ≡ 5
  pub silent : StaysAsItWas sink

-- memory ran out, and nothing was written
pub record EndsShort (status : ℕ) (source sink : Change) : Type 0 where
  pub taken : TakesAtMost source (source_limit + 1)
  pub is_seven : status ≡ 7
  pub silent : StaysAsItWas sink

-- how the program ends
abbrev pub Prints : ℕ → Change → Change → Type 0
Prints status source sink =
    EndsRead status source sink ⊎ (EndsLong status source sink
    ⊎ (EndsUnread status source sink ⊎ EndsShort status source sink))

-- where the bytes are known and accepted, and no count of faults rises, the graphs are printed, or
-- memory runs out
abbrev pub PrintsAll : ℕ → Change → Change → Type 0
PrintsAll status source sink =
    (bytes : List ℕ) → source.before ≡ Some bytes → length bytes ≤ source_limit →
    (program : PureProgram) → IsAccepted bytes program → (HasFault source → ⊥) →
    (HasFault sink → ⊥) → (status ≡ 0) ⊎ (status ≡ 7)
