-- What the bytes of a source ask for, and how a reply to them ends.
use Rattle.std.specs.Prelude.{◌≡◌, ◌⊎◌, ℕ, List}
use Rattle.c_tree.specs.Syntax.{PureProgram}
use Rattle.smash_graphs.specs.Printed.{IsPrinted, IsTurnedDown}
use Rattle.source_program.specs.Ends.{Change, EndsWith, StaysAsItWas}
use Rattle.source_program.specs.Source.{IsAccepted}

abbrev pub IsAsked : List ℕ → ℕ → List ℕ → Type 0
IsAsked bytes due text = IsTurnedDown bytes due text
    ⊎ ((program : PureProgram) × IsAccepted bytes program × IsPrinted program due text)

abbrev pub IsSettled : List ℕ → ℕ → List ℕ → Type 0
IsSettled bytes due text =
    (program : PureProgram) → IsAccepted bytes program → IsPrinted program due text

pub record EndsAsAsked (bytes : List ℕ) (status : ℕ) (sink : Change) : Type 0 where
  pub due : ℕ
  pub text : List ℕ
  pub asked : IsAsked bytes due text
  pub settled : IsSettled bytes due text
  pub ends : EndsWith status sink due text

-- memory ran out, and nothing was written
pub record EndsSilent (status : ℕ) (sink : Change) : Type 0 where
  pub is_seven : status ≡ 7
  pub silent : StaysAsItWas sink
