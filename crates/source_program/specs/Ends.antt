-- How a program ends that reads one source and writes one text.
use Rattle.std.specs.Prelude.{◌≡◌, ℕ, ◌≤◌, List, length, ◌⊎◌}
use Rattle.std.specs.declared.option.Option.{Option}
use Rattle.std.specs.Io.KnownBytes.{Consumes, Appends, IsAtEnd, Keeps}
use Rattle.outer_io.specs.Causes.{Rose, TookAtMost, WritesFront}

-- a source or a sink before and after: what is known of its bytes, and its count of faults
pub record Change : Type 0 where
  pub before : Option (List ℕ)
  pub after : Option (List ℕ)
  pub faults_before : ℕ
  pub faults_after : ℕ

abbrev pub change : (before after : Option (List ℕ)) → (faults_before faults_after : ℕ) → Change
change b a fb fa = record { before = b; after = a; faults_before = fb; faults_after = fa }

abbrev pub HasFault : Change → Type 0
HasFault c = Rose c.faults_before c.faults_after

abbrev pub StaysAsItWas : Change → Type 0
StaysAsItWas c = Keeps c.before c.after

-- at most `most` bytes of the source were taken
abbrev pub TakesAtMost : Change → ℕ → Type 0
TakesAtMost c most = TookAtMost c.before c.after most

-- The status is this one, and the sink took this whole text. Or a write failed, the status is 6,
-- and the sink took a prefix of the text.
abbrev pub EndsWith : ℕ → Change → ℕ → List ℕ → Type 0
EndsWith status sink due text =
    ((status ≡ due) × Appends sink.before sink.after text) ⊎
    ((status ≡ 6) × HasFault sink × WritesFront sink.before sink.after text)

-- all the bytes of the source, at most `most`, were read
pub record IsWhole (most : ℕ) (source : Change) (bytes : List ℕ) : Type 0 where
  pub consumed : Consumes source.before source.after bytes
  pub at_end : IsAtEnd source.after
  pub fits : length bytes ≤ most
