-- What a source asks for under a command: a status, a whole text, and what is handed back.
use Rattle.std.specs.Prelude.{◌≡◌, ◌⊎◌, ℕ, suc, ◌≤◌, List, drop, length, take}
use Rattle.c_tree.specs.Syntax.{PureProgram}
use Rattle.proof_bundle.specs.Claims.{PureBundle}
use Rattle.report_text.specs.Bundles.{no_bundle_text}
use Rattle.command_words.specs.Words.{Command, check, replay, workload, bundle, recheck, sweep, edit}
use Rattle.source_program.specs.Source.{IsAccepted}
use Rattle.smash_run.specs.Analysis.{Witness, no_witness}
use Rattle.smash_run.specs.Asked.{AsksRefusal, IsReplayed, IsReported}
use Rattle.smash_run.specs.Bundled.{HasFewer, IsBundled, IsRechecked, IsTextOf}
use Rattle.smash_run.specs.Edited.{IsEdited, IsOldRefused, IsTooShort}
use Rattle.smash_run.specs.Swept.{IsSwept}

-- The answer to the program of a source under a command that reads one source. (`recheck` and
-- `edit`, which don't, have answers of their own below.)
abbrev pub Answers : Command → (bytes : List ℕ) → PureProgram → ℕ → List ℕ → Witness → Type 0
Answers (check budget workers) bytes P status text w = IsReported P budget status text w
Answers (replay fuel list) bytes P status text w = IsReplayed P fuel list status text w
Answers (workload number budget workers) bytes P status text w = IsReported P budget status text w
Answers (bundle number budget) bytes P status text w =
    HasFewer P number status text w ⊎ IsBundled P bytes number budget status text w
Answers (sweep edges) bytes P status text w = IsSwept P edges status text w
Answers recheck bytes P status text w = ⊥
Answers (edit old_length budget workers) bytes P status text w = ⊥

-- an accepted source, and the answer to its program
pub record AsksAnswer (c : Command) (bytes : List ℕ) (status : ℕ) (text : List ℕ) (w : Witness) :
    Type 0 where
  pub program : PureProgram
  pub accepted : IsAccepted bytes program
  pub answers : Answers c bytes program status text w

-- Bundles

-- the bytes are the text of no bundle
pub record IsNoBundle (bytes : List ℕ) (status : ℕ) (text : List ℕ) (w : Witness) : Type 0 where
  pub none : (b : PureBundle) → IsTextOf b bytes → ⊥
  pub is_three : status ≡ 3
  pub told : text ≡ no_bundle_text
  pub nothing : w ≡ no_witness

-- the answer to a bundle whose source is of this program
abbrev pub AnswersBundle : PureBundle → PureProgram → ℕ → List ℕ → Witness → Type 0
AnswersBundle b P status text w =
    HasFewer P (suc b.id) status text w ⊎ IsRechecked P b status text w

pub record AsksBundle (bytes : List ℕ) (status : ℕ) (text : List ℕ) (w : Witness) : Type 0 where
  pub bundle : PureBundle
  pub is : IsTextOf bundle bytes
  pub answers : AsksRefusal bundle.source status text w
      ⊎ ((P : PureProgram) × IsAccepted bundle.source P × AnswersBundle bundle P status text w)

-- Edits

-- the answer to the new source, where the old one is of this program
abbrev pub AnswersNew : PureProgram → (budget : ℕ) → (bytes : List ℕ) → ℕ → List ℕ → Witness →
    Type 0
AnswersNew P budget bytes status text w =
    AsksRefusal bytes status text w
    ⊎ ((Q : PureProgram) × IsAccepted bytes Q × IsEdited P Q budget status text w)

-- the answer to both sources
pub record AsksEdit (old_length budget : ℕ) (bytes : List ℕ) (status : ℕ) (text : List ℕ)
    (w : Witness) : Type 0 where
  pub long_enough : old_length ≤ length bytes
  pub answers : IsOldRefused (take old_length bytes) status text w
      ⊎ ((P : PureProgram) × IsAccepted (take old_length bytes) P
      × AnswersNew P budget (drop old_length bytes) status text w)

-- All commands

-- what the bytes ask for under the command
abbrev pub AsksFor : Command → List ℕ → ℕ → List ℕ → Witness → Type 0
AsksFor recheck bytes status text w =
    IsNoBundle bytes status text w ⊎ AsksBundle bytes status text w
AsksFor (edit old_length budget workers) bytes status text w =
    IsTooShort old_length bytes status text w ⊎ AsksEdit old_length budget bytes status text w
AsksFor c bytes status text w = AsksRefusal bytes status text w ⊎ AsksAnswer c bytes status text w

-- an old source that is accepted isn't refused, nor a new one
pub record SettlesEdit (old_length budget : ℕ) (bytes : List ℕ) (status : ℕ) (text : List ℕ)
    (w : Witness) : Type 0 where
  pub old : old_length ≤ length bytes → (P : PureProgram) →
      IsAccepted (take old_length bytes) P →
      AnswersNew P budget (drop old_length bytes) status text w
  pub both : old_length ≤ length bytes → (P Q : PureProgram) →
      IsAccepted (take old_length bytes) P → IsAccepted (drop old_length bytes) Q →
      IsEdited P Q budget status text w

-- what is accepted is answered, and so isn't refused
abbrev pub Settles : Command → List ℕ → ℕ → List ℕ → Witness → Type 0
Settles recheck bytes status text w =
    (b : PureBundle) (P : PureProgram) → IsTextOf b bytes → IsAccepted b.source P →
    AnswersBundle b P status text w
Settles (edit old_length budget workers) bytes status text w =
    SettlesEdit old_length budget bytes status text w
Settles c bytes status text w =
    (P : PureProgram) → IsAccepted bytes P → Answers c bytes P status text w

-- Accepted input

pub record IsGoodBundle (bytes : List ℕ) : Type 0 where
  pub bundle : PureBundle
  pub is : IsTextOf bundle bytes
  pub program : PureProgram
  pub accepted : IsAccepted bundle.source program
  pub there : suc bundle.id ≤ length program.asserts

pub record IsGoodEdit (old_length : ℕ) (bytes : List ℕ) : Type 0 where
  pub long_enough : old_length ≤ length bytes
  pub old : PureProgram
  pub new : PureProgram
  pub old_accepted : IsAccepted (take old_length bytes) old
  pub new_accepted : IsAccepted (drop old_length bytes) new

-- what the command doesn't refuse
abbrev pub IsGood : Command → List ℕ → Type 0
IsGood recheck bytes = IsGoodBundle bytes
IsGood (edit old_length budget workers) bytes = IsGoodEdit old_length bytes
IsGood (bundle number budget) bytes =
    (P : PureProgram) × IsAccepted bytes P × (number ≤ length P.asserts)
IsGood c bytes = (P : PureProgram) × IsAccepted bytes P
