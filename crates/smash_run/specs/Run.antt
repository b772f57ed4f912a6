-- What the program owes to its words, its source and its sink.
use Rattle.std.specs.Prelude.{◌≡◌, ℕ, ◌+◌, ◌≤◌, List, length, ◌⊎◌, Some}
use Rattle.outer_io.specs.Causes.{Took}
use Rattle.c_tree.specs.Syntax.{PureProgram}
use Rattle.report_text.specs.Bundles.{long_bundle_text}
use Rattle.report_text.specs.Refused.{too_long_text}
use Rattle.report_text.specs.Usage.{usage_text}
use Rattle.command_words.specs.Words.{Command, workload, recheck, edit}
use Rattle.source_program.specs.Ends.{Change, EndsWith, HasFault, IsWhole, StaysAsItWas, TakesAtMost}
use Rattle.source_program.specs.Source.{IsAccepted, source_limit}
use Rattle.smash_run.specs.Analysis.{Witness, no_witness}
use Rattle.smash_run.specs.Answers.{AsksFor, IsGood, Settles}
use Rattle.smash_run.specs.Asked.{IsReported}
use Rattle.smash_run.specs.Bundled.{bundle_limit}
use Rattle.workload_gen.specs.Workload.{text_of, workload_lines}

-- the most bytes that a command reads of its source, beside one more that shows that it is longer
abbrev pub limit_of : Command → ℕ
limit_of recheck = bundle_limit
limit_of (edit old_length budget workers) = old_length + source_limit
limit_of c = source_limit

-- the refusal of a longer one
abbrev pub long_text_of : Command → List ℕ
long_text_of recheck = long_bundle_text
long_text_of c = too_long_text

-- The source was read whole, and the end is what its bytes ask for, with what is handed back beside
-- it. What is accepted is never refused.
pub record EndsWhole (c : Command) (status : ℕ) (source sink : Change) (w : Witness) :
    Type 0 where
  pub bytes : List ℕ
  pub read : IsWhole (limit_of c) source bytes
  pub due : ℕ
  pub text : List ℕ
  pub asked : AsksFor c bytes due text w
  pub settled : Settles c bytes due text w
  pub ends : EndsWith status sink due text

-- one byte more than the command's source may have was taken, and it is refused
pub record EndsTooLong (c : Command) (status : ℕ) (source sink : Change) (w : Witness) :
    Type 0 where
  pub taken : Took source.before source.after (limit_of c + 1)
  pub ends : EndsWith status sink 3 (long_text_of c)
  pub nothing : w ≡ no_witness

-- a read failed, and nothing was written
pub record EndsFaulty (c : Command) (status : ℕ) (source sink : Change) (w : Witness) :
    Type 0 where
  pub failed : HasFault source
  pub taken : TakesAtMost source (limit_of c)
  pub is_five : status ≡ 5
  pub silent : StaysAsItWas sink
  pub nothing : w ≡ no_witness

-- memory ran out, and nothing was written
pub record EndsEmpty (c : Command) (status : ℕ) (source sink : Change) (w : Witness) :
    Type 0 where
  pub taken : TakesAtMost source (limit_of c + 1)
  pub is_seven : status ≡ 7
  pub silent : StaysAsItWas sink
  pub nothing : w ≡ no_witness

-- words that are no command: the usage text, or memory runs out; nothing is handed back
pub record EndsUsage (status : ℕ) (sink : Change) (w : Witness) : Type 0 where
  pub ends : EndsWith status sink 4 usage_text ⊎ ((status ≡ 7) × StaysAsItWas sink)
  pub nothing : w ≡ no_witness

-- The text of the workload of this number is accepted, its program has as many assertions, and the
-- end is its report, with its board handed back.
pub record EndsWorkload (number budget status : ℕ) (sink : Change) (w : Witness) : Type 0 where
  pub program : PureProgram
  pub accepted : IsAccepted (text_of (workload_lines number)) program
  pub each : length program.asserts ≡ number
  pub due : ℕ
  pub text : List ℕ
  pub reported : IsReported program budget due text w
  pub ends : EndsWith status sink due text

-- how a command ends that reads a source
abbrev pub ObeysSource : Command → ℕ → Change → Change → Witness → Type 0
ObeysSource c status source sink w =
    EndsWhole c status source sink w ⊎ (EndsTooLong c status source sink w ⊎
    (EndsFaulty c status source sink w ⊎ EndsEmpty c status source sink w))

-- how a command ends
abbrev pub Obeys : Command → ℕ → Change → Change → Witness → Type 0
Obeys (workload number budget workers) status source sink w =
    EndsWorkload number budget status sink w
    ⊎ EndsEmpty (workload number budget workers) status source sink w
Obeys c status source sink w = ObeysSource c status source sink w

-- a command that goes well ends with 0, 1 or 2
abbrev pub IsVerdictStatus : ℕ → Type 0
IsVerdictStatus status = (status ≡ 0) ⊎ ((status ≡ 1) ⊎ ((status ≡ 2) ⊎ (status ≡ 7)))

-- where the bytes are known, the command accepts them, and no count of faults rises, the command
-- ends with a verdict, or memory runs out
abbrev pub CompletesSource : Command → ℕ → Change → Change → Type 0
CompletesSource c status source sink =
    (bytes : List ℕ) → source.before ≡ Some bytes → length bytes ≤ limit_of c → IsGood c bytes →
    (HasFault source → ⊥) → (HasFault sink → ⊥) → IsVerdictStatus status

-- so it does, and a workload wherever the sink's count of faults doesn't rise
abbrev pub Completes : Command → ℕ → Change → Change → Type 0
Completes (workload number budget workers) status source sink =
    (HasFault sink → ⊥) → IsVerdictStatus status
Completes c status source sink = CompletesSource c status source sink
