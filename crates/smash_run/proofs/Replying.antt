-- What commands that read one source ask for.
use Rattle.std.proofs.Common.{◌⊎◌, ℕ, List}
use Rattle.c_tree.specs.Syntax.{PureProgram}
use Rattle.smash_run.specs.Analysis.{Witness}
use Rattle.smash_run.specs.Answers.{Answers, AsksAnswer, AsksFor, Settles}
use Rattle.smash_run.specs.Asked.{AsksRefusal}
use Rattle.source_program.specs.Source.{IsAccepted}
use Rattle.command_words.specs.Words.{Command, check, replay, workload, bundle, recheck, sweep, edit}
use Rattle.smash_run.specs.steps.Handing.{IsOfOneSource}

module _ (bytes : List ℕ) (status : ℕ) (text : List ℕ) (w : Witness) where
  pub settles : (c : Command) → IsOfOneSource c → ((P : PureProgram) → IsAccepted bytes P → Answers c bytes P status text w) →
      Settles c bytes status text w
  settles (check b v) one h = h
  settles (replay f zs) one h = h
  settles (workload n b v) one h = h
  settles (bundle k b) one h = h
  settles (sweep e) one h = h
  settles recheck one h = absurd one
  settles (edit n b v) one h = absurd one

  pub asks : (c : Command) → IsOfOneSource c → AsksRefusal bytes status text w ⊎ AsksAnswer c bytes status text w →
      AsksFor c bytes status text w
  asks (check b v) one h = h
  asks (replay f zs) one h = h
  asks (workload n b v) one h = h
  asks (bundle k b) one h = h
  asks (sweep e) one h = h
  asks recheck one h = absurd one
  asks (edit n b v) one h = absurd one
