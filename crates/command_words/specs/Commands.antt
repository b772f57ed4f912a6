-- What contracts see of a command, and which numbers it may have.
use Rattle.std.specs.Prelude.{ℕ, ◌≤◌}
use Rattle.command_words.specs.declared.words.Command.{Command}
use Rattle.command_words.specs.declared.words.Command.TheVariants as declared
use Rattle.command_words.specs.Words as words
use Rattle.command_words.specs.Words.{max_asserts, max_budget, max_edges, max_number, max_old_length, max_workers}

abbrev pub command_of : Command → words.Command
command_of (declared.Check budget workers) = words.check budget workers
command_of (declared.Replay fuel list) = words.replay fuel list.items
command_of (declared.Workload number budget workers) = words.workload number budget workers
command_of (declared.Bundle number budget) = words.bundle number budget
command_of declared.Recheck = words.recheck
command_of (declared.Sweep edges) = words.sweep edges
command_of (declared.Edit old_length budget workers) = words.edit old_length budget workers

-- the budget and the workers of a check are some that may be given
pub record FitsCheck (budget workers : ℕ) : Type 0 where
  pub some_budget : 1 ≤ budget
  pub most_budget : budget ≤ max_budget
  pub some_workers : 1 ≤ workers
  pub most_workers : workers ≤ max_workers

-- the numbers of a command are some that may be given
abbrev pub FitsCommand : words.Command → Type 0
FitsCommand (words.check budget workers) = FitsCheck budget workers
FitsCommand (words.replay fuel list) = Unit {0}
FitsCommand (words.workload number budget workers) =
    (1 ≤ number) × (number ≤ max_number) × FitsCheck budget workers
FitsCommand (words.bundle number budget) =
    (1 ≤ number) × (number ≤ max_asserts) × FitsCheck budget 1
FitsCommand words.recheck = Unit {0}
FitsCommand (words.sweep edges) = (1 ≤ edges) × (edges ≤ max_edges)
FitsCommand (words.edit old_length budget workers) =
    (1 ≤ old_length) × (old_length ≤ max_old_length) × FitsCheck budget workers
