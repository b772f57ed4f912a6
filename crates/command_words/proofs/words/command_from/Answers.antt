use Rattle.std.proofs.Common.{◌≡◌, [], map, string_bytes, IfSome}
use Rattle.clap.specs.Faults.{fault_of}
use Rattle.command_words.specs.steps.WordsLine.{IsTaken, line_app}
use Rattle.command_words.specs.Commands.{FitsCommand, command_of}
use Rattle.std.proofs.lemmas.Option.{IfSome_then}
use Rattle.command_words.proofs.WordsRuns.{none_at, ok_as, some_at}
use Rattle.command_words.proofs.WordsCommand.{fits_command, is_line}
use Rattle.command_words.proofs.words.command_from.Goals as goal

pub returns-in-None-clause-none : goal.returns-in-None-clause-none
returns-in-None-clause-none c k h = none_at (fault_of line_app (map string_bytes c.args.words.now) ≡ [] → ⊥) c.in_ok-matches.field-0
    c.in-None.is
    c.in_ok-matches.ensures.none (is_line h).taken_well

pub returns-in-Some-clause-fits : goal.returns-in-Some-clause-fits
returns-in-Some-clause-fits c =
    let words = map string_bytes c.args.words.now in
    let taken = some_at (IsTaken words) c.in_ok-matches.field-0 c.in-Some.matches c.in-Some.is c.in_ok-matches.ensures.some in
    ok_as _ (λ o. IfSome o (λ k. FitsCommand (command_of k))) c.command_in.result
    (λ o read. IfSome_then o {Q = λ k. FitsCommand (command_of k)} read (λ k h. fits_command (h words taken)))
    c.command_in.ensures.some
