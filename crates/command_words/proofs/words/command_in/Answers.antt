use Rattle.std.proofs.Common.{◌∙◌, List, codes, sym, IfSome, IfNone}
use Rattle.std.proofs.lemmas.Option.{IfSome_then}
use Rattle.c_lexer.proofs.Words.{if_none}
use Rattle.clap.specs.declared.parser.matches.ArgMatches.{ArgMatches}
use Rattle.command_words.specs.Words as words
use Rattle.command_words.specs.Words.{AreWords, Text}
use Rattle.command_words.specs.declared.words.Command.{Command}
use Rattle.command_words.specs.steps.WordsLine.{IsTaken}
use Rattle.command_words.specs.Commands.{command_of}
use Rattle.command_words.proofs.WordsRuns.{ok_as}
use Rattle.command_words.proofs.WordsMatches.{IsMet, it_gives, it_is, not_met, text_is, text_is_not}
use Rattle.command_words.proofs.words.command_in.Goals as goal

-- the words of these matches are the command, and no command
abbrev Becomes : ArgMatches → Command → Type 0
Becomes m k = (ws : List Text) → IsTaken ws m → AreWords ws (command_of k)

abbrev Never : ArgMatches → Type 0
Never m = (ws : List Text) → IsTaken ws m → (k : words.Command) → AreWords ws k → ⊥

pub returns-then-eq-clause-some : goal.returns-then-eq-clause-some
returns-then-eq-clause-some c =
    let met : IsMet c.args.matches.now c.in-Some.name.now c.in-Some.given.now =
    record { named = c.in-Some.ensures.name; rows = c.in-Some.ensures.rows } in
    let is = text_is c.in-Some.name.now (codes "replay") c.eq.result c.eq.ensures c.if-eq.true in
    ok_as _ (λ o. IfSome o (Becomes c.args.matches.now)) c.replay.result (λ o read. IfSome_then o {Q = Becomes c.args.matches.now}
    read (λ k h. it_is c.args.matches.now c.in-Some.name.now c.in-Some.given.now met (command_of k) (h.0 ∙ sym is) h.1))
    c.replay.ensures.some

pub returns-then-eq-clause-none : goal.returns-then-eq-clause-none
returns-then-eq-clause-none c =
    let met : IsMet c.args.matches.now c.in-Some.name.now c.in-Some.given.now =
    record { named = c.in-Some.ensures.name; rows = c.in-Some.ensures.rows } in
    let is = text_is c.in-Some.name.now (codes "replay") c.eq.result c.eq.ensures c.if-eq.true in
    ok_as _ (λ o. IfNone o (Never c.args.matches.now)) c.replay.result (λ o. if_none _ _ o
    (λ none ws t k h. let g = it_gives c.args.matches.now c.in-Some.name.now c.in-Some.given.now met ws t k h in none k (g.0 ∙ is) g.1))
    c.replay.ensures.none

pub returns-else-eq-clause-some : goal.returns-else-eq-clause-some
returns-else-eq-clause-some c =
    let met : IsMet c.args.matches.now c.in-Some.name.now c.in-Some.given.now =
    record { named = c.in-Some.ensures.name; rows = c.in-Some.ensures.rows } in
    IfSome_then c.plain_command.result {Q = Becomes c.args.matches.now}
    c.plain_command.ensures.some (λ k h. it_is c.args.matches.now c.in-Some.name.now c.in-Some.given.now met (command_of k) h.0 h.1)

pub returns-else-eq-clause-none : goal.returns-else-eq-clause-none
returns-else-eq-clause-none c =
    let met : IsMet c.args.matches.now c.in-Some.name.now c.in-Some.given.now =
    record { named = c.in-Some.ensures.name; rows = c.in-Some.ensures.rows } in
    let differs = text_is_not c.in-Some.name.now (codes "replay") c.eq.result c.eq.ensures c.if-eq.false in
    if_none _ _ c.plain_command.result
    (λ none ws t k h. let g = it_gives c.args.matches.now c.in-Some.name.now c.in-Some.given.now met ws t k h in none k g.0 differs g.1)
    c.plain_command.ensures.none

pub returns-in_default-clause-none : goal.returns-in_default-clause-none
returns-in_default-clause-none c = not_met c.args.matches.now c.in_default.ensures.name
