use Rattle.std.proofs.Common.{List, ℕ, option_map, sym, subst}
use Rattle.std.proofs.lemmas.Option.{IfSome_then}
use Rattle.command_words.specs.Words.{IsGivenOr, IsNumber, given, missing}
use Rattle.command_words.specs.steps.WordsLine.{listed}
use Rattle.command_words.proofs.words.number_or.Goals as goal

pub returns-in-Some-clause-some : goal.returns-in-Some-clause-some
returns-in-Some-clause-some c =
    let default = c.args.default in
    let high = c.args.high in
    IfSome_then c.number.result {P = λ n. IsNumber 1 high c.as_bytes.result.now n}
    {Q = λ n. IsGivenOr default high (listed (option_map (λ t. t.now) c.args.text)) n} c.number.ensures.some
    (λ n h. subst (λ o. IsGivenOr default high (listed (option_map (λ t. t.now) o)) n) (sym c.in-Some.is)
    (given (subst (λ (t : List ℕ). IsNumber 1 high t n) c.as_bytes.ensures.value h)))

pub returns-in-None-clause-some : goal.returns-in-None-clause-some
returns-in-None-clause-some c =
    subst (λ o. IsGivenOr c.args.default c.args.high (listed (option_map (λ t. t.now) o)) c.args.default) (sym c.in-None.is) missing
