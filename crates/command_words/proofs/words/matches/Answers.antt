use Rattle.std.proofs.Common.{◌≡◌, ◌∙◌, map, string_bytes, sym, true, false}
use Rattle.clap.specs.Words.{app_of}
use Rattle.command_words.proofs.WordsMatches.{refused_by, taken_by}
use Rattle.command_words.proofs.words.matches.Goals as goal

pub returns-in-Ok-clause-some : goal.returns-in-Ok-clause-some
returns-in-Ok-clause-some c =
    taken_by (app_of c.in_ok-line.field-0) (map string_bytes c.args.words.now) c.in_ok-line.ensures c.in-Ok.matches c.in-Ok.ensures.kinds
    c.in-Ok.ensures.matches

pub returns-clause-none : goal.returns-clause-none
returns-clause-none c h =
    let is = c.kind.ensures ∙ refused_by (app_of c.in_ok-line.field-0) (map string_bytes c.args.words.now) c.in_ok-line.ensures
    c.in-Err.error
    c.in-Err.ensures.kinds h in
    let k : c.eq.result ≡ true = rw is at c.eq.ensures in
    let e : false ≡ true = sym c.if-eq.false ∙ k in
    cc
