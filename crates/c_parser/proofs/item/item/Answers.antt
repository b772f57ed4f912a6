use Rattle.std.proofs.lemmas.Result.{err_from_is_err_and}
use Rattle.c_parser.specs.steps.Parsing.{text_of}
use Rattle.c_parser.proofs.StepsItems.{enters}
use Rattle.c_parser.proofs.item.item.Goals as goal

pub returns-in_err-title-2-clause-err : goal.returns-in_err-title-2-clause-err
returns-in_err-title-2-clause-err c =
    let ts = text_of c.args.source.now in
    let p = err_from_is_err_and c.from_residual-in_err-title-2.result c.from_residual-in_err-title-2.ensures.1 in
    rw (p.1, p.2) (c.in_err-title-2.ensures.err (enters ts c.args.at c.requires c.if-is_word.ensures.no))
