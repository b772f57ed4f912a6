use Rattle.std.proofs.Common.{sym, ap, ◌∙◌, subst}
use Rattle.c_tree.specs.FileView.{file_of}
use Rattle.c_lexer.specs.Lexing.{IsTokens}
use Rattle.c_lexer.specs.Pure.{pure_tokens}
use Rattle.c_parser.specs.Answer as parser
use Rattle.c_typing.specs.Answer as typing
use Rattle.source_program.specs.declared.accepting.Rejection.TheVariants.{Refused}
use Rattle.source_program.specs.Rejections.{parse_rejection, type_rejection}
use Rattle.source_program.proofs.Accepted.{told, only_memory, lex_refused, parse_refused, type_refused}
use Rattle.source_program.proofs.accepting.accept.Goals as goal

pub returns-in_err-tokens-clause-refused : goal.returns-in_err-tokens-clause-refused
returns-in_err-tokens-clause-refused c why e =
    lex_refused c.args.bytes.now c.lex.result c.lex.ensures.bad_byte c.lex.ensures.open_comment c.lex.ensures.too_wide
    c.in_err-tokens.field-0.0 (c.in_err-tokens.was) why (told _ _ c.from_residual.ensures.1 (Refused why) e)

pub returns-in_err-tree-clause-only : goal.returns-in_err-tree-clause-only
returns-in_err-tree-clause-only c P k =
    let bytes = c.args.bytes.now in
    let tokens = c.deref.ensures.value ∙ c.in_ok-tokens.ensures.only k.tokens k.lexed in
    only_memory _ _ c.from_residual-in_err-tree.ensures.1
    (λ r h. h ∙ ap parse_rejection (c.in_err-tree.ensures.only k.items (subst (λ ts. parser.IsShallowFile (pure_tokens bytes ts) k.items)
    (sym tokens) k.parsed))) P

pub returns-in_err-tree-clause-refused : goal.returns-in_err-tree-clause-refused
returns-in_err-tree-clause-refused c why e =
    parse_refused c.args.bytes.now c.deref.result.now (subst (IsTokens c.args.bytes.now) (sym c.deref.ensures.value)
    c.in_ok-tokens.ensures.ok)
    c.parse.result c.parse.ensures.unexpected c.parse.ensures.end c.parse.ensures.too_deep c.in_err-tree.field-0.0 (c.in_err-tree.was) why
    (told _ _ c.from_residual-in_err-tree.ensures.1 (Refused why) e)

pub returns-in_err-program-clause-only : goal.returns-in_err-program-clause-only
returns-in_err-program-clause-only c P k =
    let bytes = c.args.bytes.now in
    let tokens = c.deref.ensures.value ∙ c.in_ok-tokens.ensures.only k.tokens k.lexed in
    let items = c.in_ok-tree.ensures.only k.items (subst (λ ts. parser.IsShallowFile (pure_tokens bytes ts) k.items) (sym tokens) k.parsed)
    in
    only_memory _ _ c.from_residual-in_err-program.ensures.1
    (λ r h. h ∙ ap type_rejection (c.in_err-program.ensures.only P (subst (λ is. typing.IsProgram is P) (sym items) k.typed))) P

pub returns-in_err-program-clause-refused : goal.returns-in_err-program-clause-refused
returns-in_err-program-clause-refused c why e =
    type_refused c.args.bytes.now c.deref.result.now (subst (IsTokens c.args.bytes.now) (sym c.deref.ensures.value)
    c.in_ok-tokens.ensures.ok)
    (file_of c.in_ok-tree.tree) c.in_ok-tree.ensures.ok c.check_types.result c.check_types.ensures.refused c.in_err-program.field-0.0
    (c.in_err-program.was) why
    (told _ _ c.from_residual-in_err-program.ensures.1 (Refused why) e)

pub returns-clause-only : goal.returns-clause-only
returns-clause-only c P k =
    let bytes = c.args.bytes.now in
    let tokens = c.deref.ensures.value ∙ c.in_ok-tokens.ensures.only k.tokens k.lexed in
    let items = c.in_ok-tree.ensures.only k.items (subst (λ ts. parser.IsShallowFile (pure_tokens bytes ts) k.items) (sym tokens) k.parsed)
    in
    c.in_ok-program.ensures.only P (subst (λ is. typing.IsProgram is P) (sym items) k.typed)
