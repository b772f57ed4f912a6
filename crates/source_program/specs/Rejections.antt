-- Why a source has no program.
use Rattle.std.specs.Prelude.{◌≡◌, ℕ, List, Result, Ok, Err}
use Rattle.c_tree.specs.declared.tree.Pos.{Pos}
use Rattle.c_tree.specs.declared.tree.Program.{Program}
use Rattle.c_tree.specs.Syntax.{PureProgram}
use Rattle.c_tree.specs.Whole.{program_of}
use Rattle.c_lexer.specs.declared.token.LexError.{LexError}
use Rattle.c_lexer.specs.declared.token.LexError.TheVariants as lex_error
use Rattle.c_parser.specs.declared.fault.ParseError.{ParseError}
use Rattle.c_parser.specs.declared.fault.ParseError.TheVariants as parse_error
use Rattle.c_typing.specs.declared.fault.TypeError.{TypeError}
use Rattle.c_typing.specs.declared.fault.TypeError.TheVariants as type_error
use Rattle.report_text.specs.declared.fault.Refusal.{Refusal}
use Rattle.report_text.specs.declared.fault.Refusal.TheVariants.{Lex, Parse, Types}
use Rattle.report_text.specs.Refused.{IsOfSource, refusal_line, refusal_text}
use Rattle.source_program.specs.Source.{IsRefused}
use Rattle.source_program.specs.declared.accepting.Rejection.{Rejection}
use Rattle.source_program.specs.declared.accepting.Rejection.TheVariants.{Refused, Memory}

abbrev pub lex_rejection : LexError → Rejection
lex_rejection (lex_error.BadByte at) = Refused (Lex (lex_error.BadByte at))
lex_rejection (lex_error.OpenComment at) = Refused (Lex (lex_error.OpenComment at))
lex_rejection (lex_error.TooWide at) = Refused (Lex (lex_error.TooWide at))
lex_rejection lex_error.Memory = Memory

abbrev pub parse_rejection : ParseError → Rejection
parse_rejection (parse_error.Unexpected at) = Refused (Parse (parse_error.Unexpected at))
parse_rejection (parse_error.End at) = Refused (Parse (parse_error.End at))
parse_rejection (parse_error.TooDeep at) = Refused (Parse (parse_error.TooDeep at))
parse_rejection parse_error.Memory = Memory

abbrev pub type_rejection : TypeError → Rejection
type_rejection (type_error.Refused f at) = Refused (Types f at)
type_rejection type_error.Memory = Memory

-- the bytes are refused, and what is written of the refusal is its place and its text
pub record IsRefusedFor (bytes : List ℕ) (why : Refusal) : Type 0 where
  pub at : Pos
  pub text : List ℕ
  pub refused : IsRefused bytes at text
  pub told : refusal_text why ≡ refusal_line at text
  pub of_source : IsOfSource why

-- this program is answered, unless memory runs out
abbrev pub Gives : Result Program Rejection → PureProgram → Type 0
Gives (Ok p) P = program_of p ≡ P
Gives (Err e) P = e ≡ Memory
