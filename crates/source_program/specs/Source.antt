-- What a source is, by its bytes alone: the program of an accepted source, or its first refusal.
use Rattle.std.specs.Prelude.{ℕ, List}
use Rattle.c_tree.specs.declared.tree.Pos.{Pos}
use Rattle.c_tree.specs.Syntax.{PureProgram}
use Rattle.c_tree.specs.SourceTree.{FileItem}
use Rattle.c_lexer.specs.declared.token.Token.{Token}
use Rattle.c_lexer.specs.declared.token.LexError.TheVariants.{BadByte, OpenComment, TooWide}
use Rattle.c_lexer.specs.Faults.{lex_error_text}
use Rattle.c_lexer.specs.Lexing.{IsTokens, HasFault}
use Rattle.c_lexer.specs.Pure.{pure_tokens}
use Rattle.c_parser.specs.declared.fault.ParseError.TheVariants.{Unexpected, End, TooDeep}
use Rattle.c_parser.specs.Faults.{parse_error_text}
use Rattle.c_parser.specs.Answer.{IsShallowFile, IsUnexpected, IsUnfinished, IsFirstTooDeep}
use Rattle.c_typing.specs.declared.fault.TypeFault.{TypeFault}
use Rattle.c_typing.specs.Answer.{IsProgram, IsFirstFault}
use Rattle.c_typing.specs.Texts.{type_fault_text}

-- the most bytes that a source may have
abbrev pub source_limit : ℕ
source_limit = 65536

-- The bytes have these tokens, the tokens this file within the limits, and the file this program.
pub record IsAccepted (bytes : List ℕ) (program : PureProgram) : Type 0 where
  pub tokens : List Token
  pub lexed : IsTokens bytes tokens
  pub items : List FileItem
  pub parsed : IsShallowFile (pure_tokens bytes tokens) items
  pub typed : IsProgram items program

-- the first fault of the bytes, of the tokens, or of the file, in this order, with its place and
-- its text
pub data IsRefused : List ℕ → Pos → List ℕ → Type 0 where
  bad_byte : {bytes : List ℕ} {at : Pos} → HasFault bytes (BadByte at) →
      IsRefused bytes at (lex_error_text (BadByte at))
  open_comment : {bytes : List ℕ} {at : Pos} → HasFault bytes (OpenComment at) →
      IsRefused bytes at (lex_error_text (OpenComment at))
  too_wide : {bytes : List ℕ} {at : Pos} → HasFault bytes (TooWide at) →
      IsRefused bytes at (lex_error_text (TooWide at))
  unexpected : {bytes : List ℕ} {at : Pos} → (tokens : List Token) → IsTokens bytes tokens →
      IsUnexpected (pure_tokens bytes tokens) at →
      IsRefused bytes at (parse_error_text (Unexpected at))
  unfinished : {bytes : List ℕ} {at : Pos} → (tokens : List Token) → IsTokens bytes tokens →
      IsUnfinished bytes (pure_tokens bytes tokens) at →
      IsRefused bytes at (parse_error_text (End at))
  too_deep : {bytes : List ℕ} {at : Pos} → (tokens : List Token) → IsTokens bytes tokens →
      IsFirstTooDeep (pure_tokens bytes tokens) at →
      IsRefused bytes at (parse_error_text (TooDeep at))
  ill_typed : {bytes : List ℕ} {at : Pos} → (tokens : List Token) → IsTokens bytes tokens →
      (items : List FileItem) → IsShallowFile (pure_tokens bytes tokens) items →
      (f : TypeFault) → IsFirstFault items f at → IsRefused bytes at (type_fault_text f)
