-- From the faults of the lexer, the parser and the check of types to the refusal of a source.
use Rattle.std.proofs.Common.{◌≡◌, List, ℕ, Result, Ok, Err, Vec, Global, refl, sym, subst}
use Rattle.std.specs.Prelude.{IsErrAnd}
use Rattle.c_tree.specs.declared.tree.Pos.{Pos}
use Rattle.c_tree.specs.declared.tree.Program.{Program}
use Rattle.c_tree.specs.declared.syntax_tree.Tree.{Tree}
use Rattle.c_tree.specs.Syntax.{PureProgram}
use Rattle.c_tree.specs.SourceTree.{FileItem}
use Rattle.c_lexer.specs.declared.token.Token.{Token}
use Rattle.c_lexer.specs.declared.token.LexError.{LexError}
use Rattle.c_lexer.specs.declared.token.LexError.TheVariants as lex_error
use Rattle.c_lexer.specs.Lexing.{IsTokens, HasFault}
use Rattle.c_lexer.specs.Faults.{lex_error_text}
use Rattle.c_lexer.specs.Pure.{pure_tokens}
use Rattle.c_parser.specs.declared.fault.ParseError.{ParseError}
use Rattle.c_parser.specs.declared.fault.ParseError.TheVariants as parse_error
use Rattle.c_parser.specs.Faults.{parse_error_text}
use Rattle.c_parser.specs.Answer as parser
use Rattle.c_typing.specs.declared.fault.TypeFault.{TypeFault}
use Rattle.c_typing.specs.declared.fault.TypeError.{TypeError}
use Rattle.c_typing.specs.declared.fault.TypeError.TheVariants as type_error
use Rattle.c_typing.specs.Answer.{IsFirstFault}
use Rattle.c_typing.specs.Texts.{type_fault_text}
use Rattle.report_text.specs.declared.fault.Refusal.{Refusal}
use Rattle.report_text.specs.declared.fault.Refusal.TheVariants.{Lex, Parse, Types}
use Rattle.source_program.specs.declared.accepting.Rejection.{Rejection}
use Rattle.source_program.specs.declared.accepting.Rejection.TheVariants.{Refused, Memory}
use Rattle.source_program.specs.Source.{bad_byte, open_comment, too_wide, unexpected, unfinished, too_deep, ill_typed}
use Rattle.source_program.specs.Rejections.{IsRefusedFor, lex_rejection, parse_rejection, type_rejection, Gives}

-- what is known of an error is known of this one
pub told : {A : Type 0} (res : Result A Rejection) (F : Rejection → Type 0) → IsErrAnd res F → (r : Rejection) → res ≡ Err r → F r
told (Ok a) F h r e = absurd h
told (Err x) F h r e = subst F (let same : x ≡ r = cc in same) h

-- an error of which only Memory can be is Memory
pub only_memory : (res : Result Program Rejection) (F : Rejection → Type 0) → IsErrAnd res F → ((r : Rejection) → F r → r ≡ Memory) →
    (P : PureProgram) → Gives res P
only_memory (Ok p) F h m P = absurd h
only_memory (Err r) F h m P = m r h

module _ (bytes : List ℕ) (res : Result (Vec Token Global) LexError)
    (bad : (at : Pos) → res ≡ Err (lex_error.BadByte at) → HasFault bytes (lex_error.BadByte at))
    (unclosed : (at : Pos) → res ≡ Err (lex_error.OpenComment at) → HasFault bytes (lex_error.OpenComment at))
    (wide : (at : Pos) → res ≡ Err (lex_error.TooWide at) → HasFault bytes (lex_error.TooWide at)) where
  pub lex_refused : (e : LexError) → res ≡ Err e → (why : Refusal) → Refused why ≡ lex_rejection e → IsRefusedFor bytes why
  lex_refused (lex_error.BadByte p) was why same =
      let w : why ≡ Lex (lex_error.BadByte p) = cc in
      subst (IsRefusedFor bytes) (sym w)
      (record { at = p; text = lex_error_text (lex_error.BadByte p); refused = bad_byte (bad p was); told = refl; of_source = tt })
  lex_refused (lex_error.OpenComment p) was why same =
      let w : why ≡ Lex (lex_error.OpenComment p) = cc in
      subst (IsRefusedFor bytes) (sym w)
      (record {
        at = p;
        text = lex_error_text (lex_error.OpenComment p);
        refused = open_comment (unclosed p was);
        told = refl;
        of_source = tt;
      })
  lex_refused (lex_error.TooWide p) was why same =
      let w : why ≡ Lex (lex_error.TooWide p) = cc in
      subst (IsRefusedFor bytes) (sym w)
      (record { at = p; text = lex_error_text (lex_error.TooWide p); refused = too_wide (wide p was); told = refl; of_source = tt })
  lex_refused lex_error.Memory was why same = absurd (cc)

module _ (bytes : List ℕ) (tokens : List Token) (lexed : IsTokens bytes tokens) (res : Result Tree ParseError)
    (never : (at : Pos) → res ≡ Err (parse_error.Unexpected at) → parser.IsUnexpected (pure_tokens bytes tokens) at)
    (unclosed : (at : Pos) → res ≡ Err (parse_error.End at) → parser.IsUnfinished bytes (pure_tokens bytes tokens) at)
    (deep : (at : Pos) → res ≡ Err (parse_error.TooDeep at) → parser.IsFirstTooDeep (pure_tokens bytes tokens) at) where
  pub parse_refused : (e : ParseError) → res ≡ Err e → (why : Refusal) → Refused why ≡ parse_rejection e → IsRefusedFor bytes why
  parse_refused (parse_error.Unexpected p) was why same =
      let w : why ≡ Parse (parse_error.Unexpected p) = cc in
      subst (IsRefusedFor bytes) (sym w)
      (record {
        at = p;
        text = parse_error_text (parse_error.Unexpected p);
        refused = unexpected tokens lexed (never p was);
        told = refl;
        of_source = tt;
      })
  parse_refused (parse_error.End p) was why same =
      let w : why ≡ Parse (parse_error.End p) = cc in
      subst (IsRefusedFor bytes) (sym w)
      (record {
        at = p;
        text = parse_error_text (parse_error.End p);
        refused = unfinished tokens lexed (unclosed p was);
        told = refl;
        of_source = tt;
      })
  parse_refused (parse_error.TooDeep p) was why same =
      let w : why ≡ Parse (parse_error.TooDeep p) = cc in
      subst (IsRefusedFor bytes) (sym w)
      (record {
        at = p;
        text = parse_error_text (parse_error.TooDeep p);
        refused = too_deep tokens lexed (deep p was);
        told = refl;
        of_source = tt;
      })
  parse_refused parse_error.Memory was why same = absurd (cc)

module _ (bytes : List ℕ) (tokens : List Token) (lexed : IsTokens bytes tokens) (items : List FileItem)
    (parsed : parser.IsShallowFile (pure_tokens bytes tokens) items)
    (res : Result Program TypeError) (first : (f : TypeFault) (at : Pos) → res ≡ Err (type_error.Refused f at) →
    IsFirstFault items f at) where
  pub type_refused : (e : TypeError) → res ≡ Err e → (why : Refusal) → Refused why ≡ type_rejection e → IsRefusedFor bytes why
  type_refused (type_error.Refused f p) was why same =
      let w : why ≡ Types f p = cc in
      subst (IsRefusedFor bytes) (sym w) (record {
        at = p;
        text = type_fault_text f;
        refused = ill_typed tokens lexed items parsed f (first f p was);
        told = refl;
        of_source = tt;
      })
  type_refused type_error.Memory was why same = absurd (cc)
