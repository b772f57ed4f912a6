-- The text of a refusal.
use Rattle.std.specs.Prelude.{ℕ, List, [], ◌∷◌, ◌++◌, codes}
use Rattle.std.specs.Fmt.{decimal}
use Rattle.c_tree.specs.declared.tree.Pos.{Pos}
use Rattle.c_lexer.specs.declared.token.LexError.{LexError}
use Rattle.c_lexer.specs.declared.token.LexError.TheVariants as lex_error
use Rattle.c_lexer.specs.Faults.{lex_error_text}
use Rattle.c_parser.specs.declared.fault.ParseError.{ParseError}
use Rattle.c_parser.specs.declared.fault.ParseError.TheVariants as parse_error
use Rattle.c_parser.specs.Faults.{parse_error_text}
use Rattle.c_typing.specs.Texts.{type_fault_text}
use Rattle.report_text.specs.declared.fault.Refusal.{Refusal}
use Rattle.report_text.specs.declared.fault.Refusal.TheVariants.{Long, Lex, Parse, Types}

abbrev pub too_long_text : List ℕ
too_long_text = codes "refused: source longer than 65536 bytes" ++ 10 ∷ []

abbrev pub refusal_line : Pos → List ℕ → List ℕ
refusal_line at text =
    codes "refused " ++ (decimal at.line ++ (codes ":" ++ (decimal at.column ++
    (codes ": " ++ (text ++ 10 ∷ [])))))

-- the line of a fault with a place: a place and a text; where memory ran out there is none
abbrev pub lex_line : LexError → List ℕ
lex_line (lex_error.BadByte at) = refusal_line at (lex_error_text (lex_error.BadByte at))
lex_line (lex_error.OpenComment at) = refusal_line at (lex_error_text (lex_error.OpenComment at))
lex_line (lex_error.TooWide at) = refusal_line at (lex_error_text (lex_error.TooWide at))
lex_line lex_error.Memory = []

abbrev pub parse_line : ParseError → List ℕ
parse_line (parse_error.Unexpected at) =
    refusal_line at (parse_error_text (parse_error.Unexpected at))
parse_line (parse_error.End at) = refusal_line at (parse_error_text (parse_error.End at))
parse_line (parse_error.TooDeep at) = refusal_line at (parse_error_text (parse_error.TooDeep at))
parse_line parse_error.Memory = []

abbrev pub refusal_text : Refusal → List ℕ
refusal_text Long = too_long_text
refusal_text (Lex error) = lex_line error
refusal_text (Parse error) = parse_line error
refusal_text (Types fault at) = refusal_line at (type_fault_text fault)

-- memory didn't run out
abbrev pub IsOfSource : Refusal → Type 0
IsOfSource Long = Unit {0}
IsOfSource (Lex lex_error.Memory) = ⊥
IsOfSource (Lex error) = Unit {0}
IsOfSource (Parse parse_error.Memory) = ⊥
IsOfSource (Parse error) = Unit {0}
IsOfSource (Types fault at) = Unit {0}
