-- Texts made of blanks and lexemes: their tokens, and where these stand.
use Rattle.std.specs.Prelude.{◌≡◌, ℕ, suc, zero, ◌+◌, ◌-◌, List, [], ◌∷◌, ◌++◌, length, map, Ok, true, false, refl, slice_range}
use Rattle.std.proofs.Common.{sym, ◌∙◌, ap, subst, arith, append_assoc, length-append, drop, take}
use Rattle.std.proofs.Math.Seq.{take-append_seam, drop-append_seam}
use Rattle.c_tree.specs.declared.tree.Pos.{Pos}
use Rattle.c_lexer.specs.declared.token.TokenKind.{TokenKind}
use Rattle.c_lexer.specs.declared.token.Token.{Token}
use Rattle.c_lexer.specs.declared.token.Place.{Place}
use Rattle.c_lexer.specs.Lexing.{after_byte, after, first_place, is_blank, begins_comment, IsLongest, IsToken, Parts, token_at, IsLexed, end, blank, token, IsTokens}
use Rattle.c_lexer.specs.Pure.{PureToken, pure_token, pure_tokens}
use Rattle.c_lexer.proofs.Loop.{after-offset}

-- a blank, or a lexeme of a kind
pub data Piece : Type 0 where
  gap : ℕ → Piece
  lexeme : TokenKind → List ℕ → Piece

-- the text of pieces
abbrev pub spelled : List Piece → List ℕ
spelled [] = []
spelled (gap b ∷ ps) = b ∷ spelled ps
spelled (lexeme k text ∷ ps) = text ++ spelled ps

-- each gap is a blank, and each lexeme the longest at its place and of its kind; no comment begins with it
abbrev pub AllStand : List Piece → Type 0
AllStand [] = Unit {0}
AllStand (gap b ∷ ps) = (is_blank b ≡ true) × AllStand ps
AllStand (lexeme k text ∷ ps) = IsToken k text × IsLongest text (spelled ps) × Parts k (spelled ps)
    × (begins_comment (text ++ spelled ps) ≡ false) × AllStand ps

abbrev tokens_from : Place → List Piece → List Token
tokens_from p [] = []
tokens_from p (gap b ∷ ps) = tokens_from (after_byte p b) ps
tokens_from p (lexeme k text ∷ ps) = token_at p k text ∷ tokens_from (after p text) ps

lexed_from : (p : Place) (ps : List Piece) → AllStand ps → IsLexed p (spelled ps) (Ok (tokens_from p ps))
lexed_from p [] h = end
lexed_from p (gap b ∷ ps) h = blank h.0 (lexed_from (after_byte p b) ps h.1)
lexed_from p (lexeme k text ∷ ps) h = token k text (spelled ps) h.0 h.1 h.2 h.3 (lexed_from (after p text) ps h.4)

-- Places: that of each lexeme, by its number

abbrev pub Places : Type 0
Places = ℕ → Pos

-- the tokens of pieces at these places
abbrev pub placed : Places → List Piece → List PureToken
placed at [] = []
placed at (gap b ∷ ps) = placed at ps
placed at (lexeme k text ∷ ps) = record { kind = k; at = at 0; text = text } ∷ placed (λ i. at (suc i)) ps

-- one more lexeme before others
abbrev with_first : Pos → Places → Places
with_first p at zero = p
with_first p at (suc i) = at i

-- a text stands after the bytes before it
slice_there : (before text rest : List ℕ) (from to : ℕ) → from ≡ length before → to ≡ from + length text →
    slice_range (before ++ (text ++ rest)) from to ≡ text
slice_there before text rest from to e h =
    let n : to - from ≡ length text = omega arith in
    ap (λ m. take m (drop from (before ++ (text ++ rest)))) n ∙ ap (λ m. take (length text) (drop m (before ++ (text ++ rest)))) e
    ∙ ap (take (length text)) (drop-append_seam before (text ++ rest)) ∙ take-append_seam text rest

-- with their texts the tokens are those of the pieces, at some places
pure_from : (before : List ℕ) (p : Place) (ps : List Piece) → p.offset ≡ length before →
    (at : Places) × (map (pure_token (before ++ spelled ps)) (tokens_from p ps) ≡ placed at ps)
pure_from before p [] h = (λ i. p.at, refl)
pure_from before p (gap b ∷ ps) h =
    let n : (after_byte p b).offset ≡ length (before ++ b ∷ []) = omega (arith, after-offset p (b ∷ []), length-append before (b ∷ []), h)
    in
    let r = pure_from (before ++ b ∷ []) (after_byte p b) ps n in
    (r.0, ap (λ t. map (pure_token t) (tokens_from (after_byte p b) ps)) (sym (append_assoc before (b ∷ []) (spelled ps))) ∙ r.1)
pure_from before p (lexeme k text ∷ ps) h =
    let n : (after p text).offset ≡ length (before ++ text) = omega (arith, after-offset p text, length-append before text, h) in
    let r = pure_from (before ++ text) (after p text) ps n in
    let rest = map (pure_token (before ++ (text ++ spelled ps))) (tokens_from (after p text) ps) in (
      with_first p.at r.0,
      ap (λ t. record { kind = k; at = p.at; text = t } ∷ rest)
          (slice_there before text (spelled ps) p.offset (p.offset + length text) h refl)
          ∙ ap (λ ts. record { kind = k; at = p.at; text = text } ∷ ts)
          (ap (λ t. map (pure_token t) (tokens_from (after p text) ps)) (sym (append_assoc before text (spelled ps))) ∙ r.1),
    )

-- the text has tokens, which are those of the pieces, at some places
pub record HasTokens (text : List ℕ) (ps : List Piece) : Type 0 where
  pub tokens : List Token
  pub lexed : IsTokens text tokens
  pub at : Places
  pub pure : pure_tokens text tokens ≡ placed at ps

pub pieces_have_tokens : (text : List ℕ) (ps : List Piece) → spelled ps ≡ text → AllStand ps → HasTokens text ps
pieces_have_tokens text ps e h = subst (λ t. HasTokens t ps) e of_spelled
  where
    of_spelled : HasTokens (spelled ps) ps
    of_spelled =
        let r = pure_from [] first_place ps refl in
        record { tokens = tokens_from first_place ps; lexed = lexed_from first_place ps h; at = r.0; pure = r.1 }

-- the tokens of pieces after others have places of their own
pub placed_append : (ps qs : List Piece) (at : Places) → (next : Places) × (placed at (ps ++ qs) ≡ placed at ps ++ placed next qs)
placed_append [] qs at = (at, refl)
placed_append (gap b ∷ ps) qs at = placed_append ps qs at
placed_append (lexeme k text ∷ ps) qs at =
    let r = placed_append ps qs (λ i. at (suc i)) in
    (r.0, ap (λ ts. record { kind = k; at = at 0; text = text } ∷ ts) r.1)
