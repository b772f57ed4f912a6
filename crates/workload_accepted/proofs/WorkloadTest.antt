-- A test of pieces: those that pass it stand in every text that goes on with a given byte.
use Rattle.std.specs.Prelude.{◌≡◌, ℕ, ◌^◌, List, [], ◌∷◌, ◌++◌, Bool, true, false, not, ◌==◌, ◌&&◌, ◌||◌, nat_le, nat_lt, refl, pos, negsuc, codes, bytes_eq}
use Rattle.std.specs.List.{list_any, list_all}
use Rattle.std.proofs.Common.{drop, sym, ◌∙◌, ap, subst, arith, append-nil, append_assoc, inl, inr}
use Rattle.std.proofs.lemmas.Bool.{eqb-true, ltb-true, not-true, and_parts, or_cases}
use Rattle.std.proofs.lemmas.Bool.Decides.{nat_tests}
use Rattle.std.proofs.lemmas.Slice.Eq.{bytes_eq-Decides}
use Rattle.c_lexer.specs.declared.token.Keyword.{Keyword}
use Rattle.c_lexer.specs.declared.token.Keyword.TheVariants.{Int}
use Rattle.c_lexer.specs.declared.token.Punct.{Punct}
use Rattle.c_lexer.specs.declared.token.Punct.TheVariants.{OpenParenthesis}
use Rattle.c_lexer.specs.declared.token.TokenKind.{TokenKind}
use Rattle.c_lexer.specs.declared.token.TokenKind.TheVariants.{Name, Literal, Word, Mark}
use Rattle.c_lexer.specs.declared.run.Base.{Base}
use Rattle.c_lexer.specs.declared.run.Base.TheVariants.{Decimal, Octal, Hexadecimal}
use Rattle.c_lexer.specs.Lexing.{is_blank, is_digit, is_digit_in, is_letter, is_name_byte, is_suffix, begins_comment, value_in, Each, IsWord, IsNumeral, IsLiteral, keyword_text, mark_text, IsLongest, IsToken, Parts}
use Rattle.c_lexer.proofs.Words.{keywords, keyword_word}
use Rattle.c_lexer.proofs.Literals.{literal_digit, numeral_each}
use Rattle.c_lexer.proofs.Lexemes.{mark_some, word_longest, literal_longest, mark_longest}
use Rattle.command_words.proofs.WordsRuns.{each_both, each_as, each_all, each_not}
use Rattle.workload_accepted.proofs.WorkloadPieces.{Piece, gap, lexeme, spelled, AllStand}

-- The test

abbrev is_word : List ℕ → Bool
is_word [] = false
is_word (b ∷ bs) = is_letter b && list_all is_name_byte bs

abbrev is_keyword : List ℕ → Bool
is_keyword text = list_any (λ w. bytes_eq (keyword_text w) text) keywords

-- a decimal literal, but for its value
abbrev is_numeral : List ℕ → Bool
is_numeral [] = false
is_numeral (b ∷ bs) = (nat_le 49 b && nat_le b 57) && list_all is_digit bs

-- `0`, or a decimal literal of this value
abbrev is_literal : List ℕ → ℕ → Bool
is_literal text n = (bytes_eq text (codes "0") && (n == 0)) || (is_numeral text && (n == value_in 10 text))

abbrev is_token : TokenKind → List ℕ → Bool
is_token Name text = is_word text && not (is_keyword text)
is_token (Literal (pos n)) text = is_literal text n && nat_lt n (2 ^ 63)
is_token (Literal (negsuc n)) text = false
is_token (Word w) text = bytes_eq text (keyword_text w)
is_token (Mark m) text = bytes_eq text (mark_text m)

-- the second byte of a mark: one of `=&|+-`
abbrev is_second : ℕ → Bool
is_second b = (b == 61) || (b == 38) || (b == 124) || (b == 43) || (b == 45)

-- a token ends before this byte
abbrev is_apart : TokenKind → ℕ → Bool
is_apart (Mark m) b = not (is_second b)
is_apart Name b = not (is_name_byte b)
is_apart (Literal z) b = not (is_name_byte b)
is_apart (Word w) b = not (is_name_byte b)

abbrev first_or : ℕ → List ℕ → ℕ
first_or b [] = b
first_or b (c ∷ cs) = c

-- it begins with another byte than a comment does
abbrev is_plain : List ℕ → Bool
is_plain text = not (first_or 47 text == 47)

-- the test of pieces after which this byte stands
abbrev pub fits : ℕ → List Piece → Bool
fits b [] = true
fits b (gap c ∷ ps) = is_blank c && fits b ps
fits b (lexeme k text ∷ ps) = is_token k text && (is_plain text && (is_apart k (first_or b (spelled ps)) && fits b ps))

-- What the test means

word_of : (text : List ℕ) → is_word text ≡ true → IsWord text
word_of [] h = absurd cc
word_of (b ∷ bs) h = let k = and_parts (is_letter b) (list_all is_name_byte bs) h in (k.0, each_all is_name_byte bs k.1)

keyword_there : (w : Keyword) → is_keyword (keyword_text w) ≡ true
keyword_there Int = refl
keyword_there _ = refl

no_keyword_of : (text : List ℕ) → is_keyword text ≡ false → (w : Keyword) → text ≡ keyword_text w → ⊥
no_keyword_of text h w e = let f : true ≡ false = sym (keyword_there w) ∙ ap is_keyword (sym e) ∙ h in cc

literal_of : (text : List ℕ) (n : ℕ) → is_literal text n ≡ true → IsLiteral text n
literal_of text n h = elim (or_cases (bytes_eq text (codes "0") && (n == 0)) (is_numeral text && (n == value_in 10 text)) h) [
  | inl k ↦
      let q = and_parts (bytes_eq text (codes "0")) (n == 0) k in
      record {
        base = Octal;
        front = codes "0";
        digits = [];
        suffix = [];
        whole = (bytes_eq-Decides text (codes "0")).0 q.0;
        numeral = (refl, tt);
        ends = refl;
        value = eqb-true n 0 q.1;
      }
  | inr k ↦
      let q = and_parts (is_numeral text) (n == value_in 10 text) k in
      decimal_of text q.0 (eqb-true n (value_in 10 text) q.1)
]
  where
    decimal_of : (text : List ℕ) → is_numeral text ≡ true → n ≡ value_in 10 text → IsLiteral text n
    decimal_of [] h e = absurd cc
    decimal_of (b ∷ bs) h e =
        let q = and_parts (nat_le 49 b && nat_le b 57) (list_all is_digit bs) h in
        record {
          base = Decimal;
          front = [];
          digits = b ∷ bs;
          suffix = [];
          whole = sym (append-nil (b ∷ bs));
          numeral = (refl, q.0, each_all is_digit bs q.1);
          ends = refl;
          value = e;
        }

token_of : (k : TokenKind) (text : List ℕ) → is_token k text ≡ true → IsToken k text
token_of Name text h =
    let k = and_parts (is_word text) (not (is_keyword text)) h in
    (word_of text k.0, no_keyword_of text (not-true (is_keyword text) k.1))
token_of (Literal (pos n)) text h =
    let k = and_parts (is_literal text n) (nat_lt n (2 ^ 63)) h in
    (n, literal_of text n k.0, refl, ltb-true n (2 ^ 63) k.1)
token_of (Literal (negsuc n)) text h = absurd cc
token_of (Word w) text h = (bytes_eq-Decides text (keyword_text w)).0 h
token_of (Mark m) text h = (bytes_eq-Decides text (mark_text m)).0 h

plain_of : (text rest : List ℕ) → is_plain text ≡ true → begins_comment (text ++ rest) ≡ false
plain_of [] rest h = absurd cc
plain_of (b ∷ []) [] h = refl
plain_of (b ∷ []) (c ∷ rest) h = ap (λ t. t && ((c == 47) || (c == 42))) (not-true (b == 47) h)
plain_of (b ∷ c ∷ bs) rest h = ap (λ t. t && ((c == 47) || (c == 42))) (not-true (b == 47) h)

-- Where tokens end

digit_in_name : (base : Base) (b : ℕ) → is_digit_in base b ≡ true → is_name_byte b ≡ true
digit_in_name Decimal b h = grind (arith, nat_tests)
digit_in_name Octal b h = grind (arith, nat_tests)
digit_in_name Hexadecimal b h = grind (arith, nat_tests)

front_in_name : (base : Base) (front digits : List ℕ) → IsNumeral base front digits → Each is_name_byte front
front_in_name Decimal front [] h = absurd h
front_in_name Decimal front (b ∷ bs) h = subst (Each is_name_byte) (sym h.0) tt
front_in_name Octal front digits h = subst (Each is_name_byte) (sym h.0) (refl, tt)
front_in_name Hexadecimal front [] h = absurd h
front_in_name Hexadecimal front (b ∷ bs) h = elim h.0 [
  | inl e ↦ subst (Each is_name_byte) (sym e) (refl, (refl, tt))
  | inr e ↦ subst (Each is_name_byte) (sym e) (refl, (refl, tt))
]

one_in_name : (words : List (List ℕ)) (text : List ℕ) → list_all (λ w. list_all is_name_byte w) words ≡ true →
    list_any (λ w. bytes_eq w text) words ≡ true → list_all is_name_byte text ≡ true
one_in_name [] text h k = absurd cc
one_in_name (w ∷ ws) text h k =
    let q = and_parts (list_all is_name_byte w) (list_all (λ v. list_all is_name_byte v) ws) h in
    elim (or_cases (bytes_eq w text) (list_any (λ v. bytes_eq v text) ws) k) [
      | inl e ↦ subst (λ t. list_all is_name_byte t ≡ true) ((bytes_eq-Decides w text).0 e) q.0
      | inr e ↦ one_in_name ws text q.1 e
    ]

suffix_in_name : (text : List ℕ) → is_suffix text ≡ true → Each is_name_byte text
suffix_in_name text h = each_all is_name_byte text
    (one_in_name ([] ∷ codes "l" ∷ codes "L" ∷ codes "ll" ∷ codes "LL" ∷ []) text refl h)

-- a literal is made of bytes of a name
literal_in_name : (text : List ℕ) (n : ℕ) → IsLiteral text n → Each is_name_byte text
literal_in_name text n l =
    let numeral = numeral_each l.base l.front l.digits l.numeral in
    let digits = each_as (is_digit_in l.base) is_name_byte (digit_in_name l.base) l.digits numeral in
    subst (Each is_name_byte) (sym l.whole)
    (each_both is_name_byte l.front (l.digits ++ l.suffix) (front_in_name l.base l.front l.digits l.numeral)
    (each_both is_name_byte l.digits l.suffix digits (suffix_in_name l.suffix l.ends)))

-- the second byte of a mark, if it has one
seconds : (m : Punct) → list_all is_second (drop 1 (mark_text m)) ≡ true
seconds OpenParenthesis = refl
seconds _ = refl

-- a token ends before a byte that stands apart from it
module _ (c : ℕ) (rest : List ℕ) where
  word_ends : (text : List ℕ) → IsWord text → is_name_byte c ≡ false → IsLongest text (c ∷ rest)
  word_ends [] w h = absurd w
  word_ends (b ∷ bs) w h = word_longest b bs (c ∷ rest) w.0 h

  literal_ends : (text : List ℕ) (n : ℕ) → IsLiteral text n → is_name_byte c ≡ false → IsLongest text (c ∷ rest)
  literal_ends text n l h =
      let d = literal_digit text n l in
      subst (λ t. IsLongest t (c ∷ rest)) (sym d.is) (literal_longest d.byte d.bytes (c ∷ rest) d.digit (none d.byte d.bytes))
    where
      none : (b : ℕ) (bs extra others : List ℕ) (k : ℕ) → c ∷ rest ≡ extra ++ others → IsLiteral (b ∷ (bs ++ extra)) k → extra ≡ []
      none b bs [] others k e q = refl
      none b bs (x ∷ extra) others k e q =
          let same : x ≡ c = cc in
          absurd (each_not is_name_byte (b ∷ bs) extra x (ap is_name_byte same ∙ h) (literal_in_name (b ∷ (bs ++ x ∷ extra)) k q))

  mark_ends : (m : Punct) (text : List ℕ) → text ≡ mark_text m → is_second c ≡ false → IsLongest text (c ∷ rest)
  mark_ends m [] e h = absurd (mark_some m e)
  mark_ends m (b ∷ bs) e h = mark_longest m (b ∷ bs) (c ∷ rest) e none
    where
      none : (extra others : List ℕ) (o : Punct) → c ∷ rest ≡ extra ++ others → (b ∷ bs) ++ extra ≡ mark_text o → extra ≡ []
      none [] others o q s = refl
      none (x ∷ extra) others o q s =
          let same : x ≡ c = cc in
          let all : list_all is_second (bs ++ x ∷ extra) ≡ true = ap (λ t. list_all is_second (drop 1 t)) s ∙ seconds o in
          absurd (each_not is_second bs extra x (ap is_second same ∙ h) (each_all is_second (bs ++ x ∷ extra) all))

  ends_of : (k : TokenKind) (text : List ℕ) → IsToken k text → is_apart k c ≡ true → IsLongest text (c ∷ rest) × Parts k (c ∷ rest)
  ends_of Name text t h = (word_ends text t.0 (not-true (is_name_byte c) h), tt)
  ends_of (Literal z) text t h =
      let apart = not-true (is_name_byte c) h in
      (literal_ends text t.0 t.1 apart, apart)
  ends_of (Word w) text t h = (word_ends text (subst IsWord (sym t) (keyword_word w)) (not-true (is_name_byte c) h), tt)
  ends_of (Mark m) text t h = (mark_ends m text t (not-true (is_second c) h), tt)

-- Pieces that pass the test, before others

pub spelled-append : (ps qs : List Piece) → spelled (ps ++ qs) ≡ spelled ps ++ spelled qs
spelled-append [] qs = refl
spelled-append (gap b ∷ ps) qs = ap (λ t. b ∷ t) (spelled-append ps qs)
spelled-append (lexeme k text ∷ ps) qs = ap (λ t. text ++ t) (spelled-append ps qs) ∙ sym (append_assoc text (spelled ps) (spelled qs))

-- a text begins with its first byte, or with that after it
begins : (b : ℕ) (bs rest : List ℕ) → (others : List ℕ) × (bs ++ b ∷ rest ≡ first_or b bs ∷ others)
begins b [] rest = (rest, refl)
begins b (c ∷ bs) rest = (bs ++ b ∷ rest, refl)

module _ (b : ℕ) (qs : List Piece) (rest : List ℕ) (follows : spelled qs ≡ b ∷ rest) (stand : AllStand qs) where
  next_is : (ps : List Piece) → (others : List ℕ) × (spelled (ps ++ qs) ≡ first_or b (spelled ps) ∷ others)
  next_is ps =
      let w = begins b (spelled ps) rest in
      (w.0, spelled-append ps qs ∙ ap (λ t. spelled ps ++ t) follows ∙ w.1)

  pub fits_stand : (ps : List Piece) → fits b ps ≡ true → AllStand (ps ++ qs)
  fits_stand [] h = stand
  fits_stand (gap c ∷ ps) h = let k = and_parts (is_blank c) (fits b ps) h in (k.0, fits_stand ps k.1)
  fits_stand (lexeme k text ∷ ps) h =
      let c = first_or b (spelled ps) in
      let q = and_parts (is_token k text) (is_plain text && (is_apart k c && fits b ps)) h in
      let p = and_parts (is_plain text) (is_apart k c && fits b ps) q.1 in
      let r = and_parts (is_apart k c) (fits b ps) p.1 in
      let t = token_of k text q.0 in
      let n = next_is ps in
      let e = ends_of c n.0 k text t r.0 in (
        t,
        subst (IsLongest text) (sym n.1) e.0,
        subst (Parts k) (sym n.1) e.1,
        plain_of text (spelled (ps ++ qs)) p.0,
        fits_stand ps r.1,
      )
