-- What stands at a place.
use Rattle.std.specs.Prelude.{◌≡◌, ℕ, ℤ, zero, suc, ◌+◌, ◌^◌, ◌<◌, ◌≤◌, pos, List, [], ◌∷◌, ◌++◌, length, take, Bool, Result, Err, true, false, ◌==◌, ◌||◌, refl, ◌⊎◌, codes}
use Rattle.std.proofs.Common.{drop, get_or, sym, ◌∙◌, ap, subst, arith, append_assoc, length-append, inl, inr}
use Rattle.std.proofs.Math.Seq.{take-append_seam, drop-append_seam}
use Rattle.std.proofs.lemmas.Bool.{false≢true}
use Rattle.std.proofs.lemmas.Bool.Decides.{nat_tests}
use Rattle.std.proofs.lemmas.List.{length-take-le}
use Rattle.c_lexer.specs.declared.token.Keyword.{Keyword}
use Rattle.c_lexer.specs.declared.token.Punct.{Punct}
use Rattle.c_lexer.specs.declared.token.TokenKind.{TokenKind}
use Rattle.c_lexer.specs.declared.token.TokenKind.TheVariants.{Name, Literal, Word, Mark}
use Rattle.c_lexer.specs.declared.token.Token as the_token
use Rattle.c_lexer.specs.declared.token.Place.{Place}
use Rattle.c_lexer.specs.declared.token.LexError.{LexError}
use Rattle.c_lexer.specs.declared.token.LexError.TheVariants.{BadByte, OpenComment, TooWide}
use Rattle.c_lexer.specs.declared.scan.Piece.TheVariants.{Gap, Token}
use Rattle.c_lexer.specs.Lexing.{after, is_blank, is_digit, is_letter, is_name_byte, is_of_line, Each, RunEnds, IsWord, keyword_text, mark_text, IsLongest, IsToken, Parts, HasNoEnd, begins_comment, BeginsInclude, token_at, with_token, IsLexed, blank, line_comment, comment, open_comment, include_line, token, wide, glued, bad}
use Rattle.c_lexer.specs.steps.Scanning.{IsRun, IsMarkAt, HasNoMark, HasNoKeyword, IsFirstEnd, IsPiece}
use Rattle.c_lexer.proofs.Lists.{drop_first, first_of_some, stands, eq_of, both}
use Rattle.c_lexer.proofs.Words.{mark_sign, mark_size}
use Rattle.c_lexer.proofs.Lexemes.{mark_some, letter_no_comment, literal_no_comment, mark_longest, no_lexeme, run_word}
use Rattle.c_lexer.proofs.Gaps.{front_of}
use Rattle.c_lexer.proofs.Numerals.{IsLiteralAt}

abbrev Answers : Type 0
Answers = Result (List the_token.Token) LexError

-- a text at the beginning of bytes, cut at its length
module _ (bytes text rest : List ℕ) (len : ℕ) (e : bytes ≡ text ++ rest) (n : length text ≡ len) where
  pub cut_front : take len bytes ≡ text
  cut_front = ap (λ m. take m bytes) (sym n) ∙ ap (take (length text)) e ∙ take-append_seam text rest

  cut_behind : drop len bytes ≡ rest
  cut_behind = ap (λ m. drop m bytes) (sym n) ∙ ap (drop (length text)) e ∙ drop-append_seam text rest

  cut_within : len ≤ length bytes
  cut_within = let size : length bytes ≡ length text + length rest = ap length e ∙ length-append text rest in omega (arith, size, n)

  cut_lexed : (p : Place) (r : Answers) → IsLexed (after p (take len bytes)) (drop len bytes) r → IsLexed (after p text) rest r
  cut_lexed p r h = subst (λ x. IsLexed (after p text) x r) cut_behind (subst (λ x. IsLexed (after p x) (drop len bytes) r) cut_front h)

  gap_piece : (p : Place) → 0 < len → ((r : Answers) → IsLexed (after p text) rest r → IsLexed p (text ++ rest) r) →
      IsPiece p bytes (Gap len)
  gap_piece p some go = (some, cut_within, λ r h. subst (λ x. IsLexed p x r) (sym e) (go r (cut_lexed p r h)))

  token_piece : (p : Place) (k : TokenKind) → 0 < len → IsToken k text → IsLongest text rest → Parts k rest → begins_comment bytes ≡ false →
      IsPiece p bytes (Token k len)
  token_piece p k some t l parts none = (
    some,
    cut_within,
    λ r h.
        subst (λ x. IsLexed p bytes (with_token (token_at p k x) r)) (sym cut_front)
        (subst (λ x. IsLexed p x (with_token (token_at p k text) r)) (sym e) (token k text rest t l parts (sym (ap begins_comment e) ∙ none)
        (cut_lexed p r h))),
  )

pub blank_piece : (p : Place) (bytes : List ℕ) → 0 < length bytes → is_blank (get_or bytes 0 0) ≡ true → IsPiece p bytes (Gap 1)
blank_piece p bytes some h =
    let b = get_or bytes 0 0 in
    gap_piece bytes (b ∷ []) (drop 1 bytes) 1 (first_of_some bytes (omega (arith, some))) refl p (omega arith) (λ r l. blank h l)

-- names and reserved words
module _ (p : Place) (bytes : List ℕ) (len : ℕ) (h : is_letter (get_or bytes 0 0) ≡ true) (r : IsRun is_name_byte bytes len) where
  letter_some : (b : ℕ) → is_letter b ≡ true → b ≡ 0 → ⊥
  letter_some b h z = grind (arith, nat_tests)

  word_is : (0 < length r.text) × IsWord r.text × IsLongest r.text (drop len bytes)
  word_is =
      let lt = stands bytes 0 (letter_some (get_or bytes 0 0) h) in
      run_word (get_or bytes 0 0) (drop 1 bytes) (drop len bytes) r.text (sym (first_of_some bytes (omega (arith, lt))) ∙ r.whole) h r.each
      r.ends

  word_some : 0 < len
  word_some = let w = word_is in omega (arith, w.0, r.size)

  word_no_comment : begins_comment bytes ≡ false
  word_no_comment =
      let lt = stands bytes 0 (letter_some (get_or bytes 0 0) h) in
      ap begins_comment (first_of_some bytes (omega (arith, lt))) ∙ letter_no_comment (get_or bytes 0 0) (drop 1 bytes) h

  pub name_piece : HasNoKeyword (take len bytes) → IsPiece p bytes (Token Name len)
  name_piece none =
      let w = word_is in
      token_piece bytes r.text (drop len bytes) len r.whole r.size p Name word_some
      (w.1, subst HasNoKeyword (front_of is_name_byte bytes len r) none) w.2 tt word_no_comment

  pub keyword_piece : (w : Keyword) → take len bytes ≡ keyword_text w → IsPiece p bytes (Token (Word w) len)
  keyword_piece w e =
      let k = word_is in
      token_piece bytes r.text (drop len bytes) len r.whole r.size p (Word w) word_some (sym (front_of is_name_byte bytes len r) ∙ e) k.2 tt
      word_no_comment

-- literals
ends_at : (c : ℕ → Bool) (bytes : List ℕ) (n : ℕ) → c (get_or bytes n 0) ≡ false → RunEnds c (drop n bytes)
ends_at c [] zero h = tt
ends_at c [] (suc n) h = tt
ends_at c (b ∷ bytes) zero h = h
ends_at c (b ∷ bytes) (suc n) h = ends_at c bytes n h

name_some : (b : ℕ) → is_name_byte b ≡ true → b ≡ 0 → ⊥
name_some b h z = grind (arith, nat_tests)

module _ (p : Place) (bytes : List ℕ) (len n : ℕ) (l : IsLiteralAt bytes len n) where
  pub glued_fault : is_name_byte (get_or bytes len 0) ≡ true → IsLexed p bytes (Err (BadByte (after p (take len bytes)).at))
  glued_fault q =
      let b = get_or bytes len 0 in
      let d = drop_first bytes len (stands bytes len (name_some b q)) in
      let front = cut_front bytes l.text (drop len bytes) len l.whole l.size in
      subst (λ x. IsLexed p bytes (Err (BadByte (after p x).at))) (sym front)
      (subst (λ x. IsLexed p x (Err (BadByte (after p l.text).at))) (sym (l.whole ∙ ap (λ x. l.text ++ x) d))
      (glued n b l.text (drop (len + 1) bytes) l.literal (subst (λ x. IsLongest l.text x) d l.longest) q))

  pub literal_piece : (z : ℤ) → is_name_byte (get_or bytes len 0) ≡ false → z ≡ pos n → n < 2 ^ 63 → IsPiece p bytes (Token (Literal z) len)
  literal_piece z q e small =
      token_piece bytes l.text (drop len bytes) len l.whole l.size p (Literal z) l.some (n, l.literal, e, small) l.longest
      (ends_at is_name_byte bytes len q) (ap begins_comment l.whole ∙ literal_no_comment l.text (drop len bytes) n l.literal)

  pub wide_fault : is_name_byte (get_or bytes len 0) ≡ false → 2 ^ 63 ≤ n → IsLexed p bytes (Err (TooWide p.at))
  wide_fault q big =
      subst (λ x. IsLexed p x (Err (TooWide p.at))) (sym l.whole) (wide n l.text (drop len bytes) l.literal l.longest
      (ends_at is_name_byte bytes len q) big)

-- include lines

run_one : (b : ℕ) (more rest text : List ℕ) → b ∷ more ≡ text ++ rest → is_of_line b ≡ true → RunEnds is_of_line rest → 0 < length text
run_one b more rest [] e h ends = let f : is_of_line b ≡ false = subst (RunEnds is_of_line) (sym e) ends in absurd (false≢true (sym f ∙ h))
run_one b more rest (x ∷ text) e h ends = omega arith

pub include_piece : (p : Place) (bytes : List ℕ) (len : ℕ) → p.line_is_blank ≡ true → BeginsInclude bytes → IsRun is_of_line bytes len →
    IsPiece p bytes (Gap len)
include_piece p bytes len h i r =
    let some = run_one 35 (i.gap ++ (codes "include" ++ i.rest)) (drop len bytes) r.text (sym i.whole ∙ r.whole) refl r.ends in
    gap_piece bytes r.text (drop len bytes) len r.whole r.size p (omega (arith, some, r.size))
    (λ s l. include_line r.text (drop len bytes) h (subst BeginsInclude r.whole i) r.each r.ends l)

sharp_no_mark : (bytes : List ℕ) → HasNoMark (35 ∷ bytes)
sharp_no_mark bytes m rest e = by_text (mark_text m) refl e
  where
    by_text : (text : List ℕ) → text ≡ mark_text m → 35 ∷ bytes ≡ text ++ rest → ⊥
    by_text [] q e = mark_some m q
    by_text (x ∷ text) q e =
        let h : 35 ≡ x = cc in
        false≢true (sym (mark_sign m x text q).sharp ∙ sym (ap (λ y. y == 35) h))

sharp_no_comment : (bytes : List ℕ) → begins_comment (35 ∷ bytes) ≡ false
sharp_no_comment [] = refl
sharp_no_comment (c ∷ bytes) = refl

pub sharp_fault : (p : Place) (bytes : List ℕ) → 0 < length bytes → get_or bytes 0 0 ≡ 35 → (p.line_is_blank ≡ true → BeginsInclude bytes →
    ⊥) →
    IsLexed p bytes (Err (BadByte p.at))
sharp_fault p bytes some h none =
    let rest = drop 1 bytes in
    let e : bytes ≡ 35 ∷ rest = first_of_some bytes (omega (arith, some)) ∙ ap (λ x. x ∷ rest) h in
    subst (λ x. IsLexed p x (Err (BadByte p.at))) (sym e)
    (bad refl (sharp_no_comment rest) (subst (λ x. p.line_is_blank ≡ true → BeginsInclude x → ⊥) e none)
    (no_lexeme 35 rest refl refl (sharp_no_mark rest)))

-- comments
record HasSlash (bytes : List ℕ) : Type 0 where
  next : ℕ
  rest : List ℕ
  whole : bytes ≡ 47 ∷ next ∷ rest
  is : (next ≡ 47) ⊎ (next ≡ 42)

either : (c : ℕ) → ((c == 47) || (c == 42)) ≡ true → (c ≡ 47) ⊎ (c ≡ 42)
either c h = grind (arith, nat_tests)

slash : (bytes : List ℕ) → begins_comment bytes ≡ true → HasSlash bytes
slash [] h = absurd (false≢true h)
slash (b ∷ []) h = absurd (false≢true h)
slash (b ∷ c ∷ bs) h =
    let k = both (b == 47) ((c == 47) || (c == 42)) h in
    record { next = c; rest = bs; whole = ap (λ x. x ∷ c ∷ bs) (eq_of b 47 k.0); is = either c k.1 }

line_text : (bs text rest : List ℕ) → 47 ∷ 47 ∷ bs ≡ text ++ rest → RunEnds is_of_line rest → (t : List ℕ) × (text ≡ 47 ∷ 47 ∷ t)
line_text bs [] rest e ends = let f : true ≡ false = subst (RunEnds is_of_line) (sym e) ends in absurd (false≢true (sym f))
line_text bs (x ∷ []) rest e ends =
    let q : 47 ∷ bs ≡ rest = cc in
    let f : true ≡ false = subst (RunEnds is_of_line) (sym q) ends in absurd (false≢true (sym f))
line_text bs (x ∷ y ∷ t) rest e ends =
    let q : x ≡ 47 = cc in let r : y ≡ 47 = cc in
    (t, ap (λ z. z ∷ y ∷ t) q ∙ ap (λ z. 47 ∷ z ∷ t) r)

pub line_piece : (p : Place) (bytes : List ℕ) (len : ℕ) → begins_comment bytes ≡ true → get_or bytes 1 0 ≡ 47 → IsRun is_of_line bytes len →
    IsPiece p bytes (Gap len)
line_piece p bytes len h q r =
    let s = slash bytes h in
    let n : s.next ≡ 47 = sym (ap (λ x. get_or x 1 0) s.whole) ∙ q in
    let w : bytes ≡ 47 ∷ 47 ∷ s.rest = s.whole ∙ ap (λ x. 47 ∷ x ∷ s.rest) n in
    let t = line_text s.rest r.text (drop len bytes) (sym w ∙ r.whole) r.ends in
    let each : Each is_of_line (47 ∷ 47 ∷ t.0) = subst (Each is_of_line) t.1 r.each in
    let size : length (47 ∷ 47 ∷ t.0) ≡ len = sym (ap length t.1) ∙ r.size in
    gap_piece bytes (47 ∷ 47 ∷ t.0) (drop len bytes) len (r.whole ∙ ap (λ x. x ++ drop len bytes) t.1) size p (omega (arith, size))
    (λ a l. line_comment t.0 (drop len bytes) each.1.1 r.ends l)

star : (bytes : List ℕ) → begins_comment bytes ≡ true → (get_or bytes 1 0 ≡ 47 → ⊥) → bytes ≡ 47 ∷ 42 ∷ drop 2 bytes
star bytes h none =
    let s = slash bytes h in
    let d : s.rest ≡ drop 2 bytes = sym (ap (drop 2) s.whole) in
    elim s.is [
      | inl e ↦ absurd (none (ap (λ x. get_or x 1 0) s.whole ∙ e))
      | inr e ↦ s.whole ∙ ap (λ x. 47 ∷ x ∷ s.rest) e ∙ ap (λ x. 47 ∷ 42 ∷ x) d
    ]

pub closed_piece : (p : Place) (bytes : List ℕ) (i : ℕ) → begins_comment bytes ≡ true → (get_or bytes 1 0 ≡ 47 → ⊥) →
    IsFirstEnd (drop 2 bytes) i → IsPiece p bytes (Gap (i + 4))
closed_piece p bytes i h none f =
    let inside = take i (drop 2 bytes) in
    let rest = drop (i + 2) (drop 2 bytes) in
    let a : (inside ++ codes "*/") ++ rest ≡ inside ++ (codes "*/" ++ rest) = append_assoc inside (codes "*/") rest in
    let n : length inside ≡ i = length-take-le i (drop 2 bytes) (omega (arith, f.within)) in
    let m : length (inside ++ codes "*/") ≡ length inside + 2 = length-append inside (codes "*/") in
    let w : bytes ≡ (codes "/*" ++ (inside ++ codes "*/")) ++ rest = star bytes h none ∙ ap (λ x. 47 ∷ 42 ∷ x) (f.whole ∙ sym a) in
    gap_piece bytes (codes "/*" ++ (inside ++ codes "*/")) rest (i + 4) w (omega (arith, m, n)) p (omega arith)
    (λ r l. subst (λ x. IsLexed p x r) (ap (λ x. 47 ∷ 42 ∷ x) (sym a)) (comment inside rest f.first l))

pub open_fault : (p : Place) (bytes : List ℕ) → begins_comment bytes ≡ true → (get_or bytes 1 0 ≡ 47 → ⊥) → HasNoEnd (drop 2 bytes) →
    IsLexed p bytes (Err (OpenComment p.at))
open_fault p bytes h none f = subst (λ x. IsLexed p x (Err (OpenComment p.at))) (sym (star bytes h none)) (open_comment (drop 2 bytes) f)

-- marks
pub mark_piece : (p : Place) (bytes : List ℕ) (m : Punct) → begins_comment bytes ≡ false → IsMarkAt bytes m →
    IsPiece p bytes (Token (Mark m) (length (mark_text m)))
mark_piece p bytes m none h =
    let s = mark_size m in
    token_piece bytes (mark_text m) h.rest (length (mark_text m)) h.whole refl p (Mark m) (omega (arith, s.least)) refl
    (mark_longest m (mark_text m) h.rest refl h.longest) tt none

pub byte_fault : (p : Place) (bytes : List ℕ) → 0 < length bytes → is_blank (get_or bytes 0 0) ≡ false → is_letter (get_or bytes 0 0)
    ≡ false → is_digit (get_or bytes 0 0) ≡ false → (get_or bytes 0 0 ≡ 35 → ⊥) →
    begins_comment bytes ≡ false → HasNoMark bytes → IsLexed p bytes (Err (BadByte p.at))
byte_fault p bytes some h l d s c m =
    let b = get_or bytes 0 0 in
    let e : bytes ≡ b ∷ drop 1 bytes = first_of_some bytes (omega (arith, some)) in
    subst (λ x. IsLexed p x (Err (BadByte p.at))) (sym e)
    (bad h (sym (ap begins_comment e) ∙ c) (λ _ i. s (ap (λ x. get_or x 0 0) i.whole))
    (no_lexeme b (drop 1 bytes) l d (subst HasNoMark e m)))
