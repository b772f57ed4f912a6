-- The tokens of a text can be read.
use Rattle.std.specs.Prelude.{◌≡◌, ℕ, zero, suc, ◌+◌, ◌-◌, ◌<◌, ◌≤◌, List, [], ◌∷◌, ◌++◌, length, take, true, Some, Result, Ok, Err, All, slice_get, slice_range, codes, ℤ, pos, ◌≤ℤ◌, refl}
use Rattle.std.proofs.Common.{sym, ◌∙◌, ap, subst, arith, drop, append_assoc, length-append}
use Rattle.std.proofs.Math.Seq.{take-append_seam}
use Rattle.std.proofs.lemmas.Bool.Decides.{nat_tests}
use Rattle.std.proofs.lemmas.Int.{ints}
use Rattle.c_lexer.specs.declared.token.Token as the_token
use Rattle.c_lexer.specs.declared.token.TokenKind.TheVariants as kind
use Rattle.c_lexer.specs.declared.token.LexError.{LexError}
use Rattle.c_lexer.specs.declared.token.Place.{Place}
use Rattle.c_lexer.specs.Answer.{StandBetween}
use Rattle.c_lexer.specs.Lexing.{is_letter, is_name_byte, Each, IsToken, after, token_at, with_token, IsLexed, end, blank, line_comment, comment, open_comment, include_line, token, wide, glued, bad, IsTokens}
use Rattle.c_lexer.proofs.Loop.{after-offset, in_order}
use Rattle.c_parser.specs.steps.Readable.{AreReadable}

abbrev Answers : Type 0
Answers = Result (List the_token.Token) LexError

letter_ascii : (b : ℕ) → is_letter b ≡ true → b < 128
letter_ascii b h = grind (arith, nat_tests)

byte_ascii : (b : ℕ) → is_name_byte b ≡ true → b < 128
byte_ascii b h = grind (arith, nat_tests)

each_ascii : (xs : List ℕ) → Each is_name_byte xs → All (λ b. b < 128) xs
each_ascii [] h k d lt = absurd (omega arith)
each_ascii (x ∷ xs) h zero d lt = byte_ascii x h.0
each_ascii (x ∷ xs) h (suc k) d lt = each_ascii xs h.1 k d (omega arith)

name_ascii : (text : List ℕ) → IsToken kind.Name text → All (λ b. b < 128) text
name_ascii [] h k d lt = absurd (omega arith)
name_ascii (x ∷ xs) h zero d lt = letter_ascii x (let w = h.0 in w.0)
name_ascii (x ∷ xs) h (suc k) d lt = each_ascii xs (let w = h.0 in w.1) k d (omega arith)

drop-front : (xs ys : List ℕ) → drop (length xs) (xs ++ ys) ≡ ys
drop-front [] ys = refl
drop-front (x ∷ xs) ys = drop-front xs ys

range-middle : (front text rest : List ℕ) → slice_range (front ++ (text ++ rest)) (length front) (length front + length text) ≡ text
range-middle front text rest =
    let n : length front + length text - length front ≡ length text = omega arith in
    ap (λ k. take k (drop (length front) (front ++ (text ++ rest)))) n ∙ ap (take (length text)) (drop-front front (text ++ rest))
    ∙ take-append_seam text rest

literal_natural : (n : ℤ) (text : List ℕ) → IsToken (kind.Literal n) text → pos 0 ≤ℤ n
literal_natural n text h = let e : n ≡ pos h.0 = h.2 in omega (arith, ints, e)

-- a name is of ASCII, and a literal isn't below 0
record IsPlain (bytes : List ℕ) (t : the_token.Token) : Type 0 where
  ascii : t.kind ≡ kind.Name → All (λ b. b < 128) (slice_range bytes t.from t.to)
  natural : (n : ℤ) → t.kind ≡ kind.Literal n → pos 0 ≤ℤ n

abbrev ArePlain : List ℕ → List the_token.Token → Type 0
ArePlain bytes ts = (k : ℕ) (t : the_token.Token) → slice_get ts k ≡ Some t → IsPlain bytes t

no_tokens : (f : LexError) (ts : List the_token.Token) → (let x : Answers = Err f in x) ≡ Ok ts → ⊥
no_tokens f ts e = cc

ok_tail : (t : the_token.Token) (r : Answers) (ts : List the_token.Token) → with_token t r ≡ Ok ts → (us : List the_token.Token)
    × (r ≡ Ok us) × (ts ≡ t ∷ us)
ok_tail t (Ok us) ts e = (us, refl, sym (the_list (t ∷ us) ts e))
  where
    the_list : (a b : List the_token.Token) → (let x : Answers = Ok a in x) ≡ Ok b → a ≡ b
    the_list a b e = cc
ok_tail t (Err f) ts e = cc

none_plain : (bytes : List ℕ) (ts : List the_token.Token) → (let x : Answers = Ok [] in x) ≡ Ok ts → ArePlain bytes ts
none_plain bytes [] e k t g = cc
none_plain bytes (x ∷ xs) e k t g = cc

-- after a text that gives no token
skipped : (front text rest : List ℕ) (p : Place) (ts : List the_token.Token) → p.offset ≡ length front →
    ((more : List ℕ) → (after p text).offset ≡ length more → ArePlain (more ++ rest) ts) → ArePlain (front ++ (text ++ rest)) ts
skipped front text rest p ts o rec =
    let n : (after p text).offset ≡ length (front ++ text) = after-offset p text ∙ ap (λ m. m + length text) o
    ∙ sym (length-append front text)
    in
    subst (λ l. ArePlain l ts) (append_assoc front text rest) (rec (front ++ text) n)

all_plain : {p : Place} {xs : List ℕ} {r : Answers} → IsLexed p xs r → (front : List ℕ) → p.offset ≡ length front →
    (ts : List the_token.Token) → r ≡ Ok ts → ArePlain (front ++ xs) ts
all_plain end front o ts e = none_plain (front ++ []) ts e
all_plain {p} (blank {b = b} {bytes} h l) front o ts e = skipped front (b ∷ []) bytes p ts o (λ more n. all_plain l more n ts e)
all_plain {p} (line_comment text rest c f l) front o ts e =
    subst (λ x. ArePlain (front ++ x) ts) (append_assoc (codes "//") text rest) (skipped front (codes "//" ++ text) rest p ts o
    (λ more n. all_plain l more n ts e))
all_plain {p} (comment text rest c l) front o ts e =
    subst (λ x. ArePlain (front ++ x) ts) (append_assoc (codes "/*") (text ++ codes "*/") rest ∙ ap (λ x. codes "/*" ++ x)
    (append_assoc text (codes "*/") rest))
    (skipped front (codes "/*" ++ (text ++ codes "*/")) rest p ts o (λ more n. all_plain l more n ts e))
all_plain (open_comment text c) front o ts e = absurd (no_tokens _ ts e)
all_plain {p} (include_line text rest h i c f l) front o ts e = skipped front text rest p ts o (λ more n. all_plain l more n ts e)
all_plain {p} (token {r = r} k text rest t long parts none l) front o ts e =
    let w = ok_tail (token_at p k text) r ts e in
    let others : ArePlain (front ++ (text ++ rest)) w.0 = skipped front text rest p w.0 o (λ more n. all_plain l more n w.0 w.1) in
    subst (λ us. ArePlain (front ++ (text ++ rest)) us) (sym w.2) (first_of w.0 others)
  where
    here : k ≡ kind.Name → All (λ b. b < 128) (slice_range (front ++ (text ++ rest)) p.offset (p.offset + length text))
    here q =
        let a : All (λ b. b < 128) text = name_ascii text (subst (λ x. IsToken x text) q t) in
        let s : slice_range (front ++ (text ++ rest)) p.offset (p.offset + length text)
        ≡ text = ap (λ n. slice_range (front ++ (text ++ rest)) n (n + length text)) o ∙ range-middle front text rest in
        subst (λ l. All (λ b. b < 128) l) (sym s) a

    first_of : (us : List the_token.Token) → ArePlain (front ++ (text ++ rest)) us →
        ArePlain (front ++ (text ++ rest)) (token_at p k text ∷ us)
    first_of us others zero u g =
        let q : token_at p k text ≡ u = cc in
        subst (λ (x : the_token.Token). IsPlain (front ++ (text ++ rest)) x) q
        (record { ascii = here; natural = λ n i. literal_natural n text (subst (λ x. IsToken x text) i t) })
    first_of us others (suc j) u g = others j u g
all_plain (wide n text rest d long ends big) front o ts e = absurd (no_tokens _ ts e)
all_plain (glued n b text rest d long h) front o ts e = absurd (no_tokens _ ts e)
all_plain (bad x y z w) front o ts e = absurd (no_tokens _ ts e)

record IsOrdered (n : ℕ) (t : the_token.Token) : Type 0 where
  ordered : t.from ≤ t.to
  within : t.to ≤ n

stands_ordered : (a n : ℕ) (ts : List the_token.Token) → StandBetween a n ts → (k : ℕ) (t : the_token.Token) → slice_get ts k ≡ Some t →
    IsOrdered n t
stands_ordered a n [] h k t e = cc
stands_ordered a n (x ∷ ts) h zero t e =
    let q : x ≡ t = cc in subst (λ y. IsOrdered n y) q (record { ordered = omega (arith, h.1); within = h.2 })
stands_ordered a n (x ∷ ts) h (suc k) t e = stands_ordered x.to n ts h.3 k t e

pub readable : (bytes : List ℕ) (ts : List the_token.Token) → IsTokens bytes ts → AreReadable bytes ts
readable bytes ts l k t e =
    let o = stands_ordered 0 (length bytes) ts (in_order bytes ts l) k t e in
    let p = all_plain l [] refl ts refl k t e in
    record { ordered = o.ordered; within = o.within; ascii = p.ascii; natural = p.natural }
