-- The tokens of the workload program, line by line.
use Rattle.std.specs.Prelude.{◌≡◌, ℕ, suc, zero, ◌+◌, ◌%◌, ◌<◌, ◌≤◌, List, [], ◌∷◌, ◌++◌, length, Bool, true, false, ◌==◌, if◌then◌else◌, refl, codes, pos, map}
use Rattle.std.specs.List.{flat_map, range_with_len, list_all}
use Rattle.std.specs.Fmt.{decimal, digits}
use Rattle.std.proofs.Common.{drop, sym, ◌∙◌, ap, subst, arith, append_assoc, append-nil, inl, inr}
use Rattle.std.proofs.lemmas.Bool.{and_parts, cases_lt}
use Rattle.std.proofs.lemmas.Grind.{flat_map-append}
use Rattle.std.proofs.lemmas.List.Folds.{flat_map-map}
use Rattle.c_lexer.specs.declared.token.Keyword.{Keyword}
use Rattle.c_lexer.specs.declared.token.Keyword.TheVariants.{Int, If, Return}
use Rattle.c_lexer.specs.declared.token.Punct.{Punct}
use Rattle.c_lexer.specs.declared.token.Punct.TheVariants.{OpenParenthesis, CloseParenthesis, OpenBrace, CloseBrace, Semicolon, Assign, Minus, LessEqual, Greater, Equal, Unequal}
use Rattle.c_lexer.specs.declared.token.TokenKind.TheVariants.{Name, Literal, Word, Mark}
use Rattle.c_lexer.specs.Lexing.{keyword_text, mark_text, IsTokens}
use Rattle.c_lexer.specs.declared.token.Token.{Token}
use Rattle.c_lexer.specs.Pure.{PureToken, pure_tokens}
use Rattle.workload_gen.specs.Workload.{numbers, safe_line, failing_line, procedure_line, call_of, main_line, workload_lines, ended, text_of}
use Rattle.workload_accepted.proofs.WorkloadPieces.{Piece, gap, lexeme, spelled, AllStand, Places, placed, pieces_have_tokens, placed_append}
use Rattle.workload_accepted.proofs.WorkloadTest.{fits, spelled-append, fits_stand}

-- Pieces

abbrev space : Piece
space = gap 32

abbrev word : Keyword → Piece
word w = lexeme (Word w) (keyword_text w)

abbrev mark : Punct → Piece
mark m = lexeme (Mark m) (mark_text m)

abbrev name : List ℕ → Piece
name x = lexeme Name x

abbrev number : ℕ → List ℕ → Piece
number n text = lexeme (Literal (pos n)) text

-- the name of procedure i
abbrev pub name_of : ℕ → List ℕ
name_of i = codes "p" ++ decimal i

-- what procedure i asserts of its argument: where 3 divides i, that it isn't -i
abbrev condition_pieces : Bool → ℕ → List Piece
condition_pieces true i = mark Unequal ∷ space ∷ mark Minus ∷ number i (decimal i) ∷ []
condition_pieces false i = mark LessEqual ∷ space ∷ number 0 (codes "0") ∷ []

-- where its argument is positive a procedure returns 1
abbrev pub guard_pieces : List Piece
guard_pieces =
    word If ∷ space ∷ mark OpenParenthesis ∷ name (codes "a") ∷ space ∷ mark Greater ∷ space ∷ number 0 (codes "0") ∷ mark CloseParenthesis
    ∷ space ∷ mark OpenBrace ∷ space ∷ word Return ∷ space ∷ number 1 (codes "1") ∷ mark Semicolon ∷ space ∷ mark CloseBrace ∷ []

abbrev pub procedure_pieces : Bool → ℕ → List Piece
procedure_pieces b i =
    word Int ∷ space ∷ name (name_of i) ∷ mark OpenParenthesis ∷ word Int ∷ space ∷ name (codes "a") ∷ mark CloseParenthesis ∷ space
    ∷ mark OpenBrace ∷ space ∷ (guard_pieces ++ space ∷ name (codes "assert") ∷ mark OpenParenthesis ∷ name (codes "a") ∷ space
    ∷ (condition_pieces b i ++ mark CloseParenthesis ∷ mark Semicolon ∷ space ∷ word Return ∷ space ∷ number 0 (codes "0")
    ∷ mark Semicolon ∷ space ∷ mark CloseBrace ∷ gap 10 ∷ []))

abbrev pub line_pieces : ℕ → List Piece
line_pieces i = procedure_pieces (i % 3 == 0) i

abbrev pub call_pieces : ℕ → List Piece
call_pieces i =
    space ∷ word If ∷ space ∷ mark OpenParenthesis ∷ name (codes "k") ∷ space ∷ mark Equal ∷ space ∷ number i (decimal i)
    ∷ mark CloseParenthesis ∷ space ∷ mark OpenBrace ∷ space ∷ name (name_of i) ∷ mark OpenParenthesis ∷ name (codes "v")
    ∷ mark CloseParenthesis ∷ mark Semicolon ∷ space ∷ mark CloseBrace ∷ []

-- a variable that is read
abbrev reading : List ℕ → List Piece
reading x = space ∷ word Int ∷ space ∷ name x ∷ space ∷ mark Assign ∷ space ∷ name (codes "input") ∷ mark OpenParenthesis
    ∷ mark CloseParenthesis ∷ mark Semicolon ∷ []

abbrev pub head_pieces : List Piece
head_pieces = word Int ∷ space ∷ name (codes "main") ∷ mark OpenParenthesis ∷ mark CloseParenthesis ∷ space ∷ mark OpenBrace
    ∷ (reading (codes "k") ++ reading (codes "v"))

-- how `main` ends, but for its line feed
abbrev last_pieces : List Piece
last_pieces = space ∷ word Return ∷ space ∷ number 0 (codes "0") ∷ mark Semicolon ∷ space ∷ mark CloseBrace ∷ []

abbrev pub tail_pieces : List Piece
tail_pieces = last_pieces ++ gap 10 ∷ []

abbrev workload_pieces : ℕ → List Piece
workload_pieces n = flat_map line_pieces (numbers n) ++ (head_pieces ++ (flat_map call_pieces (numbers n) ++ tail_pieces))

-- Their text is that of the program

spelled_line : (i : ℕ) → spelled (line_pieces i) ≡ ended (procedure_line i)
spelled_line i = by_choice (i % 3 == 0)
  where
    by_choice : (b : Bool) → spelled (procedure_pieces b i) ≡ ended (if b then failing_line i else safe_line i)
    by_choice true = simp append_assoc
    by_choice false = simp append_assoc

spelled_all : (f : ℕ → List Piece) (g : ℕ → List ℕ) → ((i : ℕ) → spelled (f i) ≡ g i) → (xs : List ℕ) →
    spelled (flat_map f xs) ≡ flat_map g xs
spelled_all f g same [] = refl
spelled_all f g same (x ∷ xs) = spelled-append (f x) (flat_map f xs) ∙ ap (λ t. t ++ spelled (flat_map f xs)) (same x)
    ∙ ap (λ t. g x ++ t) (spelled_all f g same xs)

spelled_main : (n : ℕ) → spelled (head_pieces ++ (flat_map call_pieces (numbers n) ++ tail_pieces)) ≡ ended (main_line n)
spelled_main n =
    let calls = spelled_all call_pieces call_of (λ i. refl) (numbers n) in
    let main = codes "int main() { int k = input(); int v = input();" in
    ap (λ t. main ++ t) (spelled-append (flat_map call_pieces (numbers n)) tail_pieces ∙ ap (λ t. t ++ spelled tail_pieces) calls)
    ∙ sym (simp append_assoc)

spelled_whole : (n : ℕ) → spelled (workload_pieces n) ≡ text_of (workload_lines n)
spelled_whole n =
    let lines = map procedure_line (numbers n) in
    let main = head_pieces ++ (flat_map call_pieces (numbers n) ++ tail_pieces) in
    let each = spelled_all line_pieces (λ i. ended (procedure_line i)) spelled_line (numbers n) in
    let here : text_of (workload_lines n) ≡ flat_map (λ i. ended (procedure_line i)) (numbers n) ++ ended (main_line n) =
    flat_map-append ended lines (main_line n ∷ []) ∙ ap (λ t. t ++ (ended (main_line n) ++ []))
    (flat_map-map ended procedure_line (numbers n))
    ∙ ap (λ t. flat_map (λ i. ended (procedure_line i)) (numbers n) ++ t) (append-nil (ended (main_line n))) in
    spelled-append (flat_map line_pieces (numbers n)) main ∙ ap (λ t. t ++ spelled main) each
    ∙ ap (λ t. flat_map (λ i. ended (procedure_line i)) (numbers n) ++ t) (spelled_main n) ∙ sym here

-- They stand: each line and each call of the sixty passes the test

-- the text of the pieces begins with this byte
abbrev Begins : ℕ → List Piece → Type 0
Begins b ps = spelled ps ≡ b ∷ drop 1 (spelled ps)

begins_still : (b : ℕ) (ps qs : List Piece) → Begins b ps → Begins b (ps ++ qs)
begins_still b ps qs h =
    let e : spelled (ps ++ qs) ≡ b ∷ (drop 1 (spelled ps) ++ spelled qs) = spelled-append ps qs ∙ ap (λ t. t ++ spelled qs) h in
    e ∙ sym (ap (λ t. b ∷ drop 1 t) e)

passes_within : (test : ℕ → Bool) (n a i : ℕ) → list_all test (range_with_len a n) ≡ true → a ≤ i → i < a + n → test i ≡ true
passes_within test zero a i h le lt = absurd (omega arith)
passes_within test (suc n) a i h le lt =
    let k = and_parts (test a) (list_all test (range_with_len (a + 1) n)) h in
    elim (cases_lt a i) [
      | inl less ↦ passes_within test n (a + 1) i k.1 (omega arith) (omega arith)
      | inr same ↦ let e : a ≡ i = omega arith in subst (λ j. test j ≡ true) e k.0
    ]

-- pieces for the numbers from a on, each of which begins with the byte after the one before
module _ (f : ℕ → List Piece) (b : ℕ) (each : (i : ℕ) → 1 ≤ i → i ≤ 60 → fits b (f i) ≡ true) (begins : (i : ℕ) → Begins b (f i))
    (qs : List Piece) (follows : Begins b qs) (stand : AllStand qs) where
  all_stand : (n a : ℕ) → 1 ≤ a → a + n ≤ 61 → Begins b (flat_map f (range_with_len a n) ++ qs)
      × AllStand (flat_map f (range_with_len a n) ++ qs)
  all_stand zero a some few = (follows, stand)
  all_stand (suc n) a some few =
      let more = flat_map f (range_with_len (a + 1) n) in
      let rest = all_stand n (a + 1) (omega arith) (omega arith) in
      let e = sym (append_assoc (f a) more qs) in (
        subst (Begins b) e (begins_still b (f a) (more ++ qs) (begins a)),
        subst AllStand e (fits_stand b (more ++ qs) (drop 1 (spelled (more ++ qs))) rest.0 rest.1 (f a) (each a some (omega arith))),
      )

lines_fit : list_all (λ i. fits 105 (line_pieces i)) (range_with_len 1 60) ≡ true
unfolding digits
lines_fit = refl

calls_fit : list_all (λ i. fits 32 (call_pieces i)) (range_with_len 1 60) ≡ true
unfolding digits
calls_fit = refl

line_begins : (i : ℕ) → Begins 105 (line_pieces i)
line_begins i = by_choice (i % 3 == 0)
  where
    by_choice : (b : Bool) → Begins 105 (procedure_pieces b i)
    by_choice true = refl
    by_choice false = refl

whole_stands : (n : ℕ) → n ≤ 60 → AllStand (workload_pieces n)
whole_stands n few =
    let tail = fits_stand 10 (gap 10 ∷ []) [] refl (refl, tt) last_pieces refl in
    let calls = all_stand call_pieces 32 (λ i le lt. passes_within (λ j. fits 32 (call_pieces j)) 60 1 i calls_fit le (omega arith))
    (λ i. refl) tail_pieces refl tail n 1 (omega arith) (omega arith) in
    let behind_head = flat_map call_pieces (numbers n) ++ tail_pieces in
    let main = fits_stand 32 behind_head (drop 1 (spelled behind_head)) calls.0 calls.1 head_pieces refl in
    (all_stand line_pieces 105 (λ i le lt. passes_within (λ j. fits 105 (line_pieces j)) 60 1 i lines_fit le (omega arith)) line_begins
    (head_pieces ++ behind_head) refl main n 1 (omega arith) (omega arith)).1

-- The tokens, line by line and call by call

-- the tokens of pieces for the numbers from a on, at places of their own
abbrev pub placed_all : (ℕ → List Piece) → ℕ → List Places → List PureToken
placed_all f a [] = []
placed_all f a (at ∷ ats) = placed at (f a) ++ placed_all f (a + 1) ats

-- the tokens of such pieces, and those of the rest
record Cut (f : ℕ → List Piece) (n a : ℕ) (at : Places) (qs : List Piece) : Type 0 where
  all : List Places
  size : length all ≡ n
  next : Places
  whole : placed at (flat_map f (range_with_len a n) ++ qs) ≡ placed_all f a all ++ placed next qs

cut : (f : ℕ → List Piece) (n a : ℕ) (at : Places) (qs : List Piece) → Cut f n a at qs
cut f zero a at qs = record { all = []; size = refl; next = at; whole = refl }
cut f (suc n) a at qs =
    let more = flat_map f (range_with_len (a + 1) n) in
    let r = placed_append (f a) (more ++ qs) at in
    let c = cut f n (a + 1) r.0 qs in
    record {
      all = at ∷ c.all;
      size = ap (λ k. suc k) c.size;
      next = c.next;
      whole = ap (placed at) (append_assoc (f a) more qs) ∙ r.1 ∙ ap (λ ts. placed at (f a) ++ ts) c.whole
          ∙ sym (append_assoc (placed at (f a)) (placed_all f (a + 1) c.all) (placed c.next qs));
    }

-- where the tokens of the program stand: of the lines of its procedures, before the calls in `main`, of the calls, and after them
pub record Spots : Type 0 where
  pub lines : List Places
  pub head : Places
  pub calls : List Places
  pub tail : Places

abbrev pub main_tokens : Places → List Places → Places → List PureToken
main_tokens head calls tail = placed head head_pieces ++ (placed_all call_pieces 1 calls ++ placed tail tail_pieces)

abbrev pub workload_tokens : Spots → List PureToken
workload_tokens s = placed_all line_pieces 1 s.lines ++ main_tokens s.head s.calls s.tail

pub record HasWorkloadTokens (n : ℕ) : Type 0 where
  pub tokens : List Token
  pub lexed : IsTokens (text_of (workload_lines n)) tokens
  pub spots : Spots
  pub lines : length spots.lines ≡ n
  pub calls : length spots.calls ≡ n
  pub pure : pure_tokens (text_of (workload_lines n)) tokens ≡ workload_tokens spots

pub workload_has_tokens : (n : ℕ) → n ≤ 60 → HasWorkloadTokens n
workload_has_tokens n few =
    let h = pieces_have_tokens (text_of (workload_lines n)) (workload_pieces n) (spelled_whole n) (whole_stands n few) in
    let lines = cut line_pieces n 1 h.at (head_pieces ++ (flat_map call_pieces (numbers n) ++ tail_pieces)) in
    let head = placed_append head_pieces (flat_map call_pieces (numbers n) ++ tail_pieces) lines.next in
    let calls = cut call_pieces n 1 head.0 tail_pieces in
    record {
      tokens = h.tokens;
      lexed = h.lexed;
      spots = record { lines = lines.all; head = lines.next; calls = calls.all; tail = calls.next };
      lines = lines.size;
      calls = calls.size;
      pure = h.pure ∙ lines.whole ∙ ap (λ ts. placed_all line_pieces 1 lines.all ++ ts)
          (head.1 ∙ ap (λ ts. placed lines.next head_pieces ++ ts) calls.whole);
    }
