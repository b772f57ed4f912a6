-- A text has one answer.
use Rattle.std.specs.Prelude.{◌≡◌, ℕ, ◌^◌, ◌≤◌, List, [], ◌∷◌, ◌++◌, Result, Ok, Err, Bool, true, false, refl, cond, ◌==◌, ◌&&◌, ◌||◌, codes}
use Rattle.std.proofs.Common.{sym, ◌∙◌, ap, subst, arith, inl, inr, append-nil}
use Rattle.c_lexer.specs.declared.token.TokenKind.{TokenKind}
use Rattle.c_lexer.specs.declared.token.Token.{Token}
use Rattle.c_lexer.specs.declared.token.Place.{Place}
use Rattle.c_lexer.specs.declared.token.LexError.{LexError}
use Rattle.c_lexer.specs.declared.token.LexError.TheVariants.{BadByte}
use Rattle.c_lexer.specs.Lexing.{after_byte, after, is_blank, is_of_line, is_name_byte, RunEnds, IsLiteral, IsLexeme, IsLongest, IsToken, Parts, HasNoEnd, begins_comment, BeginsInclude, token_at, with_token, IsLexed, end, blank, line_comment, comment, open_comment, include_line, token, wide, glued, bad, IsTokens, HasFault, first_place}
use Rattle.c_lexer.proofs.Lists.{overlap, same_run, cancel}
use Rattle.c_lexer.proofs.Lexemes.{lexeme_head, token_lexeme, literal_no_comment, same_kind, literal_parts, same_text}

abbrev pub Answers : Type 0
Answers = Result (List Token) LexError

-- the sort of what stands first in a text: nothing, white space, one of the comments, or something else
abbrev other_sort : ℕ
other_sort = 4

abbrev slash_sort : List ℕ → ℕ
slash_sort [] = 4
slash_sort (c ∷ cs) = cond (c == 47) 2 (cond (c == 42) 3 4)

abbrev sort : List ℕ → ℕ
sort [] = 0
sort (b ∷ bs) = cond (is_blank b) 1 (cond (b == 47) (slash_sort bs) 4)

abbrev number : {p : Place} {xs : List ℕ} {r : Answers} → IsLexed p xs r → ℕ
number end = 0
number (blank h l) = 1
number (line_comment text rest e f l) = 2
number (comment text rest e l) = 3
number (open_comment text e) = 3
number (include_line text rest h i e f l) = 4
number (token k text rest t long parts none l) = 4
number (wide n text rest d long ends big) = 4
number (glued n b text rest d long h) = 4
number (bad x y z w) = 4

by_tests : (x y z : Bool) → (x && (y || z)) ≡ false → other_sort ≡ cond x (cond y 2 (cond z 3 4)) 4
by_tests false y z h = refl
by_tests true true z h = cc
by_tests true false true h = cc
by_tests true false false h = refl

one_way : (x : Bool) → other_sort ≡ cond x 4 4
one_way true = refl
one_way false = refl

no_comment : (b : ℕ) (bytes : List ℕ) → is_blank b ≡ false → begins_comment (b ∷ bytes) ≡ false → 4 ≡ sort (b ∷ bytes)
no_comment b [] x y = one_way (b == 47) ∙ ap (λ v. cond v 1 (cond (b == 47) 4 4)) (sym x)
no_comment b (c ∷ cs) x y = by_tests (b == 47) (c == 47) (c == 42) y ∙ ap (λ v. cond v 1 (cond (b == 47) (slash_sort (c ∷ cs)) 4)) (sym x)

sort_of : (text rest : List ℕ) → IsLexeme text → begins_comment (text ++ rest) ≡ false → 4 ≡ sort (text ++ rest)
sort_of text rest l none =
    let d = lexeme_head text l in
    no_comment d.byte (d.bytes ++ rest) d.blanks (sym (ap (λ t. begins_comment (t ++ rest)) d.is) ∙ none)
    ∙ sym (ap (λ t. sort (t ++ rest)) d.is)

sorted : {p : Place} {xs : List ℕ} {r : Answers} → (l : IsLexed p xs r) → number l ≡ sort xs
sorted end = refl
sorted (blank {b = b} {bytes = bytes} h l) = ap (λ x. cond x 1 (cond (b == 47) (slash_sort bytes) 4)) (sym h)
sorted (line_comment text rest e f l) = refl
sorted (comment text rest e l) = refl
sorted (open_comment text e) = refl
sorted (include_line text rest h i e f l) = ap sort (sym i.whole)
sorted (token k text rest t long parts none l) = sort_of text rest (token_lexeme k text t) none
sorted (wide n text rest d long ends big) = sort_of text rest (inr (inl (n, d))) (literal_no_comment text rest n d)
sorted (glued n b text rest d long h) = sort_of text (b ∷ rest) (inr (inl (n, d))) (literal_no_comment text (b ∷ rest) n d)
sorted (bad {b = b} {bytes = bytes} x y z w) = no_comment b bytes x y

moved_to : {p q : Place} {xs : List ℕ} {r : Answers} → p ≡ q → IsLexed p xs r → IsLexed q xs r
moved_to {xs = xs} {r = r} e l = subst (λ p. IsLexed p xs r) e l

glued_ends : (b : ℕ) (rest more : List ℕ) → more ≡ b ∷ rest → is_name_byte b ≡ true → RunEnds is_name_byte more → ⊥
glued_ends b rest more e h ends = let f : is_name_byte b ≡ false = subst (λ x. RunEnds is_name_byte x) e ends in let n : false
    ≡ true = sym f
    ∙ h in cc

token_wide : (k : TokenKind) (n : ℕ) (text rest other more : List ℕ) → text ++ rest ≡ other ++ more → IsToken k text → IsLongest text rest →
    Parts k rest → IsLiteral other n → IsLongest other more → 2 ^ 63 ≤ n → ⊥
token_wide k n text rest other more e t long parts d long' big =
    let w = same_text text other rest more e (token_lexeme k text t) long (inr (inl (n, d))) long' in
    let p = literal_parts k text rest n (subst (λ x. IsLiteral x n) (sym w.0) d) t parts in
    omega (arith, p.narrow, big)

token_glued : (k : TokenKind) (n b : ℕ) (text rest other more : List ℕ) → text ++ rest ≡ other ++ b ∷ more → IsToken k text →
    IsLongest text rest → Parts k rest → IsLiteral other n → IsLongest other (b ∷ more) → is_name_byte b ≡ true → ⊥
token_glued k n b text rest other more e t long parts d long' h =
    let w = same_text text other rest (b ∷ more) e (token_lexeme k text t) long (inr (inl (n, d))) long' in
    let p = literal_parts k text rest n (subst (λ x. IsLiteral x n) (sym w.0) d) t parts in glued_ends b more rest w.1 h p.ends

wide_glued : (m n b : ℕ) (text rest other more : List ℕ) → text ++ rest ≡ other ++ b ∷ more → IsLiteral text m → IsLongest text rest →
    RunEnds is_name_byte rest → IsLiteral other n → IsLongest other (b ∷ more) → is_name_byte b ≡ true → ⊥
wide_glued m n b text rest other more e d long ends d' long' h =
    let w = same_text text other rest (b ∷ more) e (inr (inl (m, d))) long (inr (inl (n, d'))) long' in glued_ends b more rest w.1 h ends

-- an include line begins with no lexeme
include_lexeme : (bytes text rest : List ℕ) → BeginsInclude bytes → bytes ≡ text ++ rest → IsLexeme text → ⊥
include_lexeme bytes text rest i e l =
    let d = lexeme_head text l in
    let q : 35 ≡ d.byte = same_head 35 d.byte (i.gap ++ (codes "include" ++ i.rest)) (d.bytes ++ rest)
    (sym i.whole ∙ e ∙ ap (λ t. t ++ rest) d.is) in
    let f : true ≡ false = ap (λ b. b == 35) q ∙ d.sharp in cc
  where
    same_head : (x y : ℕ) (xs ys : List ℕ) → x ∷ xs ≡ y ∷ ys → x ≡ y
    same_head x y xs ys e = cc

-- the first end of a comment is one
closed_open : (a x b : List ℕ) → a ++ (codes "*/" ++ x) ≡ b → HasNoEnd b → ⊥
closed_open a x b e h = h a x (sym e)

gap_none : (c a x b y : List ℕ) → b ≡ a ++ c → codes "*/" ++ x ≡ c ++ (codes "*/" ++ y) → HasNoEnd b → c ≡ []
gap_none [] a x b y e q h = refl
gap_none (u ∷ []) a x b y e q h = let f : 47 ≡ 42 = second 42 47 u 42 x (47 ∷ y) q in absurd (omega (arith, f))
  where
    second : (p q u v : ℕ) (xs ys : List ℕ) → p ∷ q ∷ xs ≡ u ∷ v ∷ ys → q ≡ v
    second p q u v xs ys e = cc
gap_none (u ∷ v ∷ c) a x b y e q h =
    let r : u ∷ v ∷ c ≡ codes "*/" ++ c = heads 42 47 u v x (c ++ (codes "*/" ++ y)) c q in
    absurd (h a c (e ∙ ap (λ t. a ++ t) r))
  where
    heads : (p q u v : ℕ) (xs ys c : List ℕ) → p ∷ q ∷ xs ≡ u ∷ v ∷ ys → u ∷ v ∷ c ≡ p ∷ q ∷ c
    heads p q u v xs ys c e = cc

one_end : (a b x y : List ℕ) → a ++ (codes "*/" ++ x) ≡ b ++ (codes "*/" ++ y) → HasNoEnd a → HasNoEnd b → a ≡ b
one_end a b x y e ha hb = elim (overlap a b (codes "*/" ++ x) (codes "*/" ++ y) e) [
  | inl w ↦ sym (w.1 ∙ ap (λ c. a ++ c) (gap_none w.0 a x b y w.1 w.2 hb) ∙ append-nil a)
  | inr w ↦ w.1 ∙ ap (λ c. b ++ c) (gap_none w.0 b y a x w.1 w.2 ha) ∙ append-nil b
]

behind_end : (a b x y : List ℕ) → a ≡ b → a ++ (codes "*/" ++ x) ≡ b ++ (codes "*/" ++ y) → x ≡ y
behind_end a b x y e q = two (cancel b (codes "*/" ++ x) (codes "*/" ++ y) (sym (ap (λ t. t ++ (codes "*/" ++ x)) e) ∙ q))
  where
    two : 42 ∷ 47 ∷ x ≡ 42 ∷ 47 ∷ y → x ≡ y
    two e = cc

two_on : (p q : ℕ) (x y : List ℕ) → p ∷ q ∷ x ≡ p ∷ q ∷ y → x ≡ y
two_on p q x y e = cc

one : {p : Place} {xs ys : List ℕ} {r s : Answers} → IsLexed p xs r → IsLexed p ys s → xs ≡ ys → r ≡ s
one end end e = refl
one {p} (blank {b = b} {bytes = xs} h l) (blank {b = c} {bytes = ys} k m) e =
    let t : b ≡ c = cc in let u : xs ≡ ys = cc in
    one l (moved_to (ap (after_byte p) (sym t)) m) u
one {p} (line_comment text rest c f l) (line_comment other more d g m) e =
    let w = same_run is_of_line text other rest more (two_on 47 47 (text ++ rest) (other ++ more) e) c d f g in
    one l (moved_to (ap (λ t. after p (codes "//" ++ t)) (sym w.0)) m) w.1
one {p} (comment text rest c l) (comment other more d m) e =
    let q = two_on 47 42 (text ++ (codes "*/" ++ rest)) (other ++ (codes "*/" ++ more)) e in
    let w = one_end text other rest more q c d in
    one l (moved_to (ap (λ t. after p (codes "/*" ++ (t ++ codes "*/"))) (sym w)) m) (behind_end text other rest more w q)
one (comment text rest c l) (open_comment other d) e = absurd
    (closed_open text rest other (two_on 47 42 (text ++ (codes "*/" ++ rest)) other e)
    d)
one (open_comment other d) (comment text rest c l) e = absurd
    (closed_open text rest other (two_on 47 42 (text ++ (codes "*/" ++ rest)) other (sym e)) d)
one (open_comment text c) (open_comment other d) e = refl
one {p} (include_line text rest h i c f l) (include_line other more k j d g m) e =
    let w = same_run is_of_line text other rest more e c d f g in
    one l (moved_to (ap (after p) (sym w.0)) m) w.1
one (include_line text rest h i c f l) (token k other more u long parts none m) e = absurd (include_lexeme (text ++ rest) other more i e
    (token_lexeme k other u))
one (include_line text rest h i c f l) (wide n other more d long ends big) e = absurd (include_lexeme (text ++ rest) other more i e
    (inr (inl (n, d))))
one (include_line text rest h i c f l) (glued n b other more d long q) e = absurd (include_lexeme (text ++ rest) other (b ∷ more) i e
    (inr (inl (n, d))))
one (include_line text rest h i c f l) (bad x y z w) e = absurd (z h (subst BeginsInclude e i))
one (token k other more u long parts none m) (include_line text rest h i c f l) e = absurd
    (include_lexeme (text ++ rest) other more i (sym e)
    (token_lexeme k other u))
one (wide n other more d long ends big) (include_line text rest h i c f l) e = absurd (include_lexeme (text ++ rest) other more i (sym e)
    (inr (inl (n, d))))
one (glued n b other more d long q) (include_line text rest h i c f l) e = absurd (include_lexeme (text ++ rest) other (b ∷ more) i (sym e)
    (inr (inl (n, d))))
one (bad x y z w) (include_line text rest h i c f l) e = absurd (z h (subst BeginsInclude (sym e) i))
one {p} (token {r = first} k text rest t long parts none l) (token {r = second} j other more u long' parts' none' m) e =
    let w = same_text text other rest more e (token_lexeme k text t) long (token_lexeme j other u) long' in
    let q : k ≡ j = same_kind k j text t (subst (λ x. IsToken j x) (sym w.0) u) in
    let i = one l (moved_to (ap (after p) (sym w.0)) m) w.1 in
    ap (λ z. with_token (token_at p k text) z) i ∙ ap (λ z. with_token (token_at p z text) second) q
    ∙ ap (λ z. with_token (token_at p j z) second) w.0
one (token k text rest t long parts none l) (wide n other more d long' ends big) e = absurd (token_wide k n text rest other more e t long
    parts d
    long' big)
one (token k text rest t long parts none l) (glued n b other more d long' h) e = absurd (token_glued k n b text rest other more e t long
    parts d
    long' h)
one (token k text rest t long parts none l) (bad x y z w) e = absurd (w text rest (sym e) (token_lexeme k text t))
one (wide n other more d long' ends big) (token k text rest t long parts none l) e = absurd (token_wide k n text rest other more (sym e) t
    long
    parts d long' big)
one (wide n text rest d long ends big) (wide n' other more d' long' ends' big') e = refl
one (wide n text rest d long ends big) (glued n' b other more d' long' h) e = absurd (wide_glued n n' b text rest other more e d long ends
    d' long' h)
one (wide n text rest d long ends big) (bad x y z w) e = absurd (w text rest (sym e) (inr (inl (n, d))))
one (glued n b other more d long' h) (token k text rest t long parts none l) e = absurd (token_glued k n b text rest other more (sym e) t
    long
    parts d long' h)
one (glued n b other more d' long' h) (wide n' text rest d long ends big) e = absurd (wide_glued n' n b text rest other more (sym e) d long
    ends d' long' h)
one {p} (glued n b text rest d long h) (glued n' c other more d' long' h') e =
    let w = same_text text other (b ∷ rest) (c ∷ more) e (inr (inl (n, d))) long (inr (inl (n', d'))) long' in
    ap (λ x. Err (BadByte (after p x).at)) w.0
one (glued n c text rest d long h) (bad x y z w) e = absurd (w text (c ∷ rest) (sym e) (inr (inl (n, d))))
one (bad x y z w) (token k text rest t long parts none l) e = absurd (w text rest e (token_lexeme k text t))
one (bad x y z w) (wide n text rest d long ends big) e = absurd (w text rest e (inr (inl (n, d))))
one (bad x y z w) (glued n c text rest d long h) e = absurd (w text (c ∷ rest) e (inr (inl (n, d))))
one (bad x y z w) (bad x' y' z' w') e = refl
one a b e = absurd (omega (arith, sorted a, sorted b, ap sort e))

pub one_answer : (p : Place) (bytes : List ℕ) (r s : Answers) → IsLexed p bytes r → IsLexed p bytes s → r ≡ s
one_answer p bytes r s a b = one a b refl

pub one_list : (bytes : List ℕ) (ts us : List Token) → IsTokens bytes ts → IsTokens bytes us → ts ≡ us
one_list bytes ts us a b = let e : Ok ts ≡ Ok us = one_answer first_place bytes (Ok ts) (Ok us) a b in cc

pub no_fault : (bytes : List ℕ) (f : LexError) (ts : List Token) → HasFault bytes f → IsTokens bytes ts → ⊥
no_fault bytes f ts a b = let e : Err f ≡ Ok ts = one_answer first_place bytes (Err f) (Ok ts) a b in cc

pub one_fault : (bytes : List ℕ) (f g : LexError) → HasFault bytes f → HasFault bytes g → f ≡ g
one_fault bytes f g a b = let e : Err f ≡ Err g = one_answer first_place bytes (Err f) (Err g) a b in cc
