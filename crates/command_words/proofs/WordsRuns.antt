-- Bytes that pass a test, and texts that begin alike.
use Rattle.std.specs.Prelude.{◌≡◌, ℕ, zero, suc, ◌+◌, ◌-◌, ◌<◌, ◌≤◌, List, [], ◌∷◌, ◌++◌, length, take, Bool, true, false, refl, ◌==◌, ◌&&◌, not, replicate, Option, Some, None, IfSome, IfNone, Result, Ok, Err, IfOk}
use Rattle.std.specs.List.{list_all}
use Rattle.std.proofs.Common.{drop, sym, ◌∙◌, ap, subst, arith}
use Rattle.std.proofs.Math.Seq.{take-append_seam}
use Rattle.std.proofs.lemmas.List.{length-drop, drop-drop}
use Rattle.std.proofs.lemmas.Bool.{eqb-true}
use Rattle.std.proofs.lemmas.Bool.Decides.{nat_tests}
use Rattle.c_lexer.specs.Lexing.{Each, RunEnds}
use Rattle.c_lexer.proofs.Lists.{each-behind}
use Rattle.outer_io.proofs.Known.{whole_rest}
use Rattle.run_replay.proofs.Keeps.{and_left, and_right}
use Rattle.command_words.specs.steps.WordsView.{IsRun}

pub each_both : (c : ℕ → Bool) (xs ys : List ℕ) → Each c xs → Each c ys → Each c (xs ++ ys)
each_both c [] ys h k = k
each_both c (x ∷ xs) ys h k = (h.0, each_both c xs ys h.1 k)

pub each_as : (c d : ℕ → Bool) → ((b : ℕ) → c b ≡ true → d b ≡ true) → (xs : List ℕ) → Each c xs → Each d xs
each_as c d f [] h = tt
each_as c d f (x ∷ xs) h = (f x h.0, each_as c d f xs h.1)

pub each_all : (c : ℕ → Bool) (xs : List ℕ) → list_all c xs ≡ true → Each c xs
each_all c [] e = tt
each_all c (x ∷ xs) e = (and_left (c x) (list_all c xs) e, each_all c xs (and_right (c x) (list_all c xs) e))

pub all_each : (c : ℕ → Bool) (xs : List ℕ) → Each c xs → list_all c xs ≡ true
all_each c [] e = refl
all_each c (x ∷ xs) e = ap (λ t. t && list_all c xs) e.0 ∙ all_each c xs e.1

pub each_not : (c : ℕ → Bool) (front rest : List ℕ) (b : ℕ) → c b ≡ false → Each c (front ++ b ∷ rest) → ⊥
each_not c front rest b f h = let k = each-behind c front (b ∷ rest) h in let e : false ≡ true = sym f ∙ k.0 in cc

pub not_of : (a b : ℕ) → not (a == b) ≡ false → a ≡ b
not_of a b h = grind (arith, nat_tests)

-- Spaces

abbrev pub is_space : ℕ → Bool
is_space b = b == 32

abbrev pub is_of_word : ℕ → Bool
is_of_word b = not (b == 32)

abbrev pub is_of_piece : ℕ → Bool
is_of_piece b = not (b == 44)

pub spaces_are : (xs : List ℕ) → Each is_space xs → xs ≡ replicate (length xs) 32
spaces_are [] h = refl
spaces_are (x ∷ xs) h = ap (λ y. y ∷ xs) (eqb-true x 32 h.0) ∙ ap (λ ys. 32 ∷ ys) (spaces_are xs h.1)

pub are_spaces : (n : ℕ) → Each is_space (replicate n 32)
are_spaces zero = tt
are_spaces (suc n) = (refl, are_spaces n)

pub spaces_no_comma : (n : ℕ) → Each is_of_piece (replicate n 32)
spaces_no_comma zero = tt
spaces_no_comma (suc n) = (refl, spaces_no_comma n)

pub spaces_end_word : (n : ℕ) → RunEnds is_of_word (replicate n 32)
spaces_end_word zero = tt
spaces_end_word (suc n) = refl

-- the bytes of a run, as a slice
pub front_of : (c : ℕ → Bool) (bytes : List ℕ) (n : ℕ) → (r : IsRun c bytes n) → take n bytes ≡ r.text
front_of c bytes n r = ap (λ m. take m bytes) (sym r.size) ∙ ap (take (length r.text)) r.whole ∙ take-append_seam r.text (drop n bytes)

-- facts on an answer, from others
pub ok_as : {X E : Type 0} (P Q : X → Type 0) (r : Result X E) → ((x : X) → P x → Q x) → IfOk r P → IfOk r Q
ok_as P Q (Ok x) f h = f x h
ok_as P Q (Err e) f h = tt

-- what stands after the first bytes, as a slice
pub at_end : (rest : List ℕ) (len : ℕ) → len ≤ length rest → length (take (length rest - len) (drop len rest)) < 1 → len ≡ length rest
at_end rest len le h = let a = ap length (whole_rest rest len) in let n = length-drop len rest in omega (arith, a, n, h, le)

pub before_end : (rest : List ℕ) (len : ℕ) → 1 ≤ length (take (length rest - len) (drop len rest)) → len < length rest
before_end rest len h = let a = ap length (whole_rest rest len) in let n = length-drop len rest in omega (arith, a, n, h)

pub behind_first : (rest : List ℕ) (len : ℕ) → (let s = take (length rest - len) (drop len rest) in take (length s - 1) (drop 1 s)
    ≡ drop (len + 1) rest)
behind_first rest len = let s = take (length rest - len) (drop len rest) in whole_rest s 1 ∙ ap (drop 1) (whole_rest rest len)
    ∙ drop-drop 1 len rest

pub some_at : {X : Type 0} (P : X → Type 0) (o : Option X) (x : X) → o ≡ Some x → IfSome o P → P x
some_at {X} P o x e h = let Q : Option X → Type 0 = λ y. IfSome y P in subst Q e h

pub none_at : {X : Type 0} (P : Type 0) (o : Option X) → o ≡ None → IfNone o P → P
none_at {X} P o e h = let Q : Option X → Type 0 = λ y. IfNone y P in subst Q e h
