-- What a word looks like to `clap`.
use Rattle.std.proofs.Common.{◌≡◌, ◌≢◌, ◌∙◌, ◌⊎◌, ℕ, zero, suc, ◌==◌, Bool, cond, true, false, List, [], ◌∷◌, ◌++◌, refl, Option, Some, None, ap, sym, inl, inr, arith, codes}
use Rattle.std.specs.Prelude.{option_and_then, slice_get}
use Rattle.std.specs.Str.{bytes_eq, chars}
use Rattle.std.proofs.lemmas.Bool.{eqb-true}
use Rattle.std.proofs.lemmas.Bool.Decides.{nat_tests}
use Rattle.clap.specs.Lexer.{long_of, long_of_rest, name_and_value, short_of, strip_byte}
use Rattle.clap.proofs.CutLemmas.{Lacks}
use Rattle.clap.proofs.LexerLemmas.{name_and_value-at, name_and_value-without}
use Rattle.command_words.specs.Words.{Text}

-- A word that is no option and isn't `--`

-- no flag stands after a dash
abbrev pub HasNoFlag : Option Text → Type 0
HasNoFlag None = Unit {0}
HasNoFlag (Some flags) = slice_get (chars flags) 0 ≡ None

pub record IsOther (word : Text) : Type 0 where
  pub no_dashes : bytes_eq word (codes "--") ≡ false
  pub no_long : long_of word ≡ None
  pub no_flag : HasNoFlag (short_of word)

abbrev pub AllOther : List Text → Type 0
AllOther [] = Unit {0}
AllOther (w ∷ ws) = IsOther w × AllOther ws

abbrev pub first_byte : Text → ℕ
first_byte [] = 0
first_byte (b ∷ bs) = b

pub other_byte : (word : Text) → (first_byte word ≡ 45 → ⊥) → IsOther word
other_byte [] h = record { no_dashes = refl; no_long = refl; no_flag = tt }
other_byte (b ∷ bs) h =
    let e : (b == 45) ≡ false = grind (arith, nat_tests) in
    record { no_dashes = rw e refl; no_long = rw e refl; no_flag = rw e tt }

-- Cut at the first `=`

pub record IsCut (text front rest : Text) : Type 0 where
  pub whole : text ≡ front ++ 61 ∷ rest
  pub lacks : Lacks 61 front

lacks_more : (x : ℕ) (xs : Text) → x ≢ 61 → Lacks 61 xs → Lacks 61 (x ∷ xs)
lacks_more x xs ne h zero lt = ne
lacks_more x xs ne h (suc i) lt = h i (omega arith)

cut : (text : Text) → Lacks 61 text ⊎ ((front : Text) × (rest : Text) × IsCut text front rest)
cut [] = inl (λ i lt. absurd (omega arith))
cut (x ∷ xs) = pick (x == 61) refl (cut xs)
  where
    pick : (b : Bool) → (x == 61) ≡ b → Lacks 61 xs ⊎ ((front : Text) × (rest : Text) × IsCut xs front rest) →
        Lacks 61 (x ∷ xs) ⊎ ((front : Text) × (rest : Text) × IsCut (x ∷ xs) front rest)
    pick true e more = inr
        ([], xs, record { whole = ap (λ y. y ∷ xs) (eqb-true x 61 e); lacks = λ i lt. absurd (omega arith) })
    pick false e (inl l) = let ne : x ≢ 61 = grind (arith, nat_tests) in inl (lacks_more x xs ne l)
    pick false e (inr (front, rest, c)) =
        let ne : x ≢ 61 = grind (arith, nat_tests) in
        inr (x ∷ front, rest, record { whole = ap (λ y. x ∷ y) c.whole; lacks = lacks_more x front ne c.lacks })

-- Words that begin with `--`

abbrev pub spelled : Text → Option Text → Text
spelled name None = name
spelled name (Some text) = name ++ 61 ∷ text

named : (text : Text) → text ≡ spelled (name_and_value text).0 (name_and_value text).1
named text = elim (cut text) [
  | inl l ↦ let e = name_and_value-without text l in sym (ap (λ (p : Text × Option Text). spelled p.0 p.1) e)
  | inr (front, rest, c) ↦
      let e = ap name_and_value c.whole ∙ name_and_value-at front rest c.lacks in
      c.whole ∙ sym (ap (λ (p : Text × Option Text). spelled p.0 p.1) e)
]

-- what follows one dash, and two
dash : (word rest : Text) → strip_byte 45 word ≡ Some rest → word ≡ 45 ∷ rest
dash [] rest e = cc
dash (a ∷ bs) rest e = pick (a == 45) refl e
  where
    pick : (b : Bool) → (a == 45) ≡ b → cond b (Some bs) None ≡ Some rest → a ∷ bs ≡ 45 ∷ rest
    pick true h e = let t : bs ≡ rest = cc in ap (λ x. x ∷ bs) (eqb-true a 45 h) ∙ ap (λ x. 45 ∷ x) t
    pick false h e = cc

two_dashes : (o : Option Text) (word rest : Text) → strip_byte 45 word ≡ o → option_and_then (strip_byte 45) o ≡ Some rest →
    word ≡ 45 ∷ 45 ∷ rest
two_dashes None word rest e h = cc
two_dashes (Some x) word rest e h = dash word x e ∙ ap (λ y. 45 ∷ y) (dash x rest h)

spelled_rest : (rest name : Text) (v : Option Text) → long_of_rest rest ≡ Some (name, v) → rest ≡ spelled name v
spelled_rest [] name v e = cc
spelled_rest (x ∷ xs) name v e =
    let p : name_and_value (x ∷ xs) ≡ (name, v) = cc in
    named (x ∷ xs) ∙ ap (λ (q : Text × Option Text). spelled q.0 q.1) p

pub long_spelled : (word name : Text) (v : Option Text) → long_of word ≡ Some (name, v) → word ≡ codes "--" ++ spelled name v
long_spelled word name v e = pick (option_and_then (strip_byte 45) (strip_byte 45 word)) refl e
  where
    pick : (o : Option Text) → option_and_then (strip_byte 45) (strip_byte 45 word) ≡ o → option_and_then long_of_rest o ≡ Some (name, v) →
        word ≡ codes "--" ++ spelled name v
    pick None h e = cc
    pick (Some rest) h e =
        two_dashes (strip_byte 45 word) word rest refl h ∙ ap (λ x. 45 ∷ 45 ∷ x) (spelled_rest rest name v e)
