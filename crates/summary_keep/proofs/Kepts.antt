-- What is kept, summary by summary.
use Rattle.std.proofs.Common.{◌≡◌, ℕ, zero, suc, ◌+◌, ◌<◌, List, [], ◌∷◌, ◌++◌, length, map, take, get_or, Option, Some, None, refl, sym, ap, ◌∙◌, arith}
use Rattle.std.proofs.lemmas.List.{map-append}
use Rattle.c_tree.specs.Syntax.{PureProgram}
use Rattle.c_tree.specs.WellFormed.{IsWellFormed}
use Rattle.summary_form.specs.declared.summary.Summary.{Summary}
use Rattle.summary_keep.specs.Keeping.{SummariesHold, IsMatchingOf, kept, put, renumbered}
use Rattle.summary_keep.proofs.Holding.{kept_hold}

put_append : (o : Option Summary) (ss ts : List Summary) → put o (ss ++ ts) ≡ put o ss ++ ts
put_append None ss ts = refl
put_append (Some s) ss ts = refl

pub take_next : {X : Type 0} (xs : List X) (i : ℕ) (x : X) → i < length xs → x ≡ get_or xs i x → take (i + 1) xs ≡ take i xs ++ x ∷ []
take_next [] i x few e = absurd (omega (arith, few))
take_next (y ∷ ys) zero x few e = ap (λ z. z ∷ []) (sym e)
take_next (y ∷ ys) (suc i) x few e =
    let n : suc i + 1 ≡ suc (i + 1) = omega arith in
    ap (λ k. take k (y ∷ ys)) n ∙ ap (λ l. y ∷ l) (take_next ys i x (omega (arith, few)) e)

module _ (procs asserts : List (Option ℕ)) where
  pub kept_push : (ss : List Summary) (s : Summary) → kept procs asserts (ss ++ s ∷ []) ≡ kept procs asserts ss
      ++ put (renumbered procs asserts s) []
  kept_push [] s = refl
  kept_push (x ∷ ss) s =
      ap (put (renumbered procs asserts x)) (kept_push ss s)
      ∙ put_append (renumbered procs asserts x) (kept procs asserts ss) (put (renumbered procs asserts s) [])

pub all_kept_hold : (P Q : PureProgram) → IsWellFormed P → IsWellFormed Q → (procs asserts : List (Option ℕ)) →
    IsMatchingOf P Q procs asserts →
    (ss : List Summary) → SummariesHold P ss → SummariesHold Q (kept procs asserts ss)
all_kept_hold P Q fp fq procs asserts m [] h = tt
all_kept_hold P Q fp fq procs asserts m (s ∷ ss) h =
    by_new (renumbered procs asserts s) refl (all_kept_hold P Q fp fq procs asserts m ss h.1) where
      by_new : (o : Option Summary) → renumbered procs asserts s ≡ o → SummariesHold Q (kept procs asserts ss) →
          SummariesHold Q (put o (kept procs asserts ss))
      by_new None e rest = rest
      by_new (Some t) e rest = (kept_hold P Q fp fq procs asserts m s t e h.0, rest)

module _ (procs asserts : List (Option ℕ)) where
  -- one summary more of a list whose values are these
  pub one_more : {X : Type 0} (v : X → Summary) (xs : List X) (i : ℕ) (x : X) (out new : List Summary) → i < length xs → x ≡ get_or xs i x →
      out ≡ kept procs asserts (map v (take i xs)) → new ≡ out ++ put (renumbered procs asserts (v x)) [] →
      new ≡ kept procs asserts (map v (take (i + 1) xs))
  one_more v xs i x out new few e h k =
      k ∙ (ap (λ l. l ++ put (renumbered procs asserts (v x)) []) h
      ∙ (sym (kept_push procs asserts (map v (take i xs)) (v x))
      ∙ ap (kept procs asserts) (sym (ap (map v) (take_next xs i x few e) ∙ map-append v (take i xs) (x ∷ [])))))
