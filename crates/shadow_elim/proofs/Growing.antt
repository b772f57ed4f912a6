-- No fewer rows stay where more are added at the end.
use Rattle.std.proofs.Common.{◌≡◌, ◌≤◌, suc, Bool, true, false, not, ◌&&◌, ◌||◌, List, [], ◌∷◌, ◌++◌, length, length-append, append_assoc, append-nil, arith, refl, sym, ap, ◌∙◌}
use Rattle.std.proofs.Math.Bool.{or-false}
use Rattle.std.specs.Prelude.{int_lt, if◌then◌else◌}
use Rattle.std.specs.List.{list_any}
use Rattle.std.proofs.lemmas.Bool.{and_parts, not-true, or_from, or_parts, or_left, or_right, false_from_ne_true}
use Rattle.std.proofs.lemmas.Int.{ints}
use Rattle.std.proofs.lemmas.List.Folds.{list_any-append}
use Rattle.linear_formula.specs.LinearSum.{LinearSum}
use Rattle.shadow_elim.specs.Reduction.{is_as_strong, is_stronger, is_trivial, stays, reduced_after, reduced}
use Rattle.shadow_elim.proofs.Reducing.{chosen_same, stops}
use Rattle.shadow_elim.proofs.Staying.{as-strong-is, can-fail}
use Rattle.shadow_elim.proofs.Strength.{strong-itself, test-from_AsStrong, Stronger, Stronger-from_test, test-from_Stronger, as_strong-trans, stronger-trans, stronger-strong, not_both, any-weaker}
use Rattle.shadow_elim.proofs.Tests.{lt_from}

no_way : true ≡ false → ⊥
no_way h = cc

-- t is as strong as s, where s isn't stronger than t, and u is stronger than both
between : (t s u : LinearSum) → is_stronger t u ≡ true → is_stronger t s ≡ false → is_stronger s u ≡ true → is_as_strong s t ≡ true
between t s u h n k = by_test (int_lt t.constant s.constant) refl where
  a : Stronger t u
  a = Stronger-from_test t u h

  b : Stronger s u
  b = Stronger-from_test s u k

  by_test : (x : Bool) → int_lt t.constant s.constant ≡ x → is_as_strong s t ≡ true
  by_test true e =
      absurd (no_way (sym (test-from_Stronger t s (record {
        parts = sym b.parts ∙ a.parts;
        constant = lt_from t.constant s.constant e;
      })) ∙ n))
  by_test false e =
      test-from_AsStrong s t (record {
        parts = sym a.parts ∙ b.parts;
        constant = omega (arith, ints, e);
      })

-- a later row matters only to those that it is stronger than
same-behind : (bs ts : List LinearSum) (t u : LinearSum) → is_stronger t u ≡ false → stays bs t (ts ++ u ∷ []) ≡ stays bs t ts
same-behind bs ts t u e =
    ap (λ z. not (is_trivial t) && (not (list_any (is_as_strong t) bs) && not z)) (list_any-append (is_stronger t) ts (u ∷ [])
    ∙ ap (λ z. list_any (is_stronger t) ts || (z || false)) e ∙ or-false (list_any (is_stronger t) ts))

-- Where t stays already, and u that is stronger is added

-- u changes nothing for s: where u is stronger than s, t is before s and as strong, so s doesn't stay anyway
same-added : (cs ts : List LinearSum) (t s u : LinearSum) → is_stronger t u ≡ true → list_any (is_as_strong t) cs ≡ true →
    is_stronger t s ≡ false → stays cs s (ts ++ u ∷ []) ≡ stays cs s ts
same-added cs ts t s u h m n = by_test (is_stronger s u) refl where
  by_test : (b : Bool) → is_stronger s u ≡ b → stays cs s (ts ++ u ∷ []) ≡ stays cs s ts
  by_test false e = same-behind cs ts s u e
  by_test true e =
      let k : list_any (is_as_strong s) cs ≡ true = any-weaker (is_as_strong t) (is_as_strong s) cs
      (λ x g. as_strong-trans s t x (between t s u h n e) g) m in
      stops (not (is_trivial s)) (list_any (is_as_strong s) cs) (not (list_any (is_stronger s) (ts ++ u ∷ []))) k
      ∙ sym (stops (not (is_trivial s)) (list_any (is_as_strong s) cs) (not (list_any (is_stronger s) ts)) k)

-- one row more before that isn't as strong as u
none-more : (cs : List LinearSum) (s u : LinearSum) → list_any (is_as_strong u) cs ≡ false → (is_as_strong u s ≡ true → ⊥) →
    list_any (is_as_strong u) (cs ++ s ∷ []) ≡ false
none-more cs s u n f =
    list_any-append (is_as_strong u) cs (s ∷ []) ∙ or_from (list_any (is_as_strong u) cs) (is_as_strong u s || false) n
    (or_from (is_as_strong u s) false (false_from_ne_true (is_as_strong u s) f) refl)

chosen-push : (b : Bool) (s u : LinearSum) (r : List LinearSum) → (if b then (s ∷ (r ++ u ∷ [])) else (r ++ u ∷ []))
    ≡ (if b then (s ∷ r) else r) ++ u ∷ []
chosen-push true s u r = refl
chosen-push false s u r = refl

-- among other rows, of which t is one before, u is one more that stays
added : (cs ts : List LinearSum) (t u : LinearSum) → is_stronger t u ≡ true → is_trivial u ≡ false → list_any (is_as_strong u) cs ≡ false →
    list_any (is_as_strong t) cs ≡ true → list_any (is_stronger t) ts ≡ false → reduced_after cs (ts ++ u ∷ [])
    ≡ reduced_after cs ts ++ u ∷ []
added cs [] t u h c n m k =
    ap (λ (z : Bool). if z then (u ∷ []) else [])
    (ap (λ z. not z && (not (list_any (is_as_strong u) cs) && not false)) c ∙ ap (λ z. not false && (not z && not false)) n)
added cs (s ∷ ts) t u h c n m k =
    let ks = or_parts (is_stronger t s) (list_any (is_stronger t) ts) k in
    let before : list_any (is_as_strong u) (cs ++ s ∷ []) ≡ false = none-more cs s u n
    (λ e. no_way (sym (stronger-trans t u s h e) ∙ ks.0)) in
    let there : list_any (is_as_strong t) (cs ++ s ∷ []) ≡ true = list_any-append (is_as_strong t) cs (s ∷ [])
    ∙ or_left (list_any (is_as_strong t) cs) (is_as_strong t s || false) m in
    chosen_same (stays cs s (ts ++ u ∷ [])) (stays cs s ts) s (reduced_after (cs ++ s ∷ []) (ts ++ u ∷ []))
    (reduced_after (cs ++ s ∷ []) ts ++ u ∷ []) (same-added cs ts t s u h m ks.0)
    (added (cs ++ s ∷ []) ts t u h c before there ks.1) ∙ chosen-push (stays cs s ts) s u (reduced_after (cs ++ s ∷ []) ts)

-- u stays in the place of t
replaced : (bs ts : List LinearSum) (t u : LinearSum) → is_stronger t u ≡ true → stays bs t ts ≡ true →
    reduced_after (bs ++ t ∷ []) (ts ++ u ∷ []) ≡ reduced_after (bs ++ t ∷ []) ts ++ u ∷ []
replaced bs ts t u h e =
    let firsts = and_parts (not (is_trivial t)) (not (list_any (is_as_strong t) bs) && not (list_any (is_stronger t) ts)) e in
    let seconds = and_parts (not (list_any (is_as_strong t) bs)) (not (list_any (is_stronger t) ts)) firsts.1 in
    let strong : is_as_strong t u ≡ true = stronger-strong t u h in
    let none : list_any (is_as_strong t) bs ≡ false = not-true (list_any (is_as_strong t) bs) seconds.0 in
    added (bs ++ t ∷ []) ts t u h (can-fail u t (as-strong-is t u strong) (not-true (is_trivial t) firsts.0))
    (none-more bs t u (false_from_ne_true (list_any (is_as_strong u) bs) (λ g. no_way (sym (any-weaker (is_as_strong u) (is_as_strong t) bs
    (λ x f. as_strong-trans t u x strong f) g) ∙ none))) (λ g. not_both t u h g))
    (list_any-append (is_as_strong t) bs (t ∷ []) ∙ or_right (list_any (is_as_strong t) bs) (is_as_strong t t || false)
    (or_left (is_as_strong t t) false (strong-itself t))) (not-true (list_any (is_stronger t) ts) seconds.1)

-- Lengths

chosen-length : (b : Bool) (t : LinearSum) (r : List LinearSum) → length r ≤ length (if b then (t ∷ r) else r)
chosen-length true t r = omega arith
chosen-length false t r = omega arith

-- one row more
reduced_after-push : (bs ts : List LinearSum) (u : LinearSum) → length (reduced_after bs ts) ≤ length (reduced_after bs (ts ++ u ∷ []))
reduced_after-push bs [] u = omega arith
reduced_after-push bs (t ∷ ts) u =
    by_stay (stays bs t ts) refl (reduced_after-push (bs ++ t ∷ []) ts u) where
      rest : List LinearSum
      rest = reduced_after (bs ++ t ∷ []) ts

      more : List LinearSum
      more = reduced_after (bs ++ t ∷ []) (ts ++ u ∷ [])

      by_test : (b : Bool) → is_stronger t u ≡ b → stays bs t ts ≡ true → length rest ≤ length more →
          suc (length rest) ≤ length (if stays bs t (ts ++ u ∷ []) then (t ∷ more) else more)
      by_test true h e r =
          let grown : length more ≡ length (rest ++ u ∷ []) = ap length (replaced bs ts t u h e) in
          omega (arith, grown, length-append rest (u ∷ []), chosen-length (stays bs t (ts ++ u ∷ [])) t more)
      by_test false h e r =
          let same : length (if stays bs t (ts ++ u ∷ []) then (t ∷ more) else more) ≡ suc (length more) =
          ap (λ (z : Bool). length (if z then (t ∷ more) else more)) (same-behind bs ts t u h ∙ e) in
          omega (arith, r, same)

      by_stay : (b : Bool) → stays bs t ts ≡ b → length rest ≤ length more → length (if b then (t ∷ rest) else rest)
          ≤ length (if stays bs t (ts ++ u ∷ []) then (t ∷ more) else more)
      by_stay true e r = by_test (is_stronger t u) refl e r
      by_stay false e r = omega (arith, r, chosen-length (stays bs t (ts ++ u ∷ [])) t more)

-- any number of rows more
pub reduced-grows : (ts us : List LinearSum) → length (reduced ts) ≤ length (reduced (ts ++ us))
reduced-grows ts [] =
    let same : length (reduced (ts ++ [])) ≡ length (reduced ts) = ap (λ (l : List LinearSum). length (reduced l)) (append-nil ts) in
    omega (arith, same)
reduced-grows ts (u ∷ us) =
    let one : length (reduced ts) ≤ length (reduced (ts ++ u ∷ [])) = reduced_after-push [] ts u in
    let more : length (reduced (ts ++ u ∷ [])) ≤ length (reduced ((ts ++ u ∷ []) ++ us)) = reduced-grows (ts ++ u ∷ []) us in
    let same : length (reduced ((ts ++ u ∷ []) ++ us)) ≡ length (reduced (ts ++ u ∷ us)) = ap (λ (l : List LinearSum). length (reduced l))
    (append_assoc ts (u ∷ []) us) in
    omega (arith, one, more, same)
