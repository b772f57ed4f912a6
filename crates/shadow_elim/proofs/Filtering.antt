-- What stays of the rows that pass a test, and of rows that stayed already.
use Rattle.std.proofs.Common.{◌≡◌, inl, inr, Bool, true, false, not, ◌&&◌, ◌||◌, cond, List, [], ◌∷◌, ◌++◌, arith, refl, sym, ap, ◌∙◌}
use Rattle.std.specs.Cmp.{both_ways}
use Rattle.std.proofs.Math.Bool.{or-false}
use Rattle.std.specs.Prelude.{filter, if◌then◌else◌}
use Rattle.std.specs.List.{list_any}
use Rattle.std.proofs.lemmas.Int.{ints}
use Rattle.std.proofs.lemmas.List.Folds.{list_any-append}
use Rattle.linear_formula.specs.LinearSum.{LinearSum}
use Rattle.shadow_elim.specs.Reduction.{same_parts, is_as_strong, is_stronger, is_trivial, stays, reduced_after, reduced, SameReduced}
use Rattle.shadow_elim.proofs.Members.{Among, any-among}
use Rattle.shadow_elim.proofs.Reducing.{chosen_same}
use Rattle.shadow_elim.proofs.Reductions.{same-reduced}
use Rattle.shadow_elim.proofs.Splitting.{filter_in, filter_out}
use Rattle.shadow_elim.proofs.Staying.{IsCovered, as-strong-is, can-fail, reduced-covers, reduced-among}
use Rattle.shadow_elim.proofs.Strength.{AsStrong-from_test, Stronger-from_test, test-from_Stronger, stronger-strong, as_strong-trans, any-weaker}
use Rattle.shadow_elim.proofs.Tests.{first_true}

no_way : true ≡ false → ⊥
no_way h = cc

-- The rows that pass a test that looks at the coefficients alone

abbrev pub Respects : (LinearSum → Bool) → Type 0
Respects p = (s t : LinearSum) → same_parts s t ≡ true → p s ≡ p t

pub any-filter : (p q : LinearSum → Bool) (bs : List LinearSum) → ((s : LinearSum) → q s ≡ true → p s ≡ true) →
    list_any q bs ≡ list_any q (filter p bs)
any-filter p q [] f = refl
any-filter p q (b ∷ bs) f = by_test (p b) (q b) refl refl (any-filter p q bs f) where
  by_test : (x y : Bool) → p b ≡ x → q b ≡ y → list_any q bs ≡ list_any q (filter p bs) →
      (y || list_any q bs) ≡ list_any q (cond x (b ∷ filter p bs) (filter p bs))
  by_test true y e g r = ap (λ z. y || z) r ∙ ap (λ z. z || list_any q (filter p bs)) (sym g)
  by_test false true e g r = absurd (no_way (sym (f b g) ∙ e))
  by_test false false e g r = r

pub passes : (p : LinearSum → Bool) → Respects p → (s t : LinearSum) → same_parts s t ≡ true → p t ≡ true → p s ≡ true
passes p h s t e f = h s t e ∙ f

stays-filter : (p : LinearSum → Bool) → Respects p → (bs ts : List LinearSum) (t : LinearSum) → p t ≡ true →
    stays bs t ts ≡ stays (filter p bs) t (filter p ts)
stays-filter p h bs ts t e =
    ap (λ z. not (is_trivial t) && (not z && not (list_any (is_stronger t) ts))) (any-filter p (is_as_strong t) bs (λ s f.
    passes p h s t (first_true (same_parts s t) _ f) e)) ∙ ap (λ z. not (is_trivial t) && (not (list_any (is_as_strong t) (filter p bs))
    && not z)) (any-filter p (is_stronger t) ts (λ s f. passes p h s t (first_true (same_parts s t) _ f) e))

pub filter-reduced_after : (p : LinearSum → Bool) → Respects p → (bs ts : List LinearSum) → filter p (reduced_after bs ts)
    ≡ reduced_after (filter p bs) (filter p ts)
filter-reduced_after p h bs [] = refl
filter-reduced_after p h bs (t ∷ ts) =
    by_test (p t) refl (filter-reduced_after p h (bs ++ t ∷ []) ts) where
      rest : List LinearSum
      rest = reduced_after (bs ++ t ∷ []) ts

      in_case : (x : Bool) → p t ≡ true → filter p (if x then (t ∷ rest) else rest) ≡ (if x then (t ∷ filter p rest) else filter p rest)
      in_case true e = ap (λ (z : Bool). cond z (t ∷ filter p rest) (filter p rest)) e
      in_case false e = refl

      out_case : (x : Bool) → p t ≡ false → filter p (if x then (t ∷ rest) else rest) ≡ filter p rest
      out_case true e = ap (λ (z : Bool). cond z (t ∷ filter p rest) (filter p rest)) e
      out_case false e = refl

      by_test : (b : Bool) → p t ≡ b → filter p (reduced_after (bs ++ t ∷ []) ts) ≡ reduced_after (filter p (bs ++ t ∷ [])) (filter p ts) →
          filter p (if stays bs t ts then (t ∷ rest) else rest) ≡ reduced_after (filter p bs) (cond b (t ∷ filter p ts) (filter p ts))
      by_test true e r =
          in_case (stays bs t ts) e ∙ chosen_same (stays bs t ts) (stays (filter p bs) t (filter p ts)) t (filter p rest)
          (reduced_after (filter p bs ++ t ∷ []) (filter p ts)) (stays-filter p h bs ts t e)
          (r ∙ ap (λ l. reduced_after l (filter p ts)) (filter_in p bs t e))
      by_test false e r = out_case (stays bs t ts) e ∙ r ∙ ap (λ l. reduced_after l (filter p ts)) (filter_out p bs t e)

pub filter-reduced : (p : LinearSum → Bool) → Respects p → (rows : List LinearSum) → filter p (reduced rows) ≡ reduced (filter p rows)
filter-reduced p h rows = filter-reduced_after p h [] rows

-- The rows that stayed already

-- the same rows that can fail have one as strong before, or a stronger one later
abbrev AreCovered : (bs ts cs rs : List LinearSum) → Type 0
AreCovered bs ts cs rs = (t : LinearSum) → is_trivial t ≡ false → (list_any (is_as_strong t) bs || list_any (is_stronger t) ts)
    ≡ (list_any (is_as_strong t) cs || list_any (is_stronger t) rs)

pub among-any : (p : LinearSum → Bool) (xs : List LinearSum) (t : LinearSum) → Among t xs → p t ≡ true → list_any p xs ≡ true
among-any p [] t h e = absurd h
among-any p (x ∷ xs) t (inl s) e = ap (λ z. z || list_any p xs) (ap p s ∙ e)
among-any p (x ∷ xs) t (inr h) e =
    ap (λ z. p x || z) (among-any p xs t h e) ∙ or_true (p x) where
      or_true : (b : Bool) → (b || true) ≡ true
      or_true true = refl
      or_true false = refl

strong-stronger : (t s r : LinearSum) → is_as_strong t s ≡ true → is_stronger s r ≡ true → is_stronger t r ≡ true
strong-stronger t s r h k =
    let a = AsStrong-from_test t s h in
    let b = Stronger-from_test s r k in
    test-from_Stronger t r (record { parts = b.parts ∙ a.parts; constant = omega (arith, ints, a.constant, b.constant) })

not_stronger : (t : LinearSum) → is_stronger t t ≡ false
not_stronger t = by_test (is_stronger t t) refl where
  by_test : (b : Bool) → is_stronger t t ≡ b → b ≡ false
  by_test false e = refl
  by_test true e =
      let s = Stronger-from_test t t e in
      absurd (omega (arith, ints, s.constant))

covered-first : (rows : List LinearSum) → AreCovered [] rows [] (reduced rows)
covered-first rows = λ t n. both_ways (list_any (is_stronger t) rows) (list_any (is_stronger t) (reduced rows)) (λ e.
    let a = any-among (is_stronger t) rows e in
    let s = as-strong-is t a.0 (stronger-strong t a.0 a.2) in
    by_cover t a.0 (can-fail a.0 t s n) a.2 (reduced-covers rows a.0 a.1)) (λ e.
    let a = any-among (is_stronger t) (reduced rows) e in
    among-any (is_stronger t) rows a.0 (reduced-among rows a.0 a.1) a.2) where
      by_cover : (t s : LinearSum) → is_trivial s ≡ false → is_stronger t s ≡ true → IsCovered s (reduced rows) →
          list_any (is_stronger t) (reduced rows) ≡ true
      by_cover t s n e (inl f) = absurd (no_way (sym f ∙ n))
      by_cover t s n e (inr g) =
          let a = Stronger-from_test t s e in
          among-any (is_stronger t) (reduced rows) g.0 g.1 (test-from_Stronger t g.0 (record {
            parts = g.2.parts ∙ a.parts;
            constant = omega (arith, ints, a.constant, g.2.constant);
          }))

-- the rows before matter only to rows that can fail
reduced_after-live : (bs cs ts : List LinearSum) →
    ((t : LinearSum) → is_trivial t ≡ false → list_any (is_as_strong t) bs ≡ list_any (is_as_strong t) cs) → reduced_after bs ts
    ≡ reduced_after cs ts
reduced_after-live bs cs [] h = refl
reduced_after-live bs cs (t ∷ ts) h =
    chosen_same (stays bs t ts) (stays cs t ts) t (reduced_after (bs ++ t ∷ []) ts) (reduced_after (cs ++ t ∷ []) ts)
    (by_test (is_trivial t) refl) (reduced_after-live (bs ++ t ∷ []) (cs ++ t ∷ []) ts (λ s n.
    list_any-append (is_as_strong s) bs (t ∷ []) ∙ ap (λ z. z || list_any (is_as_strong s) (t ∷ [])) (h s n)
    ∙ sym (list_any-append (is_as_strong s) cs (t ∷ [])))) where
      by_test : (b : Bool) → is_trivial t ≡ b → (not b && (not (list_any (is_as_strong t) bs) && not (list_any (is_stronger t) ts)))
          ≡ (not b && (not (list_any (is_as_strong t) cs) && not (list_any (is_stronger t) ts)))
      by_test true e = refl
      by_test false e = ap (λ z. not false && (not z && not (list_any (is_stronger t) ts))) (h t e)

-- tests

left_out : (b s a r z : Bool) → (s ≡ true → a ≡ true) → (a ≡ true → (b || r) ≡ true) → (b || (s || r)) ≡ z → ((b || (a || false)) || r) ≡ z
left_out true s a r z f g h = h
left_out false s true true z f g h = ap (λ _. true) h ∙ sym (or_true s) ∙ h where
  or_true : (c : Bool) → (c || true) ≡ true
  or_true true = refl
  or_true false = refl
left_out false s true false z f g h = absurd (no_way (sym (g refl)))
left_out false true false r z f g h = absurd (no_way (sym (f refl)))
left_out false false false r z f g h = h

kept_on : (b c s a r q : Bool) → (s ≡ true → a ≡ true) → (b || (s || r)) ≡ (c || (s || q)) → ((b || (a || false)) || r)
    ≡ ((c || (a || false)) || q)
kept_on b c s true r q f h = all b r ∙ sym (all c q) where
  all : (x y : Bool) → ((x || (true || false)) || y) ≡ true
  all true y = refl
  all false y = refl
kept_on b c true false r q f h = absurd (no_way (sym (f refl)))
kept_on b c false false r q f h =
    ap (λ z. z || r) (or-false b) ∙ h ∙ ap (λ z. z || q) (sym (or-false c))

stays_same : (n b r c q m : Bool) → (b || r) ≡ (c || q) → (n && (not c && not (q || m))) ≡ (n && (not b && not (r || m)))
stays_same n b r c q m h =
    ap (λ z. n && z) (one c q m ∙ ap (λ z. not (z || m)) (sym h) ∙ sym (one b r m)) where
      one : (x y z : Bool) → (not x && not (y || z)) ≡ not ((x || y) || z)
      one true y z = refl
      one false y z = refl

stops_more : (n b r m : Bool) → (n && (not b && not r)) ≡ false → (n && (not b && not (r || m))) ≡ false
stops_more false b r m h = refl
stops_more true true r m h = refl
stops_more true false true m h = refl
stops_more true false false m h = absurd (no_way h)

cannot_stay : (n b r : Bool) → (n && (not b && not r)) ≡ false → n ≡ true → (b || r) ≡ true
cannot_stay n true r h e = refl
cannot_stay n false true h e = refl
cannot_stay true false false h e = absurd (no_way h)
cannot_stay false false false h e = absurd (no_way (sym e))

-- one more row before
more_before : (t u : LinearSum) (bs us : List LinearSum) → (list_any (is_as_strong t) (bs ++ u ∷ []) || list_any (is_stronger t) us)
    ≡ ((list_any (is_as_strong t) bs || (is_as_strong t u || false)) || list_any (is_stronger t) us)
more_before t u bs us = ap (λ z. z || list_any (is_stronger t) us) (list_any-append (is_as_strong t) bs (u ∷ []))

stays_more : (bs us more : List LinearSum) (u : LinearSum) → stays bs u (us ++ more)
    ≡ (not (is_trivial u) && (not (list_any (is_as_strong u) bs) && not (list_any (is_stronger u) us || list_any (is_stronger u) more)))
stays_more bs us more u =
    ap (λ z. not (is_trivial u) && (not (list_any (is_as_strong u) bs) && not z)) (list_any-append (is_stronger u) us more)

reduced_after-again : (bs cs ts more : List LinearSum) → AreCovered bs ts cs (reduced_after bs ts) →
    reduced_after cs (reduced_after bs ts ++ more)
    ≡ reduced_after bs (ts ++ more)
reduced_after-again bs cs [] more h =
    reduced_after-live cs bs more (λ t n. sym (or-false (list_any (is_as_strong t) cs)) ∙ sym (h t n)
    ∙ or-false (list_any (is_as_strong t) bs))
reduced_after-again bs cs (u ∷ us) more h =
    by_stay (reduced_after-again (bs ++ u ∷ []) (cs ++ u ∷ []) us more) (reduced_after-again (bs ++ u ∷ []) cs us more) (stays bs u us) refl
    h where
      rest : List LinearSum
      rest = reduced_after (bs ++ u ∷ []) us

      beyond : List LinearSum
      beyond = reduced_after (bs ++ u ∷ []) (us ++ more)

      -- where it is left out
      weaker : (t : LinearSum) → stays bs u us ≡ false → is_trivial t ≡ false → is_as_strong t u ≡ true →
          (list_any (is_as_strong t) bs || list_any (is_stronger t) us) ≡ true
      weaker t e n a =
          by_side (list_any (is_as_strong u) bs) refl (cannot_stay (not (is_trivial u)) (list_any (is_as_strong u) bs)
          (list_any (is_stronger u) us) e (ap not (can-fail u t (as-strong-is t u a) n))) where
            or_true : (b : Bool) → (b || true) ≡ true
            or_true true = refl
            or_true false = refl

            by_side : (b : Bool) → list_any (is_as_strong u) bs ≡ b → (b || list_any (is_stronger u) us) ≡ true →
                (list_any (is_as_strong t) bs || list_any (is_stronger t) us) ≡ true
            by_side true f g =
                ap (λ z. z || list_any (is_stronger t) us) (any-weaker (is_as_strong u) (is_as_strong t) bs
                (λ x k. as_strong-trans t u x a k) f)
            by_side false f g =
                ap (λ z. list_any (is_as_strong t) bs || z) (any-weaker (is_stronger u) (is_stronger t) us
                (λ x k. strong-stronger t u x a k) g) ∙ or_true (list_any (is_as_strong t) bs)

      out : stays bs u us ≡ false → AreCovered bs (u ∷ us) cs rest → AreCovered (bs ++ u ∷ []) us cs rest
      out e k = λ t n. more_before t u bs us ∙ left_out (list_any (is_as_strong t) bs) (is_stronger t u) (is_as_strong t u)
          (list_any (is_stronger t) us) _ (stronger-strong t u) (weaker t e n) (k t n)

      on : AreCovered bs (u ∷ us) cs (u ∷ rest) → AreCovered (bs ++ u ∷ []) us (cs ++ u ∷ []) rest
      on k = λ t n. more_before t u bs us ∙ kept_on (list_any (is_as_strong t) bs) (list_any (is_as_strong t) cs) (is_stronger t u)
          (is_as_strong t u) (list_any (is_stronger t) us) (list_any (is_stronger t) rest) (stronger-strong t u) (k t n)
          ∙ sym (more_before t u cs rest)

      can : (a b c : Bool) → (not a && (not b && c)) ≡ true → a ≡ false
      can false b c e = refl
      can true b c e = absurd (no_way (sym e))

      same : stays bs u us ≡ true → AreCovered bs (u ∷ us) cs (u ∷ rest) → stays cs u (rest ++ more) ≡ stays bs u (us ++ more)
      same e k =
          stays_more cs rest more u ∙ stays_same (not (is_trivial u)) (list_any (is_as_strong u) bs) (list_any (is_stronger u) us)
          (list_any (is_as_strong u) cs) (list_any (is_stronger u) rest) (list_any (is_stronger u) more)
          (sym (ap (λ z. list_any (is_as_strong u) bs || (z || list_any (is_stronger u) us)) (not_stronger u))
          ∙ k u (can (is_trivial u) (list_any (is_as_strong u) bs) (not (list_any (is_stronger u) us)) e)
          ∙ ap (λ z. list_any (is_as_strong u) cs || (z || list_any (is_stronger u) rest)) (not_stronger u))
          ∙ sym (stays_more bs us more u)

      by_stay : (AreCovered (bs ++ u ∷ []) us (cs ++ u ∷ []) rest → reduced_after (cs ++ u ∷ []) (rest ++ more) ≡ beyond) →
          (AreCovered (bs ++ u ∷ []) us cs rest → reduced_after cs (rest ++ more) ≡ beyond) → (b : Bool) → stays bs u us ≡ b →
          AreCovered bs (u ∷ us) cs (if b then (u ∷ rest) else rest) → reduced_after cs ((if b then (u ∷ rest) else rest) ++ more)
          ≡ (if stays bs u (us ++ more) then (u ∷ beyond) else beyond)
      by_stay f g true e k =
          chosen_same (stays cs u (rest ++ more)) (stays bs u (us ++ more)) u (reduced_after (cs ++ u ∷ []) (rest ++ more)) beyond
          (same e k) (f (on k))
      by_stay f g false e k =
          g (out e k) ∙ sym (ap (λ (z : Bool). if z then (u ∷ beyond) else beyond)
          (stays_more bs us more u ∙ stops_more (not (is_trivial u)) (list_any (is_as_strong u) bs) (list_any (is_stronger u) us)
          (list_any (is_stronger u) more) e))

pub same-again : (rows : List LinearSum) → SameReduced (reduced rows) rows
same-again rows = λ more. reduced_after-again [] [] rows more (covered-first rows)

pub reduced-again : (rows : List LinearSum) → reduced (reduced rows) ≡ reduced rows
reduced-again rows = same-reduced (reduced rows) rows (same-again rows)
