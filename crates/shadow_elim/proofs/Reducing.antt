-- A row that an earlier one is as strong as can be left out, whatever comes after.
use Rattle.std.proofs.Common.{◌≡◌, Bool, true, false, not, ◌&&◌, ◌||◌, List, [], ◌∷◌, ◌++◌, refl, sym, ap, ◌∙◌, subst, ⊎_elim}
use Rattle.std.specs.Prelude.{if◌then◌else◌}
use Rattle.std.specs.List.{list_any}
use Rattle.std.proofs.lemmas.Bool.{or_cases, or_right}
use Rattle.std.proofs.lemmas.List.Folds.{list_any-append}
use Rattle.linear_formula.specs.LinearSum.{LinearSum}
use Rattle.shadow_elim.specs.Reduction.{is_as_strong, is_stronger, is_trivial, stays, reduced_after, reduced}
use Rattle.shadow_elim.proofs.Strength.{as_strong-trans, stronger-trans, stronger-strong, not_both, any-weaker}

-- the same rows have one as strong among both lists
abbrev pub SameBefore : List LinearSum → List LinearSum → Type 0
SameBefore bs cs = (t : LinearSum) → list_any (is_as_strong t) bs ≡ list_any (is_as_strong t) cs

pub chosen_same : (a b : Bool) (t : LinearSum) (r s : List LinearSum) → a ≡ b → r ≡ s → (if a then (t ∷ r) else r)
    ≡ (if b then (t ∷ s) else s)
chosen_same a b t r s e f =
    subst (λ (z : Bool). (if a then (t ∷ r) else r) ≡ (if z then (t ∷ s) else s)) e (ap (λ (l : List LinearSum). if a then (t ∷ l) else l)
    f)

SameBefore-push : (bs cs : List LinearSum) (t : LinearSum) → SameBefore bs cs → SameBefore (bs ++ t ∷ []) (cs ++ t ∷ [])
SameBefore-push bs cs t h s =
    list_any-append (is_as_strong s) bs (t ∷ []) ∙ ap (λ z. z || list_any (is_as_strong s) (t ∷ [])) (h s)
    ∙ sym (list_any-append (is_as_strong s) cs (t ∷ []))

pub reduced_after-same : (bs cs ts : List LinearSum) → SameBefore bs cs → reduced_after bs ts ≡ reduced_after cs ts
reduced_after-same bs cs [] h = refl
reduced_after-same bs cs (t ∷ ts) h =
    chosen_same (stays bs t ts) (stays cs t ts) t (reduced_after (bs ++ t ∷ []) ts) (reduced_after (cs ++ t ∷ []) ts)
    (ap (λ z. not (is_trivial t) && (not z && not (list_any (is_stronger t) ts))) (h t)) (reduced_after-same (bs ++ t ∷ []) (cs ++ t ∷ [])
    ts (SameBefore-push bs cs t h))

pub stops : (a b c : Bool) → b ≡ true → (a && (not b && c)) ≡ false
stops true true c h = refl
stops true false c h = cc
stops false b c h = refl

-- one row more that is not stronger than an earlier one
SameBefore-needless : (bs : List LinearSum) (row : LinearSum) → list_any (is_as_strong row) bs ≡ true → SameBefore (bs ++ row ∷ []) bs
SameBefore-needless bs row h t =
    list_any-append (is_as_strong t) bs (row ∷ []) ∙ by_test (is_as_strong t row) refl
  where
    none : (b : Bool) → (b || (false || false)) ≡ b
    none true = refl
    none false = refl

    by_test : (a : Bool) → is_as_strong t row ≡ a → (list_any (is_as_strong t) bs || (a || false)) ≡ list_any (is_as_strong t) bs
    by_test true e =
        let k : list_any (is_as_strong t) bs ≡ true = any-weaker (is_as_strong row) (is_as_strong t) bs (λ x g. as_strong-trans t row x e g)
        h in
        or_right (list_any (is_as_strong t) bs) (true || false) refl ∙ sym k
    by_test false e = none (list_any (is_as_strong t) bs)

-- a row in front stays with or without it
same_after : (bs ts more : List LinearSum) (t row : LinearSum) → (list_any (is_as_strong row) bs || list_any (is_as_strong row) (t ∷ ts))
    ≡ true → list_any (is_as_strong t) bs ≡ false → list_any (is_stronger t) ((ts ++ row ∷ []) ++ more) ≡ list_any (is_stronger t)
    (ts ++ more)
same_after bs ts more t row h f =
    list_any-append (is_stronger t) (ts ++ row ∷ []) more ∙ ap (λ z. z || list_any (is_stronger t) more)
    (list_any-append (is_stronger t) ts (row ∷ []) ∙ by_test (is_stronger t row) refl) ∙ sym (list_any-append (is_stronger t) ts more)
  where
    none : (b : Bool) → (b || (false || false)) ≡ b
    none true = refl
    none false = refl

    no_way : true ≡ false → ⊥
    no_way g = cc

    found : is_stronger t row ≡ true → list_any (is_stronger t) ts ≡ true
    found e =
        ⊎_elim (λ g. absurd
        (no_way (sym (any-weaker (is_as_strong row) (is_as_strong t) bs (λ x k. as_strong-trans t row x (stronger-strong t row e) k) g)
        ∙ f)))
        (λ g. ⊎_elim (λ k. absurd (not_both t row e k)) (λ k. any-weaker (is_as_strong row) (is_stronger t) ts
        (λ x m. stronger-trans t row x e m) k)
        (or_cases (is_as_strong row t) (list_any (is_as_strong row) ts) g)) (or_cases (list_any (is_as_strong row) bs)
        (list_any (is_as_strong row) (t ∷ ts)) h)

    by_test : (a : Bool) → is_stronger t row ≡ a → (list_any (is_stronger t) ts || (a || false)) ≡ list_any (is_stronger t) ts
    by_test true e = or_right (list_any (is_stronger t) ts) (true || false) refl ∙ sym (found e)
    by_test false e = none (list_any (is_stronger t) ts)

same_stays : (bs ts more : List LinearSum) (t row : LinearSum) → (list_any (is_as_strong row) bs || list_any (is_as_strong row) (t ∷ ts))
    ≡ true → stays bs t ((ts ++ row ∷ []) ++ more) ≡ stays bs t (ts ++ more)
same_stays bs ts more t row h = by_test (list_any (is_as_strong t) bs) refl where
  by_test : (a : Bool) → list_any (is_as_strong t) bs ≡ a →
      (not (is_trivial t) && (not a && not (list_any (is_stronger t) ((ts ++ row ∷ []) ++ more))))
      ≡ (not (is_trivial t) && (not a && not (list_any (is_stronger t) (ts ++ more))))
  by_test true e = refl
  by_test false e = ap (λ z. not (is_trivial t) && (not false && not z)) (same_after bs ts more t row h e)

moved : (b t s : Bool) → (b || (t || s)) ≡ true → ((b || (t || false)) || s) ≡ true
moved true t s h = refl
moved false true s h = refl
moved false false s h = h

reduced_after-needless : (bs ts more : List LinearSum) (row : LinearSum) →
    (list_any (is_as_strong row) bs || list_any (is_as_strong row) ts)
    ≡ true → reduced_after bs ((ts ++ row ∷ []) ++ more) ≡ reduced_after bs (ts ++ more)
reduced_after-needless bs [] more row h =
    let k : list_any (is_as_strong row) bs ≡ true = first (list_any (is_as_strong row) bs) h in
    ap (λ (z : Bool). if z then (row ∷ reduced_after (bs ++ row ∷ []) more) else reduced_after (bs ++ row ∷ []) more)
    (stops (not (is_trivial row)) (list_any (is_as_strong row) bs) (not (list_any (is_stronger row) more)) k) ∙ reduced_after-same
    (bs ++ row ∷ []) bs more (SameBefore-needless bs row k)
  where
    first : (b : Bool) → (b || false) ≡ true → b ≡ true
    first true g = refl
    first false g = g
reduced_after-needless bs (t ∷ ts) more row h =
    let k : (list_any (is_as_strong row) (bs ++ t ∷ []) || list_any (is_as_strong row) ts)
    ≡ true = ap (λ z. z || list_any (is_as_strong row) ts) (list_any-append (is_as_strong row) bs (t ∷ []))
    ∙ moved (list_any (is_as_strong row) bs) (is_as_strong row t) (list_any (is_as_strong row) ts) h in
    chosen_same (stays bs t ((ts ++ row ∷ []) ++ more)) (stays bs t (ts ++ more)) t
    (reduced_after (bs ++ t ∷ []) ((ts ++ row ∷ []) ++ more))
    (reduced_after (bs ++ t ∷ []) (ts ++ more)) (same_stays bs ts more t row h) (reduced_after-needless (bs ++ t ∷ []) ts more row k)

pub reduced-needless : (ts more : List LinearSum) (row : LinearSum) → list_any (is_as_strong row) ts ≡ true →
    reduced ((ts ++ row ∷ []) ++ more) ≡ reduced (ts ++ more)
reduced-needless ts more row h = reduced_after-needless [] ts more row h
