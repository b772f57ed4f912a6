-- The columns that rows name: those of one more row, and that they stay the same with a row of one of them.
use Rattle.std.proofs.Common.{◌≡◌, ◌⊎◌, inl, inr, ℕ, ◌≤◌, ◌+◌, nat_lt, ◌==◌, List, [], ◌∷◌, ◌++◌, ℤ, arith, refl, sym, ap, subst, ◌∙◌}
use borrow.Author.Tests.{eqb-true}
use Rattle.linear_formula.specs.LinearSum.{LinearSum}
use Rattle.linear_formula.proofs.Values.{chosen}
use Rattle.infeasible_cert.specs.Right.{with_column, with_columns, columns_of}
use Rattle.infeasible_cert.proofs.Ascending.{Ascends, columns-ascend}
use Rattle.shadow_elim.proofs.Members.{Among, among-append_right}

-- Ascending columns with the same members are the same

among-above : (low z : ℕ) (xs : List ℕ) → Ascends low xs → Among z xs → low ≤ z
among-above low z [] a h = absurd h
among-above low z (x ∷ xs) a (inl e) = omega (arith, a.0, e)
among-above low z (x ∷ xs) a (inr h) = omega (arith, a.0, among-above (x + 1) z xs a.1 h)

pub same-members : (low next : ℕ) (xs ys : List ℕ) → Ascends low xs → Ascends next ys → ((z : ℕ) → Among z xs → Among z ys) →
    ((z : ℕ) → Among z ys → Among z xs) → xs ≡ ys
same-members low next [] [] a b f g = refl
same-members low next [] (y ∷ ys) a b f g = absurd (g y (inl refl))
same-members low next (x ∷ xs) [] a b f g = absurd (f x (inl refl))
same-members low next (x ∷ xs) (y ∷ ys) a b f g =
    let first : x ≡ y = same_first (f x (inl refl)) (g y (inl refl)) in
    ap (λ z. z ∷ xs) first ∙ ap (λ zs. y ∷ zs) (same-members (x + 1) (y + 1) xs ys a.1 b.1 (λ z h. forth first z h (f z (inr h)))
    (λ z h. back first z h (g z (inr h)))) where
      same_first : Among x (y ∷ ys) → Among y (x ∷ xs) → x ≡ y
      same_first (inl e) k = sym e
      same_first (inr h) (inl e) = e
      same_first (inr h) (inr k) =
          absurd (omega (arith, among-above (y + 1) x ys b.1 h, among-above (x + 1) y xs a.1 k))

      forth : x ≡ y → (z : ℕ) → Among z xs → Among z (y ∷ ys) → Among z ys
      forth e z h (inl k) = absurd (omega (arith, e, k, among-above (x + 1) z xs a.1 h))
      forth e z h (inr k) = k

      back : x ≡ y → (z : ℕ) → Among z ys → Among z (x ∷ xs) → Among z xs
      back e z h (inl k) = absurd (omega (arith, e, k, among-above (y + 1) z ys b.1 h))
      back e z h (inr k) = k

-- Members

with-cases : (z x : ℕ) (xs : List ℕ) → Among z (with_column x xs) → (x ≡ z) ⊎ Among z xs
with-cases z x [] (inl e) = inl e
with-cases z x [] (inr h) = absurd h
with-cases z x (y ∷ ys) h =
    chosen (λ r. Among z r → (x ≡ z) ⊎ Among z (y ∷ ys)) (nat_lt x y) (x == y) (x ∷ y ∷ ys) (y ∷ ys) (y ∷ with_column x ys) (λ _. front)
    (λ _ _ h. inr h) (λ _ _. behind (with-cases z x ys)) h where
      front : Among z (x ∷ y ∷ ys) → (x ≡ z) ⊎ Among z (y ∷ ys)
      front (inl e) = inl e
      front (inr h) = inr h

      behind : (Among z (with_column x ys) → (x ≡ z) ⊎ Among z ys) → Among z (y ∷ with_column x ys) → (x ≡ z) ⊎ Among z (y ∷ ys)
      behind r (inl e) = inr (inl e)
      behind r (inr h) = pass (r h) where
        pass : (x ≡ z) ⊎ Among z ys → (x ≡ z) ⊎ Among z (y ∷ ys)
        pass (inl e) = inl e
        pass (inr k) = inr (inr k)

with-keeps : (z x : ℕ) (xs : List ℕ) → Among z xs → Among z (with_column x xs)
with-keeps z x [] h = absurd h
with-keeps z x (y ∷ ys) h =
    chosen (λ r. Among z r) (nat_lt x y) (x == y) (x ∷ y ∷ ys) (y ∷ ys) (y ∷ with_column x ys) (λ _. inr h) (λ _ _. h)
    (λ _ _. behind (with-keeps z x ys) h) where
      behind : (Among z ys → Among z (with_column x ys)) → Among z (y ∷ ys) → Among z (y ∷ with_column x ys)
      behind r (inl e) = inl e
      behind r (inr k) = inr (r k)

with-has : (x : ℕ) (xs : List ℕ) → Among x (with_column x xs)
with-has x [] = inl refl
with-has x (y ∷ ys) =
    chosen (λ r. Among x r) (nat_lt x y) (x == y) (x ∷ y ∷ ys) (y ∷ ys) (y ∷ with_column x ys) (λ _. inl refl)
    (λ _ e. inl (sym (eqb-true x y e))) (λ _ _. inr (with-has x ys))

-- a part names the column
abbrev pub IsNamed : ℕ → List (ℕ × ℤ) → Type 0
IsNamed z [] = ⊥
IsNamed z (p ∷ ps) = (p.0 ≡ z) ⊎ IsNamed z ps

all-cases : (z : ℕ) (ps : List (ℕ × ℤ)) (xs : List ℕ) → Among z (with_columns ps xs) → IsNamed z ps ⊎ Among z xs
all-cases z [] xs h = inr h
all-cases z (p ∷ ps) xs h = pass (all-cases z ps xs) (with-cases z p.0 (with_columns ps xs) h) where
  more : IsNamed z ps ⊎ Among z xs → IsNamed z (p ∷ ps) ⊎ Among z xs
  more (inl k) = inl (inr k)
  more (inr k) = inr k

  pass : (Among z (with_columns ps xs) → IsNamed z ps ⊎ Among z xs) → (p.0 ≡ z) ⊎ Among z (with_columns ps xs) → IsNamed z (p ∷ ps)
      ⊎ Among z xs
  pass r (inl e) = inl (inl e)
  pass r (inr k) = more (r k)

all-keeps : (z : ℕ) (ps : List (ℕ × ℤ)) (xs : List ℕ) → Among z xs → Among z (with_columns ps xs)
all-keeps z [] xs h = h
all-keeps z (p ∷ ps) xs h = with-keeps z p.0 (with_columns ps xs) (all-keeps z ps xs h)

all-has : (z : ℕ) (ps : List (ℕ × ℤ)) (xs : List ℕ) → IsNamed z ps → Among z (with_columns ps xs)
all-has z [] xs h = absurd h
all-has z (p ∷ ps) xs (inl e) =
    subst (λ (y : ℕ). Among y (with_column p.0 (with_columns ps xs))) e (with-has p.0 (with_columns ps xs))
all-has z (p ∷ ps) xs (inr h) = with-keeps z p.0 (with_columns ps xs) (all-has z ps xs h)

-- the columns of a row are among those of the rows
pub named-among : (z : ℕ) (ts : List LinearSum) (t : LinearSum) → Among t ts → IsNamed z t.parts → Among z (columns_of ts)
named-among z [] t h k = absurd h
named-among z (s ∷ ts) t (inl e) k =
    all-has z s.parts (columns_of ts) (subst (λ (u : LinearSum). IsNamed z u.parts) (sym e) k)
named-among z (s ∷ ts) t (inr h) k = all-keeps z s.parts (columns_of ts) (named-among z ts t h k)

more-cases : (z : ℕ) (ts us : List LinearSum) → Among z (columns_of (ts ++ us)) → Among z (columns_of ts) ⊎ Among z (columns_of us)
more-cases z [] us h = inr h
more-cases z (t ∷ ts) us h = pass (more-cases z ts us) (all-cases z t.parts (columns_of (ts ++ us)) h) where
  more : Among z (columns_of ts) ⊎ Among z (columns_of us) → Among z (columns_of (t ∷ ts)) ⊎ Among z (columns_of us)
  more (inl k) = inl (all-keeps z t.parts (columns_of ts) k)
  more (inr k) = inr k

  pass : (Among z (columns_of (ts ++ us)) → Among z (columns_of ts) ⊎ Among z (columns_of us)) → IsNamed z t.parts
      ⊎ Among z (columns_of (ts ++ us)) → Among z (columns_of (t ∷ ts)) ⊎ Among z (columns_of us)
  pass r (inl k) = inl (all-has z t.parts (columns_of ts) k)
  pass r (inr k) = more (r k)

more-keeps : (z : ℕ) (ts us : List LinearSum) → Among z (columns_of ts) → Among z (columns_of (ts ++ us))
more-keeps z [] us h = absurd h
more-keeps z (t ∷ ts) us h = pass (more-keeps z ts us) (all-cases z t.parts (columns_of ts) h) where
  pass : (Among z (columns_of ts) → Among z (columns_of (ts ++ us))) → IsNamed z t.parts ⊎ Among z (columns_of ts) →
      Among z (with_columns t.parts (columns_of (ts ++ us)))
  pass r (inl k) = all-has z t.parts (columns_of (ts ++ us)) k
  pass r (inr k) = all-keeps z t.parts (columns_of (ts ++ us)) (r k)

-- a row of one of the columns adds none
pub columns-kept : (ts : List LinearSum) (t : LinearSum) (x : ℕ) (a : ℤ) → t.parts ≡ (x, a) ∷ [] → Among x (columns_of ts) →
    columns_of (ts ++ t ∷ []) ≡ columns_of ts
columns-kept ts t x a e h =
    same-members 0 0 (columns_of (ts ++ t ∷ [])) (columns_of ts) (columns-ascend (ts ++ t ∷ [])) (columns-ascend ts)
    (λ z k. back z (more-cases z ts (t ∷ []) k)) (λ z k. more-keeps z ts (t ∷ []) k) where
      of_row : (z : ℕ) → IsNamed z ((x, a) ∷ []) → Among z (columns_of ts)
      of_row z (inl f) = subst (λ (y : ℕ). Among y (columns_of ts)) f h
      of_row z (inr f) = absurd f

      row_cases : (z : ℕ) → IsNamed z t.parts ⊎ Among z [] → Among z (columns_of ts)
      row_cases z (inl k) = of_row z (subst (IsNamed z) e k)
      row_cases z (inr k) = absurd k

      back : (z : ℕ) → Among z (columns_of ts) ⊎ Among z (columns_of (t ∷ [])) → Among z (columns_of ts)
      back z (inl k) = k
      back z (inr k) = row_cases z (all-cases z t.parts [] k)

-- the columns of one more row
pub columns-last : (ts : List LinearSum) (t : LinearSum) → columns_of (ts ++ t ∷ []) ≡ with_columns t.parts (columns_of ts)
columns-last ts t =
    same-members 0 0 (columns_of (ts ++ t ∷ [])) (columns_of (t ∷ ts)) (columns-ascend (ts ++ t ∷ [])) (columns-ascend (t ∷ ts))
    (λ z k. forth z (more-cases z ts (t ∷ []) k)) (λ z k. back z (all-cases z t.parts (columns_of ts) k)) where
      alone : (z : ℕ) → IsNamed z t.parts ⊎ Among z [] → Among z (with_columns t.parts (columns_of ts))
      alone z (inl k) = all-has z t.parts (columns_of ts) k
      alone z (inr k) = absurd k

      forth : (z : ℕ) → Among z (columns_of ts) ⊎ Among z (columns_of (t ∷ [])) → Among z (with_columns t.parts (columns_of ts))
      forth z (inl k) = all-keeps z t.parts (columns_of ts) k
      forth z (inr k) = alone z (all-cases z t.parts [] k)

      back : (z : ℕ) → IsNamed z t.parts ⊎ Among z (columns_of ts) → Among z (columns_of (ts ++ t ∷ []))
      back z (inl k) = named-among z (ts ++ t ∷ []) t (among-append_right ts (t ∷ []) t (inl refl)) k
      back z (inr k) = more-keeps z ts (t ∷ []) k
