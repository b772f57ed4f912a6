-- Rows that name the same columns.
use Rattle.std.proofs.Common.{◌≡◌, ◌⊎◌, inl, inr, ℕ, suc, zero, ◌<◌, ◌≤◌, ◌+◌, List, [], ◌∷◌, length, get_or, nat_lt, ◌==◌, ℤ, Contains, All, arith, refl, sym, ap, subst, ◌∙◌}
use Rattle.std.proofs.lemmas.List.Elements.{All-head, All-tail}
use Rattle.std.proofs.lemmas.Option.{slice_get_within, get_or_from_slice_get}
use borrow.Author.Tests.{eqb-true}
use Rattle.linear_formula.specs.LinearSum.{LinearSum}
use Rattle.linear_formula.specs.Extremes.{AreExtremes, HaveNumbers, IsBetween}
use Rattle.linear_formula.specs.declared.formula.Atom.{Atom}
use Rattle.linear_formula.proofs.Values.{chosen}
use Rattle.infeasible_cert.specs.Right.{with_column, with_columns, columns_of, rows_of}
use Rattle.infeasible_cert.proofs.Ascending.{Ascends, columns-ascend}

abbrev pub IsIn : ℕ → List ℕ → Type 0
IsIn z [] = ⊥
IsIn z (x ∷ xs) = (z ≡ x) ⊎ IsIn z xs

-- a column is one of those of parts, or of rows
abbrev pub IsOfParts : ℕ → List (ℕ × ℤ) → Type 0
IsOfParts z [] = ⊥
IsOfParts z (p ∷ ps) = (z ≡ p.0) ⊎ IsOfParts z ps

abbrev pub IsOfRows : ℕ → List LinearSum → Type 0
IsOfRows z [] = ⊥
IsOfRows z (t ∷ ts) = IsOfParts z t.parts ⊎ IsOfRows z ts

-- Ascending lists with the same members

in_rest : (low z : ℕ) (xs : List ℕ) → Ascends low xs → IsIn z xs → low ≤ z
in_rest low z [] a h = absurd h
in_rest low z (x ∷ xs) a (inl e) = omega (arith, a.0, e)
in_rest low z (x ∷ xs) a (inr h) = omega (arith, a.0, in_rest (x + 1) z xs a.1 h)

pub same_members : (low : ℕ) (xs ys : List ℕ) → Ascends low xs → Ascends low ys → ((z : ℕ) → IsIn z xs → IsIn z ys) →
    ((z : ℕ) → IsIn z ys → IsIn z xs) → xs ≡ ys
same_members low [] [] a b f g = refl
same_members low [] (y ∷ ys) a b f g = absurd (g y (inl refl))
same_members low (x ∷ xs) [] a b f g = absurd (f x (inl refl))
same_members low (x ∷ xs) (y ∷ ys) a b f g =
    ap (λ z. z ∷ xs) head ∙ ap (λ zs. y ∷ zs) (same_members (y + 1) xs ys ascends b.1 (λ z h. further z (f z (inr h))
    (above_x z h)) (λ z h. nearer z (g z (inr h)) (in_rest (y + 1) z ys b.1 h))) where
      above : (u v : ℕ) (us : List ℕ) → Ascends (v + 1) us → (u ≡ v) ⊎ IsIn u us → v ≤ u
      above u v us c (inl e) = omega (arith, e)
      above u v us c (inr h) = omega (arith, in_rest (v + 1) u us c h)

      head : x ≡ y
      head = omega (arith, above x y ys b.1 (f x (inl refl)), above y x xs a.1 (g y (inl refl)))

      ascends : Ascends (y + 1) xs
      ascends = subst (λ (n : ℕ). Ascends (n + 1) xs) head a.1

      above_x : (z : ℕ) → IsIn z xs → y + 1 ≤ z
      above_x z h = in_rest (y + 1) z xs ascends h

      further : (z : ℕ) → (z ≡ y) ⊎ IsIn z ys → y + 1 ≤ z → IsIn z ys
      further z (inl e) l = absurd (omega (arith, e, l))
      further z (inr h) l = h

      nearer : (z : ℕ) → (z ≡ x) ⊎ IsIn z xs → y + 1 ≤ z → IsIn z xs
      nearer z (inl e) l = absurd (omega (arith, e, l, head))
      nearer z (inr h) l = h

-- Columns of rows

in_with : (z x : ℕ) (xs : List ℕ) → IsIn z (with_column x xs) → (z ≡ x) ⊎ IsIn z xs
in_with z x [] h = h
in_with z x (y ∷ ys) h =
    chosen (λ r. IsIn z r → (z ≡ x) ⊎ IsIn z (y ∷ ys)) (nat_lt x y) (x == y) (x ∷ y ∷ ys) (y ∷ ys) (y ∷ with_column x ys) (λ _ k. k)
    (λ _ _ k. inr k) (λ _ _ k. behind (in_with z x ys) k) h where
      pass : (z ≡ x) ⊎ IsIn z ys → (z ≡ x) ⊎ IsIn z (y ∷ ys)
      pass (inl e) = inl e
      pass (inr k) = inr (inr k)

      behind : (IsIn z (with_column x ys) → (z ≡ x) ⊎ IsIn z ys) → (z ≡ y) ⊎ IsIn z (with_column x ys) → (z ≡ x) ⊎ IsIn z (y ∷ ys)
      behind f (inl e) = inr (inl e)
      behind f (inr k) = pass (f k)

with_in : (z x : ℕ) (xs : List ℕ) → (z ≡ x) ⊎ IsIn z xs → IsIn z (with_column x xs)
with_in z x [] h = h
with_in z x (y ∷ ys) h =
    chosen (IsIn z) (nat_lt x y) (x == y) (x ∷ y ∷ ys) (y ∷ ys) (y ∷ with_column x ys) (λ _. h) (λ _ e. same (eqb-true x y e) h)
    (λ _ _. behind (with_in z x ys) h) where
      same : x ≡ y → (z ≡ x) ⊎ IsIn z (y ∷ ys) → IsIn z (y ∷ ys)
      same e (inl q) = inl (q ∙ e)
      same e (inr k) = k

      behind : ((z ≡ x) ⊎ IsIn z ys → IsIn z (with_column x ys)) → (z ≡ x) ⊎ IsIn z (y ∷ ys) → (z ≡ y) ⊎ IsIn z (with_column x ys)
      behind f (inl q) = inr (f (inl q))
      behind f (inr (inl q)) = inl q
      behind f (inr (inr k)) = inr (f (inr k))

in_with_all : (z : ℕ) (ps : List (ℕ × ℤ)) (xs : List ℕ) → IsIn z (with_columns ps xs) → IsOfParts z ps ⊎ IsIn z xs
in_with_all z [] xs h = inr h
in_with_all z (p ∷ ps) xs h = first (in_with_all z ps xs) (in_with z p.0 (with_columns ps xs) h) where
  pass : IsOfParts z ps ⊎ IsIn z xs → IsOfParts z (p ∷ ps) ⊎ IsIn z xs
  pass (inl k) = inl (inr k)
  pass (inr k) = inr k

  first : (IsIn z (with_columns ps xs) → IsOfParts z ps ⊎ IsIn z xs) → (z ≡ p.0) ⊎ IsIn z (with_columns ps xs) →
      IsOfParts z (p ∷ ps) ⊎ IsIn z xs
  first f (inl e) = inl (inl e)
  first f (inr k) = pass (f k)

with_all_in : (z : ℕ) (ps : List (ℕ × ℤ)) (xs : List ℕ) → IsOfParts z ps ⊎ IsIn z xs → IsIn z (with_columns ps xs)
with_all_in z [] xs (inl h) = absurd h
with_all_in z [] xs (inr h) = h
with_all_in z (p ∷ ps) xs (inl (inl e)) = with_in z p.0 (with_columns ps xs) (inl e)
with_all_in z (p ∷ ps) xs (inl (inr h)) = with_in z p.0 (with_columns ps xs) (inr (with_all_in z ps xs (inl h)))
with_all_in z (p ∷ ps) xs (inr h) = with_in z p.0 (with_columns ps xs) (inr (with_all_in z ps xs (inr h)))

pub columns_named : (z : ℕ) (ts : List LinearSum) → IsIn z (columns_of ts) → IsOfRows z ts
columns_named z [] h = h
columns_named z (t ∷ ts) h = pass (columns_named z ts) (in_with_all z t.parts (columns_of ts) h) where
  pass : (IsIn z (columns_of ts) → IsOfRows z ts) → IsOfParts z t.parts ⊎ IsIn z (columns_of ts) → IsOfRows z (t ∷ ts)
  pass f (inl k) = inl k
  pass f (inr k) = inr (f k)

pub named_columns : (z : ℕ) (ts : List LinearSum) → IsOfRows z ts → IsIn z (columns_of ts)
named_columns z [] h = h
named_columns z (t ∷ ts) (inl h) = with_all_in z t.parts (columns_of ts) (inl h)
named_columns z (t ∷ ts) (inr h) = with_all_in z t.parts (columns_of ts) (inr (named_columns z ts h))

-- rows that name the same columns have the same list of them
pub columns_alike : (ts us : List LinearSum) → ((z : ℕ) → IsOfRows z ts → IsOfRows z us) → ((z : ℕ) → IsOfRows z us → IsOfRows z ts) →
    columns_of ts ≡ columns_of us
columns_alike ts us f g =
    same_members 0 (columns_of ts) (columns_of us) (columns-ascend ts) (columns-ascend us)
    (λ z h. named_columns z us (f z (columns_named z ts h))) (λ z h. named_columns z ts (g z (columns_named z us h)))

-- Rows between which others lie

of_row : (z : ℕ) (atoms : List Atom) (a : Atom) (k : ℕ) → k < length atoms → get_or atoms k a ≡ a → IsOfParts z a.term.parts → IsOfRows z
    (rows_of atoms)
of_row z [] a k h e p = absurd (omega (arith, h))
of_row z (b ∷ atoms) a zero h e p = inl (subst (λ (c : Atom). IsOfParts z c.term.parts) (sym e) p)
of_row z (b ∷ atoms) a (suc k) h e p = inr (of_row z atoms a k (omega (arith, h)) e p)

-- the columns of a row that rows contain are theirs
pub of_contained : (z : ℕ) (atoms : List Atom) (a : Atom) → Contains atoms a → IsOfParts z a.term.parts → IsOfRows z (rows_of atoms)
of_contained z atoms a c p = of_row z atoms a c.0 c.1 c.2 p

of_numbered : (z : ℕ) (numbers : List ℕ) (rows all : List Atom) → HaveNumbers numbers rows all → IsOfRows z (rows_of rows) → IsOfRows z
    (rows_of all)
of_numbered z [] [] all a h = absurd h
of_numbered z [] (r ∷ rows) all a h = absurd a
of_numbered z (n ∷ ns) [] all a h = absurd h
of_numbered z (n ∷ ns) (r ∷ rows) all a (inl h) =
    of_row z all r n (slice_get_within all n r a.0) (get_or_from_slice_get all n r r a.0) h
of_numbered z (n ∷ ns) (r ∷ rows) all a (inr h) = of_numbered z ns rows all a.1 h

of_between : (z : ℕ) (rows all : List Atom) → All (λ a. IsBetween rows a.term) all → IsOfRows z (rows_of all) → IsOfRows z (rows_of rows)
of_between z rows [] b h = absurd h
of_between z rows (a ∷ all) b (inl h) =
    let w = All-head (λ (c : Atom). IsBetween rows c.term) a all b in
    of_contained z rows w.upper w.upper_there (subst (IsOfParts z) (sym w.above.parts) h)
of_between z rows (a ∷ all) b (inr h) = of_between z rows all (All-tail (λ (c : Atom). IsBetween rows c.term) a all b) h

-- they name the same columns
pub columns_of_extremes : (numbers : List ℕ) (rows all : List Atom) → AreExtremes numbers rows all → columns_of (rows_of rows)
    ≡ columns_of (rows_of all)
columns_of_extremes numbers rows all e =
    columns_alike (rows_of rows) (rows_of all) (λ z. of_numbered z numbers rows all e.numbered) (λ z. of_between z rows all e.between)
