-- Rows that are numbered in place, and rows at their numbers.
use Rattle.std.proofs.Common.{◌≡◌, inl, inr, ℕ, suc, zero, ◌+◌, ◌<◌, List, [], ◌∷◌, ◌++◌, length, get_or, take, arith, refl, sym, ap, subst, append_assoc, ◌∙◌}
use Rattle.std.specs.Prelude.{All, Contains}
use Rattle.std.proofs.lemmas.List.{length-append, map-append, take_more}
use Rattle.std.proofs.lemmas.List.Elements.{All-nil, All-cons}
use Rattle.linear_formula.specs.LinearSum.{LinearSum}
use Rattle.linear_formula.specs.declared.formula.Atom.{Atom}
use Rattle.infeasible_cert.specs.declared.certificate.Derived.{Derived}
use Rattle.infeasible_cert.specs.Right.{row_at, rows_of, rows_after, upper_range, lower_range, range_rows}
use Rattle.infeasible_cert.proofs.Deriving.{after-is}
use Rattle.shadow_elim.specs.declared.row.Row.{Row}
use Rattle.shadow_elim.specs.Elimination.{listed_rows}
use Rattle.shadow_elim.specs.Stages.{terms_of, AreNumbered}
use Rattle.shadow_elim.specs.Shadows.{AreDerived}
use Rattle.shadow_elim.specs.steps.Making.{AreInPlace}
use Rattle.shadow_elim.proofs.Members.{Among, among-contains}

-- a row with the next number
pub in-place-snoc : (n : ℕ) (rs : List Row) (r : Row) → AreInPlace n rs → r.number ≡ n + length rs → AreInPlace n (rs ++ r ∷ [])
in-place-snoc n [] r h e = (omega (arith, e), tt)
in-place-snoc n (s ∷ rs) r h e = (h.0, in-place-snoc (n + 1) rs r h.1 (omega (arith, e)))

pub terms-snoc : (rs : List Row) (r : Row) → terms_of (rs ++ r ∷ []) ≡ terms_of rs ++ r.term ∷ []
terms-snoc rs r = map-append (λ (s : Row). s.term) rs (r ∷ [])

pub ranges-more : (xs : List ℕ) (x : ℕ) → range_rows (xs ++ x ∷ []) ≡ range_rows xs ++ upper_range x ∷ lower_range x ∷ []
ranges-more [] x = refl
ranges-more (y ∷ xs) x = ap (λ (ts : List LinearSum). upper_range y ∷ lower_range y ∷ ts) (ranges-more xs x)

-- the range rows of one more column
pub ranges-pushed : (columns : List ℕ) (i : ℕ) (u l : LinearSum) (old r0 r1 r2 : List LinearSum) → i < length columns →
    r0 ≡ old ++ range_rows (take i columns) → u ≡ upper_range (get_or columns i 0) → l ≡ lower_range (get_or columns i 0) → r1 ≡ r0 ++ u
    ∷ [] → r2 ≡ r1 ++ l ∷ [] → r2 ≡ old ++ range_rows (take (i + 1) columns)
ranges-pushed columns i u l old r0 r1 r2 lt h eu el k1 k2 =
    let x = get_or columns i 0 in
    let more : range_rows (take (i + 1) columns) ≡ range_rows (take i columns) ++ upper_range x ∷ lower_range x ∷ [] = ap range_rows
    (take_more columns i 0 lt) ∙ ranges-more (take i columns) x in
    k2 ∙ ap (λ (ts : List LinearSum). ts ++ l ∷ []) k1 ∙ append_assoc r0 (u ∷ []) (l ∷ []) ∙ ap (λ (ts : List LinearSum). ts ++ u ∷ l ∷ [])
    h
    ∙ append_assoc old (range_rows (take i columns)) (u ∷ l ∷ [])
    ∙ ap (λ (t : LinearSum). old ++ (range_rows (take i columns) ++ t ∷ l ∷ []))
    eu ∙ ap (λ (t : LinearSum). old ++ (range_rows (take i columns) ++ upper_range x ∷ t ∷ [])) el ∙ ap (λ (ts : List LinearSum). old ++ ts)
    (sym more)

-- the rows of a cube, and then those of the ranges
pub listed-pushed : (columns : List ℕ) (atoms listed : List Atom) (r0 r1 r2 : List Row) → r0 ≡ [] → atoms ≡ listed → terms_of r1
    ≡ terms_of r0 ++ rows_of atoms → terms_of r2 ≡ terms_of r1 ++ range_rows columns → terms_of r2 ≡ listed_rows listed columns
listed-pushed columns atoms listed r0 r1 r2 none same h k =
    k ∙ ap (λ (ts : List LinearSum). ts ++ range_rows columns) (h ∙ ap (λ (rs : List Row). terms_of rs ++ rows_of atoms) none
    ∙ ap rows_of same)

pub row-behind : (before : List LinearSum) (t : LinearSum) (ts : List LinearSum) → row_at (before ++ t ∷ ts) (length before) ≡ t
row-behind [] t ts = refl
row-behind (b ∷ bs) t ts = row-behind bs t ts

-- each row that is numbered in place is at its number
pub in-place-numbered : (before : List LinearSum) (rs : List Row) → AreInPlace (length before) rs → AreNumbered (before ++ terms_of rs) rs
in-place-numbered before [] h = tt
in-place-numbered before (r ∷ rs) h =
    let all = before ++ r.term ∷ terms_of rs in
    let longer : length before + 1 ≡ length (before ++ r.term ∷ []) = omega (arith, length-append before (r.term ∷ [])) in
    let rest = in-place-numbered (before ++ r.term ∷ []) rs (subst (λ (n : ℕ). AreInPlace n rs) longer h.1) in (
      omega (arith, h.0, length-append before (r.term ∷ terms_of rs)),
      ap (row_at all) h.0 ∙ row-behind before r.term (terms_of rs),
      subst (λ (rows : List LinearSum). AreNumbered rows rs) (append_assoc before (r.term ∷ []) (terms_of rs)) rest,
    )

-- Rows that are derived

row-among : (base : List LinearSum) (n : ℕ) → n < length base → Among (row_at base n) base
row-among [] n h = absurd (omega (arith, h))
row-among (t ∷ ts) zero h = inl refl
row-among (t ∷ ts) (suc n) h = inr (row-among ts n (omega (arith, h)))

numbered-among : (base : List LinearSum) (rows : List Row) → AreNumbered base rows → (t : LinearSum) → Among t (terms_of rows) →
    Among t base
numbered-among base [] h t k = absurd k
numbered-among base (r ∷ rows) h t (inl e) =
    subst (λ (s : LinearSum). Among s base) (h.1 ∙ e) (row-among base r.number h.0)
numbered-among base (r ∷ rows) h t (inr k) = numbered-among base rows h.2 t k

atoms-contained : (base : List LinearSum) (atoms : List Atom) → ((t : LinearSum) → Among t (rows_of atoms) → Among t base) →
    All (λ a. Contains base a.term) atoms
atoms-contained base [] h = All-nil (λ a. Contains base a.term)
atoms-contained base (a ∷ atoms) h =
    All-cons (λ b. Contains base b.term) a atoms (among-contains base a.term (h a.term (inl refl)))
    (atoms-contained base atoms (λ t k. h t (inr k)))

-- atoms that are rows at their numbers are among the rows or derived
pub numbered-derived : (base : List LinearSum) (steps : List Derived) (rows : List Row) (atoms : List Atom) →
    AreNumbered (rows_after base steps) rows → rows_of atoms ≡ terms_of rows → AreDerived base steps atoms
numbered-derived base steps rows atoms h e =
    subst (λ (all : List LinearSum). All (λ a. Contains all a.term) atoms) (after-is base steps)
    (atoms-contained (rows_after base steps) atoms (λ t k. numbered-among (rows_after base steps) rows h t
    (subst (λ (ts : List LinearSum). Among t ts) e k)))
