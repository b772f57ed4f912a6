-- What a projection gives or refuses.
use Rattle.std.proofs.Common.{◌≡◌, ◌⊎◌, inl, inr, ⊎_elim, ℕ, zero, suc, ◌+◌, ◌<◌, length, drop, get_or, List, [], ◌∷◌, ◌++◌, Bool, true, false, ◌||◌, ◌==◌, nat_lt, None, Some, Option, Result, Ok, Err, ℤ, pos, Less, Equal, Greater, Ordering, arith, refl, sym, subst, ap, ◌∙◌}
use Rattle.std.specs.Prelude.{IsTrue, Contains, IfErr, IsErrAnd, if◌then◌else◌}
use Rattle.std.proofs.lemmas.Result.{err_from_is_err_and}
use Rattle.std.specs.List.{list_any}
use Rattle.std.specs.Ordering.{nat_cmp, match_ordering}
use Rattle.std.specs.Cmp.{nat_cmp_is}
use Rattle.std.specs.BTreeSet.{insert_key}
use Rattle.std.proofs.lemmas.List.Elements.{All-head, All-tail}
use borrow.Author.Tests.{eqb-true, eq-eqb, ltb-true, ltb-false}
use Rattle.linear_formula.specs.LinearSum.{LinearSum, is_term, coefficient, listed_at}
use Rattle.linear_formula.specs.Formula.{are_terms}
use Rattle.linear_formula.specs.declared.formula.Atom.{Atom}
use Rattle.linear_formula.proofs.Limits.{both_in}
use Rattle.infeasible_cert.specs.Right.{columns_of, with_columns, with_column, rows_of, range_rows, upper_range, lower_range}
use Rattle.shadow_elim.specs.Elimination.{Remainder, remains, wide, too_many, elimination, listed_rows, first_inexact}
use Rattle.shadow_elim.specs.RightLimit.{IsRight}
use Rattle.shadow_elim.specs.Shadows.{KeepsAll, NamesNone, LosesNone}
use Rattle.shadow_elim.specs.Sums.{first_wide, rows_of_sums, IsFirstWide}
use Rattle.shadow_elim.specs.Projection.{Projected, gives, refuses, unless_wide, summed, atoms_of, left_by, projected, then_summed, wide_rows, long_rows, IfRefused}
use Rattle.shadow_elim.specs.ProjectionLaws.{FitsProjection, Pair, IsUnnamed}
use Rattle.shadow_elim.specs.declared.limit.Kept.{Kept}
use Rattle.shadow_elim.specs.declared.projection.ProjectionError.{ProjectionError}
use Rattle.shadow_elim.specs.declared.projection.ProjectionError.TheVariants as refusal
use Rattle.shadow_elim.specs.declared.sum.Sum.{Sum}
use Rattle.shadow_elim.proofs.Exact.{loses-none}
use Rattle.shadow_elim.proofs.Keeping.{keeps-all}
use Rattle.shadow_elim.proofs.Members.{Among, among-append_cases, among-contains}
use Rattle.shadow_elim.proofs.Naming.{AllTerms, IsAbsent, listed-terms, elimination-terms, elimination-absent, elimination-eliminates, absent-atoms, names-none}

-- Sums, and what follows

pub unless-none : (o : Option Sum) (next : Projected) (rows : List Atom) (pair : Pair) → unless_wide o next ≡ gives rows pair → (o ≡ None)
    × (next ≡ gives rows pair)
unless-none None next rows pair e = (refl, e)
unless-none (Some s) next rows pair e = absurd cc

rows-atoms : (ts : List LinearSum) → rows_of (atoms_of ts) ≡ ts
rows-atoms [] = refl
rows-atoms (t ∷ ts) = ap (λ us. t ∷ us) (rows-atoms ts)

pub atoms-rows : (rows : List Atom) → atoms_of (rows_of rows) ≡ rows
atoms-rows [] = refl
atoms-rows (a ∷ rows) = ap (λ l. a ∷ l) (atoms-rows rows)

pub gives-rows : (rows others : List Atom) (p q : Pair) → gives rows p ≡ gives others q → rows ≡ others
gives-rows rows others p q e = cc

pub gives-pair : (rows others : List Atom) (p q : Pair) → gives rows p ≡ gives others q → p ≡ q
gives-pair rows others p q e = cc

-- An elimination that left rows

pub record IsLeft (columns : List ℕ) (atoms rows : List Atom) (pair : Pair) : Type 0 where
  pub eliminated : elimination columns (listed_rows atoms columns) ≡ remains (rows_of rows)
  pub first : first_inexact columns (listed_rows atoms columns) ≡ pair

pub projected-left : (columns : List ℕ) (atoms rows : List Atom) (pair : Pair) → projected columns atoms ≡ gives rows pair →
    IsLeft columns atoms rows pair
projected-left columns atoms rows pair e = by_remainder (elimination columns (listed_rows atoms columns)) refl e where
  by_remainder : (r : Remainder) → elimination columns (listed_rows atoms columns) ≡ r → left_by columns atoms r ≡ gives rows pair →
      IsLeft columns atoms rows pair
  by_remainder (remains ts) f k = record {
    eliminated = f ∙ ap remains
        (sym (rows-atoms ts) ∙ ap rows_of (gives-rows (atoms_of ts) rows (first_inexact columns (listed_rows atoms columns)) pair k));
    first = gives-pair (atoms_of ts) rows (first_inexact columns (listed_rows atoms columns)) pair k;
  }
  by_remainder wide f k = absurd cc
  by_remainder too_many f k = absurd cc

pub projected-gives : (columns : List ℕ) (atoms rows : List Atom) (pair : Pair) → elimination columns (listed_rows atoms columns)
    ≡ remains (rows_of rows) → pair ≡ first_inexact columns (listed_rows atoms columns) → projected columns atoms ≡ gives rows pair
projected-gives columns atoms rows pair e f =
    ap (left_by columns atoms) e ∙ ap (λ l. gives l (first_inexact columns (listed_rows atoms columns))) (atoms-rows rows) ∙ ap (gives rows)
    (sym f)

-- the kept limits are right
pub wide-rows-right : (columns : List ℕ) (atoms : List Atom) → elimination columns (listed_rows atoms columns) ≡ wide →
    IsRight (wide_rows columns atoms)
wide-rows-right columns atoms e = (refl, e)

pub long-rows-right : (columns : List ℕ) (atoms : List Atom) → elimination columns (listed_rows atoms columns) ≡ too_many →
    IsRight (long_rows columns atoms)
long-rows-right columns atoms e = (refl, e)

-- What the code answers

pub summed-refuses : (sums : List Sum) (next : List Atom → Projected) (kept : Kept) → IsFirstWide sums kept → summed sums next
    ≡ refuses kept
summed-refuses sums next kept w =
    ap (λ o. unless_wide o (next (rows_of_sums sums))) w.first ∙ ap refuses (sym w.same)

pub summed-gives : (sums : List Sum) (next : List Atom → Projected) (rows : List Atom) → first_wide sums ≡ None → rows ≡ rows_of_sums sums →
    summed sums next ≡ next rows
summed-gives sums next rows n e =
    ap (λ o. unless_wide o (next (rows_of_sums sums))) n ∙ ap next (sym e)

limit-weaker : (P Q : Kept → Type 0) (e : ProjectionError) → ((k : Kept) → P k → Q k) → IfRefused e P → IfRefused e Q
limit-weaker P Q (refusal.Limit kept) f h = f kept h
limit-weaker P Q refusal.Memory f h = tt

-- a limit that `?` passes on
pub passed-on : {A : Type 0} (P Q : Kept → Type 0) (r : Result A ProjectionError) (e : ProjectionError) → IsErrAnd r (λ y. y ≡ e) →
    ((k : Kept) → P k → Q k) → IfRefused e P → IfErr r (λ y. IfRefused y Q)
passed-on P Q r e i f h =
    let p = err_from_is_err_and r i in
    let at : r ≡ Err e = p.1 ∙ ap Err p.2 in
    subst (λ q. IfErr q (λ y. IfRefused y Q)) (sym at) (limit-weaker P Q e f h)

pub refused-weaker : {A : Type 0} (P Q : Kept → Type 0) (r : Result A ProjectionError) → ((k : Kept) → P k → Q k) →
    IfErr r (λ e. IfRefused e P) → IfErr r (λ e. IfRefused e Q)
refused-weaker P Q (Ok a) f h = tt
refused-weaker P Q (Err e) f h = limit-weaker P Q e f h

-- rows that were made of the rows that an elimination left
pub record IsMade (sums_of : List Atom → List Sum) (b : Projected) (rows : List Atom) (pair : Pair) : Type 0 where
  pub left : List Atom
  pub is : b ≡ gives left pair
  pub decided : first_wide (sums_of left) ≡ None
  pub made : rows ≡ rows_of_sums (sums_of left)

pub then-made : (sums_of : List Atom → List Sum) (b : Projected) (rows : List Atom) (pair : Pair) → then_summed sums_of b
    ≡ gives rows pair →
    IsMade sums_of b rows pair
then-made sums_of (gives left p) rows pair e =
    let u = unless-none (first_wide (sums_of left)) (gives (rows_of_sums (sums_of left)) p) rows pair e in
    record {
      left = left;
      is = ap (gives left) (gives-pair (rows_of_sums (sums_of left)) rows p pair u.1);
      decided = u.0;
      made = sym (gives-rows (rows_of_sums (sums_of left)) rows p pair u.1);
    }
then-made sums_of (refuses kept) rows pair e = absurd cc

-- The laws

pub projections-keep : (columns : List ℕ) (atoms rows : List Atom) (pair : Pair) → projected columns atoms ≡ gives rows pair →
    KeepsAll atoms rows
projections-keep columns atoms rows pair e = keeps-all atoms rows columns (projected-left columns atoms rows pair e).eliminated

fit-terms : (columns : List ℕ) (atoms : List Atom) → FitsProjection columns atoms → AllTerms (listed_rows atoms columns)
fit-terms columns atoms f = listed-terms atoms columns f.terms f.numbers

pub projections-lose-none : (columns : List ℕ) (atoms rows : List Atom) → FitsProjection columns atoms → projected columns atoms
    ≡ gives rows None → LosesNone columns atoms rows
projections-lose-none columns atoms rows f e =
    let l = projected-left columns atoms rows None e in
    loses-none columns atoms rows (fit-terms columns atoms f) l.first l.eliminated

pub projections-name-none : (columns : List ℕ) (atoms rows : List Atom) (pair : Pair) → FitsProjection columns atoms →
    projected columns atoms ≡ gives rows pair → NamesNone columns rows
projections-name-none columns atoms rows pair f e =
    names-none columns (listed_rows atoms columns) rows (projected-left columns atoms rows pair e).eliminated (fit-terms columns atoms f)

terms-from : (atoms : List Atom) → AllTerms (rows_of atoms) → IsTrue (are_terms atoms)
terms-from [] h = refl
terms-from (a ∷ atoms) h = both_in (is_term a.term) (are_terms atoms) (h a.term (inl refl)) (terms-from atoms (λ t k. h t (inr k)))

pub projections-terms : (columns : List ℕ) (atoms rows : List Atom) (pair : Pair) → FitsProjection columns atoms → projected columns atoms
    ≡ gives rows pair → IsTrue (are_terms rows)
projections-terms columns atoms rows pair f e =
    terms-from rows (elimination-terms columns (listed_rows atoms columns) (rows_of rows)
    (projected-left columns atoms rows pair e).eliminated
    (fit-terms columns atoms f))

-- Columns that are not named

abbrev pub has : ℕ → List ℕ → Bool
has x xs = list_any (λ y. x == y) xs

or-true : (a b : Bool) → IsTrue b → IsTrue (a || b)
or-true true b h = refl
or-true false b h = h

or-left : (a b : Bool) → IsTrue a → IsTrue (a || b)
or-left true b h = refl
or-left false b h = absurd cc

pub or-cases : (a b : Bool) → IsTrue (a || b) → IsTrue a ⊎ IsTrue b
or-cases true b h = inl h
or-cases false b h = inr h

pub absent-range : (x : ℕ) (xs : List ℕ) → has x xs ≡ false → IsAbsent x (range_rows xs)
absent-range x [] h t k = absurd k
absent-range x (y ∷ xs) h t k = by_test (x == y) refl h k (λ m. absent-range x xs m) where
  by_test : (b : Bool) → (x == y) ≡ b → (b || has x xs) ≡ false → Among t (upper_range y ∷ lower_range y ∷ range_rows xs) →
      (has x xs ≡ false → (u : LinearSum) → Among u (range_rows xs) → coefficient x u ≡ pos 0) → coefficient x t ≡ pos 0
  by_test true e f m rest = absurd cc
  by_test false e f (inl q) rest = subst (λ (s : LinearSum). coefficient x s ≡ pos 0) q (rw e refl)
  by_test false e f (inr (inl q)) rest = subst (λ (s : LinearSum). coefficient x s ≡ pos 0) q (rw e refl)
  by_test false e f (inr (inr q)) rest = rest f t q

pub absent-both : (x : ℕ) (ts us : List LinearSum) → IsAbsent x ts → IsAbsent x us → IsAbsent x (ts ++ us)
absent-both x ts us h k t m = ⊎_elim (λ a. h t a) (λ a. k t a) (among-append_cases ts us t m)

pub among-has : (x : ℕ) (xs : List ℕ) → IsTrue (has x xs) → Among x xs
among-has x [] h = absurd cc
among-has x (y ∷ xs) h =
    ⊎_elim (λ k. inl (sym (eqb-true x y k))) (λ k. inr (among-has x xs k)) (or-cases (x == y) (has x xs) h)

pub unnamed-absent : (x : ℕ) (atoms : List Atom) → IsUnnamed x atoms → IsAbsent x (rows_of atoms)
unnamed-absent x [] h t k = absurd k
unnamed-absent x (a ∷ atoms) h t (inl e) =
    subst (λ (s : LinearSum). coefficient x s ≡ pos 0) e (All-head (λ b. coefficient x b.term ≡ pos 0) a atoms h)
unnamed-absent x (a ∷ atoms) h t (inr k) = unnamed-absent x atoms (All-tail (λ b. coefficient x b.term ≡ pos 0) a atoms h) t k

pub projections-name-no-other : (columns : List ℕ) (atoms rows : List Atom) (pair : Pair) → FitsProjection columns atoms →
    projected columns atoms ≡ gives rows pair → (x : ℕ) → IsUnnamed x atoms → IsUnnamed x rows
projections-name-no-other columns atoms rows pair f e x n = absent-atoms x rows (by_test (has x columns) refl) where
  left : elimination columns (listed_rows atoms columns) ≡ remains (rows_of rows)
  left = (projected-left columns atoms rows pair e).eliminated

  by_test : (b : Bool) → has x columns ≡ b → IsAbsent x (rows_of rows)
  by_test true h =
      elimination-eliminates x columns (listed_rows atoms columns) (rows_of rows) left (fit-terms columns atoms f) (among-has x columns h)
  by_test false h =
      elimination-absent x columns (listed_rows atoms columns) (rows_of rows) left (fit-terms columns atoms f)
      (absent-both x (rows_of atoms) (range_rows columns) (unnamed-absent x atoms n) (absent-range x columns h))

-- The columns that rows name

has-with : (x y : ℕ) (xs : List ℕ) → IsTrue ((x == y) || has x xs) → IsTrue (has x (with_column y xs))
has-with x y [] h = h
has-with x y (z ∷ zs) h = by_tests (nat_lt y z) (y == z) refl refl (λ k. has-with x y zs k) where
  by_tests : (a b : Bool) → nat_lt y z ≡ a → (y == z) ≡ b → (IsTrue ((x == y) || has x zs) → IsTrue (has x (with_column y zs))) →
      IsTrue (has x (if a then (y ∷ z ∷ zs) else (if b then (z ∷ zs) else (z ∷ with_column y zs))))
  by_tests true b e f rest = h
  by_tests false true e f rest = ⊎_elim (λ k. or-left (x == z) (has x zs) (subst (λ n. IsTrue (x == n)) (eqb-true y z f) k)) (λ k. k)
      (or-cases (x == y) (has x (z ∷ zs)) h)
  by_tests false false e f rest =
      ⊎_elim (λ k. or-true (x == z) (has x (with_column y zs)) (rest (or-left (x == y) (has x zs) k)))
      (λ k. ⊎_elim (λ m. or-left (x == z) (has x (with_column y zs)) m) (λ m. or-true (x == z) (has x (with_column y zs))
      (rest (or-true (x == y) (has x zs) m))) (or-cases (x == z) (has x zs) k)) (or-cases (x == y) (has x (z ∷ zs)) h)

has-more : (x : ℕ) (ps : List (ℕ × ℤ)) (xs : List ℕ) → IsTrue (has x xs) → IsTrue (has x (with_columns ps xs))
has-more x [] xs h = h
has-more x (p ∷ ps) xs h = has-with x p.0 (with_columns ps xs) (or-true (x == p.0) (has x (with_columns ps xs)) (has-more x ps xs h))

-- a column that no row lists has no coefficient
true_false : true ≡ false → ⊥
true_false k = cc

none-more : (x : ℕ) (p : ℕ × ℤ) (ps : List (ℕ × ℤ)) (xs : List ℕ) → has x (with_columns (p ∷ ps) xs) ≡ false → ((x == p.0) ≡ false)
    × (has x (with_columns ps xs) ≡ false)
none-more x p ps xs h = by_tests (x == p.0) (has x (with_columns ps xs)) refl refl where
  by_tests : (a b : Bool) → (x == p.0) ≡ a → has x (with_columns ps xs) ≡ b → ((x == p.0) ≡ false) × (has x (with_columns ps xs) ≡ false)
  by_tests true b e f = absurd (true_false (sym (has-with x p.0 (with_columns ps xs) (or-left (x == p.0) (has x (with_columns ps xs)) e))
      ∙ h))
  by_tests false true e f = absurd
      (true_false (sym (has-with x p.0 (with_columns ps xs) (or-true (x == p.0) (has x (with_columns ps xs)) f))
      ∙ h))
  by_tests false false e f = (e, f)

not-listed : (x : ℕ) (ps : List (ℕ × ℤ)) (xs : List ℕ) → has x (with_columns ps xs) ≡ false → listed_at x ps ≡ pos 0
not-listed x [] xs h = refl
not-listed x (p ∷ ps) xs h = let n = none-more x p ps xs h in rw n.0 (not-listed x ps xs n.1)

pub absent-rows : (x : ℕ) (ts : List LinearSum) → has x (columns_of ts) ≡ false → IsAbsent x ts
absent-rows x [] h t k = absurd k
absent-rows x (u ∷ ts) h t (inl e) = subst (λ (s : LinearSum). coefficient x s ≡ pos 0) e (not-listed x u.parts (columns_of ts) h)
absent-rows x (u ∷ ts) h t (inr k) = absent-rows x ts (by_rest (has x (columns_of ts)) refl) t k where
  clash : true ≡ false → ⊥
  clash m = cc

  by_rest : (b : Bool) → has x (columns_of ts) ≡ b → has x (columns_of ts) ≡ false
  by_rest true f = absurd (clash (sym (has-more x u.parts (columns_of ts) f) ∙ h))
  by_rest false f = f

has-contains : (x : ℕ) (xs : List ℕ) → IsTrue (has x xs) → Contains xs x
has-contains x xs h = among-contains xs x (among-has x xs h)

pub unlisted-unnamed : (x : ℕ) (atoms : List Atom) → (¬ Contains (columns_of (rows_of atoms)) x) → IsUnnamed x atoms
unlisted-unnamed x atoms n = absent-atoms x atoms (absent-rows x (rows_of atoms) (by_test (has x (columns_of (rows_of atoms))) refl)) where
  by_test : (b : Bool) → has x (columns_of (rows_of atoms)) ≡ b → has x (columns_of (rows_of atoms)) ≡ false
  by_test true h = absurd (n (has-contains x (columns_of (rows_of atoms)) h))
  by_test false h = h

-- a key in its place is a column in its place
pub key-column : (x : ℕ) (xs : List ℕ) → insert_key nat_cmp xs x ≡ with_column x xs
key-column x [] = refl
key-column x (y ∷ ys) = by_tests (nat_lt x y) (x == y) refl refl (key-column x ys) where
  by_tests : (a b : Bool) → nat_lt x y ≡ a → (x == y) ≡ b → insert_key nat_cmp ys x ≡ with_column x ys → match_ordering (nat_cmp x y)
      (x ∷ y ∷ ys) (y ∷ ys) (y ∷ insert_key nat_cmp ys x) ≡ (if a then (x ∷ y ∷ ys) else (if b then (y ∷ ys) else (y ∷ with_column x ys)))
  by_tests true b e f k = ap (λ (r : Ordering). match_ordering r (x ∷ y ∷ ys) (y ∷ ys) (y ∷ insert_key nat_cmp ys x))
      (sym (nat_cmp_is x y Less (ltb-true x y e)))
  by_tests false true e f k = ap (λ (r : Ordering). match_ordering r (x ∷ y ∷ ys) (y ∷ ys) (y ∷ insert_key nat_cmp ys x))
      (sym (nat_cmp_is x y Equal (eqb-true x y f)))
  by_tests false false e f k =
      let apart : x ≡ y → ⊥ = λ q. clash (sym (eq-eqb x y q) ∙ f) in
      let above : y < x = omega (arith, ltb-false x y e, apart) in
      ap (λ (r : Ordering). match_ordering r (x ∷ y ∷ ys) (y ∷ ys) (y ∷ insert_key nat_cmp ys x)) (sym (nat_cmp_is x y Greater above))
      ∙ ap (λ zs. y ∷ zs) k
    where
      clash : true ≡ false → ⊥
      clash q = cc

drop-part : (ps : List (ℕ × ℤ)) (k : ℕ) (p d : ℕ × ℤ) → k < length ps → p ≡ get_or ps k d → drop k ps ≡ p ∷ drop (k + 1) ps
drop-part [] k p d h e = absurd (omega (arith, h))
drop-part (q ∷ ps) zero p d h e = ap (λ (u : ℕ × ℤ). u ∷ ps) (sym e)
drop-part (q ∷ ps) (suc k) p d h e = let n : suc k + 1 ≡ suc (k + 1) = omega arith in rw n (drop-part ps k p d (omega (arith, h)) e)

-- a column more
pub parts-step : (ps : List (ℕ × ℤ)) (left k : ℕ) (p d : ℕ × ℤ) (start old new : List ℕ) → k < length ps → left ≡ k + 1 →
    p ≡ get_or ps k d →
    old ≡ with_columns (drop left ps) start → new ≡ insert_key nat_cmp old p.0 → new ≡ with_columns (drop k ps) start
parts-step ps left k p d start old new h l e o n =
    n ∙ key-column p.0 old ∙ ap (with_column p.0) (o ∙ ap (λ m. with_columns (drop m ps) start) l)
    ∙ sym (ap (λ qs. with_columns qs start) (drop-part ps k p d h e))
