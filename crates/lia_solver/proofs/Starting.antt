-- The rows of a cube and of its columns' ranges, from which an elimination starts.
use Rattle.std.proofs.Common.{◌≡◌, ◌⊎◌, inl, inr, ℕ, ◌<◌, ◌^◌, ◌==◌, false, List, [], ◌∷◌, ℤ, pos, negsuc, refl, sym, ap, subst}
use Rattle.std.specs.Prelude.{IsTrue}
use borrow.Author.Tests.{ne_eqb}
use Rattle.linear_formula.specs.LinearSum.{LinearSum, valuation, listed_at, coefficient}
use Rattle.linear_formula.specs.steps.Order.{InOrder}
use Rattle.linear_formula.specs.Formula.{HoldsAll, are_terms}
use Rattle.linear_formula.specs.declared.formula.Atom.{Atom}
use Rattle.infeasible_cert.specs.Right.{upper_range, range_rows, columns_of, rows_of, base_rows}
use Rattle.infeasible_cert.specs.steps.Known.{RowsInOrder}
use Rattle.infeasible_cert.proofs.Ascending.{columns-ascend}
use Rattle.infeasible_cert.proofs.Meeting.{base-order}
use Rattle.shadow_elim.specs.Points.{chosen}
use Rattle.shadow_elim.specs.Plan.{outcome_of}
use Rattle.shadow_elim.proofs.Members.{Among, among-append_left, among-append_right, among-append_cases}
use Rattle.shadow_elim.proofs.Staying.{met-among, met-from}
use Rattle.shadow_elim.proofs.Keeping.{met-holds}
use Rattle.shadow_elim.proofs.Naming.{AllTerms, listed-terms}
use Rattle.shadow_elim.proofs.NamedColumns.{IsNamed, named-among}
use Rattle.lia_solver.proofs.ChosenPoints.{NamesOnly, outcome-chosen}
use Rattle.lia_solver.proofs.Ranges.{all-from}

-- Columns

order-among : (ts : List LinearSum) (t : LinearSum) → RowsInOrder ts → Among t ts → InOrder 0 t.parts
order-among [] t h k = absurd k
order-among (s ∷ ts) t h (inl e) = subst (λ (u : LinearSum). InOrder 0 u.parts) e h.0
order-among (s ∷ ts) t h (inr k) = order-among ts t h.1 k

range-among : (x : ℕ) (xs : List ℕ) → Among x xs → Among (upper_range x) (range_rows xs)
range-among x [] h = absurd h
range-among x (y ∷ ys) (inl e) = inl (ap upper_range e)
range-among x (y ∷ ys) (inr h) = inr (inr (range-among x ys h))

-- the columns have 32 bits
columns-small : (atoms : List Atom) → IsTrue (are_terms atoms) → (x : ℕ) → Among x (columns_of (rows_of atoms)) → x < 2 ^ 32
columns-small atoms h x k =
    let xs = columns_of (rows_of atoms) in
    (order-among (base_rows atoms) (upper_range x) (base-order atoms h) (among-append_right (rows_of atoms) (range_rows xs) (upper_range x)
    (range-among x xs k))).1

unnamed : (y : ℕ) (ps : List (ℕ × ℤ)) → (IsNamed y ps → ⊥) → listed_at y ps ≡ pos 0
unnamed y [] n = refl
unnamed y (p ∷ ps) n =
    let apart : (y == p.0) ≡ false = ne_eqb y p.0 (λ e. n (inl (sym e))) in
    rw apart (unnamed y ps (λ k. n (inr k)))

alone : (y x : ℕ) (a : ℤ) → (x ≡ y → ⊥) → IsNamed y ((x, a) ∷ []) → ⊥
alone y x a n (inl e) = n e
alone y x a n (inr k) = k

range-unnamed : (y : ℕ) (xs : List ℕ) (t : LinearSum) → (Among y xs → ⊥) → Among t (range_rows xs) → coefficient y t ≡ pos 0
range-unnamed y [] t n h = absurd h
range-unnamed y (x ∷ xs) t n (inl e) =
    subst (λ (u : LinearSum). coefficient y u ≡ pos 0) e (unnamed y ((x, pos 1) ∷ []) (alone y x (pos 1) (λ d. n (inl d))))
range-unnamed y (x ∷ xs) t n (inr (inl e)) =
    subst (λ (u : LinearSum). coefficient y u ≡ pos 0) e (unnamed y ((x, negsuc 0) ∷ []) (alone y x (negsuc 0) (λ d. n (inl d))))
range-unnamed y (x ∷ xs) t n (inr (inr k)) = range-unnamed y xs t (λ m. n (inr m)) k

pub base-named : (atoms : List Atom) → NamesOnly (columns_of (rows_of atoms)) (base_rows atoms)
base-named atoms y n t k =
    by_side (among-append_cases (rows_of atoms) (range_rows (columns_of (rows_of atoms))) t k) where
      by_side : Among t (rows_of atoms) ⊎ Among t (range_rows (columns_of (rows_of atoms))) → coefficient y t ≡ pos 0
      by_side (inl h) = unnamed y t.parts (λ i. n (named-among y (rows_of atoms) t h i))
      by_side (inr h) = range-unnamed y (columns_of (rows_of atoms)) t n h

pub base-terms : (atoms : List Atom) → IsTrue (are_terms atoms) → AllTerms (base_rows atoms)
base-terms atoms h =
    listed-terms atoms (columns_of (rows_of atoms)) h (all-from (λ x. x < 2 ^ 32) (columns_of (rows_of atoms)) (columns-small atoms h))

-- Values

-- all atoms hold at the values that are chosen
pub base-chosen : (atoms : List Atom) (values : List (ℕ × ℤ)) → IsTrue (are_terms atoms) → outcome_of atoms ≡ chosen values →
    HoldsAll (valuation values) atoms
base-chosen atoms values h e =
    let xs = columns_of (rows_of atoms) in
    let met = (outcome-chosen xs (base_rows atoms) values (columns-ascend (rows_of atoms)) (base-terms atoms h) (base-named atoms) e).met in
    met-holds (valuation values) atoms (met-from (valuation values) (rows_of atoms) (λ t k. met-among (valuation values) (base_rows atoms) t
    met (among-append_left (rows_of atoms) (range_rows xs) t k)))
