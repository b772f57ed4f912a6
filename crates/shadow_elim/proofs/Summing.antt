-- Rows of sums: when they hold, which sum is the first wide one, and what renaming and reading give.
use Rattle.std.proofs.Common.{◌≡◌, ℕ, zero, suc, ◌+◌, ◌<◌, length, take, drop, get_or, List, [], ◌∷◌, ◌++◌, Bool, true, false, Some, ℤ, pos, negsuc, ◌+ℤ◌, ◌*ℤ◌, arith, refl, sym, subst, ap, ◌∙◌}
use Rattle.std.specs.Prelude.{IsTrue, ◌≤ℤ◌, if◌then◌else◌}
use Rattle.std.proofs.lemmas.Int.{ints}
use Rattle.linear_formula.specs.LinearSum.{LinearSum, Valuation, value_of, value_of_parts, is_term, is_within}
use Rattle.linear_formula.specs.Results.{combination, constant_sum, with_part, plus_parts, renamed_parts, renamed_by}
use Rattle.linear_formula.specs.Replaced.{column_sum, replaced_valuation, summands_of_parts, replaced}
use Rattle.linear_formula.specs.Formula.{HoldsAll, are_terms, renamed_atoms_by}
use Rattle.linear_formula.specs.declared.formula.Atom.{Atom}
use Rattle.linear_formula.proofs.Finishing.{sum_same}
use Rattle.linear_formula.proofs.Limits.{both, IsTerm-from_test, test-from_Within}
use Rattle.linear_formula.proofs.Order.{plus_parts-once}
use Rattle.linear_formula.proofs.Replacing.{value-replaced, value-column}
use Rattle.linear_formula.proofs.Ring.{one-mul}
use Rattle.linear_formula.proofs.Values.{value-combination}
use Rattle.shadow_elim.specs.RightLimit.{IsRight}
use Rattle.shadow_elim.specs.Sums.{total, first_wide, rows_of_sums, row_sums, renaming, equal_sums, wide_sum}
use Rattle.shadow_elim.specs.declared.sum.Sum.{Sum}

-- Where rows of sums hold

pub sums-hold : (v : Valuation) (by : ℕ → LinearSum) (atoms : List Atom) → HoldsAll (replaced_valuation by v) atoms →
    HoldsAll v (rows_of_sums (row_sums by atoms))
sums-hold v by [] h = tt
sums-hold v by (a ∷ atoms) h = (subst (λ z. z ≤ℤ pos 0) (sym (value-replaced v by a.term)) h.0, sums-hold v by atoms h.1)

pub hold-sums : (v : Valuation) (by : ℕ → LinearSum) (atoms : List Atom) → HoldsAll v (rows_of_sums (row_sums by atoms)) →
    HoldsAll (replaced_valuation by v) atoms
hold-sums v by [] h = tt
hold-sums v by (a ∷ atoms) h = (subst (λ z. z ≤ℤ pos 0) (value-replaced v by a.term) h.0, hold-sums v by atoms h.1)

parts-same : (v w : Valuation) (ps : List (ℕ × ℤ)) → ((x : ℕ) → v x ≡ w x) → value_of_parts v ps ≡ value_of_parts w ps
parts-same v w [] a = refl
parts-same v w (p ∷ ps) a =
    ap (λ z. (p.1 *ℤ z) +ℤ value_of_parts v ps) (a p.0) ∙ ap (λ z. (p.1 *ℤ w p.0) +ℤ z) (parts-same v w ps a)

-- atoms at valuations that agree everywhere
pub holds-same : (v w : Valuation) (atoms : List Atom) → ((x : ℕ) → v x ≡ w x) → HoldsAll v atoms → HoldsAll w atoms
holds-same v w [] a h = tt
holds-same v w (atom ∷ atoms) a h =
    (subst (λ z. (z +ℤ atom.term.constant) ≤ℤ pos 0) (parts-same v w atom.term.parts a) h.0, holds-same v w atoms a h.1)

pub renaming-hold : (v : Valuation) (f : ℕ → ℕ) (atoms : List Atom) → HoldsAll (λ x. v (f x)) atoms →
    HoldsAll v (rows_of_sums (row_sums (renaming f) atoms))
renaming-hold v f atoms h =
    sums-hold v (renaming f) atoms (holds-same (λ x. v (f x)) (replaced_valuation (renaming f) v) atoms (λ x. sym (value-column v (f x))) h)

pub hold-renaming : (v : Valuation) (f : ℕ → ℕ) (atoms : List Atom) → HoldsAll v (rows_of_sums (row_sums (renaming f) atoms)) →
    HoldsAll (λ x. v (f x)) atoms
hold-renaming v f atoms h =
    holds-same (replaced_valuation (renaming f) v) (λ x. v (f x)) atoms (λ x. value-column v (f x)) (hold-sums v (renaming f) atoms h)

pub sums-append : (v : Valuation) (sums more : List Sum) → HoldsAll v (rows_of_sums sums) → HoldsAll v (rows_of_sums more) →
    HoldsAll v (rows_of_sums (sums ++ more))
sums-append v [] more h k = k
sums-append v (s ∷ sums) more h k = (h.0, sums-append v sums more h.1 k)

pub sums-split : (v : Valuation) (sums more : List Sum) → HoldsAll v (rows_of_sums (sums ++ more)) → HoldsAll v (rows_of_sums sums)
    × HoldsAll v (rows_of_sums more)
sums-split v [] more h = (tt, h)
sums-split v (s ∷ sums) more h = let r = sums-split v sums more h.1 in ((h.0, r.0), r.1)

-- the two rows of an equality
pub equal-hold : (v : Valuation) (s t : LinearSum) → value_of v s ≡ value_of v t → HoldsAll v (rows_of_sums (equal_sums s t))
equal-hold v s t h =
    let a = value-combination v ((pos 1, s) ∷ (negsuc 0, t) ∷ []) (pos 0) in
    let b = value-combination v ((pos 1, t) ∷ (negsuc 0, s) ∷ []) (pos 0) in
    (omega (arith, ints, a, h), (omega (arith, ints, b, h), tt))

pub hold-equal : (v : Valuation) (s t : LinearSum) → HoldsAll v (rows_of_sums (equal_sums s t)) → value_of v s ≡ value_of v t
hold-equal v s t h =
    let a = value-combination v ((pos 1, s) ∷ (negsuc 0, t) ∷ []) (pos 0) in
    let b = value-combination v ((pos 1, t) ∷ (negsuc 0, s) ∷ []) (pos 0) in
    omega (arith, ints, a, b, h.0, h.1.0)

-- Atoms that are renamed by sums are the renamed atoms

once : (z : ℤ) → z *ℤ pos 1 ≡ z
once z = omega (arith, ints)

abbrev whole : (ℕ → ℕ) → List (ℕ × ℤ) → ℤ → LinearSum
whole f ps c = combination (summands_of_parts (renaming f) ps ++ (pos 1, constant_sum c) ∷ []) (pos 0)

parts-renamed : (f : ℕ → ℕ) (ps : List (ℕ × ℤ)) (c : ℤ) → (whole f ps c).parts ≡ renamed_parts f ps
parts-renamed f [] c = refl
parts-renamed f (p ∷ ps) c = ap (λ z. with_part (f p.0) z (whole f ps c).parts) (once p.1) ∙ ap (with_part (f p.0) p.1)
    (parts-renamed f ps c)

constant-renamed : (f : ℕ → ℕ) (ps : List (ℕ × ℤ)) (c : ℤ) → (whole f ps c).constant ≡ c
constant-renamed f [] c = omega (arith, ints)
constant-renamed f (p ∷ ps) c = omega (arith, ints, constant-renamed f ps c)

pub renamed-sum : (f : ℕ → ℕ) (t : LinearSum) → replaced (renaming f) t ≡ renamed_by f t
renamed-sum f t =
    sum_same (whole f t.parts t.constant).parts (renamed_parts f t.parts) (whole f t.parts t.constant).constant t.constant
    (parts-renamed f t.parts t.constant) (constant-renamed f t.parts t.constant)

pub renamed-rows : (f : ℕ → ℕ) (atoms : List Atom) → rows_of_sums (row_sums (renaming f) atoms) ≡ renamed_atoms_by f atoms
renamed-rows f [] = refl
renamed-rows f (a ∷ atoms) =
    ap (λ (t : LinearSum). record { term = t } ∷ rows_of_sums (row_sums (renaming f) atoms)) (renamed-sum f a.term)
    ∙ ap (λ rows. record { term = renamed_by f a.term } ∷ rows) (renamed-rows f atoms)

-- columns by themselves
kept-parts : (ps : List (ℕ × ℤ)) → renamed_parts (λ x. x) ps ≡ plus_parts (pos 1) ps []
kept-parts [] = refl
kept-parts (p ∷ ps) =
    ap (λ z. with_part p.0 z (renamed_parts (λ x. x) ps)) (sym (one-mul p.1)) ∙ ap (with_part p.0 (pos 1 *ℤ p.1)) (kept-parts ps)

pub kept-sum : (t : LinearSum) → IsTrue (is_term t) → replaced (renaming (λ x. x)) t ≡ t
kept-sum t h =
    renamed-sum (λ x. x) t ∙ sum_same (renamed_parts (λ x. x) t.parts) t.parts t.constant t.constant
    (kept-parts t.parts ∙ plus_parts-once 0 t.parts (IsTerm-from_test t h).order) refl

pub kept-rows : (atoms : List Atom) → IsTrue (are_terms atoms) → rows_of_sums (row_sums column_sum atoms) ≡ atoms
kept-rows [] h = refl
kept-rows (a ∷ atoms) h =
    let r = both (is_term a.term) (are_terms atoms) h in
    ap (λ (t : LinearSum). record { term = t } ∷ rows_of_sums (row_sums column_sum atoms)) (kept-sum a.term r.0) ∙ ap (λ rows. a ∷ rows)
    (kept-rows atoms r.1)

-- The first wide sum of those from a place on

drop-here : (sums : List Sum) (k : ℕ) (s : Sum) → k < length sums → s ≡ get_or sums k s → drop k sums ≡ s ∷ drop (k + 1) sums
drop-here [] k s h e = absurd (omega (arith, h))
drop-here (t ∷ sums) zero s h e = ap (λ (u : Sum). u ∷ sums) (sym e)
drop-here (t ∷ sums) (suc k) s h e =
    let n : suc k + 1 ≡ suc (k + 1) = omega arith in rw n (drop-here sums k s (omega (arith, h)) e)

pub first-passed : (sums : List Sum) (k : ℕ) (s : Sum) → k < length sums → s ≡ get_or sums k s → IsTrue (is_within (total s)) →
    first_wide (drop k sums) ≡ first_wide (drop (k + 1) sums)
first-passed sums k s h e w = ap first_wide (drop-here sums k s h e) ∙ rw w refl

pub first-met : (sums : List Sum) (k : ℕ) (s : Sum) → k < length sums → s ≡ get_or sums k s → (¬ IsTrue (is_within (total s))) →
    first_wide (drop k sums) ≡ Some s
first-met sums k s h e w = ap first_wide (drop-here sums k s h e) ∙ by_test (is_within (total s)) refl where
  by_test : (b : Bool) → is_within (total s) ≡ b → (if b then first_wide (drop (k + 1) sums) else Some s) ≡ Some s
  by_test true f = absurd (w f)
  by_test false f = refl

-- the limit of a wide sum is right
pub wide-right : (s : Sum) → (¬ IsTrue (is_within (total s))) → IsRight (wide_sum s)
wide-right s w = (refl, w)

-- a sum that the code finds too wide
pub not-within : (s : Sum) (items : List (ℤ × LinearSum)) (z : ℤ) → items ≡ s.summands → z ≡ s.constant →
    (¬ IsTrue (is_within (combination items z))) → ¬ IsTrue (is_within (total s))
not-within s items z e d n = λ w.
    let here : IsTrue (is_within (combination items s.constant)) = subst
    (λ (ss : List (ℤ × LinearSum)). IsTrue (is_within (combination ss s.constant))) (sym e) w in
    n (subst (λ y. IsTrue (is_within (combination items y))) (sym d) here)

-- the first wide sum is wide
pub first-wide : (sums : List Sum) (s : Sum) → first_wide sums ≡ Some s → ¬ IsTrue (is_within (total s))
first-wide [] s e = absurd cc
first-wide (t ∷ sums) s e = by_test (is_within (total t)) refl e (first-wide sums s) where
  by_test : (b : Bool) → is_within (total t) ≡ b → (if b then first_wide sums else Some t) ≡ Some s →
      (first_wide sums ≡ Some s → ¬ IsTrue (is_within (total s))) → ¬ IsTrue (is_within (total s))
  by_test true f k next = next k
  by_test false f k next = λ w.
      let same : t ≡ s = cc in
      let g : is_within (total s) ≡ false = subst (λ (u : Sum). is_within (total u) ≡ false) same f in
      let c : false ≡ true = sym g ∙ w in
      cc

-- one row more
take-here : (sums : List Sum) (k : ℕ) (s : Sum) → k < length sums → s ≡ get_or sums k s → take (k + 1) sums ≡ take k sums ++ s ∷ []
take-here [] k s h e = absurd (omega (arith, h))
take-here (t ∷ sums) zero s h e = ap (λ (u : Sum). u ∷ []) (sym e)
take-here (t ∷ sums) (suc k) s h e =
    let n : suc k + 1 ≡ suc (k + 1) = omega arith in rw n (ap (λ us. t ∷ us) (take-here sums k s (omega (arith, h)) e))

pub rows-more : (sums more : List Sum) → rows_of_sums (sums ++ more) ≡ rows_of_sums sums ++ rows_of_sums more
rows-more [] more = refl
rows-more (s ∷ sums) more = ap (λ rows. record { term = total s } ∷ rows) (rows-more sums more)

abbrev pub atom_of : LinearSum → Atom
atom_of t = record { term = t }

pub rows-step : (sums : List Sum) (k : ℕ) (s : Sum) (t : LinearSum) (old new : List Atom) → k < length sums → s ≡ get_or sums k s →
    t ≡ total s → old ≡ rows_of_sums (take k sums) → new ≡ old ++ atom_of t ∷ [] → new ≡ rows_of_sums (take (k + 1) sums)
rows-step sums k s t old new h e f o n =
    n ∙ ap (λ u. old ++ atom_of u ∷ []) f ∙ ap (λ rows. rows ++ atom_of (total s) ∷ []) o ∙ sym (rows-more (take k sums) (s ∷ []))
    ∙ ap rows_of_sums (sym (take-here sums k s h e))

pub within-step : (s : Sum) (t : LinearSum) → t ≡ total s → IsTrue (is_term t) → IsTrue (is_within (total s))
within-step s t e k =
    subst (λ (u : LinearSum). IsTrue (is_within u)) e (test-from_Within t (IsTerm-from_test t k).within)
