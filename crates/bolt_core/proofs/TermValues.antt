-- The values of terms, as numbers of 64 bits.
use Rattle.std.proofs.Common.{◌≡◌, ℕ, ◌+◌, ◌<◌, List, [], ◌∷◌, ◌++◌, length, take, get_or, ℤ, pos, FitsSigned, w64, to_z, of_z, arith, sym, subst, ap, ◌∙◌}
use Rattle.std.specs.Prelude.{IsTrue}
use Rattle.std.proofs.Math.Facts.{to_z-of_z}
use Rattle.std.proofs.lemmas.Int.{ints}
use Rattle.std.proofs.lemmas.List.{get_or-map, map_more}
use mir.Syntax.{w128}
use Rattle.c_tree.specs.Meaning.{is_value}
use Rattle.linear_formula.specs.LinearSum.{LinearSum, Valuation, value_of}
use Rattle.flow_graph.specs.Columns.{AreAllValues}
use Rattle.flow_graph.proofs.Numbers.{value_bounds}
use Rattle.summary_form.specs.Musts.{values_of}

fits_64 : (z : ℤ) → IsTrue (is_value z) → FitsSigned w64 z
fits_64 z h = let b = value_bounds z h in omega (arith, ints, b.0, b.1)

fits_128 : (z : ℤ) → IsTrue (is_value z) → FitsSigned w128 z
fits_128 z h = let b = value_bounds z h in omega (arith, ints, b.0, b.1)

-- a value fits 64 bits, and stays as it is
pub value_fits : (z : ℤ) → IsTrue (is_value z) → FitsSigned w64 (to_z w128 (of_z w128 z))
value_fits z h = subst (FitsSigned w64) (sym (to_z-of_z (fits_128 z h))) (fits_64 z h)

pub value_same : (z : ℤ) → IsTrue (is_value z) → to_z w64 (of_z w64 (to_z w128 (of_z w128 z))) ≡ z
value_same z h = ap (λ x. to_z w64 (of_z w64 x)) (to_z-of_z (fits_128 z h)) ∙ to_z-of_z (fits_64 z h)

module _ (v : Valuation) (ts : List LinearSum) (are : AreAllValues (values_of v ts)) (i : ℕ) (t : LinearSum) (here : t ≡ get_or ts i t)
    (low : i < length ts) where
  -- the value of one of the terms
  pub value_here : IsTrue (is_value (value_of v t))
  value_here = subst (λ z. IsTrue (is_value z)) (get_or-map (value_of v) ts i t (pos 0) low ∙ ap (value_of v) (sym here)) (are i)

  -- the values so far, and the next one
  pub values_more : (values more : List ℤ) (z : ℤ) → z ≡ value_of v t → values ≡ values_of v (take i ts) →
      more ≡ values ++ to_z w64 (of_z w64 (to_z w128 (of_z w128 z))) ∷ [] → more ≡ values_of v (take (i + 1) ts)
  values_more values more z is so_far e =
      e ∙ ap (λ x. values ++ x ∷ []) (ap (λ x. to_z w64 (of_z w64 (to_z w128 (of_z w128 x)))) is ∙ value_same (value_of v t) value_here)
      ∙ ap (λ xs. xs ++ value_of v t ∷ []) so_far ∙ ap (λ x. values_of v (take i ts) ++ value_of v x ∷ []) here
      ∙ sym (map_more (value_of v) ts i t low)
