-- The values of inputs, as numbers of 64 bits.
use Rattle.std.proofs.Common.{◌≡◌, ℕ, zero, suc, ◌+◌, ◌<◌, List, [], ◌∷◌, ◌++◌, length, take, get_or, ℤ, pos, FitsSigned, w64, to_z, of_z, arith, refl, sym, subst, ap, ◌∙◌, append_assoc}
use Rattle.std.specs.Prelude.{IsTrue}
use Rattle.std.proofs.Math.Facts.{to_z-of_z}
use Rattle.std.proofs.lemmas.Int.{ints}
use Rattle.std.proofs.lemmas.List.{get_or-map, map_more}
use mir.Syntax.{w128}
use Rattle.c_tree.specs.Meaning.{is_value}
use Rattle.linear_formula.specs.LinearSum.{LinearSum, Valuation, Is64, value_of}
use Rattle.linear_formula.specs.Replaced.{column_sum}
use Rattle.linear_formula.proofs.Replacing.{value-column}
use Rattle.flow_graph.specs.declared.graph.Edge.{Edge}
use Rattle.flow_graph.specs.declared.graph.Edge.TheVariants.{Entry, Assign, Guard, Input, Pick, Call, Assert, Return}
use Rattle.flow_graph.specs.declared.graph.Graph.{Graph}
use Rattle.flow_graph.specs.Columns.{AreAllValues, first_symbol}
use Rattle.flow_graph.proofs.Numbers.{value_bounds, value_of_64}
use Rattle.shadow_elim.specs.declared.sum.Sum.{Sum}
use Rattle.summary_form.specs.Musts.{values_of}
use Rattle.path_sweep.specs.Guards.{Waiting, Stage, enters, runs, gave, fails, Walked, FollowsEdge, FollowsAt, ComesTo}

fits_64 : (z : ℤ) → IsTrue (is_value z) → FitsSigned w64 z
fits_64 z h = let b = value_bounds z h in omega (arith, ints, b.0, b.1)

fits_128 : (z : ℤ) → IsTrue (is_value z) → FitsSigned w128 z
fits_128 z h = let b = value_bounds z h in omega (arith, ints, b.0, b.1)

-- a value fits 64 bits, and stays as it is
pub value_fits : (z : ℤ) → IsTrue (is_value z) → FitsSigned w64 (to_z w128 (of_z w128 z))
value_fits z h = subst (FitsSigned w64) (sym (to_z-of_z (fits_128 z h))) (fits_64 z h)

value_same : (z : ℤ) → IsTrue (is_value z) → to_z w64 (of_z w64 (to_z w128 (of_z w128 z))) ≡ z
value_same z h = ap (λ x. to_z w64 (of_z w64 x)) (to_z-of_z (fits_128 z h)) ∙ to_z-of_z (fits_64 z h)

module _ (v : Valuation) (ts : List LinearSum) (are : AreAllValues (values_of v ts)) (i : ℕ) (t : LinearSum) (here : t ≡ get_or ts i t)
    (low : i < length ts) where
  -- the value of one of the terms
  pub value_here : IsTrue (is_value (value_of v t))
  value_here = subst (λ z. IsTrue (is_value z)) (get_or-map (value_of v) ts i t (pos 0) low ∙ ap (value_of v) (sym here)) (are i)

  -- the values so far, and the next one
  pub values_more : (before values more : List ℤ) (z : ℤ) → z ≡ value_of v t → values ≡ before ++ values_of v (take i ts) →
      more ≡ values ++ to_z w64 (of_z w64 (to_z w128 (of_z w128 z))) ∷ [] → more ≡ before ++ values_of v (take (i + 1) ts)
  values_more before values more z is so_far e =
      e ∙ ap (λ x. values ++ x ∷ []) (ap (λ x. to_z w64 (of_z w64 (to_z w128 (of_z w128 x)))) is ∙ value_same (value_of v t) value_here)
      ∙ ap (λ xs. xs ++ value_of v t ∷ []) so_far ∙ append_assoc before (values_of v (take i ts)) (value_of v t ∷ [])
      ∙ ap (λ x. before ++ (values_of v (take i ts) ++ value_of v x ∷ [])) here
      ∙ ap (λ xs. before ++ xs) (sym (map_more (value_of v) ts i t low))

-- The inputs of a path are columns, whose values are of 64 bits.

abbrev pub AreColumns : List LinearSum → Type 0
AreColumns [] = Unit {0}
AreColumns (t ∷ ts) = ((x : ℕ) × (t ≡ column_sum x)) × AreColumns ts

columns_append : (xs ys : List LinearSum) → AreColumns xs → AreColumns ys → AreColumns (xs ++ ys)
columns_append [] ys h k = k
columns_append (x ∷ xs) ys h k = (h.0, columns_append xs ys h.1 k)

pub columns_split : (xs ys : List LinearSum) → AreColumns (xs ++ ys) → AreColumns xs × AreColumns ys
columns_split [] ys h = (tt, h)
columns_split (x ∷ xs) ys h = let r = columns_split xs ys h.1 in ((h.0, r.0), r.1)

pub columns_values : (v : Valuation) → Is64 v → (ts : List LinearSum) → AreColumns ts → AreAllValues (values_of v ts)
columns_values v v64 [] h i = refl
columns_values v v64 (t ∷ ts) h zero =
    subst (λ z. IsTrue (is_value z)) (sym (ap (value_of v) h.0.1 ∙ value-column v h.0.0)) (value_of_64 (v h.0.0) (v64 h.0.0))
columns_values v v64 (t ∷ ts) h (suc i) = columns_values v v64 ts h.1 i

module _ (gs : List Graph) where
  edge_columns : (w : Walked) (g : Graph) (node : ℕ) (slots entry : List LinearSum) (ws : List Waiting) (e : Edge) (sums : List Sum)
      (new : Walked) →
      FollowsEdge gs w g node slots entry ws e sums new → AreColumns w.inputs → AreColumns new.inputs
  edge_columns w g node slots entry ws (Entry to params) sums new h k = subst (λ (x : Walked). AreColumns x.inputs) (sym h.1) k
  edge_columns w g node slots entry ws (Assign from to slot value) sums new h k = subst (λ (x : Walked). AreColumns x.inputs) (sym h.1) k
  edge_columns w g node slots entry ws (Guard from to rows) sums new h k = subst (λ (x : Walked). AreColumns x.inputs) (sym h.1) k
  edge_columns w g node slots entry ws (Input from to slot) sums new h k = subst (λ (x : Walked). AreColumns x.inputs) (sym h.1)
      (columns_append w.inputs (column_sum (first_symbol + w.symbols) ∷ []) k ((first_symbol + w.symbols, refl), tt))
  edge_columns w g node slots entry ws (Pick from to slot rows) sums new h k = subst (λ (x : Walked). AreColumns x.inputs) (sym h.1) k
  edge_columns w g node slots entry ws (Call from to proc args results) sums new h k = subst (λ (x : Walked). AreColumns x.inputs) (sym h.3)
      k
  edge_columns w g node slots entry ws (Assert from to id rows) sums new h k = subst (λ (x : Walked). AreColumns x.inputs) (sym h.1) k
  edge_columns w g node slots entry ws (Return from to returned) sums new h k = subst (λ (x : Walked). AreColumns x.inputs) (sym h.1) k

  stage_columns : (i : ℕ) (w : Walked) (stage : Stage) (sums : List Sum) (new : Walked) → FollowsAt gs i w stage sums new →
      AreColumns w.inputs →
      AreColumns new.inputs
  stage_columns i w (enters g args ws) sums new h k = subst (λ (x : Walked). AreColumns x.inputs) (sym h.5) k
  stage_columns i w (runs g node slots entry ws) sums new h k = edge_columns w g node slots entry ws h.0 sums new h.3 k
  stage_columns i w (gave terms) sums new h k = absurd h
  stage_columns i w (fails id) sums new h k = absurd h

  pub comes_columns : (p : List ℕ) (w new : Walked) → ComesTo gs p w new → AreColumns w.inputs → AreColumns new.inputs
  comes_columns [] w new h k = subst (λ (x : Walked). AreColumns x.inputs) (sym h) k
  comes_columns (i ∷ p) w new h k = comes_columns p h.1 new h.3 (stage_columns i w w.at h.0 h.1 h.2 k)
