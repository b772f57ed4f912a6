-- Both branches of a node.
use Rattle.std.proofs.Common.{◌≡◌, ℕ, ◌<◌, ◌≤◌, ◌+◌, ◌^◌, ◌-◌, max, Bool, true, false, List, [], ◌∷◌, ◌++◌, ℤ, pos, negsuc, ◌+ℤ◌, ◌-ℤ◌, ◌↔◌, FitsSigned, to_z, of_z, w64, arith, refl, sym, ap, subst, ◌∙◌}
use Rattle.std.specs.Int.{w128}
use Rattle.std.specs.Prelude.{IsTrue, neg_ℤ, ◌<ℤ◌}
use Rattle.std.proofs.lemmas.Int.{ints}
use Rattle.linear_formula.specs.LinearSum.{LinearSum}
use Rattle.infeasible_cert.specs.declared.certificate.Derived.{Derived}
use Rattle.infeasible_cert.specs.Refutation.{Refutation, branch}
use Rattle.infeasible_cert.specs.Right.{AreRightSteps, rows_after, IsRight, nesting, at_most, at_least}
use Rattle.infeasible_cert.specs.steps.Known.{terms_of, single, RowsInOrder}
use Rattle.infeasible_cert.specs.Terms.{AreDerivedTerms}
use Rattle.infeasible_cert.proofs.Meeting.{order-append}
use Rattle.infeasible_cert.proofs.Deriving.{after-is, known-order}

-- right below a node, from its row on
abbrev pub IsRightBelow : List LinearSum → List Derived → LinearSum → ℕ → Refutation → Type 0
IsRightBelow rows ds row depth c =
    (nesting c ≤ depth) × IsRight (rows ++ terms_of ds ++ row ∷ []) c

below-is : (rows : List LinearSum) (ds : List Derived) (row row' : LinearSum) → row' ≡ row → rows ++ terms_of ds ++ row' ∷ []
    ≡ rows_after rows ds ++ row ∷ []
below-is rows ds row row' e =
    ap (λ r. rows ++ terms_of ds ++ r ∷ []) e ∙ ap (λ ts. ts ++ row ∷ []) (sym (after-is rows ds))

max-left : (a b c : ℕ) → 1 + max a b ≤ c → a ≤ c - 1
max-left a b c h = omega (arith, h)

max-right : (a b c : ℕ) → 1 + max a b ≤ c → b ≤ c - 1
max-right a b c h = omega (arith, h)

max-both : (a b c : ℕ) → 0 < c → a ≤ c - 1 → b ≤ c - 1 → 1 + max a b ≤ c
max-both a b c p h k = omega (arith, p, h, k)

pub branch-is : (rows : List LinearSum) (ds : List Derived) (x : ℕ) (at : ℤ) (low high : Refutation) (depth : ℕ) (c e : ℤ) → 0 < depth →
    at <ℤ pos 9223372036854775807 → AreRightSteps rows ds → c ≡ neg_ℤ at → e ≡ at +ℤ pos 1 →
    (IsRightBelow rows ds (single x (pos 1) c) (depth - 1) low × IsRightBelow rows ds (single x (negsuc 0) e) (depth - 1) high) ↔
    ((nesting (branch ds x at low high) ≤ depth) × IsRight rows (branch ds x at low high))
branch-is rows ds x at low high depth c e p h s ec ee = (forth, back) where
  low-is : rows ++ terms_of ds ++ single x (pos 1) c ∷ [] ≡ rows_after rows ds ++ at_most x at ∷ []
  low-is = below-is rows ds (at_most x at) (single x (pos 1) c) (ap (λ z. single x (pos 1) z) ec)

  high-is : rows ++ terms_of ds ++ single x (negsuc 0) e ∷ [] ≡ rows_after rows ds ++ at_least x (at +ℤ pos 1) ∷ []
  high-is = below-is rows ds (at_least x (at +ℤ pos 1)) (single x (negsuc 0) e) (ap (λ z. single x (negsuc 0) z) ee)

  forth : IsRightBelow rows ds (single x (pos 1) c) (depth - 1) low × IsRightBelow rows ds (single x (negsuc 0) e) (depth - 1) high →
      (nesting (branch ds x at low high) ≤ depth) × IsRight rows (branch ds x at low high)
  forth k = (
    max-both (nesting low) (nesting high) depth p k.0.0 k.1.0,
    (
      s,
      h,
      subst (λ (ts : List LinearSum). IsRight ts low) low-is k.0.1,
      subst (λ (ts : List LinearSum). IsRight ts high) high-is k.1.1,
    ),
  )

  back : (nesting (branch ds x at low high) ≤ depth) × IsRight rows (branch ds x at low high) → IsRightBelow rows ds (single x (pos 1) c)
      (depth - 1) low × IsRightBelow rows ds (single x (negsuc 0) e) (depth - 1) high
  back k = (
    (max-left (nesting low) (nesting high) depth k.0, subst (λ (ts : List LinearSum). IsRight ts low) (sym low-is) k.1.2),
    (max-right (nesting low) (nesting high) depth k.0, subst (λ (ts : List LinearSum). IsRight ts high) (sym high-is) k.1.3),
  )

pub below-order : (rows : List LinearSum) (ds : List Derived) (x : ℕ) (a c : ℤ) → RowsInOrder rows → AreDerivedTerms ds → x < 2 ^ 32 →
    (¬ (a ≡ pos 0)) → RowsInOrder (rows ++ terms_of ds ++ single x a c ∷ [])
below-order rows ds x a c o t h n =
    order-append (rows ++ terms_of ds) (single x a c ∷ []) (known-order rows ds o t) ((omega arith, h, n, tt), tt)

no_way : false ≡ true → ⊥
no_way h = cc

moved : (rows : List LinearSum) (ds es : List Derived) (row : LinearSum) (depth : ℕ) (c d : Refutation) → ds ≡ es → c ≡ d →
    IsRightBelow rows ds row depth c → IsRightBelow rows es row depth d
moved rows ds es row depth c d e f h =
    subst (λ (r : Refutation). IsRightBelow rows es row depth r) f (subst (λ (qs : List Derived). IsRightBelow rows qs row depth c) e h)

whole : (rows : List LinearSum) (depth : ℕ) (r s : Refutation) → r ≡ s → (nesting r ≤ depth) × IsRight rows r → (nesting s ≤ depth)
    × IsRight rows s
whole rows depth r s e h =
    subst (λ (q : Refutation). (nesting q ≤ depth) × IsRight rows q) e h

pub node-then : (rows : List LinearSum) (ds tested known : List Derived) (x : ℕ) (at : ℤ) (low low' high high' r : Refutation) (depth : ℕ)
    (c e : ℤ) (b : Bool) → r ≡ branch ds x at low high → 0 < depth → at <ℤ pos 9223372036854775807 → tested ≡ ds →
    AreRightSteps rows tested →
    known ≡ ds → low' ≡ low → high' ≡ high → c ≡ neg_ℤ at → e ≡ at +ℤ pos 1 → IsRightBelow rows known (single x (pos 1) c) (depth - 1)
    low' →
    (IsTrue b ↔ IsRightBelow rows known (single x (negsuc 0) e) (depth - 1) high') → IsTrue b ↔ ((nesting r ≤ depth) × IsRight rows r)
node-then rows ds tested known x at low low' high high' r depth c e b er p h et s ek el eh ec ee l n =
    let w = branch-is rows ds x at low high depth c e p h (subst (AreRightSteps rows) et s) ec ee in (
      λ g. whole rows depth (branch ds x at low high) r (sym er)
          (w.0 (moved rows known ds _ (depth - 1) low' low ek el l, moved rows known ds _ (depth - 1) high' high ek eh (n.0 g))),
      λ g. n.1 (moved rows ds known _ (depth - 1) high high' (sym ek) (sym eh) (w.1 (whole rows depth r (branch ds x at low high) er g)).1),
    )

pub node-else : (rows : List LinearSum) (ds tested known : List Derived) (x : ℕ) (at : ℤ) (low low' high r : Refutation) (depth : ℕ) (c : ℤ)
    (b : Bool) → r ≡ branch ds x at low high → 0 < depth → at <ℤ pos 9223372036854775807 → tested ≡ ds → AreRightSteps rows tested →
    known ≡ ds → low' ≡ low → c ≡ neg_ℤ at → b ≡ false → (IsTrue b ↔ IsRightBelow rows known (single x (pos 1) c) (depth - 1) low') →
    IsTrue b ↔ ((nesting r ≤ depth) × IsRight rows r)
node-else rows ds tested known x at low low' high r depth c b er p h et s ek el ec eb n =
    let w = branch-is rows ds x at low high depth c (at +ℤ pos 1) p h (subst (AreRightSteps rows) et s) ec refl in (
      λ g. absurd (no_way (sym eb ∙ g)),
      λ g. n.1 (moved rows ds known _ (depth - 1) low low' (sym ek) (sym el)
          (w.1 (whole rows depth r (branch ds x at low high) er g)).0),
    )

pub not_max : (z : ℤ) → FitsSigned w64 z → (¬ (of_z w64 z ≡ 9223372036854775807)) → z <ℤ pos 9223372036854775807
not_max (pos n) f h = omega (arith, ints, h)
not_max (negsuc n) f h = omega (arith, ints)

pub minus-cast : (z w : ℤ) → FitsSigned w64 z → w ≡ to_z w64 (of_z w64 z) → to_z w128 (of_z w128 (pos 0 -ℤ to_z w128 (of_z w128 w)))
    ≡ neg_ℤ z
minus-cast z w f e = omega (arith, ints)

pub more-cast : (z w : ℤ) → FitsSigned w64 z → w ≡ to_z w64 (of_z w64 z) → to_z w128 (of_z w128 (to_z w128 (of_z w128 w) +ℤ pos 1))
    ≡ z +ℤ pos 1
more-cast z w f e = omega (arith, ints)
