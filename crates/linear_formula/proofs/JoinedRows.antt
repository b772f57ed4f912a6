-- Rows in blocks: where all of them hold.
use Rattle.std.proofs.Common.{◌≡◌, ◌<◌, ◌++◌, ◌∷◌, ℕ, zero, suc, true, false, List, [], length, get_or, arith}
use Rattle.std.specs.Prelude.{flat_map}
use Rattle.linear_formula.specs.LinearSum.{Valuation}
use Rattle.linear_formula.specs.Formula.{HoldsAll}
use Rattle.linear_formula.specs.declared.formula.Atom.{Atom}

pub not_true : false ≡ true → ⊥
not_true h = cc

pub holds_both : (v : Valuation) (xs ys : List Atom) → HoldsAll v xs → HoldsAll v ys → HoldsAll v (xs ++ ys)
holds_both v [] ys h k = k
holds_both v (x ∷ xs) ys h k = (h.0, holds_both v xs ys h.1 k)

pub holds_parts : (v : Valuation) (xs ys : List Atom) → HoldsAll v (xs ++ ys) → HoldsAll v xs × HoldsAll v ys
holds_parts v [] ys h = (tt, h)
holds_parts v (x ∷ xs) ys h =
    let k = holds_parts v xs ys h.1 in
    ((h.0, k.0), k.1)

-- the atoms of one of the blocks
pub holds_in : (v : Valuation) (blocks : List (List Atom)) (i : ℕ) (d : List Atom) → i < length blocks →
    HoldsAll v (flat_map (λ b. b) blocks) → HoldsAll v (get_or blocks i d)
holds_in v [] i d l h = absurd (omega (arith, l))
holds_in v (b ∷ blocks) zero d l h = (holds_parts v b (flat_map (λ c. c) blocks) h).0
holds_in v (b ∷ blocks) (suc i) d l h =
    holds_in v blocks i d (omega (arith, l)) (holds_parts v b (flat_map (λ c. c) blocks) h).1
