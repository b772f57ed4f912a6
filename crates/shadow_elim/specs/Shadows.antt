-- What holds of the shadow of a cube.
use Rattle.std.specs.Prelude.{◌≡◌, ℕ, ◌++◌, List, map, Option, None, Some, Contains, All, pos}
use Rattle.linear_formula.specs.LinearSum.{LinearSum, Valuation, Is64, coefficient}
use Rattle.linear_formula.specs.Formula.{HoldsAll}
use Rattle.linear_formula.specs.declared.formula.Atom.{Atom}
use Rattle.infeasible_cert.specs.declared.certificate.Derived.{Derived}
use Rattle.shadow_elim.specs.declared.shadow.Pair.{Pair}

-- each assignment that meets the cube meets the shadow
abbrev pub KeepsAll : List Atom → List Atom → Type 0
KeepsAll atoms shadow = (v : Valuation) → Is64 v → HoldsAll v atoms → HoldsAll v shadow

-- no atom names any of the columns
abbrev pub NamesNone : List ℕ → List Atom → Type 0
NamesNone columns atoms = (x : ℕ) → Contains columns x → All (λ a. coefficient x a.term ≡ pos 0)
    atoms

-- w has the values of v but at the columns
abbrev pub AgreesBut : List ℕ → Valuation → Valuation → Type 0
AgreesBut columns v w = (x : ℕ) → (Contains columns x → ⊥) → w x ≡ v x

-- each assignment that meets the shadow can be changed at the columns so that it meets the cube
abbrev pub LosesNone : List ℕ → List Atom → List Atom → Type 0
LosesNone columns atoms shadow =
    (v : Valuation) → Is64 v → HoldsAll v shadow → (w : Valuation) × Is64 w × AgreesBut columns v w
    × HoldsAll w atoms

-- each atom is one of the rows or is derived
abbrev pub AreDerived : List LinearSum → List Derived → List Atom → Type 0
AreDerived rows steps shadow = All (λ a. Contains (rows ++ map (λ d. d.row.term) steps) a.term)
    shadow

-- the pair as rows of its column
abbrev pub pair_rows : Option Pair → Option (ℕ × (LinearSum × LinearSum))
pair_rows None = None
pair_rows (Some pair) = Some (pair.column, (pair.upper.term, pair.lower.term))
