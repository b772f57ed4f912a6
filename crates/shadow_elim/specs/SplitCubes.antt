-- What the cubes of a limit of splits have in common.
use Rattle.std.specs.Prelude.{◌≡◌, ◌⊎◌, ℕ, All, Contains, List, [], ◌∷◌, ◌++◌, length, ℤ, pos, ◌+ℤ◌}
use Rattle.linear_formula.specs.LinearSum.{LinearSum}
use Rattle.linear_formula.specs.declared.formula.Atom.{Atom}
use Rattle.linear_formula.specs.declared.formula.Cube.{Cube}
use Rattle.linear_formula.specs.declared.question.Question.TheVariants as question
use Rattle.infeasible_cert.specs.Right.{columns_of, rows_of, at_most, at_least}
use Rattle.shadow_elim.specs.declared.limit.Kept.{Kept}
use Rattle.shadow_elim.specs.declared.limit.TheConstants.{MAX_SPLITS}
use Rattle.shadow_elim.specs.declared.limit.Limit.{Limit}
use Rattle.shadow_elim.specs.declared.limit.Limit.TheVariants.{Columns, Wide, Rows, Branches, Inexact}
use Rattle.shadow_elim.specs.Plan.{outcome_of, with_row}
use Rattle.shadow_elim.specs.Points.{split}
use Rattle.shadow_elim.specs.RightLimit.{IsRight}

-- the elimination of the atoms ends without a contradiction, and some column lacks an integer
-- between its bounds
abbrev pub LacksInteger : List Atom → Type 0
LacksInteger atoms = (column : ℕ) × (at : ℤ) × (outcome_of atoms ≡ split column at)

-- the row of one side of a split: x ≤ k, or x ≥ k + 1
abbrev pub IsSide : ℕ → ℤ → LinearSum → Type 0
IsSide x k t = (t ≡ at_most x k) ⊎ (t ≡ at_least x (k +ℤ pos 1))

-- the atoms are those of one of the cubes and, after them, one side of its split at one of the
-- columns
pub record IsSideOfOne (columns : List ℕ) (cubes : List Cube) (atoms : List Atom) : Type 0 where
  pub parent : Cube
  pub among : Contains cubes parent
  pub column : ℕ
  pub at : ℤ
  pub lacks : outcome_of parent.atoms ≡ split column at
  pub named : Contains columns column
  pub side : LinearSum
  pub is_side : IsSide column at side
  pub is : atoms ≡ with_row parent.atoms side

-- the question itself where no cube was split before, and else one side of such a cube
abbrev pub IsBranchAfter : (question : List Atom) → (earlier : List Cube) → List Atom → Type 0
IsBranchAfter question [] atoms = atoms ≡ question
IsBranchAfter question (cube ∷ cubes) atoms =
    IsSideOfOne (columns_of (rows_of question)) (cube ∷ cubes) atoms

-- a tree of splits: the question comes first, and each further cube is one side of an earlier one
abbrev pub AreTree : (question : List Atom) → List Cube → Type 0
AreTree question cubes =
    (before : List Cube) (cube : Cube) (after : List Cube) → cubes ≡ before ++ cube ∷ after →
    IsBranchAfter question before cube.atoms

-- the rows of the question, and after them sides of splits of its columns
abbrev pub HasSides : (question : List Atom) → List Atom → Type 0
HasSides question atoms =
    (sides : List Atom) × (atoms ≡ question ++ sides)
    × All (λ a. (x : ℕ) × (k : ℤ) × Contains (columns_of (rows_of question)) x × IsSide x k a.term)
    sides

-- a tree of as many cubes as may be split, none of which its own elimination refutes, and one more
-- side that would have to be split
abbrev pub AreAllSplit : (question : List Atom) → List Cube → Type 0
AreAllSplit question cubes =
    (length cubes ≡ MAX_SPLITS) × All (λ cube. LacksInteger cube.atoms) cubes
    × AreTree question cubes
    × ((atoms : List Atom) × LacksInteger atoms × IsBranchAfter question cubes atoms)

abbrev pub IfBranches : Limit → (List Cube → Type 0) → Type 0
IfBranches Columns P = Unit {0}
IfBranches (Wide branch) P = Unit {0}
IfBranches (Rows branch) P = Unit {0}
IfBranches (Branches branches) P = P branches
IfBranches (Inexact pair) P = Unit {0}

-- a kept limit of splits that is right is one of a cube, and keeps its tree
abbrev pub RightLimitsKeepTrees : Type 0
RightLimitsKeepTrees =
    (kept : Kept) → IsRight kept →
    IfBranches kept.limit (λ cubes. (cube : Cube) × (kept.question ≡ question.Cube cube)
    × AreAllSplit cube.atoms cubes)

-- each cube of a tree is its question with sides of splits after it
abbrev pub TreesHaveSides : Type 0
TreesHaveSides =
    (question : List Atom) (cubes : List Cube) → AreTree question cubes →
    All (λ cube. HasSides question cube.atoms) cubes
