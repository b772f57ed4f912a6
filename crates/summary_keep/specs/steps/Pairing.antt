-- Numbers of assertions, procedure by procedure.
use Rattle.std.specs.Prelude.{◌≡◌, ◌↔◌, ℕ, ◌<◌, List, [], ◌∷◌, length, Option, Some, slice_set}
use Rattle.c_tree.specs.Syntax.{PureProgram}
use Rattle.summary_keep.specs.Keeping.{number_in}
use Rattle.summary_keep.specs.Matching.{Related, CorrespondIn}

-- the numbers, where each of the first has the one at its place of the second
abbrev pub paired : List ℕ → List ℕ → List (Option ℕ) → List (Option ℕ)
paired [] ys numbers = numbers
paired (x ∷ xs) [] numbers = numbers
paired (x ∷ xs) (y ∷ ys) numbers = paired xs ys (slice_set numbers x (Some y))

-- they correspond in a procedure below this one
pub record CorrespondBelow (P Q : PureProgram) (R : Related) (bound a b : ℕ) : Type 0 where
  pub correspond : CorrespondIn P Q R a b
  pub below : correspond.i < bound

-- the numbers of the assertions of the procedures below this one
pub record ArePairedBelow (P Q : PureProgram) (R : Related) (bound : ℕ)
    (numbers : List (Option ℕ)) :
    Type 0 where
  pub each : length numbers ≡ length P.asserts
  pub corresponding : (a b : ℕ) → (number_in numbers a ≡ Some b)
      ↔ CorrespondBelow P Q R bound a b
