-- Steps of the search for the greatest matching.
use Rattle.std.specs.Prelude.{◌≡◌, ◌↔◌, ◌<◌, ℕ, IsTrue, List, length, Option, Some, slice_get}
use Rattle.c_tree.specs.Syntax.{PureProcedure, PureProgram}
use Rattle.summary_keep.specs.Keeping.{number_in, related_by}
use Rattle.summary_keep.specs.Matching.{Related, GlobalsAgree, AreRelated, IsMatching}

-- each pair of each matching is in the relation
pub record IncludesEach (P Q : PureProgram) (R : Related) : Type 0 where
  pub each : (S : Related) → IsMatching P Q S → (i j : ℕ) → IsTrue (S i j) → IsTrue (R i j)

-- procedures of one name, and `main` with `main` alone
pub record AreNamesakes (P Q : PureProgram) (i j : ℕ) : Type 0 where
  pub old : PureProcedure
  pub new : PureProcedure
  pub old_at : slice_get P.procedures i ≡ Some old
  pub new_at : slice_get Q.procedures j ≡ Some new
  pub name : old.name ≡ new.name
  pub main : (i ≡ P.main) ↔ (j ≡ Q.main)

-- namesakes of programs whose globals agree
pub record AreCounterparts (P Q : PureProgram) (i j : ℕ) : Type 0 where
  pub names : AreNamesakes P Q i j
  pub globals : GlobalsAgree P Q i

-- an entry for each procedure of the old program, and numbers of counterparts alone
pub record AreCandidates (P Q : PureProgram) (numbers : List (Option ℕ)) : Type 0 where
  pub each : length numbers ≡ length P.procedures
  pub counterparts : (i j : ℕ) → number_in numbers i ≡ Some j → AreCounterparts P Q i j

-- the pair of this procedure isn't the same
pub record IsChanged (P Q : PureProgram) (numbers : List (Option ℕ)) (i : ℕ) : Type 0 where
  pub new : ℕ
  pub number : number_in numbers i ≡ Some new
  pub other : AreRelated P Q (related_by numbers) i new → ⊥

-- for each procedure its counterpart, if it has one
pub record AreAllCounterparts (P Q : PureProgram) (numbers : List (Option ℕ)) : Type 0 where
  pub each : length numbers ≡ length P.procedures
  pub counterparts : (i j : ℕ) → i < length numbers → (number_in numbers i ≡ Some j)
      ↔ AreCounterparts P Q i j
