-- Which procedures and assertions of two programs are the same.
use Rattle.std.specs.Prelude.{◌≡◌, ◌↔◌, ℕ, Bool, IsTrue, Some, length, slice_get}
use Rattle.c_tree.specs.Syntax.{PureProcedure, PureProgram}
use Rattle.c_tree.specs.WellFormed.{asserted_in}
use Rattle.summary_keep.specs.Bodies.{SameStatements}

-- a relation of the procedures of an old program to those of a new one, by their numbers
abbrev pub Related : Type 0
Related = ℕ → ℕ → Bool

-- any two assertions
abbrev pub Any : ℕ → ℕ → Type 0
Any i j = Unit {0}

-- procedures of one name that are the same where calls are of related procedures; assertions
-- correspond by their order in the body
pub record AreSame (R : Related) (p q : PureProcedure) : Type 0 where
  pub name : p.name ≡ q.name
  pub params : p.params ≡ q.params
  pub slots : p.slots ≡ q.slots
  pub gives : p.gives ≡ q.gives
  pub body : SameStatements R Any p.body q.body

module _ (P Q : PureProgram) where
  -- both programs have equally many globals, and `main` opens with the same values
  pub record GlobalsAgree (i : ℕ) : Type 0 where
    pub count : length P.globals ≡ length Q.globals
    pub opening : i ≡ P.main → P.globals ≡ Q.globals

  pub record AreRelated (R : Related) (i j : ℕ) : Type 0 where
    pub old : PureProcedure
    pub new : PureProcedure
    pub old_at : slice_get P.procedures i ≡ Some old
    pub new_at : slice_get Q.procedures j ≡ Some new
    pub same : AreSame R old new
    pub globals : GlobalsAgree i
    -- `main` is related to `main` alone
    pub main : (i ≡ P.main) ↔ (j ≡ Q.main)

  -- whatever it relates is the same
  pub record IsMatching (R : Related) : Type 0 where
    pub all : (i j : ℕ) → IsTrue (R i j) → AreRelated R i j

  -- and it relates all that any such relation does
  pub record IsGreatest (R : Related) : Type 0 where
    pub matches : IsMatching R
    pub includes_each : (S : Related) → IsMatching S → (i j : ℕ) → IsTrue (S i j) → IsTrue (R i j)

  -- the two stand at one place in related bodies
  pub record CorrespondIn (R : Related) (a b : ℕ) : Type 0 where
    pub i : ℕ
    pub j : ℕ
    pub place : ℕ
    pub old : PureProcedure
    pub new : PureProcedure
    pub related : IsTrue (R i j)
    pub old_at : slice_get P.procedures i ≡ Some old
    pub new_at : slice_get Q.procedures j ≡ Some new
    pub old_stands : slice_get (asserted_in old.body) place ≡ Some a
    pub new_stands : slice_get (asserted_in new.body) place ≡ Some b
