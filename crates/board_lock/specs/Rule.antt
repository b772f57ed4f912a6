-- The rule of the lock, between any two steps. Word 0 is the count of the history and word 1 the
-- lock word; the one slot holds the board or nothing.
use Rattle.std.specs.Prelude.{◌≡◌, ℕ, ◌≤◌, List, [], ◌∷◌, length, true, false, Option, Some, ◌⊎◌}
use mathlib.Core.Option.{some, none}
use lib.ListN.{get_elem?}
use Rattle.atomic_table.specs.Table.{State}
use Rattle.board_lock.specs.declared.view.View.{View}
use Rattle.board_lock.specs.Views.{StartsWith, StartsWithAll, times, times_in_all, IsProgram}

-- its places are below the seen length
pub record IsBelow {P E : Type 0} (v : View P E) : Type 0 where
  pub below : (p : ℕ) → length v.seen ≤ p → times p v.places ≡ 0

-- no place is in two views, nor twice in one
pub record AreApart {P E : Type 0} (vs : List (View P E)) : Type 0 where
  pub once : (p : ℕ) → times_in_all p vs ≤ 1

-- A view without the turn, where the lock has this program: what it has seen, or heard of, is a
-- prefix of this history.
pub record Knows {P E : Type 0} (q : P) (h : List E) (v : View P E) : Type 0 where
  pub turn : v.turn ≡ false
  pub program : IsProgram v.program q
  pub begins : StartsWith h v.seen
  pub heard : StartsWithAll h v.heard
  pub below : IsBelow v

module _ {B P E : Type 0} (program : B → P) (events : B → List E) where
  -- No view has the turn: word 1 is 0, and the slot is at home and holds a board. Word 0 is the
  -- length of its history. All views have its program, and what each has seen is a prefix of its
  -- history.
  pub record IsFree (s : State (Option B) (View P E)) : Type 0 where
    pub board : B
    pub words : s.words ≡ length (events board) ∷ 0 ∷ []
    pub homes : s.homes ≡ some (Some board) ∷ []
    pub views : (id : ℕ) (v : View P E) → get_elem? s.views id ≡ some v →
        Knows (program board) (events board) v
    pub apart : AreApart s.views

  -- One view has the turn and no other: word 1 is 1, and the slot is out. Word 0 is the length of
  -- the history that this view has seen. All views have its program, and what each has seen is a
  -- prefix of what it has seen.
  pub record IsHeld (s : State (Option B) (View P E)) : Type 0 where
    pub holder : ℕ
    pub view : View P E
    pub at : get_elem? s.views holder ≡ some view
    pub turn : view.turn ≡ true
    pub common : P
    pub has : view.program ≡ Some common
    pub words : s.words ≡ length view.seen ∷ 1 ∷ []
    pub homes : s.homes ≡ none ∷ []
    pub others : (id : ℕ) (v : View P E) → (id ≡ holder → ⊥) → get_elem? s.views id ≡ some v →
        Knows common view.seen v
    pub below : IsBelow view
    pub apart : AreApart s.views

  abbrev pub Rule : State (Option B) (View P E) → Type 0
  Rule s = IsFree s ⊎ IsHeld s
