-- The kinds of step on a word that change the view of the seat that steps, each with what that view
-- gains and no more. Of the seven kinds, the board out of the slot and back change no view, and
-- splitting and joining seats are functions of views (`newcomer`, `joined`).
use Rattle.std.specs.Prelude.{◌≡◌, ℕ, List, [], ◌∷◌, ◌++◌, ◌==◌, Option, Some, None, MatchBool}
use Rattle.atomic_table.specs.Table.{Me, Step}
use Rattle.board_lock.specs.declared.view.View.{View}
use Rattle.board_lock.specs.Views.{StartsWith, StartsWithAll, AreOwn, added, holding, resting, IsProgram}

-- A board is of the seat's program, and its history begins with all that the seat has seen and
-- holds the seat's events at their places, each once.
pub record Follows {P E : Type 0} (v : View P E) (q : P) (h : List E) : Type 0 where
  pub program : IsProgram v.program q
  pub begins : StartsWith h v.seen
  pub heard : StartsWithAll h v.heard
  pub own : AreOwn v.seen v.places

module _ {B P E : Type 0} (program : B → P) (events : B → List E) where
  -- 1. Try. Where 0 was found, the slot is taken with the board in it, and the seat has the turn
  -- and has seen the history of that board; else nothing is gained.
  abbrev pub HasTried : Step (Option B) → Me (Option B) (View P E) → ℕ → Me (Option B) (View P E) →
      Type 0
  HasTried _ me found me' = MatchBool (found == 0)
      ((b : B) × (me' ≡ (holding (Some (program b)) (events b) me.0.places, (0, Some b) ∷ []))
      × Follows me.0 (program b) (events b))
      (me' ≡ me)

-- the history of the board in the slot that was taken last
abbrev pub in_hand : {B E : Type 0} → (B → List E) → List (ℕ × Option B) → List E
in_hand events [] = []
in_hand events ((k, None) ∷ xs) = []
in_hand events ((k, Some b) ∷ xs) = events b

module _ {B P E : Type 0} (events : B → List E) where
  -- 3. Store the count. The seat has seen the longer history, and the added places are its own.
  abbrev pub HasCounted : Step (Option B) → Me (Option B) (View P E) → ℕ →
      Me (Option B) (View P E) →
      Type 0
  HasCounted _ me _ me' = me'
      ≡ (
        holding me.0.program (in_hand events me.1)
            (me.0.places ++ added me.0.seen (in_hand events me.1)),
        me.1,
      )

module _ {B P E : Type 0} where
  -- 5. Release. The slot is given back, and the seat has no turn.
  abbrev pub HasReleased : Step (Option B) → Me (Option B) (View P E) → ℕ →
      Me (Option B) (View P E) →
      Type 0
  HasReleased _ me _ me' = me' ≡ (resting me.0.program me.0.seen [] me.0.places, [])
