-- What a caller sees of a seat, and what a seat that it has keeps.
use Rattle.std.specs.Prelude.{◌≡◌, [], ◌∷◌, true, cond, Option, None, is_some}
use Rattle.atomic_table.specs.Table.{Me}
use Rattle.atomic_table.specs.Seated.{TableId}
use Rattle.board_lock.specs.declared.view.View.{View}
use Rattle.board_lock.specs.Views.{holding, resting}

-- the lock that the seat is of, and what the seat knows
pub record Seated (P E : Type 0) : Type 0 where
  pub lock : TableId
  pub view : View P E

module _ {B P E : Type 0} where
  -- A seat of the table is its view with the slots that it has taken. With the turn it has taken
  -- the board's slot, and has the board out of it.
  abbrev pub seated : View P E → Me (Option B) (View P E)
  seated v = cond v.turn (holding v.program v.seen v.places, (0, None) ∷ [])
      (resting v.program v.seen v.heard v.places, [])

  -- between calls: it is as its view says, and it isn't spent
  abbrev pub IsSeated : Me (Option B) (View P E) → Type 0
  IsSeated me = (me ≡ seated me.0) × (is_some me.0.program ≡ true)
