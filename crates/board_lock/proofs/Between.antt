-- A seat between calls, and what its fields have of what a caller sees.
use Rattle.std.proofs.Common.{◌≡◌, [], ◌∷◌, Option, None, true, false, refl, ap, ◌∙◌, subst}
use Rattle.atomic_table.specs.Table.{Me}
use Rattle.board_lock.specs.declared.view.View.{View}
use Rattle.board_lock.specs.Views.{holding, resting}
use Rattle.board_lock.specs.Seats.{Seated, IsSeated}

module _ {P E : Type 0} where
  pub same_lock : (s t : Seated P E) → s ≡ t → s.lock ≡ t.lock
  same_lock s t e = ap (λ (u : Seated P E). u.lock) e

  pub same_view : (s t : Seated P E) → s ≡ t → s.view ≡ t.view
  same_view s t e = ap (λ (u : Seated P E). u.view) e

module _ {B P E : Type 0} where
  pub rests_as : (me : Me (Option B) (View P E)) (v : View P E) → IsSeated me → me.0 ≡ v → v.turn ≡ false →
      me ≡ (resting v.program v.seen v.heard v.places, [])
  rests_as me v seated e = subst (λ (u : View P E). u.turn ≡ false → me ≡ (resting u.program u.seen u.heard u.places, [])) e
      (λ rests. seated.0 ∙ rw rests refl)

  pub holds_as : (me : Me (Option B) (View P E)) (v : View P E) → IsSeated me → me.0 ≡ v → v.turn ≡ true →
      me ≡ (holding v.program v.seen v.places, (0, None) ∷ [])
  holds_as me v seated e = subst (λ (u : View P E). u.turn ≡ true → me ≡ (holding u.program u.seen u.places, (0, None) ∷ [])) e
      (λ holds. seated.0 ∙ rw holds refl)
