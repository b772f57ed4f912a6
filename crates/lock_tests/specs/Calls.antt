-- The events of a seat.
use Rattle.std.specs.Prelude.{ℕ, List, map, Option, slice_get}
use Rattle.board_lock.specs.declared.view.View.{View}

-- what a history has at these places
abbrev pub events_at : {E : Type 0} → List E → List ℕ → List (Option E)
events_at h ps = map (λ p. slice_get h p) ps

-- what a seat has seen at its own places, in the order of its turns
abbrev pub own_events : {P E : Type 0} → View P E → List (Option E)
own_events v = events_at v.seen v.places
