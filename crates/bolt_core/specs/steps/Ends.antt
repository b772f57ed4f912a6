-- Whether a stored event ended a job.
use Rattle.std.specs.Prelude.{ℕ, Bool, false, ◌==◌, ◌||◌}
use Rattle.query_tree.specs.declared.Status.{Status}
use Rattle.query_tree.specs.declared.Status.TheVariants.{Dropped}
use Rattle.bolt_core.specs.declared.event.Event.{Event}
use Rattle.bolt_core.specs.declared.event.Event.TheVariants as stored

abbrev pub is_dropped_by : (place : ℕ) → Status → Bool
is_dropped_by k (Dropped n) = n == k
is_dropped_by k _ = false

abbrev pub is_given_back : (id : ℕ) → Event → Bool
is_given_back i (stored.Ask w j n c) = i == j
is_given_back i (stored.Feed w j n c) = i == j
is_given_back i (stored.Park w j n rest) = i == j
is_given_back i (stored.Close w j n how from more) = i == j
is_given_back i _ = false

abbrev pub is_end : (place id : ℕ) → Status → Event → Bool
is_end k i status e = is_given_back i e || is_dropped_by k status
