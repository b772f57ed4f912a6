-- Jobs that are out.
use Rattle.std.specs.Prelude.{◌≡◌, ℕ, ◌<◌, List, length, Bool, true, false, Option, Some, slice_get}
use Rattle.query_tree.specs.declared.Status.{Status}
use Rattle.query_tree.specs.declared.Status.TheVariants.{Ready, Running, Blocked, Starved, Closed, Dropped}
use Rattle.query_tree.specs.declared.Entry.{Entry}
use Rattle.query_tree.specs.declared.Lent.{Lent}
use Rattle.query_tree.specs.Forest.{is_none}

-- Running, or dropped while it was Running
abbrev pub is_out : Status → Bool → Bool
is_out Ready none = false
is_out Running none = true
is_out Blocked none = false
is_out Starved none = false
is_out Closed none = false
is_out (Dropped n) none = none

-- a job that is kept at a place is what the last take of the query of this number gave, and the
-- query is Running or was dropped since
abbrev pub AreOut : List (Entry ℕ) → List (Option (Lent ℕ)) → Type 0
AreOut es jobs = (i : ℕ) (job : Lent ℕ) → slice_get jobs i ≡ Some (Some job) →
    (job.id ≡ i) × (i < length es) × ((e : Entry ℕ) → slice_get es i ≡ Some e →
    (e.lent ≡ job.left) × (e.waiting ≡ job.waiting) × (is_out e.status (is_none e.payload) ≡ true))

-- no job is kept at the place
abbrev pub IsFree : List (Option (Lent ℕ)) → ℕ → Type 0
IsFree jobs i = (job : Lent ℕ) → slice_get jobs i ≡ Some (Some job) → ⊥
