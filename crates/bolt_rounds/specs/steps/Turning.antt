-- Turns of a worker who works alone, and which takes came back.
use Rattle.std.specs.Prelude.{◌≡◌, ◌⊎◌, ℕ, suc, ◌*◌, ◌<◌, ◌≤◌, List, length, Bool, true, false, Some, slice_get}
use Rattle.query_rules.specs.Seen.{Seen}
use Rattle.summary_form.specs.declared.summary.Summary.{Summary}
use Rattle.summary_table.specs.Tables.{StartsWith}
use Rattle.bolt_core.specs.Boards.{Shown, most_queries}
use Rattle.bolt_core.specs.Histories.{Told, gives_back, has_said, took}
use Rattle.bolt_core.specs.Keeps.{IsEnd}
use Rattle.bolt_core.specs.Machine.{Core, Event, is_over}
use Rattle.bolt_core.specs.States.{reads}

-- an event after this place gave the query back, closed it or dropped it
pub record IsBack (c : Core Seen) (id taken : ℕ) : Type 0 where
  pub place : ℕ
  pub after : taken < place
  pub is_end : IsEnd c id place

-- each query that was taken came back since, but for takes that are out
pub record AreBackBut (c : Core Seen) (IsOut : ℕ → Type 0) : Type 0 where
  pub all : (t w i left steps : ℕ) (waiting : Bool) →
      slice_get c.history t ≡ Some (took w i left steps waiting) → IsBack c i t ⊎ IsOut t

-- each came back
abbrev pub AreBack : Core Seen → Type 0
AreBack c = AreBackBut c (λ t. ⊥)

-- one event, which gives the query back, and there was room for it
pub record GivesBack (old : Shown) (id : ℕ) (new : Shown) : Type 0 where
  pub told : Told
  pub event : Event (reads old.graphs) old.core told new.core
  pub back : gives_back id told ≡ true
  pub fits : length old.core.history < 16 * most_queries old

-- two events, the second of which gives back what the first took, and none a Publish
pub record HasTurned (old : Shown) (known : List Summary) (new : Shown) : Type 0 where
  pub back : AreBack new.core
  pub going : new.core.is_stopped ≡ false
  pub front : StartsWith new.core.table known
  pub more : length new.core.history ≡ suc (suc (length old.core.history))
  pub few : length new.core.history ≤ 16 * most_queries new
  pub said : (i : ℕ) → has_said new.core.history i ≡ has_said old.core.history i

abbrev pub IsTurned : Shown → (known : List Summary) → (more : Bool) → Shown → Type 0
IsTurned old known true new = HasTurned old known new
IsTurned old known false new =
    (is_over (reads new.graphs) new.core ≡ true) × (new.core.is_stopped ≡ false)
    × ((i : ℕ) → has_said new.core.history i ≡ has_said old.core.history i)
