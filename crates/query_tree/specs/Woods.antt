-- What callers see of a forest.
use Rattle.std.specs.Prelude.{◌≡◌, ℕ, List, Bool, true, Some, slice_get}
use Rattle.query_tree.specs.declared.Status.{Status}
use Rattle.query_tree.specs.declared.Status.TheVariants.{Ready, Running, Blocked, Starved, Closed, Dropped}
use Rattle.query_tree.specs.declared.Rest.{Rest}
use Rattle.query_tree.specs.declared.Rest.TheVariants.{Ready as RestReady, Blocked as RestBlocked, Starved as RestStarved}
use Rattle.query_tree.specs.declared.Entry.{Entry}
use Rattle.query_tree.specs.Forest.{is_none}

pub record Woods (T : Type 0) : Type 0 where
  pub room : ℕ
  pub entries : List (Entry T)

-- Running, or dropped while it was Running
abbrev pub Out : Status → Bool → Type 0
Out Running none = Unit {0}
Out (Dropped n) none = none ≡ true
Out Ready none = ⊥
Out Blocked none = ⊥
Out Starved none = ⊥
Out Closed none = ⊥

module _ {T : Type 0} where
  -- what was lent is what a take gave, and the query is still Running or was dropped since
  pub record IsLent (es : List (Entry T)) (id left : ℕ) (waiting : Bool) : Type 0 where
    pub own : Entry T
    pub at : slice_get es id ≡ Some own
    pub left_is : own.lent ≡ left
    pub waiting_is : own.waiting ≡ waiting
    pub out : Out own.status (is_none own.payload)

  -- the query is Running, and the entries become what the function gives
  pub record Went (f : Entry T → List (Entry T)) (es fs : List (Entry T)) (id : ℕ) : Type 0 where
    pub own : Entry T
    pub at : slice_get es id ≡ Some own
    pub running : own.status ≡ Running
    pub becomes : fs ≡ f own

  pub record WasDropped (es : List (Entry T)) (id stamp : ℕ) : Type 0 where
    pub own : Entry T
    pub at : slice_get es id ≡ Some own
    pub dropped : own.status ≡ Dropped stamp

-- how a job may be given back: all of what was lent is spent, or it waits
abbrev pub MayGive : Rest → ℕ → ℕ → Bool → Type 0
MayGive RestReady steps left waiting = Unit {0}
MayGive RestBlocked steps left waiting = waiting ≡ true
MayGive RestStarved steps left waiting = steps ≡ left

module _ {T : Type 0} where
  pub record IsChild (es : List (Entry T)) (child id : ℕ) : Type 0 where
    pub entry : Entry T
    pub at : slice_get es child ≡ Some entry
    pub parent : entry.parent ≡ Some id

  -- the query is Running, and it and its child become what the function gives
  pub record Fed (f : Entry T → Entry T → List (Entry T)) (es fs : List (Entry T)) (id child : ℕ) :
      Type 0 where
    pub own : Entry T
    pub at : slice_get es id ≡ Some own
    pub running : own.status ≡ Running
    pub entry : Entry T
    pub child_at : slice_get es child ≡ Some entry
    pub becomes : fs ≡ f own entry

  -- what a reader says of the query
  abbrev pub Reads : List (Entry T) → ℕ → (Entry T → Type 0) → Type 0
  Reads es id F = (e : Entry T) → slice_get es id ≡ Some e → F e
