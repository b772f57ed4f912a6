-- The forest as the list of its entries, and what each call makes of it.
use Rattle.std.specs.Prelude.{ℕ, zero, suc, ◌+◌, ◌-◌, ◌/◌, List, [], ◌∷◌, ◌++◌, length, Bool, true, false, cond, ◌&&◌, ◌||◌, ◌==◌, Option, Some, None, slice_get}
use Rattle.query_tree.specs.declared.Status.{Status}
use Rattle.query_tree.specs.declared.Status.TheVariants.{Ready, Running, Blocked, Starved, Closed, Dropped}
use Rattle.query_tree.specs.declared.Rest.{Rest}
use Rattle.query_tree.specs.declared.Rest.TheVariants.{Ready as RestReady, Blocked as RestBlocked, Starved as RestStarved}
use Rattle.query_tree.specs.declared.Entry.{Entry}

-- each element is changed by its place
abbrev pub changed_from : {X : Type 0} → ℕ → (ℕ → X → X) → List X → List X
changed_from k f [] = []
changed_from k f (x ∷ xs) = f k x ∷ changed_from (suc k) f xs

abbrev pub changed : {X : Type 0} → (ℕ → X → X) → List X → List X
changed f xs = changed_from 0 f xs

-- the sum of what each element counts at its place
abbrev pub tally_from : {X : Type 0} → ℕ → (ℕ → X → ℕ) → List X → ℕ
tally_from k f [] = 0
tally_from k f (x ∷ xs) = f k x + tally_from (suc k) f xs

abbrev pub tally : {X : Type 0} → (ℕ → X → ℕ) → List X → ℕ
tally f xs = tally_from 0 f xs

-- some element passes
abbrev pub any : {X : Type 0} → (X → Bool) → List X → Bool
any p [] = false
any p (x ∷ xs) = p x || any p xs

abbrev pub is_open : Status → Bool
is_open Ready = true
is_open Running = true
is_open Blocked = true
is_open Starved = true
is_open Closed = false
is_open (Dropped n) = false

-- open, and not Starved
abbrev pub is_live : Status → Bool
is_live Ready = true
is_live Running = true
is_live Blocked = true
is_live Starved = false
is_live Closed = false
is_live (Dropped n) = false

abbrev pub is_place : Option ℕ → ℕ → Bool
is_place None k = false
is_place (Some p) k = k == p

abbrev pub is_none : {X : Type 0} → Option X → Bool
is_none None = true
is_none (Some x) = false

abbrev pub is_starved : Status → Bool
is_starved Ready = false
is_starved Running = false
is_starved Blocked = false
is_starved Starved = true
is_starved Closed = false
is_starved (Dropped n) = false

-- a child closed, or became Starved
abbrev pub woken : Status → Status
woken Ready = Ready
woken Running = Running
woken Blocked = Ready
woken Starved = Starved
woken Closed = Closed
woken (Dropped n) = Dropped n

-- with this left, a query that is not at work
abbrev pub at_rest : ℕ → Status
at_rest m = cond (m == 0) Starved Ready

-- something may have come, and this is left
abbrev pub fed : ℕ → Status → Status
fed m Ready = Ready
fed m Running = Running
fed m Blocked = Blocked
fed m Starved = at_rest m
fed m Closed = Closed
fed m (Dropped n) = Dropped n

-- the status in which a job is given back, by whether a child was lost or Starved since its take,
-- and what is left
abbrev pub back_as : Rest → Bool → ℕ → Status
back_as RestReady stirred m = Ready
back_as RestBlocked stirred m = cond stirred Ready Blocked
back_as RestStarved stirred m = at_rest m

-- i is the parent, or above it
abbrev pub is_above : (ℕ → Bool) → ℕ → Option ℕ → Bool
is_above under i None = false
is_above under i (Some p) = (p == i) || under p

-- what a child gets of what is left after the last step
abbrev pub part : ℕ → ℕ
part m = m / 2

module _ {T : Type 0} where
  -- a live child of the query
  abbrev pub is_live_child : ℕ → Entry T → Bool
  is_live_child i e = is_place e.parent i && is_live e.status

  abbrev pub has_live_child : List (Entry T) → ℕ → Bool
  has_live_child es i = any (is_live_child i) es

  abbrev pub is_live_entry : Entry T → Bool
  is_live_entry e = is_live e.status

  abbrev pub has_live : List (Entry T) → Bool
  has_live es = any is_live_entry es

  abbrev pub stir : Entry T → Entry T
  stir e = record e { status = woken e.status; stirred = true }

  abbrev pub given : Status → ℕ → ℕ → T → Entry T → Entry T
  given status left steps p e = record e {
    status = status;
    left = left;
    spent = e.spent + steps;
    payload = Some p;
  }

  -- Take: what each entry becomes, where query i is taken
  abbrev pub take_at : ℕ → Bool → ℕ → Entry T → Entry T
  take_at i waiting k e = cond (k == i)
      (record e {
        status = Running;
        lent = e.left;
        waiting = waiting;
        stirred = false;
        payload = None;
      })
      e

  -- The job of query i, whose entry is own, is given back in this status, with this left; a parent
  -- is stirred where it becomes Starved
  abbrev pub rest_at : Entry T → ℕ → Status → ℕ → ℕ → T → ℕ → Entry T → Entry T
  rest_at own i status left steps p k e =
      cond (k == i) (given status left steps p e) (cond (is_place own.parent k && is_starved status)
      (stir e) e)

  abbrev pub back_at : Entry T → ℕ → ℕ → Rest → T → ℕ → Entry T → Entry T
  back_at own i steps rest p = rest_at own i (back_as rest own.stirred (own.left - steps))
      (own.left - steps) steps p

  -- The job is given back, and n of what is left goes elsewhere
  abbrev pub less_at : Entry T → ℕ → ℕ → T → ℕ → ℕ → Entry T → Entry T
  less_at own i steps p n = rest_at own i (at_rest ((own.left - steps) - n))
      ((own.left - steps) - n)
      steps p

  abbrev pub child_of : Entry T → ℕ → ℕ → T → Entry T
  child_of own i steps c = let m = part (own.left - steps) in record {
    parent = Some i;
    root = own.root;
    grant = 0;
    status = at_rest m;
    left = m;
    spent = 0;
    lent = 0;
    waiting = false;
    stirred = false;
    payload = Some c;
  }

  -- a child that closed gets nothing
  abbrev pub share : Entry T → ℕ → ℕ
  share child m = cond (is_open child.status) (part m) 0

  -- Feed: the child at c gets n
  abbrev pub fed_at : ℕ → ℕ → ℕ → Entry T → Entry T
  fed_at c n k e = cond (k == c)
      (record e { left = e.left + n; status = fed (e.left + n) e.status })
      e

  abbrev pub parent_of : Option (Entry T) → Option ℕ
  parent_of None = None
  parent_of (Some e) = e.parent

  -- whether i is above the query k, by at most n parents
  abbrev pub is_under : List (Entry T) → ℕ → ℕ → ℕ → Bool
  is_under es zero i k = false
  is_under es (suc n) i k = is_above (is_under es n i) i (parent_of (slice_get es k))

  -- an open query under i
  abbrev pub is_lost : List (Entry T) → ℕ → ℕ → Entry T → Bool
  is_lost es i k e = is_open e.status && is_under es k i k

  abbrev pub lost_left : List (Entry T) → ℕ → ℕ → Entry T → ℕ
  lost_left es i k e = cond (is_lost es i k e) e.left 0

  abbrev pub dropped : ℕ → Entry T → Entry T
  dropped stamp e = record e { status = Dropped stamp; left = 0 }

  -- what is lost is dropped
  abbrev pub dropped_at : List (Entry T) → ℕ → ℕ → ℕ → Entry T → Entry T
  dropped_at es i stamp k e = cond (is_lost es i k e) (dropped stamp e) e

  -- what a close gives to the parent, or a root keeps
  abbrev pub purse : List (Entry T) → Entry T → ℕ → ℕ → ℕ
  purse es own i steps = (own.left - steps) + tally (lost_left es i) es

  abbrev pub paid : ℕ → Entry T → Entry T
  paid n e = record e {
    left = e.left + n;
    status = fed (e.left + n) (woken e.status);
    stirred = true;
  }

  abbrev pub close_at : List (Entry T) → Entry T → ℕ → ℕ → T → ℕ → ℕ → Entry T → Entry T
  close_at es own i steps p stamp k e =
      cond (k == i) (given Closed (cond (is_none own.parent) (purse es own i steps) 0) steps p e)
      (cond (is_lost es i k e) (record e { status = Dropped stamp; left = 0 })
      (cond (is_place own.parent k) (paid (purse es own i steps) e) e))

  -- The calls, from the entries before to those after
  abbrev pub after_take : List (Entry T) → ℕ → List (Entry T)
  after_take es i = changed (take_at i (has_live_child es i)) es

  abbrev pub after_back : List (Entry T) → Entry T → ℕ → ℕ → Rest → T → List (Entry T)
  after_back es own i steps rest p = changed (back_at own i steps rest p) es

  abbrev pub after_ask : List (Entry T) → Entry T → ℕ → ℕ → T → T → List (Entry T)
  after_ask es own i steps p c = changed (less_at own i steps p (part (own.left - steps))) es
      ++ child_of own i steps c ∷ []

  abbrev pub after_feed : List (Entry T) → Entry T → ℕ → ℕ → T → ℕ → Entry T → List (Entry T)
  after_feed es own i steps p c child = let n = share child (own.left - steps) in
      changed (fed_at c n) (changed (less_at own i steps p n) es)

  abbrev pub after_close : List (Entry T) → Entry T → ℕ → ℕ → T → ℕ → List (Entry T)
  after_close es own i steps p stamp = changed (close_at es own i steps p stamp) es

  abbrev pub root_of : ℕ → ℕ → T → Entry T
  root_of i grant p = record {
    parent = None;
    root = i;
    grant = grant;
    status = Ready;
    left = grant;
    spent = 0;
    lent = 0;
    waiting = false;
    stirred = false;
    payload = Some p;
  }

  abbrev pub after_root : List (Entry T) → ℕ → T → List (Entry T)
  after_root es grant p = es ++ root_of (length es) grant p ∷ []
