-- What is true of every forest.
use Rattle.std.specs.Prelude.{◌≡◌, ℕ, ◌+◌, ◌^◌, ◌<◌, ◌≤◌, List, Bool, true, false, cond, ◌&&◌, not, ◌==◌, ◌⊎◌, Option, Some, None, slice_get}
use Rattle.query_tree.specs.declared.Status.{Status}
use Rattle.query_tree.specs.declared.Status.TheVariants.{Ready, Running, Blocked, Starved, Closed, Dropped}
use Rattle.query_tree.specs.declared.Entry.{Entry}
use Rattle.query_tree.specs.Forest.{is_open, is_live, is_none, tally}

-- the query waits for a child: it is Blocked, or its job may be parked as Blocked and would stay so
abbrev pub leans : Status → Bool → Bool → Bool
leans Ready waiting stirred = false
leans Running waiting stirred = waiting && not stirred
leans Blocked waiting stirred = true
leans Starved waiting stirred = false
leans Closed waiting stirred = false
leans (Dropped n) waiting stirred = false

-- nothing is left of a Starved query, nor of one that is not open and has a parent; what a
-- Running one got is left beside what was lent
abbrev pub Holds : Status → ℕ → ℕ → Bool → Type 0
Holds Ready left lent root = Unit {0}
Holds Running left lent root = lent ≤ left
Holds Blocked left lent root = Unit {0}
Holds Starved left lent root = left ≡ 0
Holds Closed left lent root = root ≡ false → left ≡ 0
Holds (Dropped n) left lent root = left ≡ 0

-- a Running query has no payload, and each other one that was not dropped has
abbrev pub Held : Status → Bool → Type 0
Held Ready none = none ≡ false
Held Running none = none ≡ true
Held Blocked none = none ≡ false
Held Starved none = none ≡ false
Held Closed none = none ≡ false
Held (Dropped n) none = Unit {0}

-- closed, or dropped with this stamp
abbrev pub Ended : ℕ → Status → Type 0
Ended n Ready = ⊥
Ended n Running = ⊥
Ended n Blocked = ⊥
Ended n Starved = ⊥
Ended n Closed = Unit {0}
Ended n (Dropped m) = m ≡ n

abbrev pub of_root : ℕ → ℕ → Bool
of_root r x = x == r

abbrev pub of_all : ℕ → Bool
of_all x = true

module _ {T : Type 0} where
  -- what counts towards the grants of the roots that are chosen
  abbrev pub worth : (ℕ → Bool) → ℕ → Entry T → ℕ
  worth sel k e = cond (sel e.root) (e.left + e.spent) 0

  abbrev pub grant_of : ℕ → Entry T → ℕ
  grant_of k e = e.grant

  pub record IsFine (e : Entry T) : Type 0 where
    pub holds : Holds e.status e.left e.lent (is_none e.parent)
    pub held : Held e.status (is_none e.payload)

  -- a parent stands before its child and has the same root
  abbrev pub Rooted : List (Entry T) → ℕ → Option ℕ → ℕ → Type 0
  Rooted es i None root = root ≡ i
  Rooted es i (Some p) root = (p < i) × (q : Entry T) × (slice_get es p ≡ Some q) × (q.root ≡ root)

  -- the parent of an open query is open
  abbrev pub OpenAbove : List (Entry T) → Option ℕ → Type 0
  OpenAbove es None = Unit {0}
  OpenAbove es (Some p) = (q : Entry T) → slice_get es p ≡ Some q → is_open q.status ≡ true

  -- the parent is there, and closed or was dropped with this stamp
  abbrev pub EndedAbove : List (Entry T) → ℕ → Option ℕ → Type 0
  EndedAbove es n None = ⊥
  EndedAbove es n (Some p) = (q : Entry T) → slice_get es p ≡ Some q → Ended n q.status

  -- what was dropped stands under what closed or was dropped with the same stamp
  pub record HasEnded (es : List (Entry T)) : Type 0 where
    pub ended : (i : ℕ) (e : Entry T) (n : ℕ) → slice_get es i ≡ Some e → e.status ≡ Dropped n →
        EndedAbove es n e.parent

  pub record LiveChild (es : List (Entry T)) (i : ℕ) : Type 0 where
    pub place : ℕ
    pub child : Entry T
    pub at : slice_get es place ≡ Some child
    pub parent : child.parent ≡ Some i
    pub live : is_live child.status ≡ true

  pub record IsTree (es : List (Entry T)) : Type 0 where
    pub rooted : (i : ℕ) (e : Entry T) → slice_get es i ≡ Some e → Rooted es i e.parent e.root

  pub record IsShut (es : List (Entry T)) : Type 0 where
    pub above : (i : ℕ) (e : Entry T) → slice_get es i ≡ Some e → is_open e.status ≡ true →
        OpenAbove es e.parent

  pub record IsLeaning (es : List (Entry T)) : Type 0 where
    pub leaning : (i : ℕ) (e : Entry T) → slice_get es i ≡ Some e →
        leans e.status e.waiting e.stirred
        ≡ true → LiveChild es i

  pub record IsGranted (es : List (Entry T)) : Type 0 where
    pub granted : (i : ℕ) (e : Entry T) → slice_get es i ≡ Some e → e.parent ≡ None →
        tally (worth (of_root i)) es ≡ e.grant
    pub small : (r : ℕ) → tally (worth (of_root r)) es < 2 ^ 32
    pub all : tally (worth of_all) es ≡ tally grant_of es

  pub record AreFine (es : List (Entry T)) : Type 0 where
    pub fine : (i : ℕ) (e : Entry T) → slice_get es i ≡ Some e → IsFine e

  -- a Blocked query has an open child that isn't Starved
  pub record HasCause (es : List (Entry T)) : Type 0 where
    pub cause : (i : ℕ) (e : Entry T) → slice_get es i ≡ Some e → e.status ≡ Blocked →
        LiveChild es i

  -- a Running query's payload is lent, and each other one that wasn't dropped has its own
  pub record HoldsPayloads (es : List (Entry T)) : Type 0 where
    pub held : (i : ℕ) (e : Entry T) → slice_get es i ≡ Some e → Held e.status (is_none e.payload)

  -- nothing is left of what is Starved, of what was dropped, and of what closed under a parent
  pub record HoldsLefts (es : List (Entry T)) : Type 0 where
    pub lefts : (i : ℕ) (e : Entry T) → slice_get es i ≡ Some e →
        Holds e.status e.left e.lent (is_none e.parent)

  -- all that is open in the tree of this root is Starved
  pub record IsOver (es : List (Entry T)) (r : ℕ) : Type 0 where
    pub starved : (i : ℕ) (e : Entry T) → slice_get es i ≡ Some e → e.root ≡ r →
        is_open e.status ≡ true → e.status ≡ Starved

  -- some query in the tree of this root is Ready or Running
  pub record IsWorking (es : List (Entry T)) (r : ℕ) : Type 0 where
    pub place : ℕ
    pub entry : Entry T
    pub at : slice_get es place ≡ Some entry
    pub root : entry.root ≡ r
    pub ready : (entry.status ≡ Ready) ⊎ (entry.status ≡ Running)

  -- each tree is over, or some query of it is Ready or Running
  pub record HasWork (es : List (Entry T)) : Type 0 where
    pub works : (r : ℕ) → IsOver es r ⊎ IsWorking es r

  pub record IsKept (es : List (Entry T)) : Type 0 where
    pub tree : IsTree es
    pub shut : IsShut es
    pub leaning : IsLeaning es
    pub granted : IsGranted es
    pub each : AreFine es
    pub ended : HasEnded es
